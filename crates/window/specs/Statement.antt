-- What is proved of the window call, as types over its definition. `proofs/Theorem.antt` has a proof of each.
use Rattle.std.specs.Prelude.{◌≡◌, ◌↔◌, ◌≢◌, ◌⊎◌, Bool, true, false, List, [], ◌∷◌, ◌++◌, ℕ, ◌+◌, ◌*◌, ◌/◌, ◌%◌, ◌<◌, ◌≤◌, length, get_or, Result, Ok, Err}
use Rattle.refusal.specs.declared.Refusal.{Refusal}
use Rattle.refusal.specs.Number.{number_of, Said, accepted, refused_by}
use Rattle.cells.specs.Image.{image}
use Rattle.machine.specs.Outcome.{no_outcome}
use Rattle.machine.specs.Calls.{Call, Begin, Step, Answer, Begun, Running, Ended, Refused}
use Rattle.machine.specs.History.{pending, Rest}
use Rattle.records.specs.declared.record.Task.{Task}
use Rattle.stepping.specs.Call.{task_at, step_of}
use Rattle.stepping.specs.Runs.{Store, serve_of, run_of}
use Rattle.stepping.specs.Opening.{Opening, object_in, shown}
use Rattle.stepping.specs.Print.{Print}
use Rattle.stepping.specs.Statement.{Demands}
use Rattle.window.specs.Window.{byte_at, with_byte, status_at, interrupt_at, mask_at}
use Rattle.window.specs.Serve.{window_said, asked_of, WindowOutcome, window_of}
use Rattle.window.specs.Line.{line_of, line_said}
use Rattle.window.specs.Events.{WindowEvent, Written, Served, Direct, WindowStore, opened, happen, after, call_by, call_at, calls_of}
use Rattle.window.specs.Console.{AllLeave, reading_of, without_count, is_pending, last_ended, notes_of, Since, IsEnding, IsRefusing, last_refused}
use Rattle.window.specs.declared.LineLevel.{LineLevel}
use Rattle.stepping.specs.declared.answer.Progress.TheVariants as progress

-- ---- The bytes and the bits by their numbers

-- Byte k of the window of task t is byte 8 × t + k of all windows. In byte 2 busy weighs 1, done 2, refused 4 and moved 8; bit 0 of byte 5 is the interrupt, and bit 0 of byte 6 the mask.
pub record BitsNamed (windows : List ℕ) (t : ℕ) : Type 0 where
  pub byte : (k : ℕ) → byte_at windows t k ≡ get_or windows (8 * t + k) 0
  pub busy : ((status_at windows t).busy ≡ true) ↔ (get_or windows (8 * t + 2) 0 % 2 ≡ 1)
  pub done : ((status_at windows t).done ≡ true) ↔ (get_or windows (8 * t + 2) 0 / 2 % 2 ≡ 1)
  pub refused : ((status_at windows t).refused ≡ true) ↔ (get_or windows (8 * t + 2) 0 / 4 % 2 ≡ 1)
  pub moved : ((status_at windows t).moved ≡ true) ↔ (get_or windows (8 * t + 2) 0 / 8 % 2 ≡ 1)
  pub interrupt : (interrupt_at windows t ≡ true) ↔ (get_or windows (8 * t + 5) 0 % 2 ≡ 1)
  pub mask : (mask_at windows t ≡ true) ↔ (get_or windows (8 * t + 6) 0 % 2 ≡ 1)

-- ---- The tests, the call that is made and the answer, for all arguments

module _ (windows : List ℕ) (n t : ℕ) where
  -- Task t has a window.
  abbrev pub HasWindow : Type 0
  HasWindow = (length windows ≡ 8 * n) × (t < n)

  -- A begin of operation o is made exactly for command 1 without done, with o in byte 0; a step exactly for command 2.
  abbrev pub BeginsBy : Type 0
  BeginsBy = (o : ℕ) → (call_by t (asked_of windows n t) ≡ Begin t o ∷ []) ↔ (HasWindow × (byte_at windows t 1 ≡ 1) × ((status_at windows t).done ≡ false) × (o ≡ byte_at windows t 0))

  abbrev pub StepsBy : Type 0
  StepsBy = (call_by t (asked_of windows n t) ≡ Step t ∷ []) ↔ (HasWindow × (byte_at windows t 1 ≡ 2))

  -- No call is made exactly in all other cases.
  abbrev pub NoneBy : Type 0
  NoneBy = (call_by t (asked_of windows n t) ≡ []) ↔ (HasWindow → (byte_at windows t 1 ≢ 2) × (byte_at windows t 1 ≡ 1 → (status_at windows t).done ≡ true))

  -- The line's answer: 18, then 7; it is up exactly if bit 0 of byte 5 is 1 and bit 0 of byte 6 is 0.
  pub record LineSays (a : Result LineLevel Refusal) : Type 0 where
    pub unfit : (line_said a ≡ refused_by 18) ↔ (length windows ≢ 8 * n)
    pub past : (line_said a ≡ refused_by 7) ↔ ((length windows ≡ 8 * n) × (n ≤ t))
    pub up : (line_said a ≡ accepted (1 ∷ [])) ↔ (HasWindow × (interrupt_at windows t ≡ true) × (mask_at windows t ≡ false))
    pub down : (line_said a ≡ accepted (0 ∷ [])) ↔ (HasWindow × (interrupt_at windows t ≡ true → mask_at windows t ≡ true))

  abbrev pub LineJudged : Type 0
  LineJudged = LineSays (line_of windows n t)

module _ (file cells : List ℕ) (row : List Task) (windows : List ℕ) (t : ℕ) where
  -- Whatever the file, the cells and the records are: 18 for windows that don't fit and for an unknown command, 7 for a task past them, 17 for
  -- a begin before done is acknowledged, and none of these numbers otherwise.
  pub record Judged : Type 0 where
    pub unfit_or_unknown : (window_said (window_of file cells row windows t).answer ≡ refused_by 18) ↔ ((length windows ≢ 8 * length row) ⊎ (HasWindow windows (length row) t × (3 < byte_at windows t 1)))
    pub past : (window_said (window_of file cells row windows t).answer ≡ refused_by 7) ↔ ((length windows ≡ 8 * length row) × (length row ≤ t))
    pub unacknowledged : (window_said (window_of file cells row windows t).answer ≡ refused_by 17) ↔ (HasWindow windows (length row) t × (byte_at windows t 1 ≡ 1) × ((status_at windows t).done ≡ true))

  -- Nothing and acknowledge are served whatever the file, the cells and the records are, and leave cells and row.
  abbrev pub SettledAlone : Type 0
  SettledAlone =
      HasWindow windows (length row) t → (byte_at windows t 1 ≡ 0) ⊎ (byte_at windows t 1 ≡ 3)
      → ((window_of file cells row windows t).answer ≡ (Ok tt)) × ((window_of file cells row windows t).cells ≡ cells) × ((window_of file cells row windows t).row ≡ row)

  -- ---- What is written, for all arguments

  -- Only bytes 1 to 5 of the window of task t are written: no byte outside it, nor its bytes 0, 6 and 7.
  pub record OthersStay : Type 0 where
    pub long : length (window_of file cells row windows t).windows ≡ length windows
    pub rest : (p : ℕ) → ((k : ℕ) → 1 ≤ k → k ≤ 5 → p ≢ 8 * t + k) → get_or (window_of file cells row windows t).windows p 0 ≡ get_or windows p 0

  -- In every window bits 4 to 7 of byte 2 and bits 1 to 7 of byte 5 stay.
  abbrev pub UnnamedStay : Type 0
  UnnamedStay =
      (u : ℕ) → (byte_at (window_of file cells row windows t).windows u 2 / 16 ≡ byte_at windows u 2 / 16)
      × (byte_at (window_of file cells row windows t).windows u 5 / 2 ≡ byte_at windows u 5 / 2)

  -- After every call on a window its command is 0.
  abbrev pub TakenOnce : Type 0
  TakenOnce = HasWindow windows (length row) t → byte_at (window_of file cells row windows t).windows t 1 ≡ 0

  -- No other record is looked at or written: with the same record of task t in a row of the same length everything else is the same.
  pub record ByRecord (out other : WindowOutcome) : Type 0 where
    pub answer : out.answer ≡ other.answer
    pub cells_same : out.cells ≡ other.cells
    pub windows_same : out.windows ≡ other.windows
    pub own : t < length row → task_at out.row t ≡ task_at other.row t
    pub long : length out.row ≡ length row
    pub rest : (j : ℕ) → j ≢ t → task_at out.row j ≡ task_at row j

  abbrev pub RecordAlone : Type 0
  RecordAlone = (others : List Task) → length row ≡ length others → task_at row t ≡ task_at others t → ByRecord (window_of file cells row windows t) (window_of file cells others windows t)

  -- No byte of a mask changes anything else: the call on windows with another mask differs in that byte alone.
  abbrev pub MaskFree : Type 0
  MaskFree =
      (u byte : ℕ) → let out = window_of file cells row windows t in
      window_of file cells row (with_byte windows u 6 byte) t ≡ record { cells = out.cells; row = out.row; windows = with_byte out.windows u 6 byte; answer = out.answer }

-- The named bits of the window of task t, and its bytes 3 and 4.
pub record Shows (windows : List ℕ) (t : ℕ) (busy done refused moved interrupt : Bool) (response refusal : ℕ) : Type 0 where
  pub busy_bit : (status_at windows t).busy ≡ busy
  pub done_bit : (status_at windows t).done ≡ done
  pub refused_bit : (status_at windows t).refused ≡ refused
  pub moved_bit : (status_at windows t).moved ≡ moved
  pub interrupt_bit : interrupt_at windows t ≡ interrupt
  pub response_byte : byte_at windows t 3 ≡ response
  pub refusal_byte : byte_at windows t 4 ≡ refusal

module _ (file cells : List ℕ) (row : List Task) (windows : List ℕ) (t : ℕ) where
  -- A refused call leaves cells and row, and without a window every byte; a refused command is marked with its number and raises the interrupt.
  pub record RefusedWindow (c : Refusal) (out : WindowOutcome) : Type 0 where
    pub cells_left : out.cells ≡ cells
    pub row_left : out.row ≡ row
    pub no_window : (HasWindow windows (length row) t → ⊥) → out.windows ≡ windows
    pub marked : HasWindow windows (length row) t
        → Shows out.windows t (status_at windows t).busy (status_at windows t).done true (status_at windows t).moved true (byte_at windows t 3) (number_of c)

  abbrev pub RefusedLeaves : Type 0
  RefusedLeaves = (c : Refusal) → (window_of file cells row windows t).answer ≡ Err c → RefusedWindow c (window_of file cells row windows t)

  -- A call that is not refused, by its command and the answer of the step that it makes.
  pub record ServedWindow (out : WindowOutcome) : Type 0 where
    pub nothing_left : byte_at windows t 1 ≡ 0 → out.windows ≡ windows
    pub acknowledge_shows : byte_at windows t 1 ≡ 3
        → Shows out.windows t (status_at windows t).busy false false (status_at windows t).moved false (byte_at windows t 3) (byte_at windows t 4)
    pub begin_shows : byte_at windows t 1 ≡ 1 → out.answer ≡ (Ok tt)
        → Shows out.windows t true (status_at windows t).done (status_at windows t).refused (status_at windows t).moved (interrupt_at windows t) (byte_at windows t 3) (byte_at windows t 4)
    pub running_shows : byte_at windows t 1 ≡ 2 → (step_of file cells row t).answer ≡ (Ok progress.Running)
        → Shows out.windows t (status_at windows t).busy (status_at windows t).done (status_at windows t).refused (status_at windows t).moved (interrupt_at windows t) (byte_at windows t 3) (byte_at windows t 4)
    pub ended_shows : (r k : ℕ) (v : Bool) → byte_at windows t 1 ≡ 2 → (step_of file cells row t).answer ≡ (Ok (progress.Ended r v k))
        → Shows out.windows t false true (status_at windows t).refused v true (r % 256) (byte_at windows t 4)

  abbrev pub ServedLeaves : Type 0
  ServedLeaves = HasWindow windows (length row) t → ServedWindow (window_of file cells row windows t)

-- ---- Theorem A: runs with windows are runs

-- For all windows, cells and rows: cells and row after any events are those of the direct calls that the events come to.
abbrev pub SameAsDirect : List ℕ → List WindowEvent → WindowStore → Type 0
SameAsDirect file es l = (after file es l).store ≡ run_of file (calls_of file es l) l.store

-- A byte that is written comes to no call, and a direct call to itself.
abbrev pub ComeTo : WindowStore → Type 0
ComeTo l = ((place byte : ℕ) → call_at (Written place byte) l ≡ []) × ((x : Call) → call_at (Direct x) l ≡ x ∷ [])

-- More events only add calls at the end.
abbrev pub CallsGrow : List ℕ → (es fs : List WindowEvent) → WindowStore → Type 0
CallsGrow file es fs l = calls_of file (es ++ fs) l ≡ calls_of file es l ++ calls_of file fs (after file es l)

-- What a window call says of a direct call's answer: its refusal, or that it is served.
abbrev pub said_of : Answer → Said
said_of Begun = accepted []
said_of Running = accepted []
said_of (Ended r steps) = accepted []
said_of (Refused number) = refused_by number

-- A window call that makes a direct call says so of its answer.
abbrev pub AnswersDirect : List ℕ → WindowStore → Type 0
AnswersDirect file l =
    (t : ℕ) (x : Call) → call_at (Served t) l ≡ x ∷ []
    → window_said (window_of file l.store.cells l.store.row l.windows t).answer ≡ said_of (serve_of file x l.store).answer

-- A command is served once: a second window call without a write between makes no direct call.
abbrev pub ServedOnce : List ℕ → WindowStore → Type 0
ServedOnce file l = (t : ℕ) → call_at (Served t) (happen file (Served t) l) ≡ []

-- So demands 2 and 3 hold of runs with windows, at the calls that the events come to: at every point the next direct call is answered, and the
-- cells are, as the run shows; at a point of rest the cells are the image of the book's state, and at every point they are as a print may be read.
pub record AlongWindows {file : List ℕ} {n q : ℕ} {s : Store} (o : Opening file n q s) (d : Demands o) (windows : List ℕ) (es : List WindowEvent) : Type 0 where
  pub answers : (x : Call) → (serve_of file x (after file es (opened s windows)).store).answer ≡ (shown o).answer (calls_of file es (opened s windows)) x
  pub cells : (after file es (opened s windows)).store.cells ≡ (shown o).cells (calls_of file es (opened s windows))
  pub rest : Rest (object_in o) ((shown o).history (calls_of file es (opened s windows)))
      → (after file es (opened s windows)).store.cells ≡ image n (d.book (calls_of file es (opened s windows))).state
  pub prints : Print (object_in o) n q (after file es (opened s windows)).store.cells ((shown o).history (calls_of file es (opened s windows))) (d.book (calls_of file es (opened s windows))).order

-- ---- Theorems B and C: a console and its window

module _ {file : List ℕ} {n q : ℕ} {s : Store} (o : Opening file n q s) (windows : List ℕ) where
  -- B: wherever a window call of task t makes a direct call, its console reads that call's answer, without the count.
  abbrev pub ReadsDirect : ℕ → Type 0
  ReadsDirect t =
      (es : List WindowEvent) → AllLeave t es → (x : Call)
      → call_at (Served t) (after file es (opened s windows)) ≡ x ∷ []
      → reading_of x (after file es (opened s windows)).windows (happen file (Served t) (after file es (opened s windows))).windows
      ≡ without_count ((shown o).answer (calls_of file es (opened s windows)) x)

  -- C: what the window of task t tells after the events.
  pub record Tells (t : ℕ) (es : List WindowEvent) : Type 0 where
    -- Busy exactly if an operation is pending; byte 3 and bit 3 are those of the last one that ended, 0 before.
    pub busy : (status_at (after file es (opened s windows)).windows t).busy ≡ is_pending (pending ((shown o).history (calls_of file es (opened s windows))) t)
    pub response : byte_at (after file es (opened s windows)).windows t 3 ≡ (last_ended t no_outcome ((shown o).history (calls_of file es (opened s windows)))).response
    pub moved : (status_at (after file es (opened s windows)).windows t).moved ≡ (last_ended t no_outcome ((shown o).history (calls_of file es (opened s windows)))).moved
    -- Done and refused exactly if an operation ended, or a command was refused, since the last acknowledge; the interrupt exactly if one of them.
    pub done : ((status_at (after file es (opened s windows)).windows t).done ≡ true) ↔ Since IsEnding (notes_of file t es (opened s windows))
    pub refused : ((status_at (after file es (opened s windows)).windows t).refused ≡ true) ↔ Since IsRefusing (notes_of file t es (opened s windows))
    pub interrupt : (interrupt_at (after file es (opened s windows)).windows t ≡ true)
        ↔ (((status_at (after file es (opened s windows)).windows t).done ≡ true) ⊎ ((status_at (after file es (opened s windows)).windows t).refused ≡ true))
    -- Byte 4 is the number of the last refused command, 0 before.
    pub refusal : byte_at (after file es (opened s windows)).windows t 4 ≡ last_refused 0 (notes_of file t es (opened s windows))

  -- It does so after all events that leave the window to its console.
  abbrev pub AlwaysTells : ℕ → Type 0
  AlwaysTells t = (es : List WindowEvent) → AllLeave t es → Tells t es
