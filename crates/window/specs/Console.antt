-- A console and its window: what it may do, what it reads, and what its window tells at every point.
use Rattle.std.specs.Prelude.{◌≡◌, ◌≢◌, Bool, true, false, cond, List, [], ◌∷◌, ℕ, ◌+◌, ◌*◌, ◌<◌, ◌≤◌, eqb, length, Result, Ok, Err, ⊤}
use Rattle.laws.specs.Places.{At}
use Rattle.refusal.specs.Number.{number_of}
use Rattle.machine.specs.Outcome.{Outcome}
use Rattle.machine.specs.Calls.{Call, Begin, Step, Answer, Begun, Running, Ended, Refused, Event}
use Rattle.machine.specs.History.{Pending, Nothing, Pends}
use Rattle.stepping.specs.Runs.{history_of}
use Rattle.window.specs.Window.{byte_at, status_at}
use Rattle.window.specs.Serve.{window_of}
use Rattle.window.specs.Events.{WindowEvent, Written, Served, Direct, WindowStore, happen, call_at}
use Rattle.refusal.specs.declared.Refusal.{Refusal}

-- ---- What a console may do

-- A task with a window that is all 0.
pub record Blank (n t : ℕ) (windows : List ℕ) : Type 0 where
  pub below : t < n
  pub long : length windows ≡ 8 * n
  pub zeros : (k : ℕ) → k < 8 → byte_at windows t k ≡ 0

-- The task that a direct call is for.
abbrev pub task_of : Call → ℕ
task_of (Begin i o) = i
task_of (Step i) = i

-- An event that leaves task t to its console: of its window only bytes 0, 1 and 6 are written, and no direct call is for it.
abbrev pub Leaves : ℕ → WindowEvent → Type 0
Leaves t (Written place byte) = (k : ℕ) → 2 ≤ k → k < 8 → k ≢ 6 → place ≢ 8 * t + k
Leaves t (Served i) = Unit {0}
Leaves t (Direct x) = task_of x ≢ t

-- All of them do.
abbrev pub AllLeave : ℕ → List WindowEvent → Type 0
AllLeave t [] = Unit {0}
AllLeave t (e ∷ es) = Leaves t e × AllLeave t es

-- ---- What a console reads of a call: from its window before and after

-- Begun, running, ended with response and moved, or refused with a number.
pub data Reading : Type 0 where
  ReadBegun ReadRunning : Reading
  ReadEnded : (response : ℕ) (moved : Bool) → Reading
  ReadRefused : (number : ℕ) → Reading

-- Busy goes on with an accepted begin, and off with the step that ends the operation; else byte 4 has the number of the refusal.
abbrev pub read_begin : ℕ → (before later : List ℕ) → Reading
read_begin t before later =
    cond (status_at before t).busy (ReadRefused (byte_at later t 4)) (cond (status_at later t).busy ReadBegun (ReadRefused (byte_at later t 4)))

abbrev pub read_step : ℕ → (before later : List ℕ) → Reading
read_step t before later =
    cond (status_at before t).busy (cond (status_at later t).busy ReadRunning (ReadEnded (byte_at later t 3) (status_at later t).moved)) (ReadRefused (byte_at later t 4))

-- By the call that was made.
abbrev pub reading_of : Call → (before later : List ℕ) → Reading
reading_of (Begin t o) = read_begin t
reading_of (Step t) = read_step t

-- A direct call's answer without the count of steps, which has no byte.
abbrev pub without_count : Answer → Reading
without_count Begun = ReadBegun
without_count Running = ReadRunning
without_count (Ended r steps) = ReadEnded r.response r.moved
without_count (Refused number) = ReadRefused number

-- ---- What the window tells, by the history of the direct calls

-- Whether an operation is pending.
abbrev pub is_pending : Pending → Bool
is_pending Nothing = false
is_pending (Pends o s) = true

-- The outcome of an operation of task t that a call ends, else r.
abbrev pub ended_by : ℕ → Call → Answer → Outcome → Outcome
ended_by t (Begin i o) a r = r
ended_by t (Step i) Begun r = r
ended_by t (Step i) Running r = r
ended_by t (Step i) (Ended v k) r = cond (eqb i t) v r
ended_by t (Step i) (Refused k) r = r

-- The outcome of the last operation of task t that ended, r before.
abbrev pub last_ended : ℕ → Outcome → List Event → Outcome
last_ended t r [] = r
last_ended t r (e ∷ es) = last_ended t (ended_by t e.call e.answer r) es

-- ---- What the window tells, by the events at it

-- A window call of the task ends its operation, is refused with a number, or acknowledges; every other event is none of these.
pub data Note : Type 0 where
  Ending Acknowledging Other : Note
  Refusing : (number : ℕ) → Note

-- By its answer, whether a direct call ends an operation.
abbrev pub ending_of : Answer → Note
ending_of Begun = Other
ending_of Running = Other
ending_of (Ended r k) = Ending
ending_of (Refused k) = Other

-- The same of the direct call that a window call made, if it made one.
abbrev pub ending_by : List Event → Note
ending_by [] = Other
ending_by (e ∷ es) = ending_of e.answer

-- By the command, the window call's answer, and the direct call that it made with its answer.
abbrev pub noted : (command : ℕ) → Result ⊤ Refusal → List Event → Note
noted command (Err c) direct = Refusing (number_of c)
noted command (Ok tt) direct = cond (eqb command 3) Acknowledging (ending_by direct)

-- What an event is to the console of task t, and all events one after another.
abbrev pub note_of : List ℕ → ℕ → WindowEvent → WindowStore → Note
note_of file t (Written place byte) l = Other
note_of file t (Served i) l =
    cond (eqb i t) (noted (byte_at l.windows i 1) (window_of file l.store.cells l.store.row l.windows i).answer (history_of file (call_at (Served i) l) l.store)) Other
note_of file t (Direct x) l = Other

abbrev pub notes_of : List ℕ → ℕ → List WindowEvent → WindowStore → List Note
notes_of file t [] l = []
notes_of file t (e ∷ es) l = note_of file t e l ∷ notes_of file t es (happen file e l)

-- Something stands in the notes, and no acknowledge after it.
abbrev pub Since : (Note → Type 0) → List Note → Type 0
Since P notes = (i : ℕ) × (x : Note) × At notes i x × P x × ((j : ℕ) → i < j → At notes j Acknowledging → ⊥)

-- An operation ended; a command was refused.
abbrev pub IsEnding : Note → Type 0
IsEnding x = x ≡ Ending

abbrev pub IsRefusing : Note → Type 0
IsRefusing x = (number : ℕ) × (x ≡ Refusing number)

-- The number of a refused command, else k.
abbrev pub number_by : Note → ℕ → ℕ
number_by Ending k = k
number_by Acknowledging k = k
number_by Other k = k
number_by (Refusing number) k = number

-- The number of the last refused command, k before the first.
abbrev pub last_refused : ℕ → List Note → ℕ
last_refused k [] = k
last_refused k (x ∷ notes) = last_refused (number_by x k) notes
