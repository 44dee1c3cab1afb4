-- Reading and changing operations, by the states that can be reached: what begin leaves, what a reading step answers, which states a
-- run comes to, and which points are points of rest.
use Rattle.std.specs.Prelude.{◌≡◌, true, false, ◌↔◌, ◌≢◌, List, [], ◌∷◌, ℕ, ◌+◌, ◌<◌, get_or, Ok}
use Rattle.cells.specs.Form.{head_in_form}
use Rattle.cells.specs.Image.{image}
use Rattle.cells.specs.Layout.{state_in_word}
use Rattle.table.specs.declared.Shape.{Shape}
use Rattle.table.specs.File.{shape_of}
use Rattle.table.specs.Entries.{entry_of, moves}
use Rattle.reach.specs.Walk.{next_of, Reachable}
use Rattle.machine.specs.Calls.{Call, Begin, Step, Begun, Ended, Event}
use Rattle.machine.specs.History.{Pends, pending, Quiet, Rest}
use Rattle.records.specs.declared.record.Task.{Task}
use Rattle.records.specs.Record.{idle_task}
use Rattle.transition.specs.declared.access.Access.TheVariants.{Read}
use Rattle.stepping.specs.Call.{begin_said, begin_task, step_task, idle_row}
use Rattle.stepping.specs.Access.{access_of}
use Rattle.stepping.specs.Runs.{Store}
use Rattle.stepping.specs.Opening.{Opening, object_in, shown, start_store}
use Rattle.stepping.specs.Statement.{StepTested, FitsTable, Demands, record_after}
use Rattle.stepping.specs.declared.answer.Progress.TheVariants as progress

-- An operation preserves every state of a kind: it leads from each back to that same state.
abbrev pub Preserves : List ℕ → Shape → (ℕ → Type 0) → ℕ → Type 0
Preserves file shape States x = (q : ℕ) → States q → next_of file shape q x ≡ q

-- ---- Begin and a reading step, for all arguments

-- A begin that is served leaves phase 2, Announce, exactly if its operation moves some state that can be reached, and phase 1,
-- ReadOnly, exactly if it preserves all of them.
pub record BeginLeaves (file : List ℕ) (n i o : ℕ) (t : Task) : Type 0 where
  pub announces : ((begin_task file n i o t).task.phase ≡ 2) ↔ ((q : ℕ) × Reachable file (shape_of file) q × (next_of file (shape_of file) q o ≢ q))
  pub reads : ((begin_task file n i o t).task.phase ≡ 1) ↔ Preserves file (shape_of file) (Reachable file (shape_of file)) o

abbrev pub BeginJudges : List ℕ → (n i o : ℕ) → Task → Type 0
BeginJudges file n i o t = begin_said (begin_task file n i o t).answer ≡ Begun → BeginLeaves file n i o t

-- A step in phase 1 on a head in form, whose state may be a spare one, answers by the entry of that state and its operation, if this
-- leads to a state of the table: its response, and yes exactly if it moves. It leaves the cells as they were, and an idle record.
abbrev pub ReadingAnswers : (file cells : List ℕ) (n i : ℕ) → Task → Type 0
ReadingAnswers file cells n i t =
    let shape = shape_of file in
    let q = state_in_word (get_or cells 0 0) in
    StepTested file cells n i → FitsTable file n t → t.phase ≡ 1 → head_in_form shape.states n (get_or cells 0 0) ≡ true
    → (entry_of file shape q t.operation).next < shape.states
    → step_task file cells n i t ≡ record { cells = cells; task = idle_task t.priority; answer = Ok (progress.Ended (entry_of file shape q t.operation).response (moves file shape q t.operation) (t.steps + 1)) }

-- ---- Runs

-- At every point the head's state can be reached from the table's start state: nobody is in another one.
abbrev pub Reaches : {file : List ℕ} {n q : ℕ} {s : Store} → Opening file n q s → Type 0
Reaches {file} o = (xs : List Call) → Reachable file o.shape (state_in_word (get_or ((shown o).cells xs) 0 0))

-- A pending operation that preserves every state that can be reached ends in its next step: a read of the head, which says that the
-- state has not moved and that it was the only step.
abbrev pub EndsAtOnce : {file : List ℕ} {n q : ℕ} {s : Store} → Opening file n q s → Type 0
EndsAtOnce {file} {n} o =
    (xs : List Call) (t x k : ℕ) → pending ((shown o).history xs) t ≡ Pends x k → Preserves file o.shape (Reachable file o.shape) x
    → (access_of file n t (record_after o xs t) ≡ Read 0)
    × ((r : ℕ) × ((shown o).answer xs (Step t) ≡ Ended (record { response = r; moved = false }) 1))

-- The pending operation of task t in a history, if any, preserves every state of a kind.
abbrev pub PendingPreserves : List ℕ → Shape → (ℕ → Type 0) → List Event → ℕ → Type 0
PendingPreserves file shape States es t = (x k : ℕ) → pending es t ≡ Pends x k → Preserves file shape States x

-- Every pending operation does.
abbrev pub AllPreserve : List ℕ → Shape → (ℕ → Type 0) → List Event → Type 0
AllPreserve file shape States es = (t : ℕ) → PendingPreserves file shape States es t

-- A task is quiet exactly if its pending operation, if any, preserves every state that can be reached.
abbrev pub QuietExactly : {file : List ℕ} {n q : ℕ} {s : Store} → Opening file n q s → Type 0
QuietExactly {file} o =
    (xs : List Call) (t : ℕ) → Quiet (object_in o) (pending ((shown o).history xs) t) ↔ PendingPreserves file o.shape (Reachable file o.shape) ((shown o).history xs) t

-- A point is one of rest exactly if every pending operation preserves every state that can be reached.
abbrev pub RestExactly : {file : List ℕ} {n q : ℕ} {s : Store} → Opening file n q s → Type 0
RestExactly {file} o =
    (xs : List Call) → Rest (object_in o) ((shown o).history xs) ↔ AllPreserve file o.shape (Reachable file o.shape) ((shown o).history xs)

-- At such a point the cells are the image of the book's state.
abbrev pub RestImage : {file : List ℕ} {n q : ℕ} {s : Store} (o : Opening file n q s) → Demands o → Type 0
RestImage {file} {n} o d =
    (xs : List Call) → AllPreserve file o.shape (Reachable file o.shape) ((shown o).history xs) → (shown o).cells xs ≡ image n (d.book xs).state

-- A point at which every pending operation preserves every state of the table is one of rest.
abbrev pub RestKept : {file : List ℕ} {n q : ℕ} {s : Store} → Opening file n q s → Type 0
RestKept {file} o = (xs : List Call) → AllPreserve file o.shape (λ p. p < o.shape.states) ((shown o).history xs) → Rest (object_in o) ((shown o).history xs)

-- ---- A table with a spare state

-- Three states and two operations: 1 leads from 0 to 1 and back, 0 preserves both and leads from the spare state 2 to 0.
unfoldable pub spare_file : List ℕ
spare_file =
    0 ∷ 10 ∷ 1 ∷ 11 ∷ 1 ∷ 20 ∷ 0 ∷ 21 ∷ 0 ∷ 30 ∷ 2 ∷ 31
    ∷ 0x00 ∷ 0x00 ∷ 0x00 ∷ 0x00 ∷ 0x03 ∷ 0x00 ∷ 0x02 ∷ 0x00 ∷ 0x00 ∷ 0x00 ∷ 0x44 ∷ 0x52 ∷ 0x49 ∷ 0x56 ∷ 0x45 ∷ 0x31 ∷ []

-- A start of it for one task, and a begin of operation 0: a point of rest, at which not every pending operation preserves every state
-- of the table.
pub record SpareRest : Type 0 where
  pub opening : Opening spare_file 1 0 (start_store spare_file (0 ∷ 0 ∷ []) (idle_row 1))
  pub pends : pending ((shown opening).history (Begin 0 0 ∷ [])) 0 ≡ Pends 0 0
  pub rests : Rest (object_in opening) ((shown opening).history (Begin 0 0 ∷ []))
  pub moved : AllPreserve spare_file opening.shape (λ p. p < opening.shape.states) ((shown opening).history (Begin 0 0 ∷ [])) → ⊥
