-- The calls of docs/RUNS.md on lists of words and records: the tests in their order (docs/FORMATS.md, "When a call is not
-- served"), the first cause that holds, what is left and what is answered.
use Rattle.std.specs.Prelude.{cond, List, [], ◌∷◌, ◌++◌, ℕ, zero, suc, ◌+◌, eqb, ltb, length, get_or, set, Result, Ok, Err, ⊤}
use Rattle.refusal.specs.declared.Refusal.{Refusal}
use Rattle.refusal.specs.declared.Refusal.TheVariants as cause
use Rattle.refusal.specs.Number.{number_of, Said, accepted, refused}
use Rattle.cells.specs.Image.{image}
use Rattle.cells.specs.Ceiling.{ceiling_of}
use Rattle.table.specs.declared.Shape.{Shape}
use Rattle.table.specs.Layout.{layout_of}
use Rattle.table.specs.Check.{check_of}
use Rattle.table.specs.Entries.{entries_in_range}
use Rattle.reach.specs.Changing.{changing}
use Rattle.records.specs.declared.record.Task.{Task}
use Rattle.records.specs.declared.phase.Phase.{Phase}
use Rattle.records.specs.declared.phase.Phase.TheVariants as phase
use Rattle.machine.specs.Calls as paper
use Rattle.transition.specs.declared.access.Access.{Access}
use Rattle.stepping.specs.declared.answer.Step.{Step}
use Rattle.records.specs.Phase.{phase_number}
use Rattle.records.specs.Record.{idle_task, read_record}
use Rattle.transition.specs.Transition.{plan_of, used_in_range}
use Rattle.stepping.specs.Step.{touched, cell_in_form, TaskOutcome, served}
use Rattle.stepping.specs.declared.call.Admission.{Admission}
use Rattle.stepping.specs.declared.answer.Progress.{Progress}
use Rattle.stepping.specs.declared.answer.Progress.TheVariants as progress

-- ---- What the answers say: the number and the values of each case

abbrev pub start_said : Result ⊤ Refusal → Said
start_said (Ok tt) = accepted []
start_said (Err c) = refused c

-- The answers of begin and step are those that the plain book is fed.
abbrev pub begin_said : Result ⊤ Refusal → paper.Answer
begin_said (Ok tt) = paper.Begun
begin_said (Err c) = paper.Refused (number_of c)

abbrev pub step_said : Result Progress Refusal → paper.Answer
step_said (Ok progress.Running) = paper.Running
step_said (Ok (progress.Ended r v k)) = paper.Ended (record { response = r; moved = v }) k
step_said (Err c) = paper.Refused (number_of c)

-- ---- Tests that calls share

-- Causes 1 to 3, tested on a file, then cause 5 for n records: the table's shape with the ceiling, or the first cause.
abbrev pub with_ceiling : Shape → Result ℕ Refusal → Result Admission Refusal
with_ceiling shape (Ok c) = Ok (record { ceiling = c; shape = shape })
with_ceiling shape (Err reason) = Err reason

abbrev pub with_row : ℕ → Result Shape Refusal → Result Admission Refusal
with_row n (Ok shape) = with_ceiling shape (ceiling_of n)
with_row n (Err reason) = Err reason

unfoldable pub admit_of : List ℕ → ℕ → Result Admission Refusal
admit_of file n = with_row n (layout_of file)

-- ---- Start: 1 to 6, with all entries for 4

-- The idle records of n tasks: task i has priority i.
unfoldable pub idle_row : ℕ → List Task
idle_row zero = []
idle_row (suc n) = idle_row n ++ (idle_task n ∷ [])

-- The cells, the row and the answer of a call of start.
pub record StartOutcome : Type 0 where
  pub cells : List ℕ
  pub row : List Task
  pub answer : Result ⊤ Refusal

-- Its tests, for k cells and n records: the start state, or the first cause.
abbrev pub with_cells : (k n : ℕ) → Result Admission Refusal → Result ℕ Refusal
with_cells k n (Ok found) = cond (eqb k (n + 1)) (Ok found.shape.start) (Err cause.Cells)
with_cells k n (Err c) = Err c

unfoldable pub admit_start_of : List ℕ → (k n : ℕ) → Result ℕ Refusal
admit_start_of file k n = with_cells k n (with_row n (check_of file))

-- An accepted start fills the cells with the image of the start state, and every record with an idle task.
abbrev pub filled : List ℕ → List Task → Result ℕ Refusal → StartOutcome
filled cells row (Ok state) = record { cells = image (length row) state; row = idle_row (length row); answer = Ok tt }
filled cells row (Err c) = record { cells = cells; row = row; answer = Err c }

unfoldable pub start_of : List ℕ → List ℕ → List Task → StartOutcome
start_of file cells row = filled cells row (admit_start_of file (length cells) (length row))

-- ---- Begin: 1, 2, 3, 5, 7, 8, then 4 on all entries, then 11, 9

-- The record and the answer of a begin for one task.
pub record Begin : Type 0 where
  pub task : Task
  pub answer : Result ⊤ Refusal

abbrev pub refuse_begin : Task → Refusal → Begin
refuse_begin t c = record { task = t; answer = Err c }

-- The record of a task that has begun operation o: a changing one goes on to its announcement, a reading one to its only step.
abbrev pub begun_task : List ℕ → Shape → ℕ → Task → Task
begun_task file shape o t = record {
  head = 0;
  announcement = 0;
  payload = 0;
  steps = 0;
  operation = o;
  priority = t.priority;
  phase = cond (changing file shape o) (phase_number phase.Announce) (phase_number phase.ReadOnly);
}

abbrev pub begin_from : List ℕ → Shape → ℕ → Task → Result Phase Refusal → Begin
begin_from file shape o t (Err c) = refuse_begin t c
begin_from file shape o t (Ok f) =
    cond (eqb t.phase 0) (record { task = begun_task file shape o t; answer = Ok tt }) (refuse_begin t cause.Pending)

abbrev pub begin_in : List ℕ → (n i o : ℕ) → Task → Result Admission Refusal → Begin
begin_in file n i o t (Err c) = refuse_begin t c
begin_in file n i o t (Ok found) =
    cond (ltb i n)
    (cond (ltb o found.shape.operations)
    (cond (entries_in_range file found.shape) (begin_from file found.shape o t (read_record found.shape n found.ceiling t)) (refuse_begin t cause.NextState))
    (refuse_begin t cause.Operation))
    (refuse_begin t cause.Task)

-- What the code's answer leaves: the record that it gives or, with a refusal, the record as it was.
abbrev pub begin_left : Task → Result Task Refusal → Begin
begin_left t (Ok next) = record { task = next; answer = Ok tt }
begin_left t (Err c) = refuse_begin t c

-- One task's part: the record t of task i in a row of n.
unfoldable pub begin_task : List ℕ → (n i o : ℕ) → Task → Begin
begin_task file n i o t = begin_in file n i o t (admit_of file n)

-- ---- Step: 1, 2, 3, 5, 6, 7, 11, 10, 12, then 4 on the one entry that it uses

abbrev pub refuse_step : List ℕ → Task → Refusal → TaskOutcome
refuse_step cells t c = record { cells = cells; task = t; answer = Err c }

-- 12 on the touched cell, then 4 on the entry used.
abbrev pub touch : List ℕ → Shape → List ℕ → (n i : ℕ) → Task → Phase → Access → TaskOutcome
touch file shape cells n i t f a =
    cond (cell_in_form shape n (touched a) (get_or cells (touched a) 0))
    (cond (used_in_range file shape t (get_or cells (touched a) 0) f) (served file shape cells n i t f a) (refuse_step cells t cause.NextState))
    (refuse_step cells t cause.Cell)

abbrev pub step_from : List ℕ → Shape → List ℕ → (n i : ℕ) → Task → Result Phase Refusal → TaskOutcome
step_from file shape cells n i t (Err c) = refuse_step cells t c
step_from file shape cells n i t (Ok f) =
    cond (eqb t.phase 0) (refuse_step cells t cause.Idle) (touch file shape cells n i t f (plan_of file shape i t.priority t f))

abbrev pub step_in : List ℕ → List ℕ → (n i : ℕ) → Task → Result Admission Refusal → TaskOutcome
step_in file cells n i t (Err c) = refuse_step cells t c
step_in file cells n i t (Ok found) =
    cond (eqb (length cells) (n + 1))
    (cond (ltb i n) (step_from file found.shape cells n i t (read_record found.shape n found.ceiling t)) (refuse_step cells t cause.Task))
    (refuse_step cells t cause.Cells)

-- What the code's answer leaves: the record that it gives and what the step came to or, with a refusal, the record as it was.
abbrev pub step_left : List ℕ → Task → Result Step Refusal → TaskOutcome
step_left cells t (Ok step) = record { cells = cells; task = step.task; answer = Ok step.progress }
step_left cells t (Err c) = record { cells = cells; task = t; answer = Err c }

-- One task's part: the record t of task i in a row of n.
unfoldable pub step_task : List ℕ → List ℕ → (n i : ℕ) → Task → TaskOutcome
step_task file cells n i t = step_in file cells n i t (admit_of file n)

-- ---- Begin and step on a row: one task's record is handed over and changed there; the others remain

-- A task's record in a row; past the end, an idle one that no call looks at.
abbrev pub task_at : List Task → ℕ → Task
task_at row i = get_or row i (idle_task 0)

pub record BeginOutcome : Type 0 where
  pub row : List Task
  pub answer : Result ⊤ Refusal

unfoldable pub begin_of : List ℕ → List Task → (i o : ℕ) → BeginOutcome
begin_of file row i o =
    let out = begin_task file (length row) i o (task_at row i) in
    record { row = set row i out.task; answer = out.answer }

pub record StepOutcome : Type 0 where
  pub cells : List ℕ
  pub row : List Task
  pub answer : Result Progress Refusal

unfoldable pub step_of : List ℕ → List ℕ → List Task → ℕ → StepOutcome
step_of file cells row i =
    let out = step_task file cells (length row) i (task_at row i) in
    record { cells = out.cells; row = set row i out.task; answer = out.answer }
