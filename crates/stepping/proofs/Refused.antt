-- A refused call changes nothing.
use Rattle.std.specs.Prelude.{Result, Ok, Err}
use mathlib.Core.Path.{◌≡◌, ap, ◌∙◌}
use mathlib.Core.List.{List}
use Prim.Native.Nat.{ℕ, ◌+◌}
use lib.Seq.{set-get_or}
use lib.Dec.{eqb, ltb}
use lib.ListN.{length, get_or, set}
use Rattle.laws.proofs.Clash.{never}
use Rattle.laws.proofs.Choice.{choice}
use Rattle.refusal.specs.declared.Refusal.{Refusal}
use Rattle.refusal.specs.declared.Refusal.TheVariants as cause
use Rattle.table.specs.declared.Shape.{Shape}
use Rattle.table.specs.Check.{check_of}
use Rattle.table.specs.Entries.{entries_in_range}
use Rattle.records.specs.declared.record.Task.{Task}
use Rattle.records.specs.declared.phase.Phase.{Phase}
use Rattle.transition.specs.declared.access.Access.{Access}
use Rattle.transition.specs.declared.access.Next.{Next}
use Rattle.transition.specs.declared.access.Next.TheVariants.{Go, Turn, End}
use Rattle.stepping.specs.Call.{Begin}
use Rattle.records.specs.Record.{idle_task, read_record}
use Rattle.transition.specs.Transition.{plan_of, used_in_range}
use Rattle.stepping.specs.Step.{touched, cell_in_form, answer_of, TaskOutcome, led_to}
use Rattle.stepping.specs.Call.{with_row, admit_of, StartOutcome, with_cells, filled, start_of, admit_start_of, refuse_begin, begin_from, begin_in, begin_task, refuse_step, touch, step_from, step_in, step_task, task_at, begin_of, step_of}
use Rattle.stepping.specs.declared.call.Admission.{Admission}

-- ---- Start

-- What a refused start leaves and answers.
abbrev pub refuse_start : List ℕ → List Task → Refusal → StartOutcome
refuse_start cells row c = record { cells = cells; row = row; answer = Err c }

module _ (cells : List ℕ) (row : List Task) where
  record StartKept (out : StartOutcome) : Type 0 where
    same : (reason : Refusal) → out.answer ≡ Err reason → out ≡ refuse_start cells row reason

  start_refused : (c : Refusal) → StartKept (refuse_start cells row c)
  start_refused c = record { same = λ reason e. let p : c ≡ reason = cc in ap (refuse_start cells row) p }

  start_kept : (x : Result Admission Refusal) → StartKept (filled cells row (with_cells (length cells) (length row) x))
  start_kept (Err c) = start_refused c
  start_kept (Ok found) =
      choice (λ found. StartKept (filled cells row found)) (eqb (length cells) (length row + 1)) _ _ (record { same = λ reason e. never cc }) (start_refused cause.Cells)

  pub refused_start : (file : List ℕ) (reason : Refusal) → (start_of file cells row).answer ≡ Err reason → start_of file cells row ≡ refuse_start cells row reason
  unfolding start_of admit_start_of
  refused_start file reason e = (start_kept (with_row (length row) (check_of file))).same reason e

-- ---- Begin

module _ (t : Task) where
  record BeginKept (out : Begin) : Type 0 where
    same : (reason : Refusal) → out.answer ≡ Err reason → out ≡ refuse_begin t reason

  begin_refused : (c : Refusal) → BeginKept (refuse_begin t c)
  begin_refused c = record { same = λ reason e. let p : c ≡ reason = cc in ap (refuse_begin t) p }

  module _ (file : List ℕ) (n i o : ℕ) where
    begin_from_lem : (shape : Shape) (read : Result Phase Refusal) → BeginKept (begin_from file shape o t read)
    begin_from_lem shape (Err c) = begin_refused c
    begin_from_lem shape (Ok f) =
        choice BeginKept (eqb t.phase 0) _ _ (record { same = λ reason e. never cc }) (begin_refused cause.Pending)

    begin_kept : (x : Result Admission Refusal) → BeginKept (begin_in file n i o t x)
    begin_kept (Err c) = begin_refused c
    begin_kept (Ok found) =
        choice BeginKept (ltb i n) _ _
        (choice BeginKept (ltb o found.shape.operations) _ _
        (choice BeginKept (entries_in_range file found.shape) _ _ (begin_from_lem found.shape (read_record found.shape n found.ceiling t)) (begin_refused cause.NextState))
        (begin_refused cause.Operation))
        (begin_refused cause.Task)

    pub refused_begin : (reason : Refusal) → (begin_task file n i o t).answer ≡ Err reason → begin_task file n i o t ≡ refuse_begin t reason
    unfolding begin_task
    refused_begin reason e = (begin_kept (admit_of file n)).same reason e

-- ---- Step

-- What an accepted step answers refuses nothing.
accepts : (t : Task) (x : Next) (reason : Refusal) → answer_of t x ≡ Err reason → ⊥
accepts t (Go f v h a) reason e = never cc
accepts t Turn reason e = never cc
accepts t (End r v) reason e = never cc

module _ (file cells : List ℕ) (n i : ℕ) (t : Task) where
  record StepKept (out : TaskOutcome) : Type 0 where
    same : (reason : Refusal) → out.answer ≡ Err reason → out ≡ refuse_step cells t reason

  step_refused : (c : Refusal) → StepKept (refuse_step cells t c)
  step_refused c = record { same = λ reason e. let p : c ≡ reason = cc in ap (refuse_step cells t) p }

  step_touch : (shape : Shape) (f : Phase) (a : Access) → StepKept (touch file shape cells n i t f a)
  step_touch shape f a =
      choice StepKept (cell_in_form shape n (touched a) (get_or cells (touched a) 0)) _ _
      (choice StepKept (used_in_range file shape t (get_or cells (touched a) 0) f) _ _
      (record { same = λ reason e. absurd (accepts t (led_to file shape cells i t f a) reason e) })
      (step_refused cause.NextState))
      (step_refused cause.Cell)

  step_from_lem : (shape : Shape) (read : Result Phase Refusal) → StepKept (step_from file shape cells n i t read)
  step_from_lem shape (Err c) = step_refused c
  step_from_lem shape (Ok f) = choice StepKept (eqb t.phase 0) _ _ (step_refused cause.Idle) (step_touch shape f (plan_of file shape i t.priority t f))

  step_kept : (x : Result Admission Refusal) → StepKept (step_in file cells n i t x)
  step_kept (Err c) = step_refused c
  step_kept (Ok found) =
      choice StepKept (eqb (length cells) (n + 1)) _ _
      (choice StepKept (ltb i n) _ _ (step_from_lem found.shape (read_record found.shape n found.ceiling t)) (step_refused cause.Task))
      (step_refused cause.Cells)

  pub refused_step : (reason : Refusal) → (step_task file cells n i t).answer ≡ Err reason → step_task file cells n i t ≡ refuse_step cells t reason
  unfolding step_task
  refused_step reason e = (step_kept (admit_of file n)).same reason e

-- ---- Begin and step on a row

module _ (file : List ℕ) (row : List Task) (i : ℕ) where
  pub refused_begin_row : (o : ℕ) (reason : Refusal) → (begin_of file row i o).answer ≡ Err reason → (begin_of file row i o).row ≡ row
  unfolding begin_of
  refused_begin_row o reason e =
      ap (λ (out : Begin). set row i out.task) (refused_begin (task_at row i) file (length row) i o reason e) ∙ set-get_or row i (idle_task 0)

  pub refused_step_row : (cells : List ℕ) (reason : Refusal) → (step_of file cells row i).answer ≡ Err reason → ((step_of file cells row i).row ≡ row) × ((step_of file cells row i).cells ≡ cells)
  unfolding step_of
  refused_step_row cells reason e =
      let kept = refused_step file cells (length row) i (task_at row i) reason e in
      (ap (λ (out : TaskOutcome). set row i out.task) kept ∙ set-get_or row i (idle_task 0), ap (λ (out : TaskOutcome). out.cells) kept)
