-- What a call on a row says at its exit, from what the call for one task says.
use Rattle.std.specs.Prelude.{Result, ⊤}
use mathlib.Core.Path.{◌≡◌, ap, ◌∙◌}
use mathlib.Core.List.{List}
use Prim.Native.Nat.{ℕ, ◌≤◌}
use lib.ListN.{length, set, get_or-eq_default}
use lib.Seq.{set_out}
use Rattle.records.specs.declared.record.Task.{Task}
use Rattle.stepping.specs.Call.{Begin}
use Rattle.records.specs.Record.{idle_task}
use Rattle.stepping.specs.Call.{task_at, begin_task, BeginOutcome, begin_of, step_task, StepOutcome, step_of}
use Rattle.stepping.specs.Step.{TaskOutcome}
use Rattle.refusal.specs.declared.Refusal.{Refusal}
use Rattle.stepping.specs.declared.answer.Progress.{Progress}

-- A task past the row's end has an idle record.
past_idle : (ys : List Task) (t : ℕ) → length ys ≤ t → task_at ys t ≡ idle_task 0
past_idle ys t past = get_or-eq_default ys (idle_task 0) past

-- ---- Begin

-- The row and the answer at the exit of a begin.
abbrev pub BeginSaid : List ℕ → List Task → (t o : ℕ) → List Task → Result ⊤ Refusal → Type 0
BeginSaid file ys t o ys' a = ◌≡◌ {A = BeginOutcome} (record { row = ys'; answer = a }) (begin_of file ys t o)

-- The record and the answer at the exit of a begin for one task.
abbrev pub BeginTaskSaid : List ℕ → (n t o : ℕ) → Task → Task → Result ⊤ Refusal → Type 0
BeginTaskSaid file n t o own own' a = ◌≡◌ {A = Begin} (record { task = own'; answer = a }) (begin_task file n t o own)

pub begin_inside : (file : List ℕ) (ys : List Task) (t o : ℕ) (own' : Task) (a : Result ⊤ Refusal)
    → BeginTaskSaid file (length ys) t o (task_at ys t) own' a → BeginSaid file ys t o (set ys t own') a
unfolding begin_of
begin_inside file ys t o own' a e = ap (λ (s : Begin). record { row = set ys t s.task; answer = s.answer }) e

pub begin_past : (file : List ℕ) (ys : List Task) (t o : ℕ) (a : Result ⊤ Refusal)
    → length ys ≤ t → a ≡ (begin_task file (length ys) t o (idle_task 0)).answer → BeginSaid file ys t o ys a
unfolding begin_of
begin_past file ys t o a past e =
    rw (set_out ys t (begin_task file (length ys) t o (task_at ys t)).task past, past_idle ys t past)
    (ap (λ (b : Result ⊤ Refusal). record { row = ys; answer = b }) e)

-- ---- Step

-- The cells, the row and the answer at the exit of a step.
abbrev pub StepSaid : (file cs : List ℕ) → List Task → ℕ → List ℕ → List Task → Result Progress Refusal → Type 0
StepSaid file cs ys t cs' ys' a = ◌≡◌ {A = StepOutcome} (record { cells = cs'; row = ys'; answer = a }) (step_of file cs ys t)

-- The cells, the record and the answer at the exit of a step for one task.
abbrev pub StepTaskSaid : (file cs : List ℕ) (n t : ℕ) → Task → List ℕ → Task → Result Progress Refusal → Type 0
StepTaskSaid file cs n t own cs' own' a = ◌≡◌ {A = TaskOutcome} (record { cells = cs'; task = own'; answer = a }) (step_task file cs n t own)

pub step_inside : (file cs : List ℕ) (ys : List Task) (t : ℕ) (cs' : List ℕ) (own' : Task) (a : Result Progress Refusal)
    → StepTaskSaid file cs (length ys) t (task_at ys t) cs' own' a → StepSaid file cs ys t cs' (set ys t own') a
unfolding step_of
step_inside file cs ys t cs' own' a e = ap (λ (s : TaskOutcome). record { cells = s.cells; row = set ys t s.task; answer = s.answer }) e

-- The cells and the answer of a step for an idle record.
abbrev pub IdleStepSaid : (file cs : List ℕ) (n t : ℕ) → List ℕ → Result Progress Refusal → Type 0
IdleStepSaid file cs n t cs' a = (cs' ≡ (step_task file cs n t (idle_task 0)).cells) × (a ≡ (step_task file cs n t (idle_task 0)).answer)

pub step_past : (file cs : List ℕ) (ys : List Task) (t : ℕ) (cs' : List ℕ) (a : Result Progress Refusal)
    → length ys ≤ t → IdleStepSaid file cs (length ys) t cs' a → StepSaid file cs ys t cs' ys a
unfolding step_of
step_past file cs ys t cs' a past e =
    rw (set_out ys t (step_task file cs (length ys) t (task_at ys t)).task past, past_idle ys t past)
    (ap (λ (l : List ℕ). record { cells = l; row = ys; answer = a }) e.0 ∙ ap (λ (b : Result Progress Refusal). record { cells = (step_task file cs (length ys) t (idle_task 0)).cells; row = ys; answer = b }) e.1)
