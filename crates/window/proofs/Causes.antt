-- The library refuses a window's begin and step with numbers of its own: below 13, and never with 7 for a task that has a window.
use Rattle.std.specs.Prelude.{Result, Ok, Err}
use mathlib.Core.Path.{◌≡◌, refl, sym, subst}
use mathlib.Core.Logic.{◌≢◌}
use mathlib.Core.List.{List}
use Prim.Native.Nat.{ℕ, ◌+◌, ◌<◌}
use native.Mathlib.Omega.{arith}
use borrow.Author.Tests.{ltb-false}
use lib.Dec.{eqb, leb, ltb}
use mathlib.Core.Bool.{◌&&◌}
use lib.ListN.{length}
use Rattle.laws.proofs.Choice.{choice, choice_by}
use Rattle.laws.proofs.Clash.{never}
use Rattle.refusal.specs.declared.Refusal.{Refusal}
use Rattle.refusal.specs.declared.Refusal.TheVariants as cause
use Rattle.refusal.specs.Number.{number_of}
use Rattle.cells.specs.Ceiling.{ceiling_of}
use Rattle.table.specs.declared.Shape.{Shape}
use Rattle.table.specs.File.{shape_of}
use Rattle.table.specs.Layout.{layout_of, file_fits, dimensions_fit, length_fits}
use Rattle.table.specs.Entries.{entries_in_range}
use Rattle.machine.specs.Calls.{Refused}
use Rattle.records.specs.declared.record.Task.{Task}
use Rattle.records.specs.Record.{read_record}
use Rattle.records.proofs.Forms.{cause_read}
use Rattle.stepping.specs.Call.{Begin}
use Rattle.stepping.specs.Step.{TaskOutcome}
use Rattle.stepping.specs.Call.{begin_said, step_said, with_ceiling, with_row, admit_of, refuse_begin, begin_from, begin_in, begin_task, refuse_step, step_from, step_in, step_task}
use Rattle.stepping.proofs.Judged.{known_says}
use Rattle.records.specs.declared.phase.Phase.{Phase}
use Rattle.stepping.specs.declared.call.Admission.{Admission}

abbrev pub Own : ℕ → Type 0
Own k = (k < 13) × (k ≢ 7)

own_same : {j k : ℕ} → Refused j ≡ Refused k → Own j → Own k
own_same {j} {k} e = let same : j ≡ k = cc in subst Own same

-- ---- The tests that begin and step share

abbrev CheckedOwn : Result Shape Refusal → Type 0
CheckedOwn (Ok shape) = Unit {0}
CheckedOwn (Err c) = Own (number_of c)

abbrev CeilingOwn : Result ℕ Refusal → Type 0
CeilingOwn (Ok k) = Unit {0}
CeilingOwn (Err c) = Own (number_of c)

abbrev AdmittedOwn : Result Admission Refusal → Type 0
AdmittedOwn (Ok found) = Unit {0}
AdmittedOwn (Err c) = Own (number_of c)

known : (k : ℕ) → k < 13 → k ≢ 7 → Own k
known k h g = (h, g)

layout_own : (file : List ℕ) → CheckedOwn (layout_of file)
unfolding layout_of
layout_own file =
    choice CheckedOwn (file_fits file) _ _
    (choice CheckedOwn (dimensions_fit (shape_of file)) _ _
    (choice CheckedOwn (length_fits (length file) (shape_of file)) _ _ tt (known 3 (omega arith) (λ e. omega (arith, e))))
    (known 2 (omega arith) (λ e. omega (arith, e))))
    (known 1 (omega arith) (λ e. omega (arith, e)))

admit_own : (file : List ℕ) (n : ℕ) → AdmittedOwn (admit_of file n)
unfolding admit_of ceiling_of
admit_own file n = by (layout_of file) (layout_own file)
  where
    over : (shape : Shape) (c : Result ℕ Refusal) → CeilingOwn c → AdmittedOwn (with_ceiling shape c)
    over shape (Ok k) own = tt
    over shape (Err c) own = own

    by : (x : Result Shape Refusal) → CheckedOwn x → AdmittedOwn (with_row n x)
    by (Ok shape) own = over shape (ceiling_of n) (choice CeilingOwn (leb 1 n && leb n 8) _ _ tt (known 5 (omega arith) (λ e. omega (arith, e))))
    by (Err c) own = own

-- The cause of a record out of form.
record_own : (shape : Shape) (n c : ℕ) (t : Task) (reason : Refusal) → read_record shape n c t ≡ Err reason → Own (number_of reason)
record_own shape n c t reason e = subst (λ (r : Refusal). Own (number_of r)) (sym (cause_read shape n c t reason e)) (known 11 (omega arith) (λ z. omega (arith, z)))

-- ---- Begin

record BeginsOwn (out : Begin) : Type 0 where
  own : (k : ℕ) → begin_said out.answer ≡ Refused k → Own k

begin_refused : (t : Task) (c : Refusal) → Own (number_of c) → BeginsOwn (refuse_begin t c)
begin_refused t c h = record { own = λ k e. own_same e h }

module _ (file : List ℕ) (n i o : ℕ) (t : Task) (below : i < n) where
  begin_from_lem : (shape : Shape) (c : ℕ) (read : Result Phase Refusal) → read_record shape n c t ≡ read → BeginsOwn (begin_from file shape o t read)
  begin_from_lem shape c (Err reason) e = begin_refused t reason (record_own shape n c t reason e)
  begin_from_lem shape c (Ok f) e =
      choice BeginsOwn (eqb t.phase 0) _ _ (record { own = λ k z. never cc }) (begin_refused t cause.Pending (known 9 (omega arith) (λ z. omega (arith, z))))

  begin_in_lem : (x : Result Admission Refusal) → AdmittedOwn x → BeginsOwn (begin_in file n i o t x)
  begin_in_lem (Err c) h = begin_refused t c h
  begin_in_lem (Ok found) h =
      choice_by BeginsOwn (ltb i n)
      (λ _. choice BeginsOwn (ltb o found.shape.operations) _ _
      (choice BeginsOwn (entries_in_range file found.shape) _ _ (begin_from_lem found.shape found.ceiling (read_record found.shape n found.ceiling t) refl) (begin_refused t cause.NextState (known 4 (omega arith) (λ z. omega (arith, z)))))
      (begin_refused t cause.Operation (known 8 (omega arith) (λ z. omega (arith, z)))))
      (λ z. absurd (omega (arith, ltb-false i n z)))

  pub begin_own : (k : ℕ) → begin_said (begin_task file n i o t).answer ≡ Refused k → Own k
  unfolding begin_task
  begin_own = (begin_in_lem (admit_of file n) (admit_own file n)).own

-- ---- Step

record StepsOwn (out : TaskOutcome) : Type 0 where
  own : (k : ℕ) → step_said out.answer ≡ Refused k → Own k

step_refused : (cells : List ℕ) (t : Task) (c : Refusal) → Own (number_of c) → StepsOwn (refuse_step cells t c)
step_refused cells t c h = record { own = λ k e. own_same e h }

module _ (file cells : List ℕ) (n i : ℕ) (t : Task) (below : i < n) where
  step_from_lem : (shape : Shape) (c : ℕ) (read : Result Phase Refusal) → read_record shape n c t ≡ read → StepsOwn (step_from file shape cells n i t read)
  step_from_lem shape c (Err reason) e = step_refused cells t reason (record_own shape n c t reason e)
  step_from_lem shape c (Ok f) e =
      record { own = known_says file shape cells n i t f Own (known 10 (omega arith) (λ z. omega (arith, z))) (known 4 (omega arith) (λ z. omega (arith, z))) (known 12 (omega arith) (λ z. omega (arith, z))) }

  step_in_lem : (x : Result Admission Refusal) → AdmittedOwn x → StepsOwn (step_in file cells n i t x)
  step_in_lem (Err c) h = step_refused cells t c h
  step_in_lem (Ok found) h =
      choice StepsOwn (eqb (length cells) (n + 1)) _ _
      (choice_by StepsOwn (ltb i n) (λ _. step_from_lem found.shape found.ceiling (read_record found.shape n found.ceiling t) refl) (λ z. absurd (omega (arith, ltb-false i n z))))
      (step_refused cells t cause.Cells (known 6 (omega arith) (λ z. omega (arith, z))))

  pub step_own : (k : ℕ) → step_said (step_task file cells n i t).answer ≡ Refused k → Own k
  unfolding step_task
  step_own = (step_in_lem (admit_of file n) (admit_own file n)).own
