-- Which calls are refused with 5: exactly those whose table has passed its test, with a number of tasks that has no ceiling.
use Rattle.std.specs.Prelude.{Result, Ok, Err}
use mathlib.Core.Path.{◌≡◌, refl, sym, ap, ◌∙◌}
use mathlib.Core.Bool.{Bool, true, false, cond}
use mathlib.Core.Logic.{◌↔◌, ◌≢◌}
use mathlib.Core.List.{List}
use Prim.Native.Nat.{ℕ, ◌+◌}
use native.Mathlib.Omega.{arith}
use lib.Dec.{eqb, ltb}
use lib.ListN.{length}
use Rattle.laws.proofs.Choice.{choice}
use Rattle.laws.proofs.Clash.{never}
use Rattle.refusal.specs.declared.Refusal.{Refusal}
use Rattle.refusal.specs.declared.Refusal.TheVariants as cause
use Rattle.refusal.specs.Number.{number_of, Said, refused_by}
use Rattle.refusal.proofs.Numbers.{numbers_apart}
use Rattle.cells.proofs.Ceilings.{ceiling_cubed, no_ceiling}
use Rattle.table.specs.declared.Shape.{Shape}
use Rattle.table.specs.Layout.{layout_of}
use Rattle.table.specs.Check.{check_of, check_said}
use Rattle.table.specs.Entries.{entries_in_range}
use Rattle.table.proofs.Answers.{layout_numbers, check_answered}
use Rattle.machine.specs.Calls.{Answer, Refused}
use Rattle.records.specs.declared.record.Task.{Task}
use Rattle.records.specs.Record.{read_record}
use Rattle.records.proofs.Forms.{cause_read}
use Rattle.stepping.specs.Call.{Begin}
use Rattle.stepping.specs.Step.{TaskOutcome}
use Rattle.stepping.specs.Call.{start_said, begin_said, step_said, with_row, start_of, admit_start_of, with_cells, filled, begin_from, begin_in, begin_task, step_from, step_in, step_task, admit_of}
use Rattle.stepping.specs.Statement.{RowRefused, StartRowJudged, BeginRowJudged, StepRowJudged}
use Rattle.stepping.proofs.Admission.{ceiling}
use Rattle.stepping.proofs.Judged.{known_says}
use Rattle.records.specs.declared.phase.Phase.{Phase}
use Rattle.stepping.specs.declared.call.Admission.{Admission}

-- ---- What the calls share: the test of the table, then that of the row, then others

module _ {A : Type 0} (number : ℕ → A) (apart : (k : ℕ) → number k ≡ number 5 → k ≡ 5) (says : Result Admission Refusal → A) (refused : (c : Refusal) → says (Err c) ≡ number (number_of c)) where
  -- A call says 5 exactly for its row, if neither the tests before nor those after do.
  row_judged : (tested : Result Shape Refusal) → ((c : Refusal) → tested ≡ Err c → number_of c ≢ 5) → (n : ℕ) → ((shape : Shape) → says (Ok (record { ceiling = (ceiling n); shape = shape })) ≢ number 5)
      → (says (with_row n tested) ≡ number 5) ↔ RowRefused tested n
  row_judged tested before n after = (by tested refl, λ ((shape, e), out). rw (e, no_ceiling n out) (refused cause.Row))
    where
      by : (found : Result Shape Refusal) → tested ≡ found → says (with_row n tested) ≡ number 5 → RowRefused tested n
      by (Ok shape) e told = ((shape, e), λ some few. after shape (rw (e, ceiling_cubed n some few) at told))
      by (Err c) e told = absurd (before c e (apart (number_of c) (sym (refused c) ∙ (rw e at told))))

-- ---- Start

pub start_row_judged : (file cells : List ℕ) (row : List Task) → StartRowJudged file cells row
unfolding start_of admit_start_of
start_row_judged file cells row =
    row_judged refused_by (λ k. ap (λ (s : Said). s.number)) (λ a. start_said (filled cells row (with_cells (length cells) (length row) a)).answer) (λ c. refl) (check_of file) before (length row) (λ shape. after shape (eqb (length cells) (length row + 1)))
  where
    before : (c : Refusal) → check_of file ≡ Err c → number_of c ≢ 5
    before c e five = let few = (check_answered file).only 5 (omega arith) (ap check_said e ∙ ap refused_by five) in omega (arith, few)

    after : (shape : Shape) (b : Bool) → start_said (filled cells row (cond b (Ok shape.start) (Err cause.Cells))).answer ≢ refused_by 5
    after shape true told = numbers_apart told (λ z. omega arith)
    after shape false told = numbers_apart told (λ z. omega arith)

-- ---- Begin and step

layout_before : (file : List ℕ) (c : Refusal) → layout_of file ≡ Err c → number_of c ≢ 5
layout_before file c e five = omega (arith, five, layout_numbers file c e)

same_number : (k number : ℕ) → Refused k ≡ Refused number → k ≡ number
same_number k number e = cc

-- An answer says another number, or none.
abbrev Other : ℕ → Answer → Type 0
Other number a = a ≢ Refused number

pub other : {number : ℕ} (k : ℕ) → k ≢ number → Other number (Refused k)
other {number} k differs e = differs (same_number k number e)

-- A record that isn't read is refused with 11.
unread : {number : ℕ} → 11 ≢ number → (shape : Shape) (n : ℕ) (t : Task) (c : Refusal) → read_record shape n (ceiling n) t ≡ Err c → Other number (Refused (number_of c))
unread differs shape n t c e = rw (cause_read shape n (ceiling n) t c e) (other 11 differs)

module _ (file : List ℕ) (n i o : ℕ) (t : Task) where
  -- After the tests of numbers and entries begin says 11, 9 or no number.
  pub begin_read : {number : ℕ} → 11 ≢ number → 9 ≢ number → (shape : Shape) (read : Result Phase Refusal) → read_record shape n (ceiling n) t ≡ read → Other number (begin_said (begin_from file shape o t read).answer)
  begin_read unformed pending shape (Err c) e = unread unformed shape n t c e
  begin_read {number} unformed pending shape (Ok f) e = choice (λ (out : Begin). Other number (begin_said out.answer)) (eqb t.phase 0) _ _ (λ z. never cc) (other 9 pending)

  abbrev Begins : Begin → Type 0
  Begins out = Other 5 (begin_said out.answer)

  begin_admitted : (shape : Shape) → Begins (begin_in file n i o t (Ok (record { ceiling = (ceiling n); shape = shape })))
  begin_admitted shape =
      choice Begins (ltb i n) _ _
      (choice Begins (ltb o shape.operations) _ _
      (choice Begins (entries_in_range file shape) _ _ (begin_read (λ z. omega arith) (λ z. omega arith) shape (read_record shape n (ceiling n) t) refl) (other 4 (λ z. omega arith)))
      (other 8 (λ z. omega arith)))
      (other 7 (λ z. omega arith))

  pub begin_row_judged : BeginRowJudged file n i o t
  unfolding begin_task admit_of
  begin_row_judged = row_judged Refused (λ k. same_number k 5) (λ a. begin_said (begin_in file n i o t a).answer) (λ c. refl) (layout_of file) (layout_before file) n begin_admitted

module _ (file cells : List ℕ) (n i : ℕ) (t : Task) where
  abbrev Steps : TaskOutcome → Type 0
  Steps out = Other 5 (step_said out.answer)

  step_read : (shape : Shape) (read : Result Phase Refusal) → read_record shape n (ceiling n) t ≡ read → Steps (step_from file shape cells n i t read)
  step_read shape (Err c) e = unread (λ z. omega arith) shape n t c e
  step_read shape (Ok f) e = λ said. known_says file shape cells n i t f (λ k. k ≢ 5) (λ z. omega arith) (λ z. omega arith) (λ z. omega arith) 5 said refl

  step_admitted : (shape : Shape) → Steps (step_in file cells n i t (Ok (record { ceiling = (ceiling n); shape = shape })))
  step_admitted shape =
      choice Steps (eqb (length cells) (n + 1)) _ _
      (choice Steps (ltb i n) _ _ (step_read shape (read_record shape n (ceiling n) t) refl) (other 7 (λ z. omega arith)))
      (other 6 (λ z. omega arith))

  pub step_row_judged : StepRowJudged file cells n i t
  unfolding step_task admit_of
  step_row_judged = row_judged Refused (λ k. same_number k 5) (λ a. step_said (step_in file cells n i t a).answer) (λ c. refl) (layout_of file) (layout_before file) n step_admitted
