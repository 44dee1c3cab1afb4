-- Which begins are refused with 4: exactly those whose tests before it are passed, on a table with some entry out of range. And
-- what one that is served has found.
use Rattle.std.specs.Prelude.{Result, Ok, Err}
use mathlib.Core.Path.{◌≡◌, refl, ap, ◌∙◌}
use mathlib.Core.Bool.{Bool, true, false}
use mathlib.Core.Logic.{◌≢◌}
use mathlib.Core.List.{List}
use Prim.Native.Nat.{ℕ, ◌<◌, ◌≤◌}
use native.Mathlib.Decide.{dec_lt}
use native.Mathlib.Omega.{arith}
use borrow.Author.Tests.{ltb-true}
use lib.Dec.{eqb, ltb}
use Rattle.laws.proofs.Clash.{never}
use Rattle.refusal.specs.Number.{number_of}
use Rattle.cells.proofs.Ceilings.{ceiling_cubed, no_ceiling}
use Rattle.table.specs.declared.Shape.{Shape}
use Rattle.table.specs.File.{shape_of}
use Rattle.table.specs.Layout.{layout_of}
use Rattle.table.specs.Check.{check_of}
use Rattle.table.specs.Entries.{entries_in_range}
use Rattle.table.specs.Statement.{AllInRange, OutOfRange}
use Rattle.table.proofs.Accepted.{entries_out, tested_all}
use Rattle.table.proofs.Answers.{layout_numbers, check_answered}
use Rattle.table.proofs.Fitting.{layout_fitting}
use Rattle.machine.specs.Calls.{Answer, Begun, Refused}
use Rattle.records.specs.declared.record.Task.{Task}
use Rattle.records.specs.Record.{read_record}
use Rattle.stepping.specs.Call.{begun_task, begin_said, begin_task, admit_of}
use Rattle.stepping.specs.Statement.{BeginAsked, BeginTested, BeginEntriesJudged}
use Rattle.stepping.proofs.Admission.{ceiling}
use Rattle.stepping.proofs.Judged.{asked_tests, begin_tested}
use Rattle.stepping.proofs.Rows.{other, begin_read}
use Rattle.refusal.specs.declared.Refusal.{Refusal}
use Rattle.records.specs.declared.phase.Phase.{Phase}

-- An answer that comes after the tests before 4.
abbrev Later : Answer → Type 0
Later a = (k : ℕ) → k ≢ 4 → k ≤ 8 → Refused k ≢ a

later_four : Later (Refused 4)
later_four k differs few = other k differs

later_begun : Later Begun
later_begun k differs few e = never cc

module _ (file : List ℕ) (n i o : ℕ) (t : Task) where
  abbrev said : Answer
  said = begin_said (begin_task file n i o t).answer

  -- A begin that says such an answer has passed the tests before it, one after another.
  module _ (a : Answer) (later : Later a) where
    said_numbers : (shape : Shape) → layout_of file ≡ Ok shape → 1 ≤ n → n ≤ 8 → (known : Bool) → ltb i n ≡ known → (one : Bool) → ltb o shape.operations ≡ one → said ≡ a → BeginAsked file n i o
    unfolding begin_task admit_of
    said_numbers shape e some few false g one h says = absurd (later 7 (λ z. omega arith) (omega arith) (rw (e, ceiling_cubed n some few, g) at says))
    said_numbers shape e some few true g false h says = absurd (later 8 (λ z. omega arith) (omega arith) (rw (e, ceiling_cubed n some few, g, h) at says))
    said_numbers shape e some few true g true h says =
        let same : shape ≡ shape_of file = (layout_fitting file shape e).shape_is in
        record { accepted = e ∙ ap Ok same; some = some; few = few; below = ltb-true i n g; known = rw same at (ltb-true o shape.operations h) }

    said_row : (shape : Shape) → layout_of file ≡ Ok shape → Dec (0 < n) → Dec (n < 9) → said ≡ a → BeginAsked file n i o
    unfolding begin_task admit_of
    said_row shape e (yes some) (yes few) says = said_numbers shape e some (omega arith) (ltb i n) refl (ltb o shape.operations) refl says
    said_row shape e (no none) few says = absurd (later 5 (λ z. omega arith) (omega arith) (rw (e, no_ceiling n (λ some _. none some)) at says))
    said_row shape e (yes some) (no many) says = absurd (later 5 (λ z. omega arith) (omega arith) (rw (e, no_ceiling n (λ _ few. many (omega arith))) at says))

    said_asked : said ≡ a → BeginAsked file n i o
    unfolding begin_task admit_of
    said_asked says = by (layout_of file) refl
      where
        by : (found : Result Shape Refusal) → layout_of file ≡ found → BeginAsked file n i o
        by (Ok shape) e = said_row shape e (dec_lt 0 n) (dec_lt n 9) says
        by (Err c) e =
            let few = layout_numbers file c e in
            absurd (later (number_of c) (λ z. omega (arith, z, few)) (omega (arith, few)) (rw e at says))

  -- Then the entries decide between 4 and the rest.
  by_entries : (a : BeginAsked file n i o) (all : Bool) → entries_in_range file (shape_of file) ≡ all → said ≡ Refused 4 → OutOfRange file (shape_of file)
  by_entries a false e four = (entries_out file (shape_of file)).0 e
  by_entries a true e four =
      absurd (begin_read file n i o t (λ z. omega arith) (λ z. omega arith) (shape_of file) (read_record (shape_of file) n (ceiling n) t) refl (rw (asked_tests file n i o t a, e) at four))

  pub begin_entries_judged : BeginEntriesJudged file n i o t
  begin_entries_judged = (
    λ four. let a = said_asked (Refused 4) later_four four in (a, by_entries a (entries_in_range file (shape_of file)) refl four),
    λ (a, out). rw (asked_tests file n i o t a, (entries_out file (shape_of file)).1 out),
  )

  -- ---- A begin that is served

  module _ (begun : said ≡ Begun) where
    begun_tested : BeginTested file n i o
    begun_tested = let a = said_asked Begun later_begun begun in record { asked = a; ranged = by a (entries_in_range file (shape_of file)) refl }
      where
        by : BeginAsked file n i o → (all : Bool) → entries_in_range file (shape_of file) ≡ all → AllInRange file (shape_of file)
        by a true e = tested_all file (shape_of file) e
        by a false e = let four = rw (asked_tests file n i o t a, e) at begun in never (cc four)

    -- Its table is accepted, and its record is that of a begun operation.
    pub begun_accepted : check_of file ≡ Ok (shape_of file)
    begun_accepted = ((check_answered file).accepts (shape_of file)).1 (begun_tested.asked.accepted, begun_tested.ranged)

    pub begun_task_lem : (begin_task file n i o t).task ≡ begun_task file (shape_of file) o t
    begun_task_lem = by (read_record (shape_of file) n (ceiling n) t) (eqb t.phase 0) refl refl
      where
        by : (read : Result Phase Refusal) (idle : Bool) → read_record (shape_of file) n (ceiling n) t ≡ read → eqb t.phase 0 ≡ idle → (begin_task file n i o t).task ≡ begun_task file (shape_of file) o t
        by (Ok f) true e z = rw (begin_tested file n i o t begun_tested, e, z)
        by (Ok f) false e z = let nine = rw (begin_tested file n i o t begun_tested, e, z) at begun in never (cc nine)
        by (Err c) idle e z = let eleven = rw (begin_tested file n i o t begun_tested, e) at begun in never (cc eleven)
