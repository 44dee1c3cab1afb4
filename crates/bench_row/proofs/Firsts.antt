-- How many of nine records are lent, and what a refused call leaves of them.
use Rattle.std.specs.Prelude.{Result, Ok, Err}
use mathlib.Core.Path.{◌≡◌, refl, ap, ◌∙◌}
use mathlib.Core.Bool.{Bool, true, false}
use mathlib.Core.List.{List, ◌++◌}
use Prim.Native.Nat.{ℕ, ◌<◌, ◌≤◌}
use native.Mathlib.Omega.{arith}
use borrow.Author.Tests.{leb-true}
use lib.Dec.{leb}
use lib.ListN.{length, take, drop, take-append-drop}
use Rattle.refusal.specs.declared.Refusal.{Refusal}
use Rattle.cells.proofs.Ceilings.{no_ceiling}
use Rattle.table.specs.Check.{check_of}
use Rattle.records.specs.declared.record.Task.{Task}
use Rattle.stepping.specs.Call.{filled, with_row, StartOutcome, with_cells, admit_start_of, start_of, begin_of, step_of}
use Rattle.stepping.proofs.Refused.{refused_start, refused_begin_row, refused_step_row}
use Rattle.bench_row.specs.First.{first_count, start_first, begin_first, step_first}
use Rattle.table.specs.declared.Shape.{Shape}

-- ---- How many records are lent

-- At most nine records are lent.
pub first_few : (n m : ℕ) → m ≡ first_count n → m ≤ 9
first_few n m e = rw e (at (leb n 9) refl)
  where
    at : (b : Bool) → leb n 9 ≡ b → first_count n ≤ 9
    at true e = rw e (leb-true n 9 e)
    at false e = rw e (omega arith)

-- A row of more than eight records is refused by start as every other one is, so nine records stand for any longer row.
pub long_start : (file cs : List ℕ) (ys zs : List Task) → 8 < length ys → 8 < length zs → (start_of file cs ys).answer ≡ (start_of file cs zs).answer
unfolding start_of admit_start_of
long_start file cs ys zs h g = at (check_of file)
  where
    at : (checked : Result Shape Refusal) → (filled cs ys (with_cells (length cs) (length ys) (with_row (length ys) checked))).answer ≡ (filled cs zs (with_cells (length cs) (length zs) (with_row (length zs) checked))).answer
    at (Ok shape) = rw (no_ceiling (length ys) (λ _ l. omega arith), no_ceiling (length zs) (λ _ l. omega arith)) refl
    at (Err c) = refl

-- ---- A refused call changes nothing

-- The first records as they were, and the others.
first_kept : (xs ys' : List Task) (m : ℕ) → ys' ≡ take m xs → ys' ++ drop m xs ≡ xs
first_kept xs ys' m e = ap (λ (ys : List Task). ys ++ drop m xs) e ∙ take-append-drop m xs

pub refused_start_first : (file cs : List ℕ) (xs : List Task) (n : ℕ) (reason : Refusal) → (start_first file cs xs n).answer ≡ Err reason
    → ((start_first file cs xs n).row ≡ xs) × ((start_first file cs xs n).cells ≡ cs)
unfolding start_first
refused_start_first file cs xs n reason e =
    let kept = refused_start cs (take (first_count n) xs) file reason e in
    (first_kept xs (start_of file cs (take (first_count n) xs)).row (first_count n) (ap (λ (s : StartOutcome). s.row) kept), ap (λ (s : StartOutcome). s.cells) kept)

pub refused_begin_first : (file : List ℕ) (xs : List Task) (n t o : ℕ) (reason : Refusal) → (begin_first file xs n t o).answer ≡ Err reason → (begin_first file xs n t o).row ≡ xs
unfolding begin_first
refused_begin_first file xs n t o reason e =
    first_kept xs (begin_of file (take (first_count n) xs) t o).row (first_count n) (refused_begin_row file (take (first_count n) xs) t o reason e)

pub refused_step_first : (file cs : List ℕ) (xs : List Task) (n t : ℕ) (reason : Refusal) → (step_first file cs xs n t).answer ≡ Err reason
    → ((step_first file cs xs n t).row ≡ xs) × ((step_first file cs xs n t).cells ≡ cs)
unfolding step_first
refused_step_first file cs xs n t reason e =
    let kept = refused_step_row file (take (first_count n) xs) t cs reason e in
    (first_kept xs (step_of file cs (take (first_count n) xs) t).row (first_count n) kept.0, kept.1)
