-- The count of ones of the low byte is the count of marks, for marks of any width.
use mathlib.Core.Path.{◌≡◌, refl}
use mathlib.Core.Bool.{Bool, true, false}
use mathlib.Core.List.{List, [], ◌∷◌}
use Prim.Native.Nat.{ℕ, zero, suc, ◌+◌, ◌/◌, ◌%◌, ◌^◌, ◌≤◌}
use native.Mathlib.Nat.{mod-lt}
use native.Mathlib.Numerals.{one-add}
use native.Mathlib.Omega.{arith}
use borrow.Author.Tests.{eqb-true, eqb-false}
use lib.Count.{ones, ones_in, ones_cat}
use lib.Pow.{mod-pow-add, pow_pos}
use Rattle.std.specs.List.{fold, sum_by}
use Rattle.laws.specs.Bit.{bit}
use Rattle.laws.proofs.Choice.{pick_le}
use Rattle.cells.specs.Count.{marks_below, marks_in, mark_count}
use Rattle.cells.specs.Layout.{marks_width}
use Rattle.cells.specs.Marks.{has}

-- One bit is counted as one mark.
bit_count : (k w : ℕ) → ones (w / 2 ^ k % 2) ≡ bit (has k w)
unfolding has ones ones_in
bit_count k w = at (has k w) refl
  where
    at : (b : Bool) → has k w ≡ b → ones (w / 2 ^ k % 2) ≡ bit (has k w)
    at true e = rw (e, eqb-true (w / 2 ^ k % 2) 1 e)
    at false e =
        let z : w / 2 ^ k % 2 ≡ 0 = omega (arith, eqb-false (w / 2 ^ k % 2) 1 e) in
        rw (e, z)

no_ones : ones 0 ≡ 0
unfolding ones ones_in
no_ones = refl

pub count_ones : (k w : ℕ) → ones (w % 2 ^ k) ≡ marks_below k w
unfolding marks_below
count_ones zero w = let z : w % 2 ^ 0 ≡ 0 = omega arith in rw z no_ones
count_ones (suc k) w = rw (← one-add k, mod-pow-add w 1 k, ones_cat k (w / 2 ^ k % 2) (w % 2 ^ k) (mod-lt w (pow_pos k)), bit_count k w, count_ones k w)

-- There are at most as many marks as tasks.
pub marks_at_most : (k w : ℕ) → marks_below k w ≤ k
unfolding marks_below
marks_at_most zero w = omega arith
marks_at_most (suc k) w = omega (arith, marks_at_most k w, pick_le (has k w) 1)

-- The ones of the low byte are the word's marks.
pub byte_ones : (w : ℕ) → ones (w % 256) ≡ marks_in w
unfolding marks_in
byte_ones w = count_ones marks_width w

summed_from : (ws : List ℕ) (n : ℕ) → n + mark_count ws ≡ fold (λ a w. a + marks_in w) n ws
unfolding mark_count
summed_from [] n = omega arith
summed_from (w ∷ ws) n = omega (arith, summed_from ws (n + marks_in w))

-- The marks of all cells are the sum of each cell's.
pub count_summed : (ws : List ℕ) → mark_count ws ≡ sum_by marks_in ws
count_summed ws = omega (arith, summed_from ws 0)

-- A word has at most eight marks.
pub marks_in_most : (w : ℕ) → marks_in w ≤ 8
unfolding marks_in
marks_in_most w = marks_at_most marks_width w
