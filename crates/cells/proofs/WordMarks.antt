-- What the marks of a cell are, for every task number.
use mathlib.Core.Path.{◌≡◌, refl, sym, ◌∙◌}
use mathlib.Core.Bool.{Bool, true, false, cond}
use Prim.Native.Nat.{ℕ, ◌+◌, ◌-◌, ◌^◌, ◌<◌, ◌≤◌}
use native.Mathlib.Decide.{dec_lt}
use native.Mathlib.Nat.{pow-le-pow_right}
use native.Mathlib.Omega.{arith}
use borrow.Author.Tests.{ltb-true, lt-ltb, le-ltb}
use lib.Dec.{ltb}
use Rattle.laws.proofs.Choice.{choice}
use Rattle.laws.proofs.Clash.{clash}
use Rattle.cells.specs.Layout.{marks_width, value, marks, mark_of, has_mark, add_mark, remove_mark}
use Rattle.cells.specs.Marks.{none, has, add, remove}
use Rattle.cells.proofs.MarkLaws.{SetsBit, place_below, has_none, none_has, has_low, set_high, set_low, add_below}

-- A task below the marks' width has the marks that the laws of `MarkLaws` speak of.
module _ (i w : ℕ) (h : i < marks_width) where
  pub has_mark_lem : has_mark i w ≡ has i w
  unfolding has_mark
  has_mark_lem = simp (lt-ltb i marks_width h)

  pub add_mark_lem : add_mark i w ≡ add i w
  unfolding add_mark
  add_mark_lem = simp (lt-ltb i marks_width h)

  pub remove_mark_lem : remove_mark i w ≡ remove i w
  unfolding remove_mark
  remove_mark_lem = simp (lt-ltb i marks_width h)

-- A task beyond the marks' width has none.
pub no_mark : (i w : ℕ) → marks_width ≤ i → has_mark i w ≡ false
unfolding has_mark
no_mark i w h = simp (le-ltb i marks_width h)

-- The word 0 has none.
pub zero_mark : (i : ℕ) → has_mark i 0 ≡ false
unfolding has_mark
zero_mark i = choice (λ (b : Bool). b ≡ false) (ltb i marks_width) (has i none) false (has_none i) refl

-- A word that shows no mark has none.
pub marks_none : (w : ℕ) → ((i : ℕ) → has_mark i w ≡ false) → marks w ≡ none
marks_none w unseen = none_has (marks w) (λ i e. by i e (dec_lt i marks_width))
  where
    by : (i : ℕ) → has i (marks w) ≡ true → Dec (i < marks_width) → ⊥
    by i e (yes few) = clash (sym (has_low i marks_width w few) ∙ e) (sym (has_mark_lem i w few) ∙ unseen i)
    by i e (no beyond) =
        let past : marks_width ≤ i = omega (arith, beyond) in
        let wide : 2 ^ marks_width ≤ 2 ^ i = pow-le-pow_right (omega arith) past in
        omega (arith, wide, place_below i (marks w) e)

-- Link and release by the place value of the mark.
module _ (i w : ℕ) where
  pub add_by_place : add_mark i w ≡ cond (has_mark i w) w (w + mark_of i)
  unfolding add_mark has_mark mark_of add
  add_by_place = at (ltb i marks_width) refl
    where
      at : (b : Bool) → ltb i marks_width ≡ b → add_mark i w ≡ cond (has_mark i w) w (w + mark_of i)
      at true e = simp e
      at false e = simp e (omega arith)

  pub remove_by_place : remove_mark i w ≡ cond (has_mark i w) (w - mark_of i) w
  unfolding remove_mark has_mark mark_of remove
  remove_by_place = at (ltb i marks_width) refl
    where
      at : (b : Bool) → ltb i marks_width ≡ b → remove_mark i w ≡ cond (has_mark i w) (w - mark_of i) w
      at true e = simp e
      at false e = simp e

  -- A mark that stands is part of the word.
  pub mark_within : has_mark i w ≡ true → mark_of i ≤ w
  unfolding has_mark mark_of
  mark_within h = at (ltb i marks_width) refl
    where
      at : (b : Bool) → ltb i marks_width ≡ b → mark_of i ≤ w
      at true e = simp e (place_below i w (simp e at h))
      at false e = simp e (omega arith)

  -- A word with one mark more needs no bit more.
  pub add_mark_below : (n : ℕ) → marks_width ≤ n → w < 2 ^ n → add_mark i w < 2 ^ n
  unfolding add_mark
  add_mark_below n k h = at (ltb i marks_width) refl
    where
      at : (b : Bool) → ltb i marks_width ≡ b → add_mark i w < 2 ^ n
      at true e = simp e (add_below i n w (omega (arith, ltb-true i marks_width e)) h)
      at false e = simp e h

-- Link and release keep the value of a cell and change its marks alone.
module _ {c : ℕ} {f : ℕ → ℕ → ℕ} (sets : SetsBit c f) (i w : ℕ) (h : i < marks_width) where
  pub set_value : value (f i w) ≡ value w
  set_value = set_high sets i marks_width w h

  pub set_marks : marks (f i w) ≡ f i (marks w)
  set_marks = set_low sets i marks_width w h
