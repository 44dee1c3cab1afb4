-- Laws of the marks, for every index and every number.
use mathlib.Core.Path.{◌≡◌, refl, ap, sym, ◌∙◌}
use mathlib.Core.Bool.{Bool, true, false}
use mathlib.Core.Logic.{◌≢◌}
use Prim.Native.Nat.{ℕ, zero, suc, ◌+◌, ◌*◌, ◌/◌, ◌%◌, ◌^◌, ◌≤◌, ◌<◌}
use native.Mathlib.Nat.{pow-succ', div-div-eq-div-mul, div-eq_of_lt}
use native.Mathlib.Numerals.{add-one}
use native.Mathlib.Omega.{arith}
use borrow.Author.Tests.{eqb-true, eqb-false, leb-true, leb-false, lt-ltb}
use lib.Arith.{half_le}
use lib.Dec.{eqb, leb, ltb}
use lib.Pow.{mod-pow-add, pow-lt, pow_mono}
use Rattle.cells.specs.Marks.{none, has, add, remove}

-- A mark shifted to its place in a word of 64 bits loses nothing.
pub one_shifted : (i : ℕ) → i < 64 → 1 * 2 ^ i % 2 ^ 64 ≡ 2 ^ i
one_shifted i h = omega (arith, pow-lt h)

-- With more tasks than marks every mark is of one of them.
pub marks_within : (n w : ℕ) → 8 < n → ltb (w % 256) (2 ^ n) ≡ true
marks_within n w h = lt-ltb (w % 256) (2 ^ n) (omega (arith, pow_mono {i = 8} {j = n} (omega arith)))

-- A number is its half twice and its lowest bit; what stands at index i + 1 stands at index i of the half.
half_place : (i w : ℕ) → w / 2 ^ suc i ≡ w / 2 / 2 ^ i
half_place i w = rw (pow-succ' 2 i) (sym (div-div-eq-div-mul w 2 (2 ^ i)))

pub has_zero : (w : ℕ) → has 0 w ≡ eqb (w % 2) 1
unfolding has
has_zero w = let e : w / 2 ^ 0 ≡ w = omega arith in rw e

pub has_suc : (i w : ℕ) → has (suc i) w ≡ has i (w / 2)
unfolding has
has_suc i w = rw (half_place i w)

low_half : (k w : ℕ) → w % 2 ^ suc k ≡ w % 2 + 2 * (w / 2 % 2 ^ k)
low_half k w = rw (← add-one k) (omega (arith, mod-pow-add w k 1))

-- A standing mark's place value is part of the number.
pub place_below : (i w : ℕ) → has i w ≡ true → 2 ^ i ≤ w
unfolding has
place_below i w h = at (leb (2 ^ i) w) refl
  where
    at : (b : Bool) → leb (2 ^ i) w ≡ b → 2 ^ i ≤ w
    at true e = leb-true (2 ^ i) w e
    at false e =
        let z : w / 2 ^ i ≡ 0 = div-eq_of_lt (leb-false (2 ^ i) w e) in
        let o : w / 2 ^ i % 2 ≡ 1 = eqb-true _ _ h in
        omega arith

-- An operation that sets the bit at an index to c, said by halves.
pub record SetsBit (c : ℕ) (f : ℕ → ℕ → ℕ) : Type 0 where
  pub bit : c < 2
  pub at_zero : (w : ℕ) → f 0 w ≡ w / 2 * 2 + c
  pub at_suc : (i w : ℕ) → f (suc i) w ≡ w % 2 + 2 * f i (w / 2)

pub adds : SetsBit 1 add
unfolding add
adds = record { bit = omega arith; at_zero = λ w. lowest w (eqb (w % 2) 1) refl; at_suc = λ i w. higher i w (has i (w / 2)) refl }
  where
    lowest : (w : ℕ) (b : Bool) → eqb (w % 2) 1 ≡ b → add 0 w ≡ w / 2 * 2 + 1
    lowest w true e = rw (has_zero w, e) (omega (arith, eqb-true (w % 2) 1 e))
    lowest w false e = rw (has_zero w, e) (omega (arith, eqb-false (w % 2) 1 e))

    higher : (i w : ℕ) (b : Bool) → has i (w / 2) ≡ b → add (suc i) w ≡ w % 2 + 2 * add i (w / 2)
    higher i w true e = rw (has_suc i w, e) (omega arith)
    higher i w false e = rw (has_suc i w, e) (omega (arith, pow-succ' 2 i))

pub removes : SetsBit 0 remove
unfolding remove
removes = record { bit = omega arith; at_zero = λ w. lowest w (eqb (w % 2) 1) refl; at_suc = λ i w. higher i w (has i (w / 2)) refl }
  where
    lowest : (w : ℕ) (b : Bool) → eqb (w % 2) 1 ≡ b → remove 0 w ≡ w / 2 * 2 + 0
    lowest w true e = rw (has_zero w, e) (omega (arith, eqb-true (w % 2) 1 e))
    lowest w false e = rw (has_zero w, e) (omega (arith, eqb-false (w % 2) 1 e))

    higher : (i w : ℕ) (b : Bool) → has i (w / 2) ≡ b → remove (suc i) w ≡ w % 2 + 2 * remove i (w / 2)
    higher i w true e = rw (has_suc i w, e) (omega (arith, pow-succ' 2 i, place_below i (w / 2) e))
    higher i w false e = rw (has_suc i w, e) (omega arith)

-- No mark stands in `none`.
pub has_none : (i : ℕ) → has i none ≡ false
has_none zero = has_zero 0
has_none (suc i) = has_suc i 0 ∙ has_none i

low_same : (a b : ℕ) → a < 2 → b < 2 → eqb a 1 ≡ eqb b 1 → a ≡ b
low_same a b ha hb e = at (eqb b 1) refl
  where
    at : (t : Bool) → eqb b 1 ≡ t → a ≡ b
    at true f = omega (arith, eqb-true a 1 (e ∙ f), eqb-true b 1 f)
    at false f = omega (arith, eqb-false a 1 (e ∙ f), eqb-false b 1 f)

same_by : (k v w : ℕ) → v ≤ k → w ≤ k → ((i : ℕ) → has i v ≡ has i w) → v ≡ w
same_by zero v w hv hw h = omega arith
same_by (suc k) v w hv hw h =
    let high : v / 2 ≡ w / 2 = same_by k (v / 2) (w / 2) (half_le hv) (half_le hw) (λ i. sym (has_suc i v) ∙ h (suc i) ∙ has_suc i w) in
    let low : v % 2 ≡ w % 2 = low_same (v % 2) (w % 2) (omega arith) (omega arith) (sym (has_zero v) ∙ h 0 ∙ has_zero w) in
    omega arith

-- Two numbers with the same marks are one number.
pub has_injective : (v w : ℕ) → ((i : ℕ) → has i v ≡ has i w) → v ≡ w
has_injective v w = same_by (v + w) v w (omega arith) (omega arith)

-- A number in which no mark stands is `none`.
pub none_has : (w : ℕ) → ((i : ℕ) → has i w ≡ true → ⊥) → w ≡ none
none_has w h = has_injective w 0 (λ i. at i (has i w) refl ∙ sym (has_none i))
  where
    at : (i : ℕ) (b : Bool) → has i w ≡ b → has i w ≡ false
    at i true e = absurd (h i e)
    at i false e = e

-- The half and the lowest bit of a number that is made of both.
module _ (u v : ℕ) where
  half_of : (u % 2 + 2 * v) / 2 ≡ v
  half_of = omega arith

  low_of : (u % 2 + 2 * v) % 2 ≡ u % 2
  low_of = omega arith

-- A mark stands in a word's lowest k bits exactly if it stands in the word.
pub has_low : (i k w : ℕ) → i < k → has i (w % 2 ^ k) ≡ has i w
has_low i zero w h = absurd (omega arith)
has_low zero (suc k) w h = rw (has_zero (w % 2 ^ suc k), has_zero w, low_half k w, low_of)
has_low (suc i) (suc k) w h = rw (has_suc i (w % 2 ^ suc k), has_suc i w, low_half k w, half_of) (has_low i k (w / 2) (omega arith))

-- What setting a bit does, once for both operations.
module _ {c : ℕ} {f : ℕ → ℕ → ℕ} (s : SetsBit c f) where
  pub has_set : (i w : ℕ) → has i (f i w) ≡ eqb c 1
  has_set zero w =
      let b : c < 2 = s.bit in
      let e : (w / 2 * 2 + c) % 2 ≡ c = omega arith in
      rw (s.at_zero w, has_zero (w / 2 * 2 + c), e)
  has_set (suc i) w = rw (s.at_suc i w, has_suc, half_of) (has_set i (w / 2))

  pub has_set_other : (i j w : ℕ) → i ≢ j → has i (f j w) ≡ has i w
  has_set_other zero zero w n = absurd (n refl)
  has_set_other zero (suc j) w n = rw (s.at_suc j w, has_zero (w % 2 + 2 * f j (w / 2)), low_of, has_zero w)
  has_set_other (suc i) zero w n =
      let b : c < 2 = s.bit in
      let e : (w / 2 * 2 + c) / 2 ≡ w / 2 = omega arith in
      rw (s.at_zero w, has_suc i (w / 2 * 2 + c), e, has_suc i w)
  has_set_other (suc i) (suc j) w n = rw (s.at_suc j w, has_suc i w, has_suc, half_of) (has_set_other i j (w / 2) (λ e. n (ap suc e)))

  pub set_below : (i n w : ℕ) → i < n → w < 2 ^ n → f i w < 2 ^ n
  set_below i zero w h l = absurd (omega arith)
  set_below zero (suc n) w h l = omega (arith, s.bit, s.at_zero w, pow-succ' 2 n)
  set_below (suc i) (suc n) w h l =
      let p : 2 ^ suc n ≡ 2 * 2 ^ n = pow-succ' 2 n in
      omega (arith, s.at_suc i w, set_below i n (w / 2) (omega arith) (omega arith))

  -- The bits from k up stay as they are.
  pub set_high : (i k w : ℕ) → i < k → f i w / 2 ^ k ≡ w / 2 ^ k
  set_high i zero w h = absurd (omega arith)
  set_high zero (suc k) w h =
      let b : c < 2 = s.bit in
      let e : (w / 2 * 2 + c) / 2 ≡ w / 2 = omega arith in
      rw (s.at_zero w, half_place k (w / 2 * 2 + c), e, half_place k w)
  set_high (suc i) (suc k) w h = rw (s.at_suc i w, half_place k w, half_place, half_of) (set_high i k (w / 2) (omega arith))

  -- The lowest k bits change as if they were the word.
  pub set_low : (i k w : ℕ) → i < k → f i w % 2 ^ k ≡ f i (w % 2 ^ k)
  set_low i zero w h = absurd (omega arith)
  set_low zero (suc k) w h =
      let b : c < 2 = s.bit in
      let e : (w / 2 * 2 + c) / 2 ≡ w / 2 = omega arith in
      let g : (w / 2 * 2 + c) % 2 ≡ c = omega arith in
      rw (s.at_zero w, s.at_zero (w % 2 ^ suc k), low_half k (w / 2 * 2 + c), low_half k w, e, g, half_of) (omega arith)
  set_low (suc i) (suc k) w h =
      let v : ℕ = f i (w / 2) in
      let low : ℕ = w / 2 % 2 ^ k in
      rw (s.at_suc i w, s.at_suc i (w % 2 ^ suc k), low_half k w, low_half k, half_of w v, half_of w low, low_of w v, low_of w low) (ap (λ (x : ℕ). w % 2 + 2 * x) (set_low i k (w / 2) (omega arith)))

-- An added mark stands, and the others stand as before.
pub has_add : (i w : ℕ) → has i (add i w) ≡ true
has_add = has_set adds

pub has_add_other : (i j w : ℕ) → i ≢ j → has i (add j w) ≡ has i w
has_add_other = has_set_other adds

-- A removed mark doesn't stand, and the others stand as before.
pub has_remove : (i w : ℕ) → has i (remove i w) ≡ false
has_remove = has_set removes

pub has_remove_other : (i j w : ℕ) → i ≢ j → has i (remove j w) ≡ has i w
has_remove_other = has_set_other removes

-- Adding a mark that stands changes nothing.
pub add_has : (i w : ℕ) → has i w ≡ true → add i w ≡ w
unfolding add
add_has i w h = rw h

-- Marks of tasks below n stay marks of tasks below n.
pub add_below : (i n w : ℕ) → i < n → w < 2 ^ n → add i w < 2 ^ n
add_below = set_below adds

pub remove_below : (i n w : ℕ) → i < n → w < 2 ^ n → remove i w < 2 ^ n
remove_below = set_below removes
