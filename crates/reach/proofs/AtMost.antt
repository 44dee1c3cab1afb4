-- Different numbers below a bound are at most as many as the bound says.
use mathlib.Core.Path.{◌≡◌, sym, ◌∙◌}
use mathlib.Core.Logic.{ite}
use Prim.Native.Nat.{ℕ, zero, suc, ◌<◌, ◌≤◌}
use native.Mathlib.Decide.{ℕ_discrete}
use native.Mathlib.Omega.{arith}

-- A function's first values stay below a bound, and no two of them are the same.
pub record Apart (bound count : ℕ) (f : ℕ → ℕ) : Type 0 where
  pub small : (i : ℕ) → i < count → f i < bound
  pub apart : (i j : ℕ) → i < count → j < count → f i ≡ f j → i ≡ j

-- The function with its value at n in place of the value b.
abbrev moved : (b n : ℕ) → (ℕ → ℕ) → ℕ → ℕ
moved b n f i = ite (ℕ_discrete (f i) b) (f n) (f i)

module _ (b n : ℕ) (f : ℕ → ℕ) (known : Apart (suc b) (suc n) f) where
  moved_small : (i : ℕ) → i < n → moved b n f i < b
  moved_small i h = by (ℕ_discrete (f i) b)
    where
      by : (d : Dec (f i ≡ b)) → ite d (f n) (f i) < b
      by (yes e) = go (ℕ_discrete (f n) b)
        where
          go : Dec (f n ≡ b) → f n < b
          go (yes last) = let same : n ≡ i = known.apart n i (omega arith) (omega arith) (last ∙ sym e) in absurd (omega arith)
          go (no other) = omega (arith, known.small n (omega arith))
      by (no other) = omega (arith, known.small i (omega arith))

  moved_apart : (i j : ℕ) → i < n → j < n → moved b n f i ≡ moved b n f j → i ≡ j
  moved_apart i j h l = by (ℕ_discrete (f i) b) (ℕ_discrete (f j) b)
    where
      by : (d : Dec (f i ≡ b)) (e : Dec (f j ≡ b)) → ite d (f n) (f i) ≡ ite e (f n) (f j) → i ≡ j
      by (yes d) (yes e) same = known.apart i j (omega arith) (omega arith) (d ∙ sym e)
      by (yes d) (no e) same = let z : n ≡ j = known.apart n j (omega arith) (omega arith) same in absurd (omega arith)
      by (no d) (yes e) same = let z : i ≡ n = known.apart i n (omega arith) (omega arith) same in absurd (omega arith)
      by (no d) (no e) same = known.apart i j (omega arith) (omega arith) same

  moved_known : Apart b n (moved b n f)
  moved_known = record { small = moved_small; apart = moved_apart }

pub at_most : (bound count : ℕ) (f : ℕ → ℕ) → Apart bound count f → count ≤ bound
at_most bound zero f known = omega arith
at_most zero (suc n) f known = absurd (let h = known.small n (omega arith) in omega arith)
at_most (suc b) (suc n) f known = let h = at_most b n (moved b n f) (moved_known b n f known) in omega arith
