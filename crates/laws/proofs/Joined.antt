-- Lists of one length, one after the other: their length, and the elements of each.
use mathlib.Core.Path.{◌≡◌, refl, ◌∙◌}
use mathlib.Core.List.{List, ◌++◌}
use Prim.Native.Nat.{ℕ, zero, suc, ◌+◌, ◌*◌, ◌<◌, ◌≤◌}
use native.Mathlib.Decide.{ℕ_discrete}
use native.Mathlib.Omega.{arith}
use native.Mathlib.Nat.{mul-le-mul_right}
use lib.ListN.{length, get_or, length-append, get_or-append}
use lib.Seq.{get_or-append-add}
use Rattle.laws.specs.Joined.{joined}
use Rattle.laws.proofs.Lists.{none_all, append_all}

-- What holds of all elements of each list, and of the value past the end, holds of all.
pub joined_all : {A : Type 0} (P : A → Type 0) (d : A) (f : ℕ → List A) → P d → ((k i : ℕ) → P (get_or (f k) i d)) → (n i : ℕ) → P (get_or (joined n f) i d)
unfolding joined
joined_all P d f past each zero i = none_all P d past i
joined_all P d f past each (suc n) i = append_all P d (joined n f) (f n) (joined_all P d f past each n) (each n) i

module _ {A : Type 0} (f : ℕ → List A) (width : ℕ) (wide : (k : ℕ) → length (f k) ≡ width) where
  pub joined_length : (n : ℕ) → length (joined n f) ≡ width * n
  unfolding joined
  joined_length zero = omega arith
  joined_length (suc n) = omega (arith, length-append (joined n f) (f n), joined_length n, wide n)

  pub joined_at : (n : ℕ) (d : A) (k i : ℕ) → k < n → i < width → get_or (joined n f) (width * k + i) d ≡ get_or (f k) i d
  unfolding joined
  joined_at zero d k i h l = absurd (omega arith)
  joined_at (suc n) d k i h l = by (joined_at n d k i) (ℕ_discrete k n)
    where
      by : (k < n → i < width → get_or (joined n f) (width * k + i) d ≡ get_or (f k) i d) → Dec (k ≡ n) → get_or (joined n f ++ f n) (width * k + i) d ≡ get_or (f k) i d
      by below (yes e) = rw (e, ← joined_length n) (get_or-append-add (joined n f) (f n) i d)
      by below (no e) =
          let b : suc k ≤ n = omega arith in
          get_or-append (joined n f) (f n) d (width * k + i) (omega (arith, joined_length n, mul-le-mul_right width b)) ∙ below b l

-- Lists that are the same one by one are the same joined.
pub joined_same : {A : Type 0} (f g : ℕ → List A) (n : ℕ) → ((k : ℕ) → k < n → f k ≡ g k) → joined n f ≡ joined n g
unfolding joined
joined_same f g zero same = refl
joined_same f g (suc n) same = rw (joined_same f g n (λ k h. same k (omega arith)), same n (omega arith))
