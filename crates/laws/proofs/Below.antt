-- Laws of a test at every number below a bound, and at some number below it.
use mathlib.Core.Path.{◌≡◌, refl, sym, ap, ap₂, ◌∙◌}
use mathlib.Core.Bool.{Bool, true, false, not, ◌||◌, and-eq-true_iff, or-true}
use mathlib.Core.Logic.{◌⊎◌, ⊎_elim}
use Prim.Native.Nat.{ℕ, zero, suc, ◌<◌}
use native.Mathlib.Nat.{not-suc-le-zero, eq-or-lt_of_le, le_of_suc-le-suc}
use native.Mathlib.Omega.{arith}
use borrow.Author.Tests.{not-true, not-false}
use Rattle.laws.specs.Below.{all_below, any_below}
use Rattle.laws.proofs.Clash.{clash}

last_or_below : (k n : ℕ) → k < suc n → (k ≡ n) ⊎ (k < n)
last_or_below k n h = eq-or-lt_of_le (le_of_suc-le-suc h)

-- What holds of every number is known at each.
pub all_at : (n : ℕ) (test : ℕ → Bool) → all_below n test ≡ true → (k : ℕ) → k < n → test k ≡ true
unfolding all_below
all_at zero test e k h = absurd (not-suc-le-zero h)
all_at (suc n) test e k h =
    let both : (test n ≡ true) × (all_below n test ≡ true) = (and-eq-true_iff (test n) (all_below n test)).0 e in
    ⊎_elim (λ q. ap test q ∙ both.0) (λ l. all_at n test both.1 k l) (last_or_below k n h)

-- What holds at each number holds of every one.
pub all_of : (n : ℕ) (test : ℕ → Bool) → ((k : ℕ) → k < n → test k ≡ true) → all_below n test ≡ true
unfolding all_below
all_of zero test h = refl
all_of (suc n) test h = (and-eq-true_iff (test n) (all_below n test)).1 (h n (omega arith), all_of n test (λ k l. h k (omega arith)))

-- One number at which the test fails is enough.
pub not_all : (n : ℕ) (test : ℕ → Bool) (k : ℕ) → k < n → test k ≡ false → all_below n test ≡ false
not_all n test k h e = by (all_below n test) refl
  where
    by : (b : Bool) → all_below n test ≡ b → b ≡ false
    by true q = sym (all_at n test q k h) ∙ e
    by false q = refl

-- One number at which the test holds is enough.
pub any_of : (n : ℕ) (test : ℕ → Bool) (k : ℕ) → k < n → test k ≡ true → any_below n test ≡ true
unfolding any_below
any_of zero test k h e = absurd (not-suc-le-zero h)
any_of (suc n) test k h e =
    ⊎_elim
    (λ q. ap (λ (b : Bool). b || any_below n test) (sym (ap test q) ∙ e))
    (λ l. ap (λ (b : Bool). test n || b) (any_of n test k l e) ∙ or-true (test n))
    (last_or_below k n h)

-- What fails at each number holds at none.
pub not_any : (n : ℕ) (test : ℕ → Bool) → ((k : ℕ) → k < n → test k ≡ false) → any_below n test ≡ false
unfolding any_below
not_any zero test h = refl
not_any (suc n) test h = ap (λ (b : Bool). b || any_below n test) (h n (omega arith)) ∙ not_any n test (λ k l. h k (omega arith))

-- What holds at no number fails at each.
pub none_at : (n : ℕ) (test : ℕ → Bool) → any_below n test ≡ false → (k : ℕ) → k < n → test k ≡ false
none_at n test e k h = by (test k) refl
  where
    by : (b : Bool) → test k ≡ b → b ≡ false
    by true q = sym (any_of n test k h q) ∙ e
    by false q = refl

-- What holds at some number is known at one.
pub some_at : (n : ℕ) (test : ℕ → Bool) → any_below n test ≡ true → (k : ℕ) × (k < n) × (test k ≡ true)
unfolding any_below
some_at zero test e = clash e refl
some_at (suc n) test e = by (test n) refl (some_at n test)
  where
    by : (b : Bool) → test n ≡ b → (any_below n test ≡ true → (k : ℕ) × (k < n) × (test k ≡ true)) → (k : ℕ) × (k < suc n) × (test k ≡ true)
    by true q lower = (n, omega arith, q)
    by false q lower = let (k, h, holds) = lower (sym (ap (λ (b : Bool). b || any_below n test) q) ∙ e) in (k, omega arith, holds)

-- Two tests that agree below the bound hold at some number together.
pub any_same : (n : ℕ) (one other : ℕ → Bool) → ((k : ℕ) → k < n → one k ≡ other k) → any_below n one ≡ any_below n other
unfolding any_below
any_same zero one other same = refl
any_same (suc n) one other same = ap₂ (λ a b. a || b) (same n (omega arith)) (any_same n one other (λ k h. same k (omega arith)))

-- What does not hold everywhere fails somewhere.
pub some_fails : (n : ℕ) (test : ℕ → Bool) → all_below n test ≡ false → any_below n (λ k. not (test k)) ≡ true
some_fails n test e = by (any_below n (λ k. not (test k))) refl
  where
    by : (b : Bool) → any_below n (λ k. not (test k)) ≡ b → b ≡ true
    by true q = refl
    by false q = sym e ∙ all_of n test (λ k h. not-false _ (none_at n (λ k. not (test k)) q k h))

pub fails_at : (n : ℕ) (test : ℕ → Bool) → all_below n test ≡ false → (k : ℕ) × (k < n) × (test k ≡ false)
fails_at n test e = let (k, h, fails) = some_at n (λ k. not (test k)) (some_fails n test e) in (k, h, not-true (test k) fails)
