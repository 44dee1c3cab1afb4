-- The lowest number at which a test holds: what it is where the test is known, and what is known of the test where it is.
use mathlib.Core.Path.{◌≡◌, refl, sym, ap, ◌∙◌}
use mathlib.Core.Bool.{Bool, true, false, cond}
use Prim.Native.Nat.{ℕ, zero, suc, ◌<◌, ◌≤◌}
use native.Mathlib.Omega.{arith}
use borrow.Author.Tests.{ltb-true, ltb-false}
use lib.Dec.{ltb}
use Rattle.laws.specs.Below.{any_below}
use Rattle.laws.specs.Lowest.{lowest_below}
use Rattle.laws.proofs.Below.{any_of, not_any}

-- The test holds at k and at no lower number.
pub lowest_at : (n : ℕ) (test : ℕ → Bool) (k : ℕ) → k < n → test k ≡ true → ((j : ℕ) → j < k → test j ≡ false) → lowest_below n test ≡ k
unfolding lowest_below
lowest_at zero test k h e lower = absurd (omega arith)
lowest_at (suc n) test zero h e lower = simp e
lowest_at (suc n) test (suc k) h e lower =
    simp (lower 0 (omega arith)) (ap suc (lowest_at n (λ j. test (suc j)) k (omega arith) e (λ j l. lower (suc j) (omega arith))))

-- The test holds at no number below the bound.
pub lowest_none : (n : ℕ) (test : ℕ → Bool) → ((k : ℕ) → k < n → test k ≡ false) → lowest_below n test ≡ n
unfolding lowest_below
lowest_none zero test none = refl
lowest_none (suc n) test none = simp (none 0 (omega arith)) (ap suc (lowest_none n (λ k. test (suc k)) (λ k l. none (suc k) (omega arith))))

-- Where a number below the bound was found, the test holds at it; at every lower one it does not.
pub record Found (n : ℕ) (test : ℕ → Bool) (k : ℕ) : Type 0 where
  pub bounded : k ≤ n
  pub holds : k < n → test k ≡ true
  pub lower : (j : ℕ) → j < k → test j ≡ false

pub lowest_found : (n : ℕ) (test : ℕ → Bool) → Found n test (lowest_below n test)
unfolding lowest_below
lowest_found zero test = record { bounded = omega arith; holds = λ h. absurd (omega arith); lower = λ j h. absurd (omega arith) }
lowest_found (suc n) test = by (test zero) refl (lowest_found n (λ k. test (suc k)))
  where
    later : (k : ℕ) → test zero ≡ false → Found n (λ k. test (suc k)) k → (j : ℕ) → j < suc k → test j ≡ false
    later k e found zero h = e
    later k e found (suc j) h = found.lower j (omega arith)

    by : (b : Bool) → test zero ≡ b → Found n (λ k. test (suc k)) (lowest_below n (λ k. test (suc k))) → Found (suc n) test (cond b zero (suc (lowest_below n (λ k. test (suc k)))))
    by true e found = record { bounded = omega arith; holds = λ _. e; lower = λ j h. absurd (omega arith) }
    by false e found =
        let k : ℕ = lowest_below n (λ k. test (suc k)) in
        let b : k ≤ n = found.bounded in
        record { bounded = omega arith; holds = λ h. found.holds (omega arith); lower = later k e found }

-- A number below the bound is found exactly if the test holds at some.
pub lowest_any : (n : ℕ) (test : ℕ → Bool) → ltb (lowest_below n test) n ≡ any_below n test
lowest_any n test = by (ltb (lowest_below n test) n) refl
  where
    by : (b : Bool) → ltb (lowest_below n test) n ≡ b → b ≡ any_below n test
    by true e =
        let h = ltb-true _ _ e in
        sym (any_of n test (lowest_below n test) h ((lowest_found n test).holds h))
    by false e =
        let past : n ≤ lowest_below n test = ltb-false _ _ e in
        sym (not_any n test (λ k h. (lowest_found n test).lower k (omega arith)))

-- The lowest number at which the test holds, or 0 if there is none.
unfoldable pub choose : (n : ℕ) → (ℕ → Bool) → ℕ
choose n test = cond (ltb (lowest_below n test) n) (lowest_below n test) 0

module _ (n : ℕ) (test : ℕ → Bool) where
  -- It is below the bound, if any number is.
  pub choose_below : 1 ≤ n → choose n test < n
  unfolding choose
  choose_below some = by (ltb (lowest_below n test) n) refl
    where
      by : (b : Bool) → ltb (lowest_below n test) n ≡ b → cond b (lowest_below n test) 0 < n
      by true e = ltb-true _ _ e
      by false e = some

  -- The test holds at it, if it holds at some number below the bound.
  pub choose_holds : any_below n test ≡ true → test (choose n test) ≡ true
  unfolding choose
  choose_holds any = let below = lowest_any n test ∙ any in simp below ((lowest_found n test).holds (ltb-true _ _ below))
