-- The lowest number below a bound at which a test holds, found by trial from 0 up.
use Rattle.std.specs.Prelude.{Bool, cond, ℕ, zero, suc}

-- It is the bound itself if the test holds at no number below it.
unfoldable pub lowest_below : ℕ → (ℕ → Bool) → ℕ
lowest_below zero test = zero
lowest_below (suc n) test = cond (test zero) zero (suc (lowest_below n (λ k. test (suc k))))
