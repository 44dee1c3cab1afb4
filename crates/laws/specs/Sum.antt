-- The sum of a function's first values.
use Rattle.std.proofs.Math.Logic.{ite}
use Rattle.std.specs.Prelude.{ℕ, zero, suc, ◌+◌}
use Rattle.std.proofs.Math.Decide.{ℕ_discrete}

abbrev pub sum : ℕ → (ℕ → ℕ) → ℕ
sum zero f = 0
sum (suc n) f = sum n f + f n

-- The function with 0 at p.
abbrev pub but : ℕ → (ℕ → ℕ) → ℕ → ℕ
but p f x = ite (ℕ_discrete x p) 0 (f x)
