-- A function with another value at one place.
use Rattle.std.proofs.Math.Logic.{ite}
use Rattle.std.specs.Prelude.{ℕ}
use Rattle.std.proofs.Math.Decide.{ℕ_discrete}

-- The function f with x at j.
unfoldable pub update : {A : Type 0} → (ℕ → A) → ℕ → A → ℕ → A
update f j x k = ite (ℕ_discrete j k) x (f k)
