-- A number that is not 0 is one more than another.
use Prim.Native.Nat.{ℕ, zero, suc, ◌-◌, ◌≤◌}
use native.Mathlib.Numerals.{sub-one}
use native.Mathlib.Omega.{arith}

-- What holds of every number and the one before holds of it.
pub from_one : (P : ℕ → ℕ → Type 0) → ((k : ℕ) → P (suc k) k) → (n : ℕ) → 1 ≤ n → P n (n - 1)
from_one P f zero some = absurd (omega arith)
from_one P f (suc k) some = rw sub-one (f k)
