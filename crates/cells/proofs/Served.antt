-- The test that a ceiling makes of a number of tasks.
use mathlib.Core.Path.{◌≡◌}
use mathlib.Core.Bool.{true, ◌&&◌, and-eq-true_iff}
use Prim.Native.Nat.{ℕ, ◌≤◌}
use native.Mathlib.Omega.{arith}
use borrow.Author.Tests.{leb-true, le-leb}
use lib.Dec.{leb}

-- 1 to 8 tasks pass it.
pub passes : (n : ℕ) → 1 ≤ n → n ≤ 8 → leb 1 n && leb n 8 ≡ true
passes n h l = simp (le-leb 1 n (omega arith), le-leb n 8 l)

-- No others do.
pub in_range : (n : ℕ) → leb 1 n && leb n 8 ≡ true → (1 ≤ n) × (n ≤ 8)
in_range n e = let both = (and-eq-true_iff (leb 1 n) (leb n 8)).0 e in (leb-true 1 n both.0, leb-true n 8 both.1)
