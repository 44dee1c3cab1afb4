-- Yes and no as numbers: a number of one bit is that of its reading.
use mathlib.Core.Path.{◌≡◌, refl}
use mathlib.Core.Bool.{Bool, true, false}
use Prim.Native.Nat.{ℕ, ◌<◌}
use native.Mathlib.Omega.{arith}
use borrow.Author.Tests.{eqb-true, eqb-false}
use lib.Dec.{eqb}
use Rattle.laws.specs.Bit.{bit}

-- Yes and no are read as they were written.
pub bit_read : (b : Bool) → eqb (bit b) 1 ≡ b
bit_read true = refl
bit_read false = refl

-- A number below 2 is written as it was read.
pub bit_written : (v : ℕ) → v < 2 → bit (eqb v 1) ≡ v
bit_written v h = at (eqb v 1) refl
  where
    at : (b : Bool) → eqb v 1 ≡ b → bit (eqb v 1) ≡ v
    at true e = rw (e, eqb-true v 1 e)
    at false e = let none : v ≡ 0 = omega (arith, h, eqb-false v 1 e) in rw (e, none)

-- A bit is 0 or 1.
pub bit_below : (b : Bool) → bit b < 2
bit_below true = omega arith
bit_below false = omega arith
