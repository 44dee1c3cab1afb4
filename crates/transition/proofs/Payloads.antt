-- A payload keeps an outcome: it is read as it was written, and written as it was read.
use mathlib.Core.Path.{◌≡◌, ap, ◌∙◌}
use mathlib.Core.Bool.{Bool}
use Prim.Native.Nat.{ℕ, ◌+◌, ◌*◌, ◌/◌, ◌%◌, ◌<◌}
use native.Mathlib.Omega.{arith}
use lib.Dec.{eqb}
use Rattle.laws.specs.Bit.{bit}
use Rattle.laws.proofs.Bits.{bit_read, bit_written, bit_below}
use Rattle.transition.specs.Transition.{payload_of, named, moved_by}

module _ (r : ℕ) (moved : Bool) (h : r < 65536) where
  pub response_kept : named (payload_of r moved) ≡ r
  response_kept = omega (arith, h)

  pub moved_kept : moved_by (payload_of r moved) ≡ moved
  moved_kept =
      let high : (r + 65536 * bit moved) / 65536 % 2 ≡ bit moved = omega (arith, h, bit_below moved) in
      ap (λ v. eqb v 1) high ∙ bit_read moved

pub payload_kept : (p : ℕ) → p < 131072 → payload_of (named p) (moved_by p) ≡ p
payload_kept p h =
    let high : p / 65536 % 2 < 2 = omega arith in
    let bits : bit (moved_by p) ≡ p / 65536 % 2 = bit_written (p / 65536 % 2) high in
    omega (arith, h, bits)
