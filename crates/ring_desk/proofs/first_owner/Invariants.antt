use Prim.Native.Nat.{ℕ, ◌*◌, ◌<◌, ◌≤◌}
use mathlib.Core.Path.{◌≡◌}
use mathlib.Core.Bool.{false}
use Rattle.ring_desk.specs.Rings.{longest_ring, start_of}
use Rattle.ring_desk.specs.Owner.{owns}
use Rattle.ring_desk.proofs.first_owner.Given as goal

abbrev pub invariant-loop-place : goal.invariant-loop-place
invariant-loop-place l = (l.start ≡ start_of l.rings l.place) × ((l.start ≤ longest_ring * l.place) × ((k : ℕ) → k < l.place → owns l.rings l.chainage k ≡ false))
