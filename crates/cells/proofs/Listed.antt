-- The answers are those by the list of ceilings.
use mathlib.Core.Path.{◌≡◌, refl}
use mathlib.Core.Bool.{Bool, true, false, ◌&&◌}
use Prim.Native.Nat.{ℕ}
use lib.Dec.{leb}
use Rattle.cells.specs.Ceiling.{ceiling_of, ceiling_said, listed_ceiling}
use Rattle.cells.specs.Statement.{AsListed}
use Rattle.cells.proofs.Served.{in_range}
use Rattle.cells.proofs.Ceilings.{entry_cubed}

-- So is the answer for every number of tasks.
pub as_listed : (n : ℕ) → AsListed n
unfolding ceiling_of listed_ceiling
as_listed n = by (leb 1 n && leb n 8) refl
  where
    by : (b : Bool) → leb 1 n && leb n 8 ≡ b → ceiling_said (ceiling_of n) ≡ listed_ceiling n
    by true e = let range = in_range n e in rw (e, entry_cubed n range.0 range.1)
    by false e = rw e
