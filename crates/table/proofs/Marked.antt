-- A file ends in the mark as lists do.
use mathlib.Core.Path.{◌≡◌}
use mathlib.Core.List.{List}
use Prim.Native.Nat.{ℕ}
use lib.Dec.{eqb}
use Rattle.std.specs.List.{ends_with}
use Rattle.laws.proofs.Endings.{ends_place_by_place}
use Rattle.table.specs.File.{mark, ends_in_mark}

pub mark_ends : (file : List ℕ) → ends_with eqb file mark ≡ ends_in_mark file
unfolding ends_in_mark
mark_ends file = ends_place_by_place file mark
