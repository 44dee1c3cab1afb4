use Rattle.std.proofs.Common.{◌≡◌}
use Rattle.drive.proofs.Starts.{filled_to}
use Rattle.drive.proofs.fill_row.Given as goal

abbrev pub invariant-loop-place : goal.invariant-loop-place
invariant-loop-place l = l.row ≡ filled_to l.place l.fn.row
