use Prim.Native.Nat.{◌-◌, ◌≤◌}
use Rattle.table.specs.Layout.{most_states}
use Rattle.reach.specs.Order.{turns}
use Rattle.reach.specs.Found.{Finds}
use Rattle.reach.proofs.order.meet_all.Given as goal

abbrev pub invariant-loop-place : goal.invariant-loop-place
invariant-loop-place l = (l.place ≤ most_states) × Finds (turns l.table.file.now l.table.shape l.place) l.initial.order l.order

abbrev pub decreases-loop-place : goal.decreases-loop-place
decreases-loop-place l = most_states - l.place
