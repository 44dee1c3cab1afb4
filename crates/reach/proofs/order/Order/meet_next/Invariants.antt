use Rattle.reach.specs.Order.{meet_next}
use Rattle.reach.specs.Found.{met, Finds}
use Rattle.reach.proofs.order.Order.meet_next.Given as goal

abbrev pub invariant-loop-operation : goal.invariant-loop-operation
invariant-loop-operation l =
    Finds (meet_next l.table.file.now l.table.shape l.state l.operation (met l.initial.self)) l.initial.self l.self
