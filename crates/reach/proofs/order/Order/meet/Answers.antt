-- A state without a number is put at the end of the order, and gets the next number.
use Rattle.std.proofs.Common.{refl, arith}
use Rattle.reach.proofs.Words.{kept_order_long, kept_room, kept_more}
use Rattle.reach.proofs.order.Order.meet.Goals as goal

pub bounds-self-from : goal.bounds-self-from
bounds-self-from c =
    omega (arith, c.from.ensures, kept_order_long c.requires, kept_room c.requires c.args.state (omega arith) (rw (← c.from-at.ensures) (omega arith)))

pub returns : goal.returns
returns c = record { same_states = refl; same_number = refl; keeps = rw (c.from-at.ensures, c.from.ensures) (kept_more c.requires c.args.state (omega arith) (rw (← c.from-at.ensures) (omega arith))) }
