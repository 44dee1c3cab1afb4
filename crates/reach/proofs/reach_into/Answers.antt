-- Arrays of 256 words that are all 0 keep no state.
use Rattle.std.proofs.Common.{rules, ◌≡◌, length, replicate, arith}
use Rattle.reach.proofs.Words.{cleared_kept}
use Rattle.reach.proofs.reach_into.Goals as goal

pub meet_all-requires : goal.meet_all-requires
meet_all-requires c =
    let order : c.fill.new.self ≡ replicate (length c.args.order.now) 0 = search rules in
    let number : c.fill-2.new.self ≡ replicate (length c.args.number.now) 0 = search rules in
    cleared_kept (length c.args.order.now) (length c.args.number.now) order number (omega arith) (omega arith)
