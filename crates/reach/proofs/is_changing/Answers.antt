-- The order that the arrays keep decides.
use Rattle.std.proofs.Common.{ℕ, sym, ap, length, take, ◌∙◌, arith}
use Rattle.reach.proofs.Turns.{order_distinct}
use Rattle.reach.proofs.Words.{list_kept, keeps_kept, kept_few, kept_order_long}
use Rattle.reach.proofs.ChangingWords.{changing_by_states}
use Rattle.reach.proofs.is_changing.Goals as goal

pub slice_bounds-order-end : goal.slice_bounds-order-end
slice_bounds-order-end c =
    let kept = keeps_kept c.meet_all-count.ensures (order_distinct _ _) in
    omega (arith, kept_few kept, kept_order_long kept)

pub slice_bounds-moves_met-end : goal.slice_bounds-moves_met-end
slice_bounds-moves_met-end c = rw c.from.ensures (c.meet_all-count.ensures.count_is ∙ ap length (sym (list_kept c.meet_all-count.ensures)))

pub returns : goal.returns
returns c = c.moves_met.ensures ∙ changing_by_states _ _ _ (ap (λ (k : ℕ). take k c.meet_all-count.new.order) c.from.ensures ∙ list_kept c.meet_all-count.ensures)
