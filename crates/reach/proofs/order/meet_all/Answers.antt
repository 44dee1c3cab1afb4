-- The states at the places passed have had their turn.
use Rattle.std.proofs.Common.{List, ℕ, ◌≡◌, ◌<◌, length, get_or, sym, ap, ◌∙◌, add-one, arith}
use Rattle.reach.specs.Order.{meet_next, turns}
use Rattle.reach.specs.Found.{met}
use Rattle.reach.proofs.Turns.{turns_suc, turn_taken, turns_distinct}
use Rattle.reach.proofs.Words.{order_words_at, list_kept, keeps_kept, keeps_same, kept_few, kept_order_long}
use Rattle.reach.proofs.order.meet_all.Goals as goal

pub bounds-order-from : goal.bounds-order-from
bounds-order-from c =
    let kept = keeps_kept c.loop-place.invariant.1.keeps (turns_distinct c.args.table.file.now c.args.table.shape c.loop-place.place) in
    omega (arith, c.from.ensures, c.loop-place-test.true, kept_few kept, kept_order_long kept)

pub meet_next-requires : goal.meet_next-requires
meet_next-requires c = keeps_kept c.loop-place.invariant.1.keeps (turns_distinct c.args.table.file.now c.args.table.shape c.loop-place.place)

pub loop-place-smaller : goal.loop-place-smaller
loop-place-smaller c =
    let kept = keeps_kept c.loop-place.invariant.1.keeps (turns_distinct c.args.table.file.now c.args.table.shape c.loop-place.place) in
    omega (arith, c.loop-place-test.true, kept_few kept)

pub loop-place-preserved : goal.loop-place-preserved
loop-place-preserved c =
    let a = c.args in
    let l = c.loop-place in
    let list : List ℕ = turns a.table.file.now a.table.shape l.place in
    let keeps = l.invariant.1.keeps in
    let below : l.place < length list = omega (arith, c.loop-place-test.true, keeps.count_is) in
    let few = kept_few (keeps_kept keeps (turns_distinct a.table.file.now a.table.shape l.place)) in
    let state : ℕ = get_or l.order.states.now c.from.result 0 in
    let here : state ≡ get_or list l.place 0 =
    ap (λ (k : ℕ). get_or l.order.states.now k 0) c.from.ensures ∙ ap (λ (x : List ℕ). get_or x l.place 0) keeps.order_is ∙ order_words_at list l.place below in
    let turned = turns_suc a.table.file.now a.table.shape l.place ∙ turn_taken a.table.file.now a.table.shape list l.place below in
    let more =
    ap (λ (q : ℕ). meet_next a.table.file.now a.table.shape q a.table.shape.operations list) (sym here)
    ∙ ap (meet_next a.table.file.now a.table.shape state a.table.shape.operations) (sym (list_kept keeps)) in
    let after : List ℕ = meet_next a.table.file.now a.table.shape state a.table.shape.operations (met l.order) in (
      omega (arith, below, few, keeps.count_is),
      record {
        same_states = c.meet_next.ensures.same_states ∙ l.invariant.1.same_states;
        same_number = c.meet_next.ensures.same_number ∙ l.invariant.1.same_number;
        keeps = keeps_same {list = after} c.meet_next.ensures.keeps (rw add-one (turned ∙ more));
      },
    )
