-- The next states by the operations passed are met.
use Rattle.std.proofs.Common.{List, ℕ, sym, ap, ◌∙◌, add-one}
use Rattle.table.specs.declared.Entry.{Entry}
use Rattle.reach.specs.Walk.{next_of}
use Rattle.reach.specs.Order.{meet}
use Rattle.reach.specs.Found.{met}
use Rattle.reach.proofs.Turns.{meet_next_suc, next_distinct}
use Rattle.reach.proofs.Words.{list_kept, keeps_kept, keeps_same}
use Rattle.reach.proofs.order.Order.meet_next.Goals as goal

pub meet-requires : goal.meet-requires
meet-requires c =
    keeps_kept c.loop-operation.invariant.keeps (next_distinct c.args.table.file.now c.args.table.shape c.args.state _ _ c.requires.distinct)

pub loop-operation-preserved : goal.loop-operation-preserved
loop-operation-preserved c =
    let a = c.args in
    let l = c.loop-operation in
    let next = ap (λ (e : Entry). e.next) c.read_entry-entry.ensures in
    let more =
    ap (λ (x : List ℕ). meet x (next_of a.table.file.now a.table.shape a.state l.operation)) (sym (list_kept l.invariant.keeps))
    ∙ ap (meet (met l.self)) (sym next) in
    record {
      same_states = c.meet.ensures.same_states ∙ l.invariant.same_states;
      same_number = c.meet.ensures.same_number ∙ l.invariant.same_number;
      keeps = keeps_same c.meet.ensures.keeps (rw add-one (meet_next_suc a.table.file.now a.table.shape a.state l.operation _ ∙ more));
    }
