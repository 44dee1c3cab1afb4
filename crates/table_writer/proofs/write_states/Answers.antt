-- The entries of a state are written where those of the states before it end.
use Rattle.std.proofs.Common.{◌≡◌, ◌+◌, ◌*◌, ap, length, add-one, arith}
use Rattle.laws.specs.Joined.{joined}
use Rattle.laws.proofs.Lists.{sets_then}
use Rattle.table.specs.declared.Shape.{Shape}
use Rattle.table_writer.specs.Written.{entries_of}
use Rattle.table_writer.proofs.ReadsBack.{entries_length}
use Rattle.table_writer.proofs.write_states.Goals as goal

pub loop-state-preserved : goal.loop-state-preserved
unfolding joined
loop-state-preserved g c =
    let shape = g.E.Entries.shape_of c.args.entries.now in
    let entry = g.E.Entries.entry_of c.args.entries.now in
    let state = c.loop-state.state in
    let at : 2 * c.from-step.result * c.from.result ≡ 0 + length (entries_of state shape.operations entry) =
    rw (c.from-step.ensures, ap (λ (s : Shape). s.operations) c.shape-shape.ensures, c.from.ensures) (omega (arith, entries_length state shape.operations entry)) in
    rw add-one (sets_then _ _ _ _ c.loop-state.invariant at c.write_state.ensures)
