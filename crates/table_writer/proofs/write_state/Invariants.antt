use mathlib.Core.Path.{◌≡◌}
use lib.Seq.{sets}
use Rattle.table_writer.specs.Written.{state_bytes}
use Rattle.table_writer.proofs.write_state.Given as goal

abbrev pub invariant-loop-operation : goal.invariant-loop-operation
invariant-loop-operation g l = l.room ≡ sets l.initial.room l.at (state_bytes l.operation (g.E.Entries.entry_of l.entries l.state))
