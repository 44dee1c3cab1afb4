use mathlib.Core.Path.{◌≡◌}
use lib.Seq.{sets}
use Rattle.table_writer.specs.Written.{entries_of}
use Rattle.table_writer.proofs.write_states.Given as goal

abbrev pub invariant-loop-state : goal.invariant-loop-state
invariant-loop-state g l = l.room ≡ sets l.initial.room 0 (entries_of l.state (g.E.Entries.shape_of l.entries).operations (g.E.Entries.entry_of l.entries))
