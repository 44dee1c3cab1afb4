-- The object of a table.
use Rattle.std.specs.Prelude.{◌≡◌, List, ℕ, ◌^◌, Ok}
use Rattle.cells.specs.Layout.{response_width}
use Rattle.table.specs.declared.Shape.{Shape}
use Rattle.table.specs.File.{Bytes}
use Rattle.table.specs.Check.{check_of}
use Rattle.table.specs.Entries.{entry_of, moves}
use Rattle.reach.specs.Changing.{reachable, changing}
use Rattle.machine.specs.Object.{Object}

-- A file of bytes that is accepted as a table of this shape.
pub record ObjectTable (file : List ℕ) (shape : Shape) : Type 0 where
  pub bytes : Bytes file
  pub accepted : check_of file ≡ Ok shape

-- Its object: next state and response stand in its entries, an entry with another next state than its own moves the state, and the
-- good states are those that can be reached from the start state.
abbrev pub object_of : List ℕ → Shape → Object
object_of file shape = record {
  next = λ q o. (entry_of file shape q o).next;
  outcome = λ q o. record { response = (entry_of file shape q o).response; moved = moves file shape q o };
  changing = changing file shape;
  operations = shape.operations;
  outcomes = 2 ^ response_width;
  good = reachable file shape;
}
