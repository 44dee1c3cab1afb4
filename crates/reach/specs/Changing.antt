-- docs/FORMATS.md, "The object table": which operations are changing.
use Rattle.std.specs.Prelude.{Bool, ◌&&◌, List, ℕ}
use Rattle.laws.specs.Below.{any_below}
use Rattle.table.specs.declared.Shape.{Shape}
use Rattle.table.specs.Entries.{moves}
use Rattle.reach.specs.Order.{listed, order_of}

-- A state can be reached from the start state: it stands in the order of first meeting.
unfoldable pub reachable : List ℕ → Shape → ℕ → Bool
reachable file shape state = listed (order_of file shape) state

-- The operation moves some state of the table that can be reached; otherwise the operation is reading.
unfoldable pub changing : List ℕ → Shape → ℕ → Bool
changing file shape operation = any_below shape.states (λ state. reachable file shape state && moves file shape state operation)
