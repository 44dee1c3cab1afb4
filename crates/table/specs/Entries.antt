-- docs/FORMATS.md, "The object table": the entries, which next states are in range, and where an operation moves the state.
use Rattle.std.specs.Prelude.{Bool, not, List, ℕ, ◌+◌, ◌*◌, ltb, eqb}
use Rattle.table.specs.declared.Shape.{Shape}
use Rattle.table.specs.declared.Entry.{Entry}
use Rattle.laws.specs.Below.{all_below}
use Rattle.table.specs.File.{byte_at}

-- An entry's length: next state, response.
abbrev pub entry_bytes : ℕ
entry_bytes = 2

-- Where an entry stands: entries run by state, then by operation.
abbrev pub entry_place : Shape → ℕ → ℕ → ℕ
entry_place shape state operation = shape.offset + entry_bytes * (state * shape.operations + operation)

-- The entry of a state and an operation.
unfoldable pub entry_of : List ℕ → Shape → ℕ → ℕ → Entry
entry_of file shape state operation =
    record { next = byte_at file (entry_place shape state operation); response = byte_at file (entry_place shape state operation + 1) }

-- The entry's next state is below the number of states.
unfoldable pub entry_in_range : List ℕ → Shape → ℕ → ℕ → Bool
entry_in_range file shape state operation = ltb (entry_of file shape state operation).next shape.states

-- All entries of one operation are in range.
unfoldable pub operation_in_range : List ℕ → Shape → ℕ → Bool
operation_in_range file shape operation = all_below shape.states (λ state. entry_in_range file shape state operation)

-- All entries of the table are in range.
unfoldable pub entries_in_range : List ℕ → Shape → Bool
entries_in_range file shape = all_below shape.operations (operation_in_range file shape)

-- The entry of a state and an operation has a next state other than that state: the operation moves the state there.
unfoldable pub moves : List ℕ → Shape → ℕ → ℕ → Bool
moves file shape state operation = not (eqb (entry_of file shape state operation).next state)
