-- docs/FORMATS.md, "The object table": which states can be reached from the start state. It knows no order of states.
use Rattle.std.specs.Prelude.{◌≡◌, List, [], ◌∷◌, ℕ, ◌<◌}
use Rattle.table.specs.declared.Shape.{Shape}
use Rattle.table.specs.Entries.{entry_of}

-- The state after an operation.
abbrev pub next_of : List ℕ → Shape → (state operation : ℕ) → ℕ
next_of file shape state operation = (entry_of file shape state operation).next

-- The state after a list of operations.
abbrev pub walk : List ℕ → Shape → ℕ → List ℕ → ℕ
walk file shape state [] = state
walk file shape state (operation ∷ rest) = walk file shape (next_of file shape state operation) rest

-- Every operation of a list is below their number.
pub data AllBelow (operations : ℕ) : List ℕ → Type 0 where
  none : AllBelow operations []
  more : {operation : ℕ} {rest : List ℕ} → operation < operations → AllBelow operations rest → AllBelow operations (operation ∷ rest)

-- Some list of the table's operations walks from the start state to a state.
pub record Reachable (file : List ℕ) (shape : Shape) (state : ℕ) : Type 0 where
  pub by : List ℕ
  pub known : AllBelow shape.operations by
  pub arrives : walk file shape shape.start by ≡ state
