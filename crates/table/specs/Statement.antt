-- What is proved of the test of a whole table: which files it accepts, and which entries it looks at.
use Rattle.std.specs.Prelude.{◌≡◌, ◌↔◌, List, ℕ, ◌<◌, ◌≤◌, Ok}
use Rattle.refusal.specs.Number.{refused_by}
use Rattle.table.specs.declared.Shape.{Shape}
use Rattle.table.specs.Layout.{layout_of}
use Rattle.table.specs.Entries.{entry_of}
use Rattle.table.specs.Check.{check_of, check_said}

-- Every entry of a table, of each state and each operation, leads to one of its states.
abbrev pub AllInRange : List ℕ → Shape → Type 0
AllInRange file shape = (state operation : ℕ) → state < shape.states → operation < shape.operations → (entry_of file shape state operation).next < shape.states

-- Some entry leads to no state of the table.
pub record OutOfRange (file : List ℕ) (shape : Shape) : Type 0 where
  pub state : ℕ
  pub operation : ℕ
  pub state_below : state < shape.states
  pub operation_below : operation < shape.operations
  pub beyond : shape.states ≤ (entry_of file shape state operation).next

pub record CheckAnswered (file : List ℕ) : Type 0 where
  -- 1 to 3 exactly if length, mark and trailer alone are answered so.
  pub layout : (number : ℕ) → 1 ≤ number → number ≤ 3 → (check_said (check_of file) ≡ refused_by number) ↔ (check_said (layout_of file) ≡ refused_by number)
  -- 4 exactly if these are accepted and some entry is out of range.
  pub entries : (check_said (check_of file) ≡ refused_by 4) ↔ ((shape : Shape) × (layout_of file ≡ Ok shape) × OutOfRange file shape)
  -- A shape exactly if these are accepted with it and every entry is in range.
  pub accepts : (shape : Shape) → (check_of file ≡ Ok shape) ↔ ((layout_of file ≡ Ok shape) × AllInRange file shape)
  -- No other number is answered.
  pub only : (number : ℕ) → 1 ≤ number → check_said (check_of file) ≡ refused_by number → number ≤ 4
