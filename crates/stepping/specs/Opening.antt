-- How a run opens. Every statement about runs is over an opening; an accepted start is one, with the table's start state.
use Rattle.std.specs.Prelude.{◌≡◌, List, ℕ, ◌≤◌}
use Rattle.cells.specs.Image.{image}
use Rattle.table.specs.declared.Shape.{Shape}
use Rattle.reach.specs.Walk.{Reachable}
use Rattle.machine.specs.Object.{Object}
use Rattle.machine.specs.Demand.{Shown}
use Rattle.records.specs.declared.record.Task.{Task}
use Rattle.transition.specs.Object.{ObjectTable, object_of}
use Rattle.stepping.specs.Call.{idle_row, start_of}
use Rattle.stepping.specs.Runs.{Store, shown_by}

-- An accepted table, n from 1 to 8, a state that can be reached from its start state, cells that are the image of that state, and an
-- idle row.
pub record Opening (file : List ℕ) (n q : ℕ) (s : Store) : Type 0 where
  pub shape : Shape
  pub table : ObjectTable file shape
  pub some : 1 ≤ n
  pub few : n ≤ 8
  pub reached : Reachable file shape q
  pub cells : s.cells ≡ image n q
  pub row : s.row ≡ idle_row n

-- The table's object, and what the calls on these cells and this row show.
abbrev pub object_in : {file : List ℕ} {n q : ℕ} {s : Store} → Opening file n q s → Object
object_in {file} o = object_of file o.shape

abbrev pub shown : {file : List ℕ} {n q : ℕ} {s : Store} → Opening file n q s → Shown (List ℕ)
shown {file} {s = s} o = shown_by file s

-- What a call of start leaves.
abbrev pub start_store : List ℕ → List ℕ → List Task → Store
start_store file cells row = record { cells = (start_of file cells row).cells; row = (start_of file cells row).row }
