-- docs/FORMATS.md, "One file for one object": when two files are the same object. It knows no order of states and no bytes that
-- are written.
use Rattle.std.specs.Prelude.{◌≡◌, List, ℕ, ◌<◌}
use Rattle.table.specs.File.{shape_of}
use Rattle.table.specs.Entries.{entry_of}
use Rattle.reach.specs.Walk as reach

-- A file's number of operations.
abbrev pub operations_of : List ℕ → ℕ
operations_of file = (shape_of file).operations

-- A file's start state.
abbrev pub start_state_of : List ℕ → ℕ
start_state_of file = (shape_of file).start

-- The state after an operation.
abbrev pub next_in : List ℕ → (state operation : ℕ) → ℕ
next_in file = reach.next_of file (shape_of file)

-- What an operation responds in a state.
abbrev pub response_in : List ℕ → (state operation : ℕ) → ℕ
response_in file state operation = (entry_of file (shape_of file) state operation).response

-- Some list of operations walks from the start state to a state.
abbrev pub ReachableIn : List ℕ → ℕ → Type 0
ReachableIn file = reach.Reachable file (shape_of file)

-- Those states of two files that can be reached become the same by renumbering, start to start: equally many operations, and a
-- renumbering and its inverse, along which every operation leads to the same state and responds the same.
pub record Same (one other : List ℕ) : Type 0 where
  pub to : ℕ → ℕ
  pub from : ℕ → ℕ
  pub operations : operations_of one ≡ operations_of other
  pub start : to (start_state_of one) ≡ start_state_of other
  pub reached : (state : ℕ) → ReachableIn one state → ReachableIn other (to state)
  pub reached_back : (state : ℕ) → ReachableIn other state → ReachableIn one (from state)
  pub from_to : (state : ℕ) → ReachableIn one state → from (to state) ≡ state
  pub to_from : (state : ℕ) → ReachableIn other state → to (from state) ≡ state
  pub next : (state operation : ℕ) → ReachableIn one state → operation < operations_of one → to (next_in one state operation) ≡ next_in other (to state) operation
  pub response : (state operation : ℕ) → ReachableIn one state → operation < operations_of one → response_in one state operation ≡ response_in other (to state) operation
