-- What is proved of the order of first meeting: it has the states that can be reached, and is the only list of its kind. And which
-- operations are changing: those that move a state that can be reached.
use Rattle.std.specs.Prelude.{◌≡◌, true, false, ◌↔◌, ◌⊎◌, ◌≢◌, List, ℕ, ◌+◌, ◌<◌, ◌≤◌, length, get_or, take, Ok}
use Rattle.table.specs.declared.Shape.{Shape}
use Rattle.table.specs.Layout.{most_states}
use Rattle.table.specs.Check.{check_of}
use Rattle.reach.specs.Walk.{next_of, Reachable}
use Rattle.reach.specs.declared.Reached.{Reached}
use Rattle.reach.specs.Order.{order_of}
use Rattle.reach.specs.Changing.{reachable, changing}
use Rattle.reach.specs.Reached.{reached_of, reached_into}

-- A state stands at some place of a list.
pub record StandsIn (order : List ℕ) (state : ℕ) : Type 0 where
  pub place : ℕ
  pub below : place < length order
  pub is : get_or order place 0 ≡ state

-- An entry is looked at before another one: that of a state at a lower place, or of the same state and a lower operation.
abbrev pub Before : (place operation other_place other_operation : ℕ) → Type 0
Before place operation other_place other_operation = (place < other_place) ⊎ ((place ≡ other_place) × (operation < other_operation))

-- The state at a place is met first from a state at a lower place: an entry of that state leads to it, and every entry that is
-- looked at before leads to a state at a lower place than this.
pub record MetFirst (file : List ℕ) (shape : Shape) (order : List ℕ) (place : ℕ) : Type 0 where
  pub from : ℕ
  pub operation : ℕ
  pub from_before : from < place
  pub known : operation < shape.operations
  pub leads : next_of file shape (get_or order from 0) operation ≡ get_or order place 0
  pub first : (earlier other : ℕ) → Before earlier other from operation → other < shape.operations
      → (lower : ℕ) × (lower < place) × (get_or order lower 0 ≡ next_of file shape (get_or order earlier 0) other)

-- The states that can be reached, each once, the start state first and every other one where it is met first.
pub record FirstMeeting (file : List ℕ) (shape : Shape) (order : List ℕ) : Type 0 where
  pub start : get_or order 0 0 ≡ shape.start
  pub once : (place other : ℕ) → place < length order → other < length order → get_or order place 0 ≡ get_or order other 0 → place ≡ other
  pub exactly : (state : ℕ) → StandsIn order state ↔ Reachable file shape state
  pub met : (place : ℕ) → 0 < place → place < length order → MetFirst file shape order place

-- In an accepted table the order is this list, has no more states than the table, and no other list is of this kind.
pub record Ordered (file : List ℕ) (shape : Shape) : Type 0 where
  pub first_meeting : FirstMeeting file shape (order_of file shape)
  pub few : length (order_of file shape) ≤ shape.states
  pub only : (other : List ℕ) → FirstMeeting file shape other → other ≡ order_of file shape

abbrev pub AcceptedOrdered : Type 0
AcceptedOrdered = (file : List ℕ) (shape : Shape) → check_of file ≡ Ok shape → Ordered file shape

-- Two arrays and a count: the first array begins with that list, as long as the count says; the word of a state in the second
-- one is 0 exactly if the state can't be reached, and else its place and one more.
pub record Found (file : List ℕ) (shape : Shape) (found : Reached) : Type 0 where
  pub listed : FirstMeeting file shape (take found.count found.order)
  pub long : length (take found.count found.order) ≡ found.count
  pub numbered : (state : ℕ) → state < most_states → (0 < get_or found.number state 0) ↔ Reachable file shape state
  pub place : (place : ℕ) → place < found.count → get_or found.number (get_or found.order place 0) 0 ≡ place + 1

-- The search of an accepted table finds this, by value and in lent arrays of 256 words, whatever these held.
abbrev pub AcceptedFound : Type 0
AcceptedFound = (file : List ℕ) (shape : Shape) → check_of file ≡ Ok shape
    → Found file shape (reached_of file shape) × ((order number : List ℕ) → length order ≡ most_states → length number ≡ most_states → Found file shape (reached_into file shape order number))

-- ---- Which operations are changing

-- The states that can be reached: the start state, the next states of each of them, and only states of the table. The test tells
-- exactly them.
pub record ReachedStates (file : List ℕ) (shape : Shape) : Type 0 where
  pub start : Reachable file shape shape.start
  pub next : (state operation : ℕ) → Reachable file shape state → operation < shape.operations → Reachable file shape (next_of file shape state operation)
  pub below : (state : ℕ) → Reachable file shape state → state < shape.states
  pub tested : (state : ℕ) → (reachable file shape state ≡ true) ↔ Reachable file shape state

-- An operation is changing exactly if it leads from some state that can be reached to another one, and reading exactly if it
-- preserves every state that can be reached. So a changing one leads from some state of the table to another.
pub record ChangingExactly (file : List ℕ) (shape : Shape) (operation : ℕ) : Type 0 where
  pub changes : (changing file shape operation ≡ true) ↔ ((state : ℕ) × Reachable file shape state × (next_of file shape state operation ≢ state))
  pub reads : (changing file shape operation ≡ false) ↔ ((state : ℕ) → Reachable file shape state → next_of file shape state operation ≡ state)
  pub moves_one : changing file shape operation ≡ true → (state : ℕ) × (state < shape.states) × (next_of file shape state operation ≢ state)

-- So it is in every accepted table.
abbrev pub AcceptedStates : Type 0
AcceptedStates = (file : List ℕ) (shape : Shape) → check_of file ≡ Ok shape → ReachedStates file shape

abbrev pub AcceptedChanging : Type 0
AcceptedChanging = (file : List ℕ) (shape : Shape) → check_of file ≡ Ok shape → (operation : ℕ) → ChangingExactly file shape operation
