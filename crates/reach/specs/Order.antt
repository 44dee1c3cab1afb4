-- docs/FORMATS.md, "One file for one object": the states in the order of first meeting, from the start state, the states taken
-- in this order, operations from 0 up. All of it is total: a number that is no state of any table is passed over.
use Rattle.std.specs.Prelude.{Bool, cond, ◌||◌, List, [], ◌∷◌, ◌++◌, ℕ, zero, suc, leb, ltb, eqb, length, get_or}
use Rattle.table.specs.declared.Shape.{Shape}
use Rattle.table.specs.Layout.{most_states}
use Rattle.reach.specs.Walk.{next_of}

-- The place of a state in a list, the first one if it has more; the list's length if it has none.
abbrev pub place_in : List ℕ → ℕ → ℕ
place_in [] state = zero
place_in (first ∷ rest) state = cond (eqb first state) zero (suc (place_in rest state))

-- Whether a state stands in a list.
abbrev pub listed : List ℕ → ℕ → Bool
listed order state = ltb (place_in order state) (length order)

-- A state that is met is put at the end, if it isn't in the list yet.
unfoldable pub meet : List ℕ → ℕ → List ℕ
meet order state = cond (listed order state || leb most_states state) order (order ++ (state ∷ []))

-- The next states of one state by the first operations are met, from operation 0 up.
unfoldable pub meet_next : List ℕ → Shape → (state operations : ℕ) → List ℕ → List ℕ
meet_next file shape state zero order = order
meet_next file shape state (suc operation) order = meet (meet_next file shape state operation order) (next_of file shape state operation)

-- The turn of the state at a place: its next states are met. Past the list's end nothing happens.
unfoldable pub turn : List ℕ → Shape → List ℕ → ℕ → List ℕ
turn file shape order place =
    cond (ltb place (length order)) (meet_next file shape (get_or order place 0) shape.operations order) order

-- The list after so many turns, places from 0 up: at first it has the start state alone.
unfoldable pub turns : List ℕ → Shape → ℕ → List ℕ
turns file shape zero = meet [] shape.start
turns file shape (suc place) = turn file shape (turns file shape place) place

-- The order: a turn for every place that a list of states can have.
unfoldable pub order_of : List ℕ → Shape → List ℕ
order_of file shape = turns file shape most_states
