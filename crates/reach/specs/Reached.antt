-- The order of first meeting as the code keeps it: in two arrays, by place and by state.
use Rattle.std.specs.Prelude.{◌≡◌, cond, ◌&&◌, List, ◌++◌, ℕ, suc, ◌-◌, ◌<◌, eqb, length, get_or, take, replicate}
use Rattle.laws.specs.Tabulate.{tabulate}
use Rattle.table.specs.declared.Shape.{Shape}
use Rattle.table.specs.Layout.{most_states}
use Rattle.reach.specs.declared.Reached.{Reached}
use Rattle.reach.specs.Order.{place_in, listed, order_of}

-- The place of a state and one more; 0 for a state that isn't in the list.
abbrev pub number_in : List ℕ → ℕ → ℕ
number_in order state = cond (listed order state) (suc (place_in order state)) 0

-- The states by place, and 0 behind the last.
unfoldable pub order_words : List ℕ → List ℕ
order_words order = order ++ replicate (most_states - length order) 0

-- The numbers by state.
unfoldable pub number_words : List ℕ → List ℕ
number_words order = tabulate most_states (number_in order)

-- Both arrays, and how many states there are.
abbrev pub reached_as : List ℕ → Reached
reached_as order = record { order = order_words order; number = number_words order; count = length order }

-- What the search of a table finds.
abbrev pub reached_of : List ℕ → Shape → Reached
reached_of file shape = reached_as (order_of file shape)

-- What the search leaves in lent arrays, and answers: arrays of another length stay as they were.
unfoldable pub reached_into : List ℕ → Shape → (order number : List ℕ) → Reached
reached_into file shape order number =
    cond (eqb (length order) most_states && eqb (length number) most_states) (reached_of file shape) (record { order = order; number = number; count = 0 })

-- No number twice, and every one below the greatest number of states.
pub record Distinct (order : List ℕ) : Type 0 where
  pub small : (place : ℕ) → place < length order → get_or order place 0 < most_states
  pub once : (place : ℕ) → place < length order → place_in order (get_or order place 0) ≡ place

-- Two arrays and a count keep a list.
pub record Keeps (list order number : List ℕ) (count : ℕ) : Type 0 where
  pub order_is : order ≡ order_words list
  pub number_is : number ≡ number_words list
  pub count_is : count ≡ length list

-- They keep the list of the first so many states of the first array, which has no state twice.
pub record Kept (order number : List ℕ) (count : ℕ) : Type 0 where
  pub distinct : Distinct (take count order)
  pub keeps : Keeps (take count order) order number count
