-- What a search has found so far in the arrays that are lent to it, and what a step of it finds.
use Rattle.std.specs.Prelude.{◌≡◌, List, ℕ, take}
use Rattle.reach.specs.declared.order.Order.{Order}
use Rattle.reach.specs.Reached.{Keeps, Kept}

-- The states that were met, in this order.
abbrev pub met : Order → List ℕ
met order = take order.count order.states.now

-- They are kept, and none of them twice.
abbrev pub KeptIn : Order → Type 0
KeptIn order = Kept order.states.now order.number.now order.count

-- A step goes on in the same two arrays, and they keep a list then.
pub record Finds (list : List ℕ) (old new : Order) : Type 0 where
  pub same_states : new.states.ghost_name ≡ old.states.ghost_name
  pub same_number : new.number.ghost_name ≡ old.number.ghost_name
  pub keeps : Keeps list new.states.now new.number.now new.count
