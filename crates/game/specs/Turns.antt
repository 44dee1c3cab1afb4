-- docs/FORMATS.md, "Which console can force it": each side's turn, judged by the turns of the other side that may follow.
use Rattle.std.specs.Prelude.{Bool, ◌||◌, List, ℕ, zero, suc, eqb, get_or}
use Rattle.laws.specs.Below.{all_below, any_below}
use Rattle.table.specs.declared.Shape.{Shape}
use Rattle.reach.specs.Walk.{next_of}

-- The targets have 1 at the state; past their end nothing is a target.
unfoldable pub is_target : (targets : List ℕ) (state : ℕ) → Bool
is_target targets state = eqb (get_or targets state 0) 1

unfoldable mutual
  -- With so many moves left and the jack console to move: the state is a target, or some operation leads to a turn of the link
  -- that is won.
  pub ours : (file : List ℕ) (shape : Shape) (targets : List ℕ) (left state : ℕ) → Bool
  ours file shape targets zero state = is_target targets state
  ours file shape targets (suc left) state =
      is_target targets state || any_below shape.operations (λ operation. theirs file shape targets left (next_of file shape state operation))

  -- With the link to move: the state is a target, or every operation leads to a turn of the jack console that is won.
  pub theirs : (file : List ℕ) (shape : Shape) (targets : List ℕ) (left state : ℕ) → Bool
  theirs file shape targets zero state = is_target targets state
  theirs file shape targets (suc left) state =
      is_target targets state || all_below shape.operations (λ operation. ours file shape targets left (next_of file shape state operation))
