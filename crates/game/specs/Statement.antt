-- What is proved of the call: which questions are turned away, and that a yes and a no are those of the strategies.
use Rattle.std.specs.Prelude.{◌≡◌, ◌↔◌, ◌⊎◌, List, [], ◌∷◌, ℕ, ◌+◌, ◌-◌, ◌*◌, ◌<◌, ◌≤◌, length, get_or, take, Ok}
use Rattle.refusal.specs.Number.{Said, accepted, refused_by}
use Rattle.table.specs.declared.Shape.{Shape}
use Rattle.table.specs.Check.{check_of, check_said}
use Rattle.reach.specs.Walk.{next_of}
use Rattle.game.specs.Force.{force_of, force_said}
use Rattle.game.specs.Play.{Strategy, play, Target, Forces, Avoids}

-- Moves, state and targets are in range: 1 to 4 moves, a state of the table, and a byte for each state that is 0 or 1.
pub record Asked (shape : Shape) (state : ℕ) (targets : List ℕ) (moves : ℕ) : Type 0 where
  pub some : 1 ≤ moves
  pub few : moves ≤ 4
  pub known : state < shape.states
  pub long : length targets ≡ shape.states
  pub bits : (other : ℕ) → other < shape.states → get_or targets other 0 ≤ 1

-- ---- What is played

-- A play has an operation for each move made, what was played stands, and the sides take turns: the jack console makes the moves
-- at even places, from 0, and the link those at odd ones.
pub record InTurn (jack link : Strategy) : Type 0 where
  pub long : (made : ℕ) → length (play jack link made) ≡ made
  pub stands : (made : ℕ) → take made (play jack link (made + 1)) ≡ play jack link made
  pub even : (k : ℕ) → get_or (play jack link (2 * k + 1)) (2 * k) 0 ≡ jack (play jack link (2 * k))
  pub odd : (k : ℕ) → get_or (play jack link (2 * k + 2)) (2 * k + 1) 0 ≡ link (play jack link (2 * k + 1))

abbrev pub PlaysInTurn : Type 0
PlaysInTurn = (jack link : Strategy) → InTurn jack link

-- ---- What is turned away

pub record ForceRefused (file : List ℕ) (state : ℕ) (targets : List ℕ) (moves : ℕ) : Type 0 where
  -- 1 to 4 exactly if check answers it, whatever is asked.
  pub table : (number : ℕ) → 1 ≤ number → number ≤ 4 → (force_said (force_of file state targets moves) ≡ refused_by number) ↔ (check_said (check_of file) ≡ refused_by number)
  -- 19 exactly if the table is accepted and the question is out of range.
  pub question : (force_said (force_of file state targets moves) ≡ refused_by 19) ↔ ((shape : Shape) × (check_of file ≡ Ok shape) × (Asked shape state targets moves → ⊥))
  -- No other number is answered.
  pub only : (number : ℕ) → 1 ≤ number → force_said (force_of file state targets moves) ≡ refused_by number → (number ≤ 4) ⊎ (number ≡ 19)

-- ---- What is answered

-- What is said is yes: with no move, or with an operation.
abbrev pub SaysYes : Said → Type 0
SaysYes said = (said ≡ accepted (1 ∷ [])) ⊎ ((operation : ℕ) × (said ≡ accepted (1 ∷ operation ∷ [])))

-- The call answers yes.
abbrev pub Yes : (file : List ℕ) (state : ℕ) (targets : List ℕ) (moves : ℕ) → Type 0
Yes file state targets moves = SaysYes (force_said (force_of file state targets moves))

-- The answers to a question in range about an accepted table.
pub record ForceAnswered (file : List ℕ) (shape : Shape) (state : ℕ) (targets : List ℕ) (moves : ℕ) : Type 0 where
  -- Yes with no move, exactly if the state is a target.
  pub reached : (force_said (force_of file state targets moves) ≡ accepted (1 ∷ [])) ↔ Target targets state
  -- Yes with an operation, exactly if the state is no target and this is the lowest operation that forces one: the link can
  -- avoid the targets after every lower one.
  pub wins : (operation : ℕ) → (force_said (force_of file state targets moves) ≡ accepted (1 ∷ operation ∷ []))
      ↔ ((Target targets state → ⊥) × (operation < shape.operations) × Forces file shape targets moves state operation
      × ((lower : ℕ) → lower < operation → Avoids file shape targets moves state lower))
  -- No, exactly if the state is no target and the link can avoid the targets after every operation.
  pub loses : (force_said (force_of file state targets moves) ≡ accepted (0 ∷ []))
      ↔ ((Target targets state → ⊥) × ((operation : ℕ) → operation < shape.operations → Avoids file shape targets moves state operation))
  -- Nothing else is answered.
  pub only : Yes file state targets moves ⊎ (force_said (force_of file state targets moves) ≡ accepted (0 ∷ []))

-- Every question in range about an accepted table is answered so.
abbrev pub AnsweredByStrategies : Type 0
AnsweredByStrategies = (file : List ℕ) (shape : Shape) (state : ℕ) (targets : List ℕ) (moves : ℕ)
    → check_of file ≡ Ok shape → Asked shape state targets moves → ForceAnswered file shape state targets moves

-- No operation both forces a target and lets the link avoid all, on any table.
abbrev pub NotBoth : Type 0
NotBoth = (file : List ℕ) (shape : Shape) (targets : List ℕ) (moves state operation : ℕ)
    → Forces file shape targets moves state operation → Avoids file shape targets moves state operation → ⊥

-- ---- What follows for a planner

-- A yes stays a yes with one move more.
abbrev pub StaysYes : Type 0
StaysYes = (file : List ℕ) (state : ℕ) (targets : List ℕ) (moves : ℕ) → moves < 4 → Yes file state targets moves → Yes file state targets (moves + 1)

-- After a yes with an operation, with so many moves left after it: the operation leads to a target, or the link has a move, and
-- whatever it does, that leads to a target, or the same question from there, with its move less, is a yes; with no move left there
-- is no yes, so that it is a target. So a planner may ask again for the next move.
abbrev pub AskedAgain : Type 0
AskedAgain = (file : List ℕ) (shape : Shape) (state : ℕ) (targets : List ℕ) (left operation : ℕ) → check_of file ≡ Ok shape
    → force_said (force_of file state targets (left + 1)) ≡ accepted (1 ∷ operation ∷ [])
    → let met = next_of file shape state operation in
    Target targets met
    ⊎ ((1 ≤ left) × ((reply : ℕ) → reply < shape.operations → Target targets (next_of file shape met reply) ⊎ Yes file (next_of file shape met reply) targets (left - 1)))
