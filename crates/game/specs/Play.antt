-- docs/FORMATS.md, "Which console can force it": what forcing means, by strategies and the plays that come of them. It knows no
-- turn that is judged by others, and no search.
use Rattle.std.specs.Prelude.{◌≡◌, Bool, true, not, cond, List, [], ◌∷◌, ◌++◌, ℕ, zero, suc, ◌<◌, ◌≤◌, get_or}
use Rattle.table.specs.declared.Shape.{Shape}
use Rattle.reach.specs.Walk.{walk}

-- A history is the list of the operations played, the first in front; a strategy gives an operation for each history.
abbrev pub Strategy : Type 0
Strategy = List ℕ → ℕ

-- Every operation that the strategy gives is one of the table's: nobody passes.
abbrev pub Legal : Shape → Strategy → Type 0
Legal shape strategy = (history : List ℕ) → strategy history < shape.operations

-- The jack console makes move 0, and then the sides take turns.
unfoldable pub jack_moves : ℕ → Bool
jack_moves zero = true
jack_moves (suc move) = not (jack_moves move)

-- The history after so many moves.
unfoldable pub play : (jack link : Strategy) → ℕ → List ℕ
play jack link zero = []
play jack link (suc move) =
    play jack link move ++ (cond (jack_moves move) (jack (play jack link move)) (link (play jack link move)) ∷ [])

-- The state is a target: its byte is 1.
abbrev pub Target : (targets : List ℕ) (state : ℕ) → Type 0
Target targets state = get_or targets state 0 ≡ 1

-- At the outset or after one of the first moves, so many in all, the state is a target.
abbrev pub Meets : (file : List ℕ) (shape : Shape) (targets : List ℕ) (moves state : ℕ) (jack link : Strategy) → Type 0
Meets file shape targets moves state jack link =
    (made : ℕ) × (made ≤ moves) × Target targets (walk file shape state (play jack link made))

-- A legal strategy of the jack console opens with this operation, and meets a target whatever legal strategy the link has.
pub record Forces (file : List ℕ) (shape : Shape) (targets : List ℕ) (moves state operation : ℕ) : Type 0 where
  pub jack : Strategy
  pub legal : Legal shape jack
  pub opens : jack [] ≡ operation
  pub meets : (link : Strategy) → Legal shape link → Meets file shape targets moves state jack link

-- With a legal strategy of the link no target is met, whatever legal strategy that opens with this operation the jack console has.
pub record Avoids (file : List ℕ) (shape : Shape) (targets : List ℕ) (moves state operation : ℕ) : Type 0 where
  pub link : Strategy
  pub legal : Legal shape link
  pub never : (jack : Strategy) → Legal shape jack → jack [] ≡ operation → Meets file shape targets moves state jack link → ⊥
