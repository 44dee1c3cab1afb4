-- docs/FORMATS.md, "Which console can force it": the worked cases, as one table of what the call says.
use Rattle.std.specs.Prelude.{List, [], ◌∷◌, ◌++◌, ℕ, drop, set}
use Rattle.refusal.specs.Number.{Said, accepted, refused_by}
use Rattle.table.specs.Cases.{flag}
use Rattle.game.specs.Force.{force_of, force_said}

-- The trailer of a file without text and with so few states and operations that each has one byte; the start state is 0.
abbrev trailer : (states operations : ℕ) → List ℕ
trailer states operations = 0 ∷ 0 ∷ 0 ∷ 0 ∷ states ∷ 0 ∷ operations ∷ 0 ∷ 0 ∷ 0 ∷ 0x44 ∷ 0x52 ∷ 0x49 ∷ 0x56 ∷ 0x45 ∷ 0x31 ∷ []

-- State 0 leads to 1 by both operations, 1 to 2 by both, and 2 to itself: the link is driven into state 2.
abbrev pub driven : List ℕ
driven = (1 ∷ 0 ∷ 1 ∷ 0 ∷ 2 ∷ 0 ∷ 2 ∷ 0 ∷ 2 ∷ 0 ∷ 2 ∷ 0 ∷ []) ++ trailer 3 2

-- The same, but that operation 1 leads from state 1 back to 0: the link has one way out.
abbrev pub way_out : List ℕ
way_out = set driven 6 0

-- The targets of two states and of three: none, state 1, state 2.
abbrev pub no_target : List ℕ
no_target = 0 ∷ 0 ∷ []

abbrev pub one_of_two : List ℕ
one_of_two = 0 ∷ 1 ∷ []

abbrev pub last_of_three : List ℕ
last_of_three = 0 ∷ 0 ∷ 1 ∷ []

pub record ForceCase : Type 0 where
  pub given : Said
  pub said : Said

abbrev asked : (file : List ℕ) (state : ℕ) (targets : List ℕ) (moves : ℕ) → Said → ForceCase
asked file state targets moves said = record { given = force_said (force_of file state targets moves); said = said }

-- Yes with an operation; yes with no move; no.
abbrev wins : ℕ → Said
wins operation = accepted (1 ∷ operation ∷ [])

abbrev reached : Said
reached = accepted (1 ∷ [])

abbrev loses : Said
loses = accepted (0 ∷ [])

unfoldable pub force_cases : List ForceCase
force_cases =
    -- The flag from state 0, with target 1: a set wins with 1 move and with 2; with 3 and 4 a read first wins too.
    asked flag 0 one_of_two 1 (wins 1)
    ∷ asked flag 0 one_of_two 2 (wins 1)
    ∷ asked flag 0 one_of_two 3 (wins 0)
    ∷ asked flag 0 one_of_two 4 (wins 0)
    -- A target at the outset, and no target.
    ∷ asked flag 1 one_of_two 4 reached
    ∷ asked flag 0 no_target 4 loses
    -- The link is driven into the target by its own move.
    ∷ asked driven 0 last_of_three 1 loses
    ∷ asked driven 0 last_of_three 2 (wins 0)
    -- The link has one way out.
    ∷ asked way_out 0 last_of_three 1 loses
    ∷ asked way_out 0 last_of_three 2 loses
    ∷ asked way_out 0 last_of_three 3 loses
    ∷ asked way_out 0 last_of_three 4 loses
    -- Moves, state, length and bytes of the targets out of range, also where the state is a target already.
    ∷ asked flag 0 one_of_two 0 (refused_by 19)
    ∷ asked flag 0 one_of_two 5 (refused_by 19)
    ∷ asked flag 2 one_of_two 1 (refused_by 19)
    ∷ asked flag 0 (1 ∷ []) 1 (refused_by 19)
    ∷ asked flag 1 (0 ∷ 1 ∷ 0 ∷ []) 1 (refused_by 19)
    ∷ asked flag 1 (2 ∷ 1 ∷ []) 1 (refused_by 19)
    -- A refused table comes first.
    ∷ asked (drop 13 flag) 2 [] 0 (refused_by 1)
    ∷ asked (set flag 8 2) 2 [] 0 (refused_by 4)
    ∷ []
