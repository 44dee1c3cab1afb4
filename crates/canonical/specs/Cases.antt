-- docs/FORMATS.md, "Cases": those of an object's one file, as one table of what the call says and leaves.
use Rattle.std.specs.Prelude.{List, [], ◌∷◌, ◌++◌, ℕ, length, set, replicate}
use Rattle.refusal.specs.Number.{Said, accepted, refused_by}
use Rattle.refusal.specs.Written.{written_said}
use Rattle.table.specs.Cases.{flag}
use Rattle.canonical.specs.Canonical.{canonical_written}

-- The trailer of a file with so little text and so few states, operations and start state that each has one byte.
abbrev trailer : (offset states operations start : ℕ) → List ℕ
trailer offset states operations start =
    offset ∷ 0 ∷ 0 ∷ 0 ∷ states ∷ 0 ∷ operations ∷ 0 ∷ start ∷ 0 ∷ 0x44 ∷ 0x52 ∷ 0x49 ∷ 0x56 ∷ 0x45 ∷ 0x31 ∷ []

-- The flag from the start state 1, and what is written for it: its states in the other order.
unfoldable pub flag_from_one : List ℕ
flag_from_one = set flag 20 1

abbrev pub flag_turned : List ℕ
flag_turned = (0 ∷ 1 ∷ 0 ∷ 1 ∷ 1 ∷ 1 ∷ 1 ∷ 0 ∷ 0 ∷ 0 ∷ 1 ∷ 0 ∷ []) ++ trailer 0 2 3 0

-- Four states, from state 2: they are met in the order 2, 3, 1, 0.
abbrev pub four : List ℕ
four = (0 ∷ 0 ∷ 2 ∷ 1 ∷ 1 ∷ 2 ∷ 3 ∷ 3 ∷ 3 ∷ 4 ∷ 1 ∷ 5 ∷ 0 ∷ 6 ∷ 3 ∷ 7 ∷ []) ++ trailer 0 4 2 2

abbrev pub four_written : List ℕ
four_written = (1 ∷ 4 ∷ 2 ∷ 5 ∷ 3 ∷ 6 ∷ 1 ∷ 7 ∷ 2 ∷ 2 ∷ 1 ∷ 3 ∷ 3 ∷ 0 ∷ 0 ∷ 1 ∷ []) ++ trailer 0 4 2 0

-- The flag after a byte of text and a spare state, which leads to each state; the start state is 1.
abbrev pub flag_spare : List ℕ
flag_spare =
    (0x41 ∷ 1 ∷ 9 ∷ 2 ∷ 9 ∷ 0 ∷ 9 ∷ 1 ∷ 0 ∷ 2 ∷ 0 ∷ 1 ∷ 0 ∷ 2 ∷ 1 ∷ 2 ∷ 1 ∷ 1 ∷ 1 ∷ []) ++ trailer 1 3 3 1

-- What the call says, and the room as it leaves it.
pub record Outcome : Type 0 where
  pub said : Said
  pub room : List ℕ

-- The call on a file and a room of so many bytes 7.
unfoldable pub outcome : List ℕ → ℕ → Outcome
outcome file room =
    record { said = written_said (canonical_written file (replicate room 7)).answer; room = (canonical_written file (replicate room 7)).room }

-- The file is written, as bytes, and so many bytes 7 are left behind it.
abbrev wrote : List ℕ → ℕ → Outcome
wrote bytes behind = record { said = accepted (length bytes ∷ []); room = bytes ++ replicate behind 7 }

-- The call is refused, and a room of so many bytes is as it was.
abbrev refused_with : ℕ → ℕ → Outcome
refused_with number room = record { said = refused_by number; room = replicate room 7 }

pub record OutcomeCase : Type 0 where
  pub given : Outcome
  pub said : Outcome

abbrev gives : Outcome → Outcome → OutcomeCase
gives given said = record { given = given; said = said }

unfoldable pub canonical_cases : List OutcomeCase
canonical_cases =
    -- The flag's file is its own, and has 28 bytes.
    gives (outcome flag 28) (wrote flag 0)
    ∷ gives (outcome flag 30) (wrote flag 2)
    ∷ gives (outcome flag 27) (refused_with 16 27)
    ∷ gives (outcome flag_from_one 28) (wrote flag_turned 0)
    ∷ gives (outcome four 32) (wrote four_written 0)
    -- The flag with a spare state has 35 bytes, and what is written for it 28.
    ∷ gives (outcome flag_spare 28) (wrote flag 0)
    ∷ gives (outcome flag_spare 27) (refused_with 16 27)
    -- A next state out of range in the spare state; in a room that is too short, too.
    ∷ gives (outcome (set flag_spare 5 3) 28) (refused_with 4 28)
    ∷ gives (outcome (set flag_spare 5 3) 27) (refused_with 4 27)
    ∷ []
