-- docs/FORMATS.md, "When a call is not served": a call that writes a file or a list into lent room answers its length, in bytes
-- or entries, and leaves the rest as it was.
use Rattle.std.specs.Prelude.{cond, List, [], ◌∷◌, ◌++◌, ℕ, leb, length, drop, Result, Ok, Err}
use Rattle.refusal.specs.declared.Refusal.{Refusal}
use Rattle.refusal.specs.declared.Refusal.TheVariants.{Room}
use Rattle.refusal.specs.Number.{Said, accepted, refused}

-- What an answer says: the length, or the number of the cause.
abbrev pub written_said : Result ℕ Refusal → Said
written_said (Ok written) = accepted (written ∷ [])
written_said (Err cause) = refused cause

-- What a call answers, and the room as it leaves it.
pub record Writing : Type 0 where
  pub answer : Result ℕ Refusal
  pub room : List ℕ

-- A refused call leaves the room as it was.
abbrev pub not_written : Refusal → List ℕ → Writing
not_written cause room = record { answer = Err cause; room = room }

-- A list that fits is written at the room's start, and the rest of the room is as it was; cause 16 if the room is too short.
abbrev pub written_into : (new room : List ℕ) → Writing
written_into new room =
    cond (leb (length new) (length room)) (record { answer = Ok (length new); room = new ++ drop (length new) room }) (not_written Room room)
