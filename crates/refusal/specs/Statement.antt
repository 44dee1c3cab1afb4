-- What is proved of every call that writes a list into lent room, where no other cause holds.
use Rattle.std.specs.Prelude.{◌≡◌, ◌↔◌, List, [], ◌∷◌, ℕ, ◌<◌, ◌≤◌, length, take, drop}
use Rattle.refusal.specs.Number.{accepted, refused_by}
use Rattle.refusal.specs.Written.{Writing, written_said}

-- A call that writes the list `new` into `room` came out so.
pub record Writes (new room : List ℕ) (out : Writing) : Type 0 where
  -- 16 exactly if the room is shorter than the list, and then it is as it was.
  pub no_room : (written_said out.answer ≡ refused_by 16) ↔ (length room < length new)
  pub unchanged : length room < length new → out.room ≡ room
  -- A length exactly if the list fits, and it is the list's.
  pub length_written : (long : ℕ) → (written_said out.answer ≡ accepted (long ∷ [])) ↔ ((length new ≤ length room) × (long ≡ length new))
  -- Then the list stands at the room's start, and the rest is as it was.
  pub front : length new ≤ length room → take (length new) out.room ≡ new
  pub rest : length new ≤ length room → drop (length new) out.room ≡ drop (length new) room
  -- The room is as long as it was.
  pub same_length : length out.room ≡ length room
