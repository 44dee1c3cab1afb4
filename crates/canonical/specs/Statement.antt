-- What is proved of the call that writes an object's file.
use Rattle.std.specs.Prelude.{◌≡◌, ◌↔◌, ◌⊎◌, List, [], ◌∷◌, ℕ, ◌+◌, ◌*◌, ◌<◌, ◌≤◌, length, get_or, take, Ok}
use Rattle.refusal.specs.Number.{accepted, refused_by}
use Rattle.refusal.specs.Written.{written_said}
use Rattle.refusal.specs.Statement.{Writes}
use Rattle.table.specs.declared.Shape.{Shape}
use Rattle.table.specs.File.{Bytes, shape_of}
use Rattle.table.specs.Layout.{layout_of}
use Rattle.table.specs.Check.{check_of, check_said}
use Rattle.table.specs.Statement.{OutOfRange}
use Rattle.reach.specs.Statement.{FirstMeeting}
use Rattle.canonical.specs.Same.{operations_of, next_in, response_in, ReachableIn, Same}
use Rattle.canonical.specs.Canonical.{canonical_of, canonical_written}

-- A file of bytes that check accepts.
abbrev pub Served : List ℕ → Type 0
Served file = Bytes file × (check_of file ≡ Ok (shape_of file))

-- ---- What the file is

-- A file and the list of its states in the order of first meeting: what is written has no text, a state for each of the list,
-- the same number of operations and the start state 0; an operation leads from a number to that of the next state, and responds
-- as before.
pub record Renumbered (file order written : List ℕ) : Type 0 where
  pub bytes : Bytes written
  pub long : length written ≡ 2 * (length order * operations_of file) + 16
  pub accepts : check_of written ≡ Ok (record { offset = 0; states = length order; operations = operations_of file; start = 0 })
  pub next : (number operation : ℕ) → number < length order → operation < operations_of file
      → (next_in written number operation < length order) × (get_or order (next_in written number operation) 0 ≡ next_in file (get_or order number 0) operation)
  pub response : (number operation : ℕ) → number < length order → operation < operations_of file
      → response_in written number operation ≡ response_in file (get_or order number 0) operation

-- There is such a list, and for each such list the file is that of its numbers.
pub record Canonical (file : List ℕ) : Type 0 where
  pub order : List ℕ
  pub first_meeting : FirstMeeting file (shape_of file) order
  pub renumbered : (other : List ℕ) → FirstMeeting file (shape_of file) other → Renumbered file other (canonical_of file)
  -- All its states can be reached, and it is the same object.
  pub reachable : (state : ℕ) → ReachableIn (canonical_of file) state ↔ (state < (shape_of (canonical_of file)).states)
  pub same : Same file (canonical_of file)

abbrev pub ServedCanonical : Type 0
ServedCanonical = (file : List ℕ) → Served file → Canonical file

-- Two tables have equal files exactly if they are the same object; the file of an object's file is that file.
abbrev pub SameFiles : Type 0
SameFiles = (one other : List ℕ) → Served one → Served other → Same one other ↔ (canonical_of one ≡ canonical_of other)

abbrev pub Settled : Type 0
Settled = (file : List ℕ) → Served file → canonical_of (canonical_of file) ≡ canonical_of file

-- ---- What the call answers

pub record CanonicalAnswered (file room : List ℕ) : Type 0 where
  -- 1 to 4 exactly if check answers it, and then the room is as it was.
  pub refused : (number : ℕ) → 1 ≤ number → number ≤ 4 → (written_said (canonical_written file room).answer ≡ refused_by number) ↔ (check_said (check_of file) ≡ refused_by number)
  pub unchanged : (number : ℕ) → 1 ≤ number → check_said (check_of file) ≡ refused_by number → (canonical_written file room).room ≡ room
  -- 4 exactly if 1 to 3 don't hold and some entry is out of range, whether its state can be reached or not.
  pub entries : (written_said (canonical_written file room).answer ≡ refused_by 4) ↔ ((shape : Shape) × (layout_of file ≡ Ok shape) × OutOfRange file shape)
  -- An accepted table: its file is written into the room, or refused with 16.
  pub writes : (shape : Shape) → check_of file ≡ Ok shape → Writes (canonical_of file) room (canonical_written file room)
  -- No other number is answered.
  pub only : (number : ℕ) → 1 ≤ number → written_said (canonical_written file room).answer ≡ refused_by number → (number ≤ 4) ⊎ (number ≡ 16)

-- ---- What the call writes

-- A call answered the length of these bytes, and left them at the room's start.
abbrev pub Wrote : (file room written : List ℕ) → Type 0
Wrote file room written =
    (written_said (canonical_written file room).answer ≡ accepted (length written ∷ [])) × (take (length written) (canonical_written file room).room ≡ written)

-- They are the table in the numbers of first meeting.
abbrev pub WroteRenumbered : Type 0
WroteRenumbered = (file room written order : List ℕ) → Bytes file → Wrote file room written → FirstMeeting file (shape_of file) order → Renumbered file order written

-- They are no more than the table has, and at most 16,400.
abbrev pub WroteShort : Type 0
WroteShort = (file room written : List ℕ) → Bytes file → Wrote file room written → (length written ≤ length file) × (length written ≤ 16400)

-- Two tables are written as equal bytes exactly if they are the same object.
abbrev pub OneFile : Type 0
OneFile = (one other one_room other_room one_written other_written : List ℕ) → Bytes one → Bytes other
    → Wrote one one_room one_written → Wrote other other_room other_written → (one_written ≡ other_written) ↔ Same one other

-- What was written is written again as it is, in every room that is long enough.
abbrev pub WrittenAgain : Type 0
WrittenAgain = (file room written again : List ℕ) → Bytes file → Wrote file room written → length written ≤ length again → Wrote written again written
