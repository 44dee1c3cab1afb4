-- docs/FORMATS.md, "The cells": the fields of a head and of an announcement.
use Rattle.std.specs.Prelude.{Bool, false, cond, List, [], ◌∷◌, ℕ, ◌+◌, ◌-◌, ◌/◌, ◌%◌, ◌^◌, eqb, ltb, get_or}
use Rattle.laws.specs.Bit.{bit}
use Rattle.cells.specs.Field.{pack, unpack}
use Rattle.cells.specs.Marks.{has, add, remove}
use Rattle.cells.specs.declared.head.Head.{Head}
use Rattle.cells.specs.declared.head.Head.TheVariants.{Free, Held}
use Rattle.cells.specs.declared.announcement.Announcement.{Announcement}
use Rattle.cells.specs.declared.announcement.Announcement.TheVariants.{Empty, Operation, Response}

-- The width of each field in bits.
abbrev pub marks_width : ℕ
marks_width = 8

abbrev pub state_width : ℕ
state_width = 8

abbrev pub response_width : ℕ
response_width = 8

abbrev pub holder_width : ℕ
holder_width = 4

abbrev pub moved_width : ℕ
moved_width = 1

abbrev pub kind_width : ℕ
kind_width = 2

abbrev pub gap_width : ℕ
gap_width = 6

abbrev pub payload_width : ℕ
payload_width = 8

-- A head has marks, state, response, holder and whether the state moved, the lowest first.
abbrev pub head_widths : List ℕ
head_widths = marks_width ∷ state_width ∷ response_width ∷ holder_width ∷ moved_width ∷ []

-- An announcement has marks, kind, bits that stay 0, a payload and whether the state moved.
abbrev pub announcement_widths : List ℕ
announcement_widths = marks_width ∷ kind_width ∷ gap_width ∷ payload_width ∷ moved_width ∷ []

-- The value of a cell is its word without the marks.
abbrev pub value : ℕ → ℕ
value w = w / 2 ^ marks_width

-- The marks of a cell are its lowest bits.
abbrev pub marks : ℕ → ℕ
marks w = w % 2 ^ marks_width

-- The place value of a task's mark; a task beyond the marks has none.
unfoldable pub mark_of : ℕ → ℕ
mark_of i = cond (ltb i marks_width) (2 ^ i) 0

-- Task i has its mark in the cell; a task beyond the marks never has.
unfoldable pub has_mark : ℕ → ℕ → Bool
has_mark i w = cond (ltb i marks_width) (has i w) false

-- The cell with task i's mark; a task beyond the marks changes nothing.
unfoldable pub add_mark : ℕ → ℕ → ℕ
add_mark i w = cond (ltb i marks_width) (add i w) w

-- The cell without task i's mark; a task beyond the marks changes nothing.
unfoldable pub remove_mark : ℕ → ℕ → ℕ
remove_mark i w = cond (ltb i marks_width) (remove i w) w

-- The values of a head's fields; the holder is 0 for none, else the task's number plus 1.
abbrev pub head_values : Head → ℕ → List ℕ
head_values (Free q) m = m ∷ q ∷ 0 ∷ 0 ∷ 0 ∷ []
head_values (Held q j r moved) m = m ∷ q ∷ r ∷ (j + 1) ∷ bit moved ∷ []

-- The head that these values of state, response, holder and moved say.
abbrev pub head_at : (state response holder moved : ℕ) → Head
head_at q r h v = cond (eqb h 0) (Free q) (Held q (h - 1) r (eqb v 1))

-- The head that a list of field values says.
abbrev pub head_from : List ℕ → Head
head_from vs = head_at (get_or vs 1 0) (get_or vs 2 0) (get_or vs 3 0) (get_or vs 4 0)

-- The state that a head's word holds in its field.
abbrev pub state_in_word : ℕ → ℕ
state_in_word w = get_or (unpack head_widths w) 1 0

-- The holder that a head's word holds in its field: 0 for none, else the task's number plus 1.
abbrev pub holder_in : ℕ → ℕ
holder_in w = get_or (unpack head_widths w) 3 0

-- The word of a head with these marks.
unfoldable pub head_word : Head → ℕ → ℕ
head_word x m = pack head_widths (head_values x m)

-- The head that a word holds.
unfoldable pub head_of : ℕ → Head
head_of w = head_from (unpack head_widths w)

-- The values of an announcement's fields; the kind is 0 for empty, 1 for an operation, 2 for a response.
abbrev pub announcement_values : Announcement → ℕ → List ℕ
announcement_values Empty m = m ∷ 0 ∷ 0 ∷ 0 ∷ 0 ∷ []
announcement_values (Operation o) m = m ∷ 1 ∷ 0 ∷ o ∷ 0 ∷ []
announcement_values (Response r moved) m = m ∷ 2 ∷ 0 ∷ r ∷ bit moved ∷ []

-- The announcement that these values of kind, payload and moved say; an unknown kind says nothing.
abbrev pub announcement_at : (kind payload moved : ℕ) → Announcement
announcement_at k p v = cond (eqb k 1) (Operation p) (cond (eqb k 2) (Response p (eqb v 1)) Empty)

-- The kind that an announcement's word holds in its field.
abbrev pub kind_in : ℕ → ℕ
kind_in w = get_or (unpack announcement_widths w) 1 0

-- The announcement that a list of field values says.
abbrev pub announcement_from : List ℕ → Announcement
announcement_from vs = announcement_at (get_or vs 1 0) (get_or vs 3 0) (get_or vs 4 0)

-- The word of an announcement with these marks.
unfoldable pub announcement_word : Announcement → ℕ → ℕ
announcement_word x m = pack announcement_widths (announcement_values x m)

-- The announcement that a word holds.
unfoldable pub announcement_of : ℕ → Announcement
announcement_of w = announcement_from (unpack announcement_widths w)
