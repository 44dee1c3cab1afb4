-- docs/FORMATS.md, "The object table": the file's bytes, its mark and its trailer.
use Rattle.std.specs.Prelude.{Bool, ◌&&◌, List, [], ◌∷◌, ℕ, ◌+◌, ◌-◌, ◌*◌, ◌<◌, leb, eqb, length, get_or}
use Rattle.table.specs.declared.Shape.{Shape}
use Rattle.laws.specs.Below.{all_below}

-- A byte of the file; past the end it is 0.
abbrev pub byte_at : List ℕ → ℕ → ℕ
byte_at file at = get_or file at 0

-- Every element of the list is a byte.
abbrev pub Bytes : List ℕ → Type 0
Bytes file = (at : ℕ) → byte_at file at < 256

-- A number of two bytes, the low byte first.
abbrev pub number16 : List ℕ → ℕ → ℕ
number16 file at = byte_at file at + 256 * byte_at file (at + 1)

-- A number of four bytes, the low byte first.
abbrev pub number32 : List ℕ → ℕ → ℕ
number32 file at = number16 file at + 65536 * number16 file (at + 2)

-- The mark: "DRIVE1" in ASCII.
abbrev pub mark : List ℕ
mark = 68 ∷ 82 ∷ 73 ∷ 86 ∷ 69 ∷ 49 ∷ []

-- The mark's length.
abbrev pub mark_bytes : ℕ
mark_bytes = 6

-- The trailer's length.
abbrev pub trailer_bytes : ℕ
trailer_bytes = 16

-- The file's last bytes are the mark.
unfoldable pub ends_in_mark : List ℕ → Bool
ends_in_mark file =
    leb mark_bytes (length file) && all_below mark_bytes (λ i. eqb (byte_at file (length file - mark_bytes + i)) (byte_at mark i))

-- What the trailer says if it starts at a place: offset of the first entry, states, operations, start state.
abbrev pub shape_at : List ℕ → ℕ → Shape
shape_at file at =
    record { offset = number32 file at; states = number16 file (at + 4); operations = number16 file (at + 6); start = number16 file (at + 8) }

-- The trailer stands at the file's end.
unfoldable pub shape_of : List ℕ → Shape
shape_of file = shape_at file (length file - trailer_bytes)
