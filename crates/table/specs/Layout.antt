-- docs/FORMATS.md, "When a call is not served": causes 1 to 3, which concern the file's length, its mark and its trailer.
use Rattle.std.specs.Prelude.{Bool, cond, ◌&&◌, List, ℕ, ◌+◌, ◌*◌, leb, ltb, eqb, length, Result, Ok, Err}
use Rattle.refusal.specs.declared.Refusal.TheVariants.{File, Dimensions, Length}
use Rattle.table.specs.declared.Shape.{Shape}
use Rattle.table.specs.File.{ends_in_mark, shape_of, trailer_bytes}
use Rattle.table.specs.Entries.{entry_bytes}
use Rattle.refusal.specs.declared.Refusal.{Refusal}

-- The length of the longest file.
abbrev pub longest_file : ℕ
longest_file = 20496

-- The greatest number of states.
abbrev pub most_states : ℕ
most_states = 256

-- The greatest number of operations.
abbrev pub most_operations : ℕ
most_operations = 32

-- The greatest offset of the first entry: before it stands free text.
abbrev pub greatest_offset : ℕ
greatest_offset = 4096

-- The length of a file of this shape: text, entries and trailer.
abbrev pub file_length : Shape → ℕ
file_length shape = shape.offset + entry_bytes * (shape.states * shape.operations) + trailer_bytes

-- Cause 1 does not hold.
unfoldable pub file_fits : List ℕ → Bool
file_fits file = leb trailer_bytes (length file) && leb (length file) longest_file && ends_in_mark file

-- Cause 2 does not hold.
unfoldable pub dimensions_fit : Shape → Bool
dimensions_fit shape =
    leb 1 shape.states && leb shape.states most_states && leb 1 shape.operations && leb shape.operations most_operations && ltb shape.start shape.states

-- Cause 3 does not hold for a file of this length.
unfoldable pub length_fits : ℕ → Shape → Bool
length_fits bytes shape =
    leb shape.offset greatest_offset && eqb (file_length shape) bytes

-- The first of causes 1 to 3 that holds, or the file's shape.
unfoldable pub layout_of : List ℕ → Result Shape Refusal
layout_of file =
    cond (file_fits file)
    (cond (dimensions_fit (shape_of file))
    (cond (length_fits (length file) (shape_of file)) (Ok (shape_of file)) (Err Length))
    (Err Dimensions))
    (Err File)
