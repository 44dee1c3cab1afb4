-- docs/FORMATS.md, "The ring desk": the object table of a drive of so many rings, and what the call that writes it answers and
-- leaves. State k is k rings built; the operations are 0 read, 1 build and 2 take out.
use Rattle.std.specs.Prelude.{cond, List, ℕ, zero, suc, ◌+◌, ◌-◌, ltb}
use Rattle.refusal.specs.declared.Refusal.TheVariants.{Rings}
use Rattle.refusal.specs.Written.{Writing, not_written, written_into}
use Rattle.table.specs.declared.Shape.{Shape}
use Rattle.table.specs.declared.Entry.{Entry}
use Rattle.table_writer.specs.Written.{plain_shape, file_of}
use Rattle.ring_desk.specs.Rings.{ring_count, rings_fit}

-- The number of operations.
abbrev pub desk_operations : ℕ
desk_operations = 3

-- The rings built after an operation: a build at the last ring and a take out at 0 change nothing.
abbrev pub next_built : (rings built operation : ℕ) → ℕ
next_built rings built zero = built
next_built rings built (suc zero) = cond (ltb built rings) (built + 1) built
next_built rings built (suc (suc _)) = cond (ltb 0 built) (built - 1) 0

-- The response is the number of rings built before the operation.
abbrev pub desk_entry : (rings built operation : ℕ) → Entry
desk_entry rings built operation = record { next = next_built rings built operation; response = built }

-- A state more than rings, and the start state 0.
abbrev pub desk_shape : ℕ → Shape
desk_shape rings = plain_shape (rings + 1) desk_operations 0

-- The file of a drive of so many rings.
unfoldable pub desk_file : ℕ → List ℕ
desk_file rings = file_of (rings + 1) desk_operations 0 (desk_entry rings)

-- Cause 14, then cause 16, or the file written into the room.
unfoldable pub table_of : (rings room : List ℕ) → Writing
table_of rings room = cond (rings_fit rings) (written_into (desk_file (ring_count rings)) room) (not_written Rings room)
