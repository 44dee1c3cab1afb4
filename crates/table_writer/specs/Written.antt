-- docs/FORMATS.md, "The object table": the bytes of a file that is written. It has no text, so its offset is 0.
use Rattle.std.specs.Prelude.{List, [], ◌∷◌, ◌++◌, ℕ, ◌/◌, ◌%◌}
use Rattle.laws.specs.Joined.{joined}
use Rattle.table.specs.declared.Shape.{Shape}
use Rattle.table.specs.declared.Entry.{Entry}
use Rattle.table.specs.File.{mark}

-- A number in two bytes, the low byte first.
abbrev pub bytes16 : ℕ → List ℕ
bytes16 n = n % 256 ∷ n / 256 ∷ []

-- A number in four bytes, the low byte first.
abbrev pub bytes32 : ℕ → List ℕ
bytes32 n = bytes16 (n % 65536) ++ bytes16 (n / 65536)

-- An entry: next state, response, each in one byte, which has the low bits of a number that is too large.
abbrev pub entry_bytes_of : Entry → List ℕ
entry_bytes_of entry = entry.next % 256 ∷ entry.response % 256 ∷ []

-- The trailer: offset of the first entry, states, operations, start state, and the mark that check compares with.
abbrev pub trailer_of : Shape → List ℕ
trailer_of shape = bytes32 shape.offset ++ bytes16 shape.states ++ bytes16 shape.operations ++ bytes16 shape.start ++ mark

-- The entries of one state.
abbrev pub state_bytes : ℕ → (ℕ → Entry) → List ℕ
state_bytes operations entry = joined operations (λ operation. entry_bytes_of (entry operation))

-- The entries by state, then by operation.
abbrev pub entries_of : (states operations : ℕ) → (ℕ → ℕ → Entry) → List ℕ
entries_of states operations entry = joined states (λ state. state_bytes operations (entry state))

-- The shape of a file without text.
abbrev pub plain_shape : (states operations start : ℕ) → Shape
plain_shape states operations start = record { offset = 0; states = states; operations = operations; start = start }

-- The file of a table: the entries, then the trailer.
unfoldable pub file_of : (states operations start : ℕ) → (ℕ → ℕ → Entry) → List ℕ
file_of states operations start entry = entries_of states operations entry ++ trailer_of (plain_shape states operations start)
