-- What is proved of a file that is written: it is accepted, and reads back as what was written.
use Rattle.std.specs.Prelude.{◌≡◌, true, List, ◌++◌, ℕ, ◌<◌, ◌≤◌, length, Ok}
use Rattle.table.specs.declared.Shape.{Shape}
use Rattle.table.specs.declared.Entry.{Entry}
use Rattle.table.specs.File.{Bytes, ends_in_mark, shape_of}
use Rattle.table.specs.Entries.{entry_of}
use Rattle.table.specs.Layout.{most_states, most_operations, file_length}
use Rattle.table.specs.Check.{check_of}
use Rattle.table_writer.specs.Written.{trailer_of, plain_shape, file_of}

-- The numbers of a shape fit their fields of the trailer.
pub record Fields (shape : Shape) : Type 0 where
  pub offset : shape.offset < 4294967296
  pub states : shape.states < 65536
  pub operations : shape.operations < 65536
  pub start : shape.start < 65536

-- A trailer that is written behind any bytes reads back: it says the shape, and the file ends in the mark.
pub record TrailerReads (front : List ℕ) (shape : Shape) : Type 0 where
  pub says : shape_of (front ++ trailer_of shape) ≡ shape
  pub marked : ends_in_mark (front ++ trailer_of shape) ≡ true

-- A table within the limits of a file.
pub record WithinLimits (states operations start : ℕ) (entry : ℕ → ℕ → Entry) : Type 0 where
  pub some_state : 1 ≤ states
  pub few_states : states ≤ most_states
  pub some_operation : 1 ≤ operations
  pub few_operations : operations ≤ most_operations
  pub start_below : start < states
  pub next_below : (state operation : ℕ) → state < states → operation < operations → (entry state operation).next < states
  pub response_byte : (state operation : ℕ) → state < states → operation < operations → (entry state operation).response < 256

-- Its file has the length of its shape, is made of bytes, is accepted with that shape, and has the table's entries.
pub record ReadsBack (states operations start : ℕ) (entry : ℕ → ℕ → Entry) : Type 0 where
  pub long : length (file_of states operations start entry) ≡ file_length (plain_shape states operations start)
  pub bytes : Bytes (file_of states operations start entry)
  pub accepted : check_of (file_of states operations start entry) ≡ Ok (plain_shape states operations start)
  pub entries : (state operation : ℕ) → state < states → operation < operations
      → entry_of (file_of states operations start entry) (plain_shape states operations start) state operation ≡ entry state operation
