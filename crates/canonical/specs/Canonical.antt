-- docs/FORMATS.md, "One file for one object": the one file of an object, and what the call that writes it answers and leaves.
use Rattle.std.specs.Prelude.{◌≡◌, List, ℕ, length, get_or, Result, Ok, Err}
use Rattle.refusal.specs.Written.{Writing, not_written, written_into}
use Rattle.table.specs.declared.Shape.{Shape}
use Rattle.table.specs.declared.Entry.{Entry}
use Rattle.table.specs.Entries.{entry_of}
use Rattle.table.specs.File.{shape_of}
use Rattle.table.specs.Check.{check_of}
use Rattle.table_writer.specs.Written.{plain_shape, file_of}
use Rattle.reach.specs.Walk.{next_of}
use Rattle.reach.specs.Order.{place_in, order_of}
use Rattle.reach.specs.Reached.{order_words, number_words}
use Rattle.refusal.specs.declared.Refusal.{Refusal}

-- The entry of a new number, which is a place of the order: the new number of the next state, and the response as it was.
abbrev pub renumbered_entry : List ℕ → Shape → List ℕ → (place operation : ℕ) → Entry
renumbered_entry file shape order place operation =
    record { next = place_in order (next_of file shape (get_or order place 0) operation); response = (entry_of file shape (get_or order place 0) operation).response }

-- As many states as the order has, the same number of operations, and the start state 0.
abbrev pub renumbered_shape : Shape → List ℕ → Shape
renumbered_shape shape order = plain_shape (length order) shape.operations 0

-- The file of a table whose states are numbered by an order.
unfoldable pub renumbered : List ℕ → Shape → List ℕ → List ℕ
renumbered file shape order = file_of (length order) shape.operations 0 (renumbered_entry file shape order)

-- The file of an object: numbered in the order of first meeting.
unfoldable pub canonical_of : List ℕ → List ℕ
canonical_of file = renumbered file (shape_of file) (order_of file (shape_of file))

-- Where the tests for causes 1 to 4 gave this answer: their refusal; or else cause 16, or the file written into the room.
abbrev pub when_checked : (file room : List ℕ) → Result Shape Refusal → Writing
when_checked file room (Ok _) = written_into (canonical_of file) room
when_checked file room (Err cause) = not_written cause room

-- Causes 1 to 4, on all entries, then cause 16, or the file written into the room.
unfoldable pub canonical_written : (file room : List ℕ) → Writing
canonical_written file room = when_checked file room (check_of file)

-- What the writer works with: an accepted table, and the arrays of its order.
pub record Numbered (file : List ℕ) (shape : Shape) (order number : List ℕ) : Type 0 where
  pub accepted : check_of file ≡ Ok shape
  pub order_is : order ≡ order_words (order_of file shape)
  pub number_is : number ≡ number_words (order_of file shape)
