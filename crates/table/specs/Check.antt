-- docs/FORMATS.md, "When a call is not served": what the test of a whole table answers, and what the answer says.
use Rattle.std.specs.Prelude.{cond, List, [], ◌∷◌, ℕ, Result, Ok, Err}
use Rattle.refusal.specs.declared.Refusal.TheVariants.{NextState}
use Rattle.refusal.specs.Number.{Said, accepted, refused}
use Rattle.table.specs.Entries.{entries_in_range}
use Rattle.table.specs.Layout.{layout_of}
use Rattle.table.specs.declared.Shape.{Shape}
use Rattle.refusal.specs.declared.Refusal.{Refusal}

-- Cause 4, tested on all entries of a file whose causes 1 to 3 gave this answer.
abbrev pub with_entries : List ℕ → Result Shape Refusal → Result Shape Refusal
with_entries file (Ok shape) = cond (entries_in_range file shape) (Ok shape) (Err NextState)
with_entries file (Err cause) = Err cause

-- The first of causes 1 to 4 that holds, or the file's shape.
unfoldable pub check_of : List ℕ → Result Shape Refusal
check_of file = with_entries file (layout_of file)

-- What an answer says: states, operations and start state, or the number of the cause.
abbrev pub check_said : Result Shape Refusal → Said
check_said (Ok shape) = accepted (shape.states ∷ shape.operations ∷ shape.start ∷ [])
check_said (Err cause) = refused cause
