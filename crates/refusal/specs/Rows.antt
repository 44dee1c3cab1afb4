-- docs/FORMATS.md, "When a call is not served": the table of refusals row by row, each cause beside its number.
use Rattle.std.specs.Prelude.{List, [], ◌∷◌, ℕ}
use Rattle.refusal.specs.declared.Refusal.{Refusal}
use Rattle.refusal.specs.declared.Refusal.TheVariants.{File, Dimensions, Length, NextState, Row, Cells, Task, Operation, Pending, Idle, Record, Cell, Line, Rings, Chainage, Room, Unacknowledged, Window, Question}

pub record TableRow : Type 0 where
  pub cause : Refusal
  pub number : ℕ

abbrev row : Refusal → ℕ → TableRow
row c k = record { cause = c; number = k }

unfoldable pub rows : List TableRow
rows =
    -- File under 16 or over 20,496 bytes, or mark wrong.
    row File 1
    -- s or m out of range, or start state not below s.
    ∷ row Dimensions 2
    -- Offset over 4,096, or the parts differ from the length.
    ∷ row Length 3
    -- Next state not below s, in the entries tested.
    ∷ row NextState 4
    -- Row of 0 or over 8 records.
    ∷ row Row 5
    -- Cells not one more than records.
    ∷ row Cells 6
    -- Task number not below n.
    ∷ row Task 7
    -- Operation not below m.
    ∷ row Operation 8
    -- Begin with an operation pending.
    ∷ row Pending 9
    -- Step with none pending.
    ∷ row Idle 10
    -- Record out of the forms.
    ∷ row Record 11
    -- Touched cell out of the forms.
    ∷ row Cell 12
    -- Bench line of no known form, or before an accepted start.
    ∷ row Line 13
    -- List of rings: its length, or a ring's length or kind, out of range.
    ∷ row Rings 14
    -- Chainage with no owner.
    ∷ row Chainage 15
    -- Room shorter than what is to be written.
    ∷ row Room 16
    -- The window's command is a begin, and done is not acknowledged.
    ∷ row Unacknowledged 17
    -- The window's command is not 0 to 3, or the windows are not 8 bytes for each task.
    ∷ row Window 18
    -- Force: moves, state, or the targets' length or a byte of them, out of range.
    ∷ row Question 19
    ∷ []
