-- docs/FORMATS.md, "When a call is not served": the number of each cause, and what an answer says in numbers.
use Rattle.std.specs.Prelude.{List, [], ℕ}
use Rattle.refusal.specs.declared.Refusal.{Refusal}
use Rattle.refusal.specs.declared.Refusal.TheVariants.{File, Dimensions, Length, NextState, Row, Cells, Task, Operation, Pending, Idle, Record, Cell, Line, Rings, Chainage, Room, Unacknowledged, Window, Question}

-- The numbers follow the order of the page's table.
abbrev pub number_of : Refusal → ℕ
number_of File = 1
number_of Dimensions = 2
number_of Length = 3
number_of NextState = 4
number_of Row = 5
number_of Cells = 6
number_of Task = 7
number_of Operation = 8
number_of Pending = 9
number_of Idle = 10
number_of Record = 11
number_of Cell = 12
number_of Line = 13
number_of Rings = 14
number_of Chainage = 15
number_of Room = 16
number_of Unacknowledged = 17
number_of Window = 18
number_of Question = 19

-- What an answer says: a number, 0 if the call is accepted, and the values that come with it.
pub record Said : Type 0 where
  pub number : ℕ
  pub values : List ℕ

-- An accepted call says its values.
abbrev pub accepted : List ℕ → Said
accepted values = record { number = 0; values = values }

-- A refused call says a number, and no value.
abbrev pub refused_by : ℕ → Said
refused_by number = record { number = number; values = [] }

-- The number is that of its cause.
abbrev pub refused : Refusal → Said
refused c = refused_by (number_of c)
