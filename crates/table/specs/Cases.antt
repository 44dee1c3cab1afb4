-- docs/FORMATS.md, "Cases": the cases about the object file. The table of all cases, which needs later definitions, is that of the
-- crate stepping.
use Rattle.std.specs.Prelude.{ℕ, ◌*◌, ◌/◌, ◌%◌, List, [], ◌∷◌, ◌++◌, replicate, drop, set}
use Rattle.laws.specs.Bit.{bit}
use Rattle.laws.specs.Case.{Case, case}
use Rattle.table.specs.File.{shape_of}
use Rattle.table.specs.Entries.{moves}
use Rattle.table.specs.Check.{check_of, check_said}

-- The flag object's entries.
abbrev flag_entries : List ℕ
flag_entries = 0x00 ∷ 0x00 ∷ 0x01 ∷ 0x00 ∷ 0x00 ∷ 0x00 ∷ 0x01 ∷ 0x01 ∷ 0x01 ∷ 0x01 ∷ 0x00 ∷ 0x01 ∷ []

-- The flag object's trailer.
abbrev flag_trailer : List ℕ
flag_trailer =
    0x00 ∷ 0x00 ∷ 0x00 ∷ 0x00 ∷ 0x02 ∷ 0x00 ∷ 0x03 ∷ 0x00 ∷ 0x00 ∷ 0x00 ∷ 0x44 ∷ 0x52 ∷ 0x49 ∷ 0x56 ∷ 0x45 ∷ 0x31 ∷ []

-- The flag object's file.
unfoldable pub flag : List ℕ
flag = flag_entries ++ flag_trailer

-- A file of so many states and operations in which every entry is 0.
unfoldable pub zero_table : ℕ → ℕ → List ℕ
zero_table states operations =
    replicate (2 * states * operations) 0 ++ set (set (set flag_trailer 4 (states % 256)) 5 (states / 256)) 6 operations

-- The number that check answers.
unfoldable pub number : List ℕ → ℕ
number file = (check_said (check_of file)).number

-- 1 if an operation moves a state of a file, 0 if it doesn't.
unfoldable pub moved : List ℕ → (state operation : ℕ) → ℕ
moved file state operation = bit (moves file (shape_of file) state operation)

unfoldable pub file_cases : List Case
file_cases =
    -- A file of 15 bytes.
    case (number (drop 13 flag)) 1
    -- 256 states pass, 257 do not.
    ∷ case (number (zero_table 256 1)) 0
    ∷ case (number (zero_table 257 1)) 2
    -- 32 operations pass, 33 do not.
    ∷ case (number (zero_table 1 32)) 0
    ∷ case (number (zero_table 1 33)) 2
    -- The flag file with offset 1.
    ∷ case (number (set flag 12 1)) 3
    -- Next state 1 passes with 2 states, next state 2 does not.
    ∷ case (number flag) 0
    ∷ case (number (set flag 8 2)) 4
    -- The flag is moved by a set in 0 and a clear in 1; not by a set in 1, a clear in 0, or a read.
    ∷ case (moved flag 0 1) 1
    ∷ case (moved flag 1 1) 0
    ∷ case (moved flag 1 2) 1
    ∷ case (moved flag 0 2) 0
    ∷ case (moved flag 0 0) 0
    ∷ case (moved flag 1 0) 0
    ∷ []
