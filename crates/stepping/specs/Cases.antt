-- docs/FORMATS.md, "Cases": every case of the page's table, as one table about the definitions. Those of the file's bytes stand in the
-- crate table, those of the cells in the crate cells.
use Rattle.std.specs.Prelude.{ℕ, List, [], ◌∷◌, ◌++◌, replicate}
use Rattle.laws.specs.Bit.{bit}
use Rattle.laws.specs.Case.{Case, case}
use Rattle.cells.specs.Cases.{cell_cases}
use Rattle.table.specs.File.{shape_of}
use Rattle.table.specs.Cases.{flag, file_cases}
use Rattle.reach.specs.Changing.{changing}
use Rattle.stepping.specs.Call.{start_of, start_said, idle_row}

-- The number that start answers for the flag object with this many records, and one cell more.
abbrev started : ℕ → ℕ
started n = (start_said (start_of flag (replicate n 0 ++ (0 ∷ [])) (idle_row n)).answer).number

-- 1 if an operation of the flag object is changing, 0 if it is reading.
abbrev flag_changes : ℕ → ℕ
flag_changes operation = bit (changing flag (shape_of flag) operation)

unfoldable pub call_cases : List Case
call_cases =
    -- 8 records pass, 9 do not.
    case (started 8) 0
    ∷ case (started 9) 5
    -- The flag's operation 2 is changing, 0 is reading.
    ∷ case (flag_changes 2) 1
    ∷ case (flag_changes 0) 0
    ∷ []

-- All cases of the table.
unfoldable pub cases : List Case
cases = file_cases ++ cell_cases ++ call_cases
