-- The calls on the first of nine records: the others remain.
use Rattle.std.specs.Prelude.{cond, List, ◌++◌, ℕ, leb, take, drop}
use Rattle.records.specs.declared.record.Task.{Task}
use Rattle.stepping.specs.Call.{StartOutcome, start_of, BeginOutcome, begin_of, StepOutcome, step_of}

-- How many of the records are lent for a number of tasks: as many, but at most nine, which is refused as a longer row is.
abbrev pub first_count : ℕ → ℕ
first_count n = cond (leb n 9) n 9

-- A start, a begin and a step on the first records.
unfoldable pub start_first : (file cells : List ℕ) → List Task → ℕ → StartOutcome
start_first file cells row n =
    let out = start_of file cells (take (first_count n) row) in
    record { cells = out.cells; row = out.row ++ drop (first_count n) row; answer = out.answer }

unfoldable pub begin_first : List ℕ → List Task → (n i o : ℕ) → BeginOutcome
begin_first file row n i o =
    let out = begin_of file (take (first_count n) row) i o in
    record { row = out.row ++ drop (first_count n) row; answer = out.answer }

unfoldable pub step_first : (file cells : List ℕ) → List Task → (n i : ℕ) → StepOutcome
step_first file cells row n i =
    let out = step_of file cells (take (first_count n) row) i in
    record { cells = out.cells; row = out.row ++ drop (first_count n) row; answer = out.answer }
