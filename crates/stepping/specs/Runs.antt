-- Runs of the calls on cells and records, with their histories.
use Rattle.std.specs.Prelude.{List, [], ◌∷◌, ℕ}
use Rattle.machine.specs.Calls.{Call, Begin, Step, Answer, Event}
use Rattle.machine.specs.Demand.{Shown}
use Rattle.records.specs.declared.record.Task.{Task}
use Rattle.stepping.specs.Call.{begin_of, step_of, begin_said, step_said}

-- What the calls of a run hand on: the cells and the row.
pub record Store : Type 0 where
  pub cells : List ℕ
  pub row : List Task

-- What a call leaves, and what it answers.
pub record CallOutcome : Type 0 where
  pub store : Store
  pub answer : Answer

-- A call of begin leaves the cells as they are.
abbrev pub serve_of : List ℕ → Call → Store → CallOutcome
serve_of file (Begin i o) s =
    let out = begin_of file s.row i o in
    record { store = record { cells = s.cells; row = out.row }; answer = begin_said out.answer }
serve_of file (Step i) s =
    let out = step_of file s.cells s.row i in
    record { store = record { cells = out.cells; row = out.row }; answer = step_said out.answer }

-- The cells and the row after a list of calls.
abbrev pub run_of : List ℕ → List Call → Store → Store
run_of file [] s = s
run_of file (x ∷ xs) s = run_of file xs (serve_of file x s).store

-- The history of a list of calls: each with its answer.
abbrev pub history_of : List ℕ → List Call → Store → List Event
history_of file [] s = []
history_of file (x ∷ xs) s = record { call = x; answer = (serve_of file x s).answer } ∷ history_of file xs (serve_of file x s).store

-- What a run shows that goes on from these cells and this row.
abbrev pub shown_by : List ℕ → Store → Shown (List ℕ)
shown_by file s = record {
  answer = λ xs x. (serve_of file x (run_of file xs s)).answer;
  history = λ xs. history_of file xs s;
  cells = λ xs. (run_of file xs s).cells;
}
