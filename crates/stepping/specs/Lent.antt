-- Lists of calls of start, begin and step with all that they are lent, on any memory: which of them belong to a run, and what may
-- stand between.
use Rattle.std.specs.Prelude.{◌≡◌, ◌≢◌, List, [], ◌∷◌, map, ℕ, Result, Ok, Err, ⊤}
use Rattle.laws.specs.Update.{update}
use Rattle.refusal.specs.Number.{number_of}
use Rattle.machine.specs.Calls as run
use Rattle.machine.specs.Calls.{Call, Answer, Event}
use Rattle.records.specs.declared.record.Task.{Task}
use Rattle.stepping.specs.Call.{start_of, begin_of, step_of, begin_said, step_said}
use Rattle.stepping.specs.Runs.{Store, run_of, history_of}
use Rattle.refusal.specs.declared.Refusal.{Refusal}

-- ---- Memory that is lent

-- Tables, cells and rows, each in places of its own.
pub record Memory : Type 0 where
  pub table : ℕ → List ℕ
  pub cells : ℕ → List ℕ
  pub row : ℕ → List Task

-- The places of a table, of cells and of a row.
pub record Places : Type 0 where
  pub table : ℕ
  pub cells : ℕ
  pub row : ℕ

-- The cells and the row at their places.
abbrev pub store_at : Places → Memory → Store
store_at p m = record { cells = m.cells p.cells; row = m.row p.row }

-- ---- A call with the places that it is lent

pub data LentCall : Type 0 where
  LentStart : (at : Places) → LentCall
  LentBegin : (table row task operation : ℕ) → LentCall
  LentStep : (at : Places) (task : ℕ) → LentCall

-- A start opens a run or is refused with a number; begin and step say what they say in a run.
pub data LentAnswer : Type 0 where
  RunOpened : LentAnswer
  RunRefused : (number : ℕ) → LentAnswer
  Says : (answer : Answer) → LentAnswer

abbrev pub start_answered : Result ⊤ Refusal → LentAnswer
start_answered (Ok tt) = RunOpened
start_answered (Err c) = RunRefused (number_of c)

-- What a call leaves, and what it answers: it writes the cells and the row that it is lent, and no other place.
pub record Lent : Type 0 where
  pub memory : Memory
  pub answer : LentAnswer

abbrev pub serve_lent : LentCall → Memory → Lent
serve_lent (LentStart at) m =
    let out = start_of (m.table at.table) (m.cells at.cells) (m.row at.row) in
    record {
      memory = record { table = m.table; cells = update m.cells at.cells out.cells; row = update m.row at.row out.row };
      answer = start_answered out.answer;
    }
serve_lent (LentBegin table row i o) m =
    let out = begin_of (m.table table) (m.row row) i o in
    record { memory = record { table = m.table; cells = m.cells; row = update m.row row out.row }; answer = Says (begin_said out.answer) }
serve_lent (LentStep at i) m =
    let out = step_of (m.table at.table) (m.cells at.cells) (m.row at.row) i in
    record {
      memory = record { table = m.table; cells = update m.cells at.cells out.cells; row = update m.row at.row out.row };
      answer = Says (step_said out.answer);
    }

-- ---- Lists of calls around a run

-- A call of the run at these places: it is lent the run's table, cells and row.
pub data OfRun (p : Places) : LentCall → Call → Type 0 where
  begin : {i o : ℕ} → OfRun p (LentBegin p.table p.row i o) (run.Begin i o)
  step : {i : ℕ} → OfRun p (LentStep p i) (run.Step i)

-- A refused call.
abbrev pub IsRefused : LentAnswer → Type 0
IsRefused RunOpened = ⊥
IsRefused (RunRefused k) = Unit {0}
IsRefused (Says run.Begun) = ⊥
IsRefused (Says run.Running) = ⊥
IsRefused (Says (run.Ended r k)) = ⊥
IsRefused (Says (run.Refused k)) = Unit {0}

-- A call on other memory: it is lent neither the run's cells nor its row.
abbrev pub Apart : Places → LentCall → Type 0
Apart p (LentStart at) = (at.cells ≢ p.cells) × (at.row ≢ p.row)
Apart p (LentBegin table row i o) = row ≢ p.row
Apart p (LentStep at i) = (at.cells ≢ p.cells) × (at.row ≢ p.row)

-- A list of calls from one memory to another, with those of the run at these places and their answers: each call is one of the
-- run, or refused, or on other memory.
pub data Around (p : Places) : Memory → List LentCall → List Event → Memory → Type 0 where
  done : {m : Memory} → Around p m [] [] m
  own : {m m' : Memory} {x : LentCall} {y : Call} {a : Answer} {xs : List LentCall} {es : List Event}
      → OfRun p x y → (serve_lent x m).answer ≡ Says a → Around p (serve_lent x m).memory xs es m'
      → Around p m (x ∷ xs) (record { call = y; answer = a } ∷ es) m'
  refused : {m m' : Memory} {x : LentCall} {xs : List LentCall} {es : List Event}
      → IsRefused (serve_lent x m).answer → Around p (serve_lent x m).memory xs es m' → Around p m (x ∷ xs) es m'
  apart : {m m' : Memory} {x : LentCall} {xs : List LentCall} {es : List Event}
      → Apart p x → Around p (serve_lent x m).memory xs es m' → Around p m (x ∷ xs) es m'

-- The calls of the run are a run: whatever stands between, their answers, the cells, the row and the table are those of the run
-- of these calls alone.
pub record SameRun (p : Places) (m : Memory) (es : List Event) (m' : Memory) : Type 0 where
  pub history : es ≡ history_of (m.table p.table) (map (λ e. e.call) es) (store_at p m)
  pub store : store_at p m' ≡ run_of (m.table p.table) (map (λ e. e.call) es) (store_at p m)
  pub table : m'.table ≡ m.table
