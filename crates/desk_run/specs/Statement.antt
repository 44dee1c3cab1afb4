-- What is proved of a run over a table that the ring desk has written: start accepts it, the demands hold, the state is the number of
-- rings built, and each response the number before.
use Rattle.std.specs.Prelude.{◌≡◌, Bool, not, List, [], ◌∷◌, ℕ, ◌+◌, ◌≤◌, eqb, length, take, Ok}
use Rattle.laws.specs.Places.{At}
use Rattle.refusal.specs.Number.{accepted}
use Rattle.refusal.specs.Written.{written_said}
use Rattle.machine.specs.Calls.{Call}
use Rattle.machine.specs.Book.{Operation}
use Rattle.machine.specs.History.{Begins, Ends, replayed}
use Rattle.records.specs.declared.record.Task.{Task}
use Rattle.stepping.specs.Call.{start_of}
use Rattle.stepping.specs.Runs.{Store}
use Rattle.stepping.specs.Opening.{Opening, object_in, shown, start_store}
use Rattle.stepping.specs.Statement.{Demands}
use Rattle.ring_desk.specs.Rings.{ring_count}
use Rattle.ring_desk.specs.Table.{table_of}
use Rattle.ring_desk.specs.Statement.{Counts}

-- Rings counted along an order of operations: with so many built before it, so many are built after.
pub data Counted (rings : ℕ) : (before : ℕ) → List Operation → (after : ℕ) → Type 0 where
  none : {before : ℕ} → Counted rings before [] before
  then : {before next after : ℕ} {x : Operation} {xs : List Operation} → Counts rings before x.operation next → Counted rings next xs after → Counted rings before (x ∷ xs) after

-- An operation's answer: its response is the number of rings built before it, and it moved the state if another number is built after.
pub record AnswersCount (rings : ℕ) (order : List Operation) (x : Operation) (response : ℕ) (moved : Bool) : Type 0 where
  pub place : ℕ
  pub stands : At order place x
  pub built_before : Counted rings 0 (take place order) response
  pub after : ℕ
  pub built_after : Counts rings response x.operation after
  pub moved_is : moved ≡ not (eqb after response)

-- A run counts rings: the book's state is the number of rings built along the order, replay gives every operation of the order the
-- count, and every operation that ended answers it.
pub record CountsRings (rings : ℕ) {file : List ℕ} {n : ℕ} {s : Store} (o : Opening file n 0 s) (d : Demands o) : Type 0 where
  pub state : (xs : List Call) → Counted rings 0 (d.book xs).order (d.book xs).state
  pub entered : (xs : List Call) (i : ℕ) (x : Operation) → At (d.book xs).order i x
      → let v = replayed (object_in o) 0 (d.book xs).order i in AnswersCount rings (d.book xs).order x v.response v.moved
  pub answers : (xs : List Call) (x : Operation) (p r : ℕ) (moved : Bool) → Begins ((shown o).history xs) x
      → Ends ((shown o).history xs) x p (record { response = r; moved = moved }) → AnswersCount rings (d.book xs).order x r moved

-- The bytes that the desk has written for a list of rings: start accepts them for every row of 1 to 8 records with one cell more, this
-- opens a run with no ring built, the demands hold of it, and however its book is kept it counts rings.
abbrev pub DriveRuns : (rings room : List ℕ) (bytes : ℕ) → Type 0
DriveRuns rings room bytes =
    written_said (table_of rings room).answer ≡ accepted (bytes ∷ [])
    → let file = take bytes (table_of rings room).room in
    (cells : List ℕ) (row : List Task) → 1 ≤ length row → length row ≤ 8 → length cells ≡ length row + 1
    → ((start_of file cells row).answer ≡ (Ok tt))
    × ((o : Opening file (length row) 0 (start_store file cells row)) × Demands o × ((d : Demands o) → CountsRings (ring_count rings) o d))
