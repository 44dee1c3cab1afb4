-- docs/RUNS.md, "The plain book". It is fed calls and their answers, and looks at no cell and no record.
use Rattle.std.specs.Prelude.{◌≡◌, List, [], ◌∷◌, ◌++◌, ℕ, suc, ◌<◌}
use Rattle.laws.specs.Update.{update}
use Rattle.machine.specs.Outcome.{Outcome}
use Rattle.machine.specs.Object.{Object}
use Rattle.machine.specs.Calls.{Call, Begin, Step, Answer, Begun, Running, Ended, Refused, Event}

-- An operation that was begun: the place of its begin call in the list identifies it.
pub record Operation : Type 0 where
  pub place : ℕ
  pub task : ℕ
  pub operation : ℕ

-- A task's page: idle, waiting with an operation, or done with an outcome; the last two with a count of steps.
pub data Page : Type 0 where
  Idle : Page
  Waiting : (operation : Operation) (steps : ℕ) → Page
  Done : (outcome : Outcome) (steps : ℕ) → Page

-- The book: a state, the order of the operations entered so far, and a page for each task.
pub record Book : Type 0 where
  pub state : ℕ
  pub order : List Operation
  pub page : ℕ → Page

-- At first the state is the start state, the order is empty, and all tasks are idle.
abbrev pub blank : ℕ → Book
blank q = record { state = q; order = []; page = λ _. Idle }

-- The book with another page for a task.
abbrev pub turned : ℕ → Page → Book → Book
turned t p k = record { state = k.state; order = k.order; page = update k.page t p }

-- A waiting task is entered: the object gives its outcome and the new state, and its operation goes to the end of the order.
abbrev pub entered : Object → ℕ → Operation → ℕ → Book → Book
entered b t x s k = record {
  state = b.next k.state x.operation;
  order = k.order ++ (x ∷ []);
  page = update k.page t (Done (b.outcome k.state x.operation) s);
}

-- Before a call is booked, waiting tasks may be entered, one after another.
pub data Entering (b : Object) : Book → Book → Type 0 where
  none : {k : Book} → Entering b k k
  enter : {k k' : Book} (t : ℕ) (x : Operation) (s : ℕ) → k.page t ≡ Waiting x s → Entering b (entered b t x s k) k' → Entering b k k'

-- The rule by which the call at a place is booked with its answer, for n tasks.
pub data Booking (b : Object) (n place : ℕ) (k : Book) : Call → Answer → Book → Type 0 where
  begun : {t o : ℕ} → t < n → o < b.operations → k.page t ≡ Idle → Booking b n place k (Begin t o) Begun (turned t (Waiting (record { place = place; task = t; operation = o }) 0) k)
  begin_task : {t o : ℕ} → (t < n → ⊥) → Booking b n place k (Begin t o) (Refused 7) k
  begin_operation : {t o : ℕ} → t < n → (o < b.operations → ⊥) → Booking b n place k (Begin t o) (Refused 8) k
  begin_pending : {t o : ℕ} → t < n → o < b.operations → (k.page t ≡ Idle → ⊥) → Booking b n place k (Begin t o) (Refused 9) k
  running_waiting : {t s : ℕ} {x : Operation} → t < n → k.page t ≡ Waiting x s → Booking b n place k (Step t) Running (turned t (Waiting x (suc s)) k)
  running_done : {t : ℕ} {r : Outcome} {s : ℕ} → t < n → k.page t ≡ Done r s → Booking b n place k (Step t) Running (turned t (Done r (suc s)) k)
  ended : {t : ℕ} {r : Outcome} {s : ℕ} → t < n → k.page t ≡ Done r s → Booking b n place k (Step t) (Ended r (suc s)) (turned t Idle k)
  step_task : {t : ℕ} → (t < n → ⊥) → Booking b n place k (Step t) (Refused 7) k
  step_idle : {t : ℕ} → t < n → k.page t ≡ Idle → Booking b n place k (Step t) (Refused 10) k

-- A legal step of the book: entries of waiting tasks first, then the booking rule.
pub record Legal (b : Object) (n place : ℕ) (e : Event) (k k' : Book) : Type 0 where
  pub between : Book
  pub entering : Entering b k between
  pub booking : Booking b n place between e.call e.answer k'

-- A book is kept along a history, from the place of its first call on: every event is a legal step.
pub data Kept (b : Object) (n : ℕ) : ℕ → Book → List Event → Book → Type 0 where
  rest : {place : ℕ} {k : Book} → Kept b n place k [] k
  then : {place : ℕ} {k k' k'' : Book} {e : Event} {es : List Event} → Legal b n place e k k' → Kept b n (suc place) k' es k'' → Kept b n place k (e ∷ es) k''
