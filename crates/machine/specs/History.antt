-- What is said of a history, a list of calls with their answers: pending operations, points of rest, and linearizability.
use Rattle.std.specs.Prelude.{◌≡◌, true, false, cond, List, [], ◌∷◌, ℕ, zero, suc, ◌<◌, eqb}
use Rattle.laws.specs.Places.{At}
use Rattle.machine.specs.Outcome.{Outcome, no_outcome}
use Rattle.machine.specs.Object.{Object}
use Rattle.machine.specs.Calls.{Call, Begin, Step, Answer, Begun, Running, Ended, Refused, Event}
use Rattle.machine.specs.Book.{Operation}

-- ---- Pending operations and points of rest

-- A task's pending operation with the number of its own steps so far, if it has one.
pub data Pending : Type 0 where
  Nothing : Pending
  Pends : (operation steps : ℕ) → Pending

-- One more own step.
abbrev pub longer : Pending → Pending
longer Nothing = Nothing
longer (Pends o s) = Pends o (suc s)

-- What a call with its answer makes of the pending operation of task t: an accepted begin opens it, an accepted step is
-- one more of its own steps, and *ended* closes it.
abbrev pub heard : ℕ → Call → Answer → Pending → Pending
heard t (Begin i o) Begun p = cond (eqb i t) (Pends o 0) p
heard t (Begin i o) Running p = p
heard t (Begin i o) (Ended r k) p = p
heard t (Begin i o) (Refused x) p = p
heard t (Step i) Begun p = p
heard t (Step i) Running p = cond (eqb i t) (longer p) p
heard t (Step i) (Ended r k) p = cond (eqb i t) Nothing p
heard t (Step i) (Refused x) p = p

-- The pending operation of task t after more events.
abbrev pub pending_from : ℕ → Pending → List Event → Pending
pending_from t p [] = p
pending_from t p (e ∷ es) = pending_from t (heard t e.call e.answer p) es

-- The pending operation of task t at the end of a history.
abbrev pub pending : List Event → ℕ → Pending
pending es t = pending_from t Nothing es

-- A quiet task has no changing operation pending: it is idle, or its pending operation is reading.
abbrev pub Quiet : Object → Pending → Type 0
Quiet b Nothing = Unit {0}
Quiet b (Pends o s) = b.changing o ≡ false

-- A changing operation is pending.
abbrev pub Changes : Object → Pending → Type 0
Changes b Nothing = ⊥
Changes b (Pends o s) = b.changing o ≡ true

-- A point of rest: no changing operation is pending.
abbrev pub Rest : Object → List Event → Type 0
Rest b es = (t : ℕ) → Quiet b (pending es t)

-- ---- Linearizability, after Herlihy and Wing

-- The operation x was begun: its begin call stands at its place, and was accepted.
abbrev pub Begins : List Event → Operation → Type 0
Begins es x = At es x.place (record { call = Begin x.task x.operation; answer = Begun })

-- The operation x ended at a place with an outcome: the first *ended* of its task after its begin call.
pub record Ends (es : List Event) (x : Operation) (place : ℕ) (outcome : Outcome) : Type 0 where
  pub steps : ℕ
  pub event : At es place (record { call = Step x.task; answer = Ended outcome steps })
  pub later : x.place < place
  pub first : (p : ℕ) (r : Outcome) (s : ℕ) → x.place < p → p < place → At es p (record { call = Step x.task; answer = Ended r s }) → ⊥

-- The operation x is open: begun, and no *ended* of its task since.
pub record Open (es : List Event) (x : Operation) : Type 0 where
  pub begins : Begins es x
  pub unended : (p : ℕ) (r : Outcome) (s : ℕ) → x.place < p → At es p (record { call = Step x.task; answer = Ended r s }) → ⊥

-- The outcome of the i-th operation of an order, by replay of the object from state q; none past the end.
abbrev pub replayed : Object → ℕ → List Operation → ℕ → Outcome
replayed b q [] i = no_outcome
replayed b q (x ∷ xs) zero = b.outcome q x.operation
replayed b q (x ∷ xs) (suc i) = replayed b (b.next q x.operation) xs i

-- The state that replay of an order leads to from state q.
abbrev pub reached : Object → ℕ → List Operation → ℕ
reached b q [] = q
reached b q (x ∷ xs) = reached b (b.next q x.operation) xs

-- An order linearizes a history over the object from state q.
pub record Linearizes (b : Object) (q : ℕ) (es : List Event) (order : List Operation) : Type 0 where
  -- Only operations that were begun stand in the order, each at most once.
  pub only : (i : ℕ) (x : Operation) → At order i x → Begins es x
  pub once : (i j : ℕ) (x y : Operation) → At order i x → At order j y → x.place ≡ y.place → i ≡ j
  -- Every operation that ended stands in the order, and replay gives its answer.
  pub every : (x : Operation) (p : ℕ) (r : Outcome) → Begins es x → Ends es x p r → (i : ℕ) × At order i x × (replayed b q order i ≡ r)
  -- An operation that ended before another began stands before it.
  pub real_time : (x y : Operation) (p : ℕ) (r : Outcome) (i j : ℕ) → Begins es x → Ends es x p r → p < y.place → At order i x → At order j y → i < j
