-- Demands 2 and 3 as one statement about every list of calls, over whatever serves the calls: the abstract machine here,
-- the calls on words and records in the crate above.
use Rattle.std.specs.Prelude.{◌≡◌, List, [], ◌∷◌, ◌++◌, ℕ, suc, ◌<◌, length}
use Rattle.machine.specs.Outcome.{Outcome}
use Rattle.machine.specs.Object.{Object}
use Rattle.machine.specs.Calls.{Call, Step, Answer, Begun, Running, Ended, Refused, Event}
use Rattle.machine.specs.Book.{Operation, Book, blank, Legal}
use Rattle.machine.specs.History.{Pends, pending, Rest, Linearizes}

-- What a run shows after each list of calls: the answer to the next call, the calls so far with their answers, and the cells.
pub record Shown (C : Type 0) : Type 0 where
  pub answer : List Call → Call → Answer
  pub history : List Call → List Event
  pub cells : List Call → C

-- A step's answer that is no refusal.
abbrev pub StepAccepted : Answer → Type 0
StepAccepted Begun = ⊥
StepAccepted Running = Unit {0}
StepAccepted (Ended r k) = Unit {0}
StepAccepted (Refused r) = ⊥

-- A run of n tasks over an object from state q: what it shows agrees with the plain book, with Herlihy and Wing, with the
-- image of a state at rest, with what may be read in a print of the cells at any point, and with a ceiling of own steps.
pub record Demand (b : Object) (n q ceiling : ℕ) {C : Type 0} (image : ℕ → C) (Print : C → List Event → List Operation → Type 0) (run : Shown C) : Type 0 where
  -- The history is the calls so far, each with its answer.
  pub begins : run.history [] ≡ []
  pub told : (xs : List Call) (x : Call) → run.history (xs ++ (x ∷ [])) ≡ run.history xs ++ (record { call = x; answer = run.answer xs x } ∷ [])
  -- The plain book can be kept: it is a function of the calls so far, and each call with its answer is a legal step of it.
  pub book : List Call → Book
  pub first : book [] ≡ blank q
  pub legal : (xs : List Call) (x : Call)
      → Legal b n (length xs) (record { call = x; answer = run.answer xs x }) (book xs) (book (xs ++ (x ∷ [])))
  -- What it has entered stands when the list goes on: the order only grows at its end.
  pub grows : (xs ys : List Call) → (more : List Operation) × ((book (xs ++ ys)).order ≡ (book xs).order ++ more)
  -- The history is linearizable, by that order.
  pub linearizes : (xs : List Call) → Linearizes b q (run.history xs) (book xs).order
  -- At a point of rest the cells are the image of the book's state.
  pub rest : (xs : List Call) → Rest b (run.history xs) → run.cells xs ≡ image (book xs).state
  -- At every point the cells agree with the history and the order so far, as a print of them may be read.
  pub prints : (xs : List Call) → Print (run.cells xs) (run.history xs) (book xs).order
  -- While an operation is pending, its task's next step is accepted, and the own steps so far are below the ceiling.
  pub accepted : (xs : List Call) (t o s : ℕ) → pending (run.history xs) t ≡ Pends o s → StepAccepted (run.answer xs (Step t))
  pub below : (xs : List Call) (t o s : ℕ) → pending (run.history xs) t ≡ Pends o s → s < ceiling
  -- The count that *ended* answers is that of the own steps since begin, this one counted; so it is at most the ceiling.
  pub count : (xs : List Call) (t o s : ℕ) (r : Outcome) (k : ℕ) → pending (run.history xs) t ≡ Pends o s → run.answer xs (Step t) ≡ Ended r k → k ≡ suc s
