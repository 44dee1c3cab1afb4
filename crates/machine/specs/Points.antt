-- What is said of every point of a run, at work too: what the cells show, and what the next step of a pending task does.
use Rattle.std.specs.Prelude.{◌≡◌, true, false, List, ℕ, suc}
use Rattle.machine.specs.Outcome.{Outcome}
use Rattle.machine.specs.Object.{Object}
use Rattle.machine.specs.Memory.{Held, Empty, Memory, state_of, unmarked}
use Rattle.machine.specs.Machine.{Access, ReadHead, WriteAnnouncement, plan}
use Rattle.machine.specs.Run.{Config}
use Rattle.machine.specs.Calls.{Answer, Running, Ended, Event}
use Rattle.machine.specs.Book.{Operation}
use Rattle.machine.specs.History.{pending, Quiet, Changes, reached}
use Rattle.machine.specs.Demand.{StepAccepted}
use Rattle.machine.specs.Invariant.{is_in_head, is_in_announcement, head_value, content}

-- Over the cells m, with the history es and the order so far, from the start in state q.
pub record MidWork (b : Object) (q : ℕ) (m : Memory) (es : List Event) (order : List Operation) : Type 0 where
  -- The announcement of a task with no changing operation pending is empty.
  pub empty : (t : ℕ) → Quiet b (pending es t) → content m t ≡ Empty
  -- No cell has a mark of such a task.
  pub head_mark : (t : ℕ) → Quiet b (pending es t) → is_in_head m t ≡ true → ⊥
  pub announcement_mark : (t j : ℕ) → Quiet b (pending es t) → is_in_announcement m t j ≡ true → ⊥
  -- The head's holder has a changing operation pending.
  pub holder : (p j : ℕ) (r : Outcome) → head_value m ≡ Held p j r → Changes b (pending es j)
  -- The head's state is the one that the operations entered so far have led to.
  pub state : state_of (head_value m) ≡ reached b q order

-- The access of the next step of task t.
abbrev pub next_access : Object → ℕ → Config → Access
next_access b t c = plan b t (c.task t).priority (c.task t).operation (c.task t).phase

-- The operation o of task t is pending after s own steps; its next step makes the access, answers, and leaves the cells m.
-- The book's state before it is q.
pub record NextStep (b : Object) (t o s q : ℕ) (access : Access) (answer : Answer) (m : Memory) : Type 0 where
  pub accepted : StepAccepted answer
  -- The count answered is the number of accepted steps since begin, this one counted.
  pub count : (r : Outcome) (k : ℕ) → answer ≡ Ended r k → k ≡ suc s
  -- A reading operation ends in its first step, a read of the head.
  pub reading : b.changing o ≡ false → (access ≡ ReadHead) × (answer ≡ Ended (b.outcome q o) 1)
  -- A changing operation ends in the step that empties its announcement; one that goes on leaves it announced.
  pub ending : b.changing o ≡ true → (r : Outcome) (k : ℕ) → answer ≡ Ended r k → access ≡ WriteAnnouncement t (unmarked Empty)
  pub running : answer ≡ Running → content m t ≡ Empty → ⊥
