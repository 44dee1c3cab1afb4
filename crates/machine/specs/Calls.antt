-- The calls of a run with what they answer, as docs/RUNS.md writes them: numbers and values.
use Rattle.std.specs.Prelude.{ℕ}
use Rattle.machine.specs.Outcome.{Outcome}

-- A call of begin or step, with any numbers.
pub data Call : Type 0 where
  Begin : (task operation : ℕ) → Call
  Step : (task : ℕ) → Call

-- Begin is accepted, or refused with a number; a step is running, ended with its outcome and the count of its own steps, or
-- refused with a number.
pub data Answer : Type 0 where
  Begun Running : Answer
  Ended : (outcome : Outcome) (steps : ℕ) → Answer
  Refused : (number : ℕ) → Answer

-- A call with its answer.
pub record Event : Type 0 where
  pub call : Call
  pub answer : Answer
