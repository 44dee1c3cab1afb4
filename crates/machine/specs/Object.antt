-- The object that the tasks share, as far as the machine needs it: docs/FORMATS.md, "The object table", without its bytes.
use Rattle.std.specs.Prelude.{Bool, ℕ}
use Rattle.machine.specs.Outcome.{Outcome}

pub record Object : Type 0 where
  -- The state after an operation.
  pub next : ℕ → ℕ → ℕ
  -- What an operation answers.
  pub outcome : ℕ → ℕ → Outcome
  -- Whether an operation is changing; otherwise it is reading.
  pub changing : ℕ → Bool
  -- How many operations there are, and a bound of the responses.
  pub operations : ℕ
  pub outcomes : ℕ
  -- The states that a run may be in.
  pub good : ℕ → Bool
