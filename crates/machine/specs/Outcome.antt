-- What an operation answers: docs/RUNS.md, "Runs, steps and records".
use Rattle.std.specs.Prelude.{Bool, false, ℕ}

-- The response of the entry used, and whether that entry has a next state other than its own.
pub record Outcome : Type 0 where
  pub response : ℕ
  pub moved : Bool

-- Stands where there is none.
abbrev pub no_outcome : Outcome
no_outcome = record { response = 0; moved = false }
