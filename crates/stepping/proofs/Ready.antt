-- What a pending record in form tells a step: the ranges of priority and steps, and that its access touches one of the cells.
use Rattle.std.specs.Prelude.{Ok}
use mathlib.Core.Path.{◌≡◌}
use mathlib.Core.Logic.{◌≢◌}
use mathlib.Core.List.{List}
use Prim.Native.Nat.{ℕ, ◌+◌, ◌≤◌, ◌<◌}
use native.Mathlib.Omega.{arith}
use Rattle.cells.specs.Ceiling.{greatest_ceiling}
use Rattle.table.specs.declared.Shape.{Shape}
use Rattle.records.specs.declared.record.Task.{Task}
use Rattle.records.specs.declared.phase.Phase.{Phase}
use Rattle.records.specs.declared.phase.Phase.TheVariants.{Idle, ReadOnly, Announce, Poll, LoadHead, LinkHead, LoadPriority, LoadOwn, LoadExit, LinkExit, ClearExit, ReleaseExit, Retract, ClearHead, ReloadClear, Apply, ReloadApply, LoadHelped, LinkHelped, Validate, HandOver, ReloadHandOver, Release, ReloadRelease}
use Rattle.records.specs.Record.{read_record}
use Rattle.transition.specs.Transition.{plan_of}
use Rattle.stepping.specs.Step.{touched}
use Rattle.records.proofs.Forms.{read_points, read_works}
use Rattle.records.proofs.Phases.{WorksBelow}

-- The access of a task below n, for a phase that works for a task below n, touches one of n + 1 cells.
module _ (file : List ℕ) (shape : Shape) (n i : ℕ) (t : Task) (own : i < n) (first : t.priority < n) where
  pub touched_below : (f : Phase) → WorksBelow n f → touched (plan_of file shape i t.priority t f) < n + 1
  unfolding plan_of
  touched_below Idle h = omega arith
  touched_below ReadOnly h = omega arith
  touched_below Announce h = omega arith
  touched_below Poll h = omega arith
  touched_below LoadHead h = omega arith
  touched_below LinkHead h = omega arith
  touched_below LoadPriority h = omega arith
  touched_below LoadOwn h = omega arith
  touched_below LoadExit h = omega arith
  touched_below LinkExit h = omega arith
  touched_below ClearExit h = omega arith
  touched_below ReleaseExit h = omega arith
  touched_below Retract h = omega arith
  touched_below ClearHead h = omega arith
  touched_below ReloadClear h = omega arith
  touched_below (Apply j) h = omega arith
  touched_below (ReloadApply j) h = omega arith
  touched_below (LoadHelped j) h = omega arith
  touched_below (LinkHelped j) h = omega arith
  touched_below (Validate j) h = omega arith
  touched_below (HandOver j) h = omega arith
  touched_below (ReloadHandOver j) h = omega arith
  touched_below (Release j) h = omega arith
  touched_below (ReloadRelease j) h = omega arith

-- What a step of task i needs of a record in form, with k cells.
pub record Ready (file : List ℕ) (shape : Shape) (n k i : ℕ) (t : Task) (f : Phase) : Type 0 where
  pub priority : t.priority < n
  pub steps : t.steps < 1000000
  pub cell : touched (plan_of file shape i t.priority t f) < k

pub ready : (file : List ℕ) (shape : Shape) (n c k i : ℕ) (t : Task) (f : Phase) → c ≤ greatest_ceiling → k ≡ n + 1 → i < n → t.phase ≢ 0 → read_record shape n c t ≡ Ok f → Ready file shape n k i t f
ready file shape n c k i t f low count own pending e =
    let p = read_points shape n c t pending f e in
    let cell : touched (plan_of file shape i t.priority t f) < n + 1 = touched_below file shape n i t own p.priority f (read_works shape n c t pending f e) in
    record { priority = p.priority; steps = omega (arith, p.steps); cell = omega arith }
