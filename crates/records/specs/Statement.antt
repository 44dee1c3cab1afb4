-- docs/RECORDS.md, "Forms": what is proved of the forms of a record, with a table's shape, n tasks and their ceiling c. The proofs are in
-- proofs/Forms.antt.
use Rattle.std.specs.Prelude.{◌≡◌, true, ◌↔◌, ◌≢◌, ℕ, ◌%◌, ◌<◌, ◌≤◌}
use Rattle.cells.specs.Form.{head_in_form, announcement_in_form}
use Rattle.table.specs.declared.Shape.{Shape}
use Rattle.records.specs.declared.record.Task.{Task}
use Rattle.records.specs.Record.{idle_task, RecordFits}

-- What a pending record has to keep.
pub record PendingPoints (shape : Shape) (n c : ℕ) (t : Task) : Type 0 where
  -- Its number is a phase: 1 to 14 or 16 to 87.
  pub numbered : t.phase ≤ 87
  pub used : t.phase ≢ 15
  -- The task that the phase works for, if it works for one, is below n.
  pub named : 16 ≤ t.phase → t.phase % 8 < n
  pub operation : t.operation < shape.operations
  pub priority : t.priority < n
  pub steps : t.steps < c
  -- In Apply and ReloadApply the payload is an operation.
  pub payload : 16 ≤ t.phase → t.phase ≤ 31 → t.payload < shape.operations
  -- The saved words are in form with n tasks.
  pub head : head_in_form shape.states n t.head ≡ true
  pub announcement : announcement_in_form shape.operations n t.announcement ≡ true

-- A record in another phase than 0 is in form exactly if it keeps each of them.
abbrev pub PendingByPoint : (shape : Shape) (n c : ℕ) → Task → Type 0
PendingByPoint shape n c t = t.phase ≢ 0 → RecordFits shape n c t ↔ PendingPoints shape n c t

-- One in phase 0 is in form exactly if its priority is below n and all else is 0.
abbrev pub IdleByPoint : (shape : Shape) (n c : ℕ) → Task → Type 0
IdleByPoint shape n c t = t.phase ≡ 0 → RecordFits shape n c t ↔ ((t.priority < n) × (t ≡ idle_task t.priority))
