use Rattle.drive.proofs.Calls.{step_past}
use Rattle.drive.proofs.step.Goals as goal

pub returns-then-tasks-task : goal.returns-then-tasks-task
returns-then-tasks-task c = step_past _ _ _ _ _ _ c.if-tasks-task.true c.step_past.ensures
