use Rattle.drive.proofs.Calls.{step_inside}
use Rattle.drive.proofs.step_in.Goals as goal

pub returns : goal.returns
returns c = step_inside _ _ _ _ _ _ _ c.step_record-answer.ensures
