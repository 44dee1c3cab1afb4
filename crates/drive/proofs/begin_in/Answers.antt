use Rattle.drive.proofs.Calls.{begin_inside}
use Rattle.drive.proofs.begin_in.Goals as goal

pub returns : goal.returns
returns c = begin_inside _ _ _ _ _ _ c.begin_record-answer.ensures
