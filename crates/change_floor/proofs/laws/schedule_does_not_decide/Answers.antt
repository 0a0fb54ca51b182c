use Rattle.change_floor.proofs.Folding.{schedule_does_not_decide}
use Rattle.change_floor.proofs.laws.schedule_does_not_decide.Goals as goal

pub returns : goal.returns
returns c = schedule_does_not_decide
