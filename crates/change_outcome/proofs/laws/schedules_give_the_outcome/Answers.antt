use Rattle.change_outcome.proofs.Schedules.{schedules}
use Rattle.change_outcome.proofs.laws.schedules_give_the_outcome.Goals as goal

pub returns : goal.returns
returns c = schedules c.schedule_does_not_decide.ensures
