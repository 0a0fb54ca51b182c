use Rattle.change_outcome.proofs.Following.{actions_follow}
use Rattle.change_outcome.proofs.laws.actions_can_follow.Goals as goal

pub returns : goal.returns
returns c = actions_follow
