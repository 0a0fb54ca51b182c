use Rattle.change_floor.proofs.GoingOn.{never_stuck}
use Rattle.change_floor.proofs.laws.never_stuck.Goals as goal

pub returns : goal.returns
returns c = never_stuck
