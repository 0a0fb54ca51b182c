use Rattle.change_floor.proofs.Starting.{starts_are_single}
use Rattle.change_floor.proofs.laws.starts_are_single.Goals as goal

pub returns : goal.returns
returns c = starts_are_single
