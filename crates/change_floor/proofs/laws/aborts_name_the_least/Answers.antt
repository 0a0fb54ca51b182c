use Rattle.change_floor.proofs.Standing.{aborts_name_the_least}
use Rattle.change_floor.proofs.laws.aborts_name_the_least.Goals as goal

pub returns : goal.returns
returns c = aborts_name_the_least
