use Rattle.change_floor.proofs.GoingOn.{first_start_is_allowed}
use Rattle.change_floor.proofs.laws.first_start_is_allowed.Goals as goal

pub returns : goal.returns
returns c = first_start_is_allowed
