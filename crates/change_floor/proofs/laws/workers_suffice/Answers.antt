use Rattle.change_floor.proofs.Starting.{workers_suffice}
use Rattle.change_floor.proofs.laws.workers_suffice.Goals as goal

pub returns : goal.returns
returns c = workers_suffice
