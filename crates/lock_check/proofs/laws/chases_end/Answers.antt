use Rattle.lock_check.proofs.ChaseEnds.{chases_end}
use Rattle.lock_check.proofs.laws.chases_end.Goals as goal

pub returns : goal.returns
returns c = chases_end
