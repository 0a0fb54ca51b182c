use Rattle.lock_check.proofs.TargetLaws.{nothing_forbidden}
use Rattle.lock_check.proofs.laws.nothing_against_is_peace.Goals as goal

pub returns : goal.returns
returns c = nothing_forbidden
