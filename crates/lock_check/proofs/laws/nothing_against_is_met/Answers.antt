use Rattle.lock_check.proofs.TargetLaws.{nothing_met}
use Rattle.lock_check.proofs.laws.nothing_against_is_met.Goals as goal

pub returns : goal.returns
returns c = nothing_met
