use Rattle.lock_check.proofs.TargetLaws.{union_met}
use Rattle.lock_check.proofs.laws.union_is_met.Goals as goal

pub returns : goal.returns
returns c = union_met c.holding_is_monotone.ensures
