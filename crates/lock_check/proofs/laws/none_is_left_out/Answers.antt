use Rattle.lock_check.proofs.TargetLaws.{none_out}
use Rattle.lock_check.proofs.laws.none_is_left_out.Goals as goal

pub returns : goal.returns
returns c = none_out c.holding_is_monotone.ensures
