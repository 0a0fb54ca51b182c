use Rattle.lock_check.proofs.TargetLaws.{least_one}
use Rattle.lock_check.proofs.laws.least_is_one.Goals as goal

pub returns : goal.returns
returns c = least_one c.rising_is_kept.ensures.members
