use Rattle.lock_check.proofs.TargetLaws.{least_there}
use Rattle.lock_check.proofs.laws.least_is_there.Goals as goal

pub returns : goal.returns
returns c = least_there c.texts_rise.ensures c.rising_is_kept.ensures.members
