use Rattle.outside_io.proofs.LeastFates.{fates_least}
use Rattle.outside_io.proofs.workshop.fates_are_least.Goals as goal

pub returns : goal.returns
returns c = fates_least
