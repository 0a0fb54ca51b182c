use Rattle.change_jobs.proofs.Short.{packages_are_short as law}
use Rattle.change_jobs.proofs.laws.packages_are_short.Goals as goal

pub returns : goal.returns
returns c = law
