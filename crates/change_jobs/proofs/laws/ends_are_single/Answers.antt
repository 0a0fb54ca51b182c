use Rattle.change_jobs.proofs.CourseLaws.{ends_are_single as law}
use Rattle.change_jobs.proofs.laws.ends_are_single.Goals as goal

pub returns : goal.returns
returns c = law
