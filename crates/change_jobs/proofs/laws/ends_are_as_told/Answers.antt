use Rattle.change_jobs.proofs.CourseLaws.{ends_are_as_told as law}
use Rattle.change_jobs.proofs.laws.ends_are_as_told.Goals as goal

pub returns : goal.returns
returns c = law
