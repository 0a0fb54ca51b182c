use Rattle.change_jobs.proofs.CourseLaws.{decisions_go_on as law}
use Rattle.change_jobs.proofs.laws.decisions_go_on.Goals as goal

pub returns : goal.returns
returns c = law
