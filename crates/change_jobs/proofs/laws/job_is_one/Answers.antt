use Rattle.change_jobs.proofs.Viewed.{job_is_one as law}
use Rattle.change_jobs.proofs.laws.job_is_one.Goals as goal

pub returns : goal.returns
returns c = law
