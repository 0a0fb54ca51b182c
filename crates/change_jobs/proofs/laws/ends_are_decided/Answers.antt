use Rattle.change_jobs.proofs.Decides.{ends_are_decided as law}
use Rattle.change_jobs.proofs.laws.ends_are_decided.Goals as goal

pub returns : goal.returns
returns c = law
