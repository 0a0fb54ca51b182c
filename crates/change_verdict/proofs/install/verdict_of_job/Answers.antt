use Rattle.change_verdict.proofs.Deciding.{verdict_by}
use Rattle.change_verdict.proofs.install.verdict_of_job.Goals as goal

pub returns-clause-told : goal.returns-clause-told
returns-clause-told g c = λ told s tells held.
    verdict_by (told.files c.args.job.now) s.files c.args.owners.now.owned c.args.job.now.pkg c.args.fate c.in_ok-sources.sources c.install_verdict.result (c.in_ok-sources.ensures.told told tells) (c.install_verdict.ensures.told s held)
