use Rattle.std.proofs.Common.{subst, sym}
use Rattle.switch_journal.specs.Opening.{IsOpened}
use Rattle.switch_journal.proofs.Openings.{records_opened}
use Rattle.switch_journal.proofs.opening.read_records.Goals as goal

pub returns-clause-told : goal.returns-clause-told
returns-clause-told g c = λ s is zero_is one_is.
    subst (IsOpened s.files) (sym c.in_ok-as_opened.ensures.is)
    (records_opened s.files c.args.zero c.args.one c.counting-found.result c.is_some-zero_is_open.result c.is_some-one_is_open.result c.begun-journal.result zero_is one_is
    c.counting-found.ensures c.is_some-zero_is_open.ensures c.is_some-one_is_open.ensures c.begun-journal.ensures c.in_ok-walked.walked (c.in_ok-walked.ensures.told s is))
