use Rattle.switch_journal.proofs.Walked.{text_step}
use Rattle.switch_journal.proofs.walk.step.Goals as goal

pub returns-in_ok-apply_text-in-Some-clause-told : goal.returns-in_ok-apply_text-in-Some-clause-told
returns-in_ok-apply_text-in-Some-clause-told g c = λ s is.
    text_step c.args.old s.files c.args.number c.args.kept c.in-Some.bytes c.in_ok-apply_text-in-Some.field-0 c.requires.small (rw c.in-Some.is at c.in_ok-read_record_text.ensures.told s is) c.in_ok-apply_text-in-Some.ensures.told
