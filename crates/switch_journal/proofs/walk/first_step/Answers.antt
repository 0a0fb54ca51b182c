use Rattle.switch_journal.proofs.Walked.{first_there}
use Rattle.switch_journal.proofs.walk.first_step.Goals as goal

pub returns-in_ok-first_text-in-Some-clause-told : goal.returns-in_ok-first_text-in-Some-clause-told
returns-in_ok-first_text-in-Some-clause-told g c = λ s is.
    first_there s.files c.in-Some.bytes c.in_ok-first_text-in-Some.field-0 (rw c.in-Some.is at c.in_ok-read_record_text.ensures.told s is) c.in_ok-first_text-in-Some.ensures.told
