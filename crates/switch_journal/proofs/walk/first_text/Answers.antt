use Rattle.switch_journal.proofs.Walked.{first_entry}
use Rattle.std.proofs.Common.{subst, sym}
use Rattle.switch_journal.specs.Formed.{IsFormedIn}
use Rattle.switch_journal.proofs.Formed.{empty_formed}
use Rattle.switch_journal.proofs.walk.first_text.Goals as goal

pub returns-in_ok-step-in-Some-clause-told : goal.returns-in_ok-step-in-Some-clause-told
returns-in_ok-step-in-Some-clause-told c =
    first_entry c.one_record_for_bytes.ensures c.args.bytes c.in_ok-old.field-0.old c.in-Some.entry c.in_ok-step-in-Some.step c.empty.result c.empty.ensures
    (rw c.in-Some.is at c.in_ok-old.ensures) c.in_ok-step-in-Some.ensures.said c.in_ok-step-in-Some.ensures.work

pub apply_entry-requires-clause-formed : goal.apply_entry-requires-clause-formed
apply_entry-requires-clause-formed c = subst (IsFormedIn c.in_ok-old.field-0.old) (sym c.empty.ensures) (empty_formed c.in_ok-old.field-0.old)
