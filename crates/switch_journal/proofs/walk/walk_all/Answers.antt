use Rattle.std.proofs.Common.{◌∙◌, sym, false, subst}
use Rattle.switch_journal.proofs.Exits.{ok_then}
use Rattle.switch_journal.proofs.Walked.{all_bad, all_on, all_shut}
use Rattle.switch_journal.specs.Formed.{IsFormedIn}
use Rattle.switch_journal.proofs.Formed.{empty_formed}
use Rattle.switch_journal.proofs.walk.walk_all.Goals as goal

pub returns-then-not-branch-clause-told : goal.returns-then-not-branch-clause-told
returns-then-not-branch-clause-told g c = λ s is.
    all_shut s.files c.start_with.result (sym (c.in_ok-is_record_open.ensures.told s is) ∙ c.if-not-branch.true) (c.start_with.ensures.kept ∙ c.empty.ensures) c.start_with.ensures.work

pub returns-in-None-clause-told : goal.returns-in-None-clause-told
returns-in-None-clause-told g c = λ s is.
    all_bad s.files c.in_ok-old.field-0 (sym (c.in_ok-is_record_open.ensures.told s is) ∙ c.if-not-branch.false) c.in-None.is (c.in_ok-old.ensures.told s (c.is_record_open.ensures.reads.same ∙ is))

pub returns-in-Some-clause-told : goal.returns-in-Some-clause-told
returns-in-Some-clause-told g c = λ s is.
    let told = c.is_record_open.ensures.reads.same ∙ is in
    ok_then c.walk_from.result (c.walk_from.ensures.told s (c.first_step.ensures.reads.same ∙ told))
    (λ w more. all_on s.files c.in_ok-old.field-0 c.in-Some.walk (sym (c.in_ok-is_record_open.ensures.told s is) ∙ c.if-not-branch.false) c.in-Some.is (c.in_ok-old.ensures.told s told) w more)

pub returns-then-not-branch-clause-formed : goal.returns-then-not-branch-clause-formed
returns-then-not-branch-clause-formed g c = subst (IsFormedIn false) (sym (c.start_with.ensures.kept ∙ c.empty.ensures)) (empty_formed false)

pub walk_from-requires-clause-formed : goal.walk_from-requires-clause-formed
walk_from-requires-clause-formed g c = rw c.in-Some.is at c.in_ok-old.ensures.formed
