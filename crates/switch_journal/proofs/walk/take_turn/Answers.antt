use Rattle.std.proofs.Common.{◌∙◌, sym, subst}
use Rattle.switch_journal.specs.Formed.{IsFormedIn}
use Rattle.switch_journal.proofs.walk.take_turn.Goals as goal

pub returns-in-None-clause-told : goal.returns-in-None-clause-told
returns-in-None-clause-told g c = λ s is.
    let gate = c.in_ok-is_record_open.ensures.told s is in
    let stepped = rw c.without_work-kept.ensures at (rw c.in-None.is at c.in_ok-step.ensures.told s (c.is_record_open.ensures.reads.same ∙ is)) in
    (sym gate ∙ c.if-not-branch.false, stepped)

pub returns-in-Some-clause-told : goal.returns-in-Some-clause-told
returns-in-Some-clause-told g c = λ s is.
    let gate = c.in_ok-is_record_open.ensures.told s is in
    let stepped = rw c.without_work-kept.ensures at (rw c.in-Some.is at c.in_ok-step.ensures.told s (c.is_record_open.ensures.reads.same ∙ is)) in
    (sym gate ∙ c.if-not-branch.false, stepped)

pub step-requires-clause-formed : goal.step-requires-clause-formed
step-requires-clause-formed g c = subst (IsFormedIn c.args.old) (sym c.without_work-kept.ensures) c.requires.formed

pub returns-in-Some-clause-formed : goal.returns-in-Some-clause-formed
returns-in-Some-clause-formed g c = rw c.in-Some.is at c.in_ok-step.ensures.formed
