use Rattle.std.proofs.Common.{◌∙◌, sym}
use Rattle.change_verdict.proofs.Near.{near_above, near_looked}
use Rattle.change_verdict.proofs.OwnFolder.{outside_alone}
use Rattle.change_verdict.proofs.foreign.meets_file.Goals as goal

pub returns-then-branch-clause-told : goal.returns-then-branch-clause-told
returns-then-branch-clause-told g c = λ s told.
    sym (near_above s.files c.args.path.now c.as_str-text.ensures.valid (sym (c.in_ok-is_file_above.ensures.told s told) ∙ c.if-branch.true)) ∙ outside_alone s.files c.args.path.now c.as_str-text.ensures.valid c.requires

pub returns-in-Ok-clause-told : goal.returns-in-Ok-clause-told
returns-in-Ok-clause-told g c = λ s told.
    c.looks_near.ensures
    ∙ sym (near_looked s.files c.args.path.now c.as_str-text.ensures.valid (sym (c.in_ok-is_file_above.ensures.told s told) ∙ c.if-branch.false) c.in-Ok.look (c.in-Ok.ensures.look s (c.is_file_above.ensures.reads.same ∙ told)))
    ∙ outside_alone s.files c.args.path.now c.as_str-text.ensures.valid c.requires
