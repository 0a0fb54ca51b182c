use Rattle.std.proofs.Common.{◌∙◌}
use Rattle.journal_text.specs.Parts.{paths_of}
use Rattle.change_verdict.proofs.Clashing.{told_foreign, told_none, told_owner}
use Rattle.change_verdict.proofs.clash.first_clash.Goals as goal

pub returns-in-None-clause-told : goal.returns-in-None-clause-told
returns-in-None-clause-told g c = λ s told.
    told_none s.files c.args.owners.now.owned c.args.pkg.now (paths_of c.args.files.now) c.as_slice.result.now c.as_slice-in-None.result.now c.in_ok-clash.field-0 c.first_foreign.result
    (c.as_slice.ensures ∙ c.in_ok-paths.ensures) (c.as_slice-in-None.ensures ∙ c.in_ok-paths.ensures) c.in-None.is c.in_ok-clash.ensures.none (c.first_foreign.ensures.told s told)

pub returns-in-Some-2-clause-told : goal.returns-in-Some-2-clause-told
returns-in-Some-2-clause-told g c = λ s told.
    told_foreign s.files c.args.owners.now.owned c.args.pkg.now (paths_of c.args.files.now) c.as_slice.result.now c.as_slice-in-Some.result.now c.split_at.result.0.now c.in_ok-clash.field-0 c.in-Some.clash c.in_ok-reason-in-Some.field-0 c.in-Some-2.reason
    (c.as_slice.ensures ∙ c.in_ok-paths.ensures) (c.as_slice-in-Some.ensures ∙ c.in_ok-paths.ensures) c.split_at.ensures.front c.in-Some.is c.in_ok-clash.ensures.some (c.in_ok-reason-in-Some.ensures.told s told) c.in-Some-2.is

pub returns-clause-told : goal.returns-clause-told
returns-clause-told g c = λ s told.
    told_owner s.files c.args.owners.now.owned c.args.pkg.now (paths_of c.args.files.now) c.as_slice.result.now c.as_slice-in-Some.result.now c.split_at.result.0.now c.as_slice-in-None-2.result.now c.in_ok-clash.field-0 c.in-Some.clash c.in_ok-reason-in-Some.field-0 c.in_ok-clash_reason-in-None-2.field-0
    (c.as_slice.ensures ∙ c.in_ok-paths.ensures) (c.as_slice-in-Some.ensures ∙ c.in_ok-paths.ensures) c.split_at.ensures.front (c.as_slice-in-None-2.ensures ∙ c.in_ok-paths.ensures) c.in-Some.is c.in_ok-clash.ensures.some (c.in_ok-reason-in-Some.ensures.told s told) c.in-None-2.is c.in_ok-clash_reason-in-None-2.ensures
