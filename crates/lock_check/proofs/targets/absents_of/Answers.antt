use Rattle.std.proofs.Common.{ap, ◌∙◌}
use Rattle.lock_check.specs.Violations.{pkgs_of}
use Rattle.lock_check.proofs.Ordered.{absents_told, ok_on, pkgs_never_fall}
use Rattle.lock_check.proofs.targets.absents_of.Goals as goal

pub absents-requires : goal.absents-requires
absents-requires c =
    pkgs_never_fall c.in_ok-members.members c.as_slice-2.result.now c.in_ok-members.ensures.rises (c.as_slice-2.ensures ∙ c.in_ok-set.ensures ∙ ap pkgs_of c.as_slice.ensures)

pub returns : goal.returns
returns c =
    ok_on c.absents.result (λ told is.
    is ∙ absents_told c.args.installed.now c.in_ok-members.members c.as_slice-2.result.now c.args.names.now c.in_ok-members.ensures.sorted
    (c.as_slice-2.ensures ∙ c.in_ok-set.ensures ∙ ap pkgs_of c.as_slice.ensures))
    c.absents.ensures
