use Rattle.std.proofs.Common.{◌∙◌}
use Rattle.lock_check.specs.Chased.{pkg_name}
use Rattle.lock_check.proofs.Standing.{rises_at}
use Rattle.lock_check.proofs.chase.Chase.begin.Goals as goal

pub first_progress-requires-clause-bound : goal.first_progress-requires-clause-bound
first_progress-requires-clause-bound c =
    rises_at pkg_name c.in_ok-copy_pkgs.field-0 c.args.lock.now.bound (c.in_ok-copy_pkgs.ensures ∙ c.as_slice.ensures) c.requires.lock

pub first_progress-requires-clause-held : goal.first_progress-requires-clause-held
first_progress-requires-clause-held c = c.in_ok-hold_all.ensures.rises
