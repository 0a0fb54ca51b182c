use Rattle.lock_check.specs.Targets.{member_name}
use Rattle.lock_check.proofs.Standing.{rises_at}
use Rattle.lock_check.proofs.made.install_target.Goals as goal

pub install_roots-requires : goal.install_roots-requires
install_roots-requires c = rises_at member_name c.as_slice-2.result.now c.in_ok-members.members c.as_slice-2.ensures c.in_ok-members.ensures.rises

pub install_members-requires-clause-differ : goal.install_members-requires-clause-differ
install_members-requires-clause-differ c = c.requires.differ
