use Rattle.std.proofs.Common.{get_or}
use Rattle.switch_state.proofs.Beginning.{pkgs_more}
use Rattle.switch_state.proofs.begins.pkgs_at.Goals as goal

pub loop-place-preserved : goal.loop-place-preserved
loop-place-preserved c =
    pkgs_more c.args.members.now c.args.places.now c.loop-place.place-index c.loop-place.pkgs c.push_pkg.new.pkgs c.loop-place-test.true c.loop-place.invariant c.in_ok-push_pkg.ensures
