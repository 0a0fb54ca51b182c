use Rattle.rows.proofs.GivenPieces.{root_step}
use Rattle.rows.proofs.pieces.give_roots.Goals as goal

pub loop-root-preserved : goal.loop-root-preserved
loop-root-preserved c =
    root_step c.args.roots.now c.loop-root.root-index c.root-item.result c.args.slot.now c.loop-root.slot c.root.new.self c.loop-root-test.true c.root-item.is c.loop-root.invariant c.in_ok-root.ensures.ok
