use Rattle.switch_state.proofs.Told.{root_step}
use Rattle.switch_state.proofs.slots.give_roots.Goals as goal

pub loop-root-preserved : goal.loop-root-preserved
loop-root-preserved c =
    root_step c.args.roots.now c.loop-root.root-index c.root-item.result c.args.slot.now c.loop-root.slot c.root.new.self c.loop-root-test.true c.root-item.is c.loop-root.invariant c.in_ok-root.ensures.ok
