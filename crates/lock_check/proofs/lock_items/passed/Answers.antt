use Rattle.lock_check.specs.LockItems.{part_faults, passes}
use Rattle.lock_check.proofs.Bound.{next_sound, rest_sound}
use Rattle.lock_check.proofs.Ordered.{mapped_on}
use Rattle.lock_check.proofs.lock_items.passed.Goals as goal

pub passes-requires : goal.passes-requires
passes-requires c = next_sound part_faults c.args.nodes.now c.loop-node.node-index c.node-item.result c.loop-node-test.true c.node-item.is c.loop-node.invariant.sound

pub loop-node-preserved : goal.loop-node-preserved
loop-node-preserved c = record {
  flags =
      mapped_on (passes c.args.globals.now) c.loop-node.flags c.push.new.self c.in_ok-flag.flag _ c.args.nodes.now c.loop-node.node-index c.node-item.result c.loop-node-test.true c.node-item.is
      c.in_ok-flag.ensures c.in_ok-push.ensures.ok c.loop-node.invariant.flags;
  sound = rest_sound part_faults c.args.nodes.now c.loop-node.node-index c.node-item.result c.loop-node-test.true c.node-item.is c.loop-node.invariant.sound;
}
