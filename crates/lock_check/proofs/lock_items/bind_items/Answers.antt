use Rattle.std.proofs.Common.{arith}
use Rattle.std.proofs.lemmas.Grind.{common_steps}
use Rattle.lock_check.specs.LockItems.{further_faults}
use Rattle.lock_check.proofs.Bound.{next_sound, rest_sound}
use Rattle.lock_check.proofs.lock_items.bind_items.Goals as goal

pub bind_item-requires : goal.bind_item-requires
bind_item-requires c = next_sound further_faults c.args.nodes.now c.loop-item.item-index c.item-item.result c.loop-item-test.true c.item-item.is c.loop-item.invariant.sound

pub loop-item-preserved : goal.loop-item-preserved
loop-item-preserved c = record {
  bound = grind (arith, common_steps);
  sound = rest_sound further_faults c.args.nodes.now c.loop-item.item-index c.item-item.result c.loop-item-test.true c.item-item.is c.loop-item.invariant.sound;
}
