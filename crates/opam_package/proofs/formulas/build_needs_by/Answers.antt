use Rattle.std.proofs.Common.{arith}
use Rattle.std.proofs.lemmas.Grind.{common_steps}
use Rattle.opam_package.specs.Forms.{formula_faults}
use Rattle.opam_package.proofs.Sound.{next_sound, rest_sound}
use Rattle.opam_package.proofs.formulas.build_needs_by.Goals as goal

pub build_need-requires : goal.build_need-requires
build_need-requires c = next_sound formula_faults c.args.nodes.now c.loop-node.node-index c.node-item.result c.loop-node-test.true c.node-item.is c.loop-node.invariant.sound

pub loop-node-preserved : goal.loop-node-preserved
loop-node-preserved c = record {
  built = grind (arith, common_steps);
  sound = rest_sound formula_faults c.args.nodes.now c.loop-node.node-index c.node-item.result c.loop-node-test.true c.node-item.is c.loop-node.invariant.sound;
}
