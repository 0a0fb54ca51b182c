use Rattle.std.proofs.Common.{arith}
use Rattle.std.proofs.lemmas.Grind.{common_steps}
use Rattle.opam_package.specs.Commands.{command_faults}
use Rattle.opam_package.proofs.Sound.{next_sound, rest_sound}
use Rattle.opam_package.proofs.commands.build_command_list.Goals as goal

pub build_command-requires : goal.build_command-requires
build_command-requires c = next_sound command_faults c.args.nodes.now c.loop-node.node-index c.node-item.result c.loop-node-test.true c.node-item.is c.loop-node.invariant.sound

pub loop-node-preserved : goal.loop-node-preserved
loop-node-preserved c = record {
  built = grind (arith, common_steps);
  sound = rest_sound command_faults c.args.nodes.now c.loop-node.node-index c.node-item.result c.loop-node-test.true c.node-item.is c.loop-node.invariant.sound;
}
