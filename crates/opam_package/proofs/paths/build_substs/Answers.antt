use Rattle.std.proofs.Common.{arith}
use Rattle.std.proofs.lemmas.Grind.{common_steps}
use Rattle.opam_package.specs.Relatives.{subst_faults}
use Rattle.opam_package.proofs.Sound.{next_sound, rest_sound}
use Rattle.opam_package.proofs.paths.build_substs.Goals as goal

pub build_subst-requires : goal.build_subst-requires
build_subst-requires c = next_sound subst_faults c.values_of-values.result.now c.loop-value.value-index c.value-item.result c.loop-value-test.true c.value-item.is c.loop-value.invariant.sound

pub loop-value-preserved : goal.loop-value-preserved
loop-value-preserved c = record {
  built = grind (arith, common_steps);
  sound = rest_sound subst_faults c.values_of-values.result.now c.loop-value.value-index c.value-item.result c.loop-value-test.true c.value-item.is c.loop-value.invariant.sound;
}
