use Rattle.std.proofs.Common.{IsTrue, subst, sym}
use Rattle.outside_io.specs.Scripts.{all_well}
use Rattle.generated_set.proofs.Wells.{scripts_are_well}
use Rattle.generated_set.proofs.devices.generated_shop.Goals as goal

pub new-requires : goal.new-requires
new-requires c = subst (λ scripts. IsTrue (all_well scripts)) (sym c.loop-place.invariant) (scripts_are_well c.loop-place.place)
