use Rattle.std.proofs.Common.{◌≡◌}
use Rattle.generated_set.specs.Devices.{scripts_of}
use Rattle.generated_set.proofs.devices.generated_shop.Given as goal

abbrev pub invariant-loop-place : goal.invariant-loop-place
invariant-loop-place l = l.scripts.items ≡ scripts_of l.place
