use Rattle.std.proofs.Common.{◌≡◌, map}
use Rattle.lock_check.specs.Installs.{inner}
use Rattle.lock_check.proofs.targets.members_of.Given as goal

-- those so far
abbrev pub invariant-loop-copy : goal.invariant-loop-copy
invariant-loop-copy l = l.members ≡ map inner l.yielded
