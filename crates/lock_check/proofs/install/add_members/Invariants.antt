use Rattle.std.proofs.Common.{◌≡◌, ◌++◌, map}
use Rattle.lock_check.specs.Installs.{inner}
use Rattle.lock_check.proofs.install.add_members.Given as goal

-- those so far
abbrev pub invariant-loop-member : goal.invariant-loop-member
invariant-loop-member l = map inner l.copies ≡ map inner l.fn.copies ++ l.yielded
