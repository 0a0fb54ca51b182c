use Rattle.std.proofs.Common.{◌≡◌, ◌++◌, drop, map}
use Rattle.lock_check.specs.Installs.{inner}
use Rattle.lock_check.proofs.targets.copy_members.Given as goal

-- those so far, and then those that are left
abbrev pub invariant-loop-member : goal.invariant-loop-member
invariant-loop-member l = map inner l.copies ++ drop l.member-index l.members ≡ l.members
