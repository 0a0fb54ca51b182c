use Rattle.std.proofs.Common.{◌≡◌, ◌++◌, drop}
use Rattle.lock_check.specs.Violations.{violations_of_some}
use Rattle.lock_check.proofs.violations.tell_members.Given as goal

-- those so far, and then those that are left
abbrev pub invariant-loop-member : goal.invariant-loop-member
invariant-loop-member l = l.told ++ violations_of_some l.members l.fresh (drop l.member-index l.members) ≡ l.fn.told ++ violations_of_some l.members l.fresh l.members
