use Rattle.std.proofs.Common.{◌≡◌, ◌++◌, drop, map}
use Rattle.lock_check.specs.Targets.{member_name}
use Rattle.lock_check.proofs.install.member_names.Given as goal

-- those so far, and then those that are left
abbrev pub invariant-loop-member : goal.invariant-loop-member
invariant-loop-member l = l.names ++ map member_name (drop l.member-index l.members) ≡ map member_name l.members
