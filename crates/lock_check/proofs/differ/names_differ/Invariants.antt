use Rattle.std.proofs.Common.{take}
use Rattle.lock_check.specs.Targets.{member_name}
use Rattle.lock_check.proofs.Differing.{AreApart}
use Rattle.lock_check.proofs.differ.names_differ.Given as goal

-- the first ones differ
abbrev pub invariant-loop-member : goal.invariant-loop-member
invariant-loop-member l = AreApart member_name l.names.keys (take l.member-index l.members)
