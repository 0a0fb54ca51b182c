use Rattle.std.proofs.Common.{◌≡◌, ◌++◌, drop, map}
use Rattle.lock_check.specs.Chased.{held_of}
use Rattle.lock_check.proofs.held.hold_each.Given as goal

-- those so far, and then those that are left
abbrev pub invariant-loop-member : goal.invariant-loop-member
invariant-loop-member l = l.held ++ map held_of (drop l.member-index l.members) ≡ map held_of l.members
