use Rattle.std.proofs.Common.{◌≡◌, ◌++◌, drop}
use Rattle.lock_check.specs.Violations.{pkgs_of}
use Rattle.lock_check.proofs.targets.pkgs_of.Given as goal

-- those so far, and then those that are left
abbrev pub invariant-loop-member : goal.invariant-loop-member
invariant-loop-member l = l.pkgs ++ pkgs_of (drop l.member-index l.members) ≡ pkgs_of l.members
