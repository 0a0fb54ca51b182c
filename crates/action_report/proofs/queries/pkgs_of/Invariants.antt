use Rattle.std.proofs.Common.{◌≡◌, take}
use Rattle.action_report.specs.Queries.{pkgs_of}
use Rattle.action_report.proofs.queries.pkgs_of.Given as goal

-- those of the members so far
abbrev pub invariant-loop-member : goal.invariant-loop-member
invariant-loop-member l = l.pkgs ≡ pkgs_of (take l.member-index l.members)
