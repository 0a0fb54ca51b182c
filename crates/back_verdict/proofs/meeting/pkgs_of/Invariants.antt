use Rattle.std.proofs.Common.{◌≡◌, take}
use Rattle.switch_state.specs.Sound.{member_pkgs}
use Rattle.back_verdict.proofs.meeting.pkgs_of.Given as goal

-- those of the members so far
abbrev pub invariant-loop-member : goal.invariant-loop-member
invariant-loop-member l = l.pkgs ≡ member_pkgs (take l.member-index l.members)
