use Rattle.std.proofs.Common.{◌≡◌, drop}
use Rattle.std.specs.List.{find}
use Rattle.switch_state.specs.Keeps.{is_member_of}
use Rattle.switch_state.proofs.removals.member_of.Given as goal

abbrev pub invariant-loop-member : goal.invariant-loop-member
invariant-loop-member l = find (is_member_of l.pkg) l.members ≡ find (is_member_of l.pkg) (drop l.member-index l.members)
