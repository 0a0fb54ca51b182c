use Rattle.std.proofs.Common.{◌≡◌, map, take}
use Rattle.switch_state.specs.State.{member_entry}
use Rattle.switch_state.proofs.slots.entries_of.Given as goal

abbrev pub invariant-loop-member : goal.invariant-loop-member
invariant-loop-member l = l.entries ≡ map member_entry (take l.member-index l.members)
