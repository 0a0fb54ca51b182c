use Rattle.std.proofs.Common.{◌≡◌, false, take}
use Rattle.switch_state.specs.Ends.{is_entry_name}
use Rattle.switch_state.proofs.ending.is_entry_name.Given as goal

-- none of the first of them is called so
abbrev pub invariant-loop-member : goal.invariant-loop-member
invariant-loop-member l = is_entry_name (take l.member-index l.members) l.name ≡ false
