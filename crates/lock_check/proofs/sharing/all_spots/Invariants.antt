use Rattle.std.proofs.Common.{◌≡◌, ◌++◌, drop}
use Rattle.std.specs.List.{flat_map}
use Rattle.lock_check.specs.Sharing.{member_spots}
use Rattle.lock_check.proofs.sharing.all_spots.Given as goal

-- those so far, and then those that are left
abbrev pub invariant-loop-member : goal.invariant-loop-member
invariant-loop-member l = l.spots ++ flat_map member_spots (drop l.member-index l.members) ≡ flat_map member_spots l.members
