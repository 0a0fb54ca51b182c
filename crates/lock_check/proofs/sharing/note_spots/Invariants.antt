use Rattle.std.proofs.Common.{◌≡◌, ◌++◌, drop, map}
use Rattle.lock_check.specs.Sharing.{member_spots, spot_of}
use Rattle.lock_check.proofs.sharing.note_spots.Given as goal

-- those so far, and then those that are left
abbrev pub invariant-loop-class : goal.invariant-loop-class
invariant-loop-class l = l.spots ++ map (spot_of l.member.package.pkg) (drop l.class-index l.member.package.classes) ≡ l.fn.spots ++ member_spots l.member
