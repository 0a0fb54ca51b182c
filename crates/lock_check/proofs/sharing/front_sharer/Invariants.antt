use Rattle.std.proofs.Common.{◌≡◌, drop}
use Rattle.lock_check.specs.Sharing.{front_sharer}
use Rattle.lock_check.proofs.sharing.front_sharer.Given as goal

-- it is found among those that are left
abbrev pub invariant-loop-spot : goal.invariant-loop-spot
invariant-loop-spot l = front_sharer l.dependent l.class (drop l.spot-index l.spots) ≡ front_sharer l.dependent l.class l.spots
