use Rattle.std.proofs.Common.{◌≡◌, drop, true}
use Rattle.switch_journal.specs.Pieced.{has_given}
use Rattle.switch_journal.proofs.slot_owners.first_place.Given as goal

abbrev pub invariant-loop-at : goal.invariant-loop-at
invariant-loop-at l = has_given (drop l.at l.given) l.owner ≡ true
