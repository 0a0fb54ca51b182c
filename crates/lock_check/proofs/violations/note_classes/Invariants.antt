use Rattle.std.proofs.Common.{◌≡◌, [], ◌++◌, drop}
use Rattle.lock_check.specs.Sharing.{shared_in}
use Rattle.lock_check.proofs.violations.note_classes.Given as goal

-- those so far, and then those that are left
abbrev pub invariant-loop-class : goal.invariant-loop-class
invariant-loop-class l = l.whats ++ shared_in l.spots l.dependent l.told.keys (drop l.class-index l.classes) ≡ l.fn.whats ++ shared_in l.spots l.dependent [] l.classes
