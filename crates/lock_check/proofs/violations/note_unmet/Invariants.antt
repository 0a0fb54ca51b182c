use Rattle.std.proofs.Common.{◌≡◌, ◌++◌, drop}
use Rattle.lock_check.specs.Violations.{unmet_from}
use Rattle.lock_check.proofs.violations.note_unmet.Given as goal

-- those so far, and then those that are left
abbrev pub invariant-loop-need : goal.invariant-loop-need
invariant-loop-need l = l.whats ++ unmet_from l.set l.number (drop l.need-index l.needs) ≡ l.fn.whats ++ unmet_from l.set 1 l.needs
