use Rattle.std.proofs.Common.{◌≡◌, ◌++◌, map, drop}
use Rattle.lock_check.specs.declared.violation.What.TheVariants.{Refused}
use Rattle.lock_check.proofs.violations.note_refused.Given as goal

-- those so far, and then those that are left
abbrev pub invariant-loop-name : goal.invariant-loop-name
invariant-loop-name l = l.whats ++ map Refused (drop l.name-index l.refused) ≡ l.fn.whats ++ map Refused l.refused
