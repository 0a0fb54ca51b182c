use Rattle.std.proofs.Common.{◌≡◌, ◌++◌, drop}
use Rattle.lock_check.specs.Found.{absents_in}
use Rattle.lock_check.proofs.targets.absents.Given as goal

-- those so far, and then those that are left
abbrev pub invariant-loop-name : goal.invariant-loop-name
invariant-loop-name l = l.told ++ absents_in l.set (drop l.name-index l.names) ≡ absents_in l.set l.names
