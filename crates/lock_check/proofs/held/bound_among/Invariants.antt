use Rattle.std.proofs.Common.{◌≡◌, ◌++◌, drop}
use Rattle.lock_check.specs.Chased.{bound_among}
use Rattle.lock_check.proofs.held.bound_among.Given as goal

-- those so far, and then those that are left
abbrev pub invariant-loop-name : goal.invariant-loop-name
invariant-loop-name l = l.found ++ bound_among l.bound (drop l.name-index l.names) ≡ bound_among l.bound l.names
