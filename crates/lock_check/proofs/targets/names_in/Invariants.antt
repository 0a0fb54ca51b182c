use Rattle.std.proofs.Common.{◌≡◌, ◌++◌, filter, drop}
use Rattle.lock_check.specs.Found.{is_name_in}
use Rattle.lock_check.proofs.targets.names_in.Given as goal

-- those so far, and then those that are left
abbrev pub invariant-loop-name : goal.invariant-loop-name
invariant-loop-name l = l.found ++ filter (is_name_in l.set) (drop l.name-index l.names) ≡ filter (is_name_in l.set) l.names
