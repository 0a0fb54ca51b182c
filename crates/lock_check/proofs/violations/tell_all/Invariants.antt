use Rattle.std.proofs.Common.{◌≡◌, ◌++◌, map}
use Rattle.lock_check.specs.Violations.{told_of}
use Rattle.lock_check.proofs.violations.tell_all.Given as goal

-- those so far
abbrev pub invariant-loop-what : goal.invariant-loop-what
invariant-loop-what l = l.told ≡ l.fn.told ++ map (told_of l.pkg) l.yielded
