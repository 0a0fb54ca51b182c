use Rattle.std.proofs.Common.{◌≡◌, ◌++◌, map}
use Rattle.lock_check.specs.Chased.{told_unknown}
use Rattle.lock_check.proofs.install.note_unknown.Given as goal

-- those so far
abbrev pub invariant-loop-pkg : goal.invariant-loop-pkg
invariant-loop-pkg l = l.told ≡ l.fn.told ++ map told_unknown l.yielded
