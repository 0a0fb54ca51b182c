use Rattle.std.proofs.Common.{◌≡◌, ◌++◌}
use Rattle.lock_check.proofs.held.append.Given as goal

-- those so far
abbrev pub invariant-loop-name : goal.invariant-loop-name
invariant-loop-name l = l.found ≡ l.fn.found ++ l.yielded
