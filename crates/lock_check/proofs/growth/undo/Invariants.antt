use Rattle.std.proofs.Common.{length}
use Rattle.lock_check.specs.Growth.{IsUndoing}
use Rattle.lock_check.proofs.growth.undo.Given as goal

abbrev pub invariant-loop-name : goal.invariant-loop-name
invariant-loop-name l = IsUndoing l.fn.names l.fn.needed.keys l.fn.waiting.keys l.left l.needed.keys l.waiting.keys

abbrev pub decreases-loop-name : goal.decreases-loop-name
decreases-loop-name l = length l.left
