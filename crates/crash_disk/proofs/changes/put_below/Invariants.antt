use Rattle.std.proofs.Common.{length}
use Rattle.crash_disk.specs.Below.{NonePut}
use Rattle.crash_disk.proofs.changes.put_below.Given as goal

-- with none in the rest there is none at all
abbrev pub invariant-loop-rest : goal.invariant-loop-rest
invariant-loop-rest l = NonePut l.rest l.first l.log l.path → NonePut l.entries l.first l.log l.path

abbrev pub decreases-loop-rest : goal.decreases-loop-rest
decreases-loop-rest l = length l.rest
