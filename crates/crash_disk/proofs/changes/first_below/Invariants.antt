use Rattle.std.proofs.Common.{length}
use Rattle.crash_disk.specs.Below.{NoneOf}
use Rattle.crash_disk.proofs.changes.first_below.Given as goal

-- with none in the rest there is none at all
abbrev pub invariant-loop-rest : goal.invariant-loop-rest
invariant-loop-rest l = NoneOf l.rest l.first l.log l.path → NoneOf l.files l.first l.log l.path

abbrev pub decreases-loop-rest : goal.decreases-loop-rest
decreases-loop-rest l = length l.rest
