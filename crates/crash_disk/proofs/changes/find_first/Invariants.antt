use Rattle.std.proofs.Common.{◌≡◌, length}
use Rattle.crash_disk.specs.Log.{stored_first}
use Rattle.crash_disk.proofs.changes.find_first.Given as goal

abbrev pub invariant-loop-rest : goal.invariant-loop-rest
invariant-loop-rest l = stored_first l.rest l.path ≡ stored_first l.first l.path

abbrev pub decreases-loop-rest : goal.decreases-loop-rest
decreases-loop-rest l = length l.rest
