use Rattle.std.proofs.Common.{◌≡◌, length}
use Rattle.std.specs.Option.{option_copied}
use Rattle.crash_disk.specs.Log.{stored_after, stored_at}
use Rattle.crash_disk.proofs.changes.find.Given as goal

-- what stands there after the changes so far
abbrev pub invariant-loop-rest : goal.invariant-loop-rest
invariant-loop-rest l = stored_after l.rest l.path (option_copied l.here) ≡ stored_at l.first l.log l.path

abbrev pub decreases-loop-rest : goal.decreases-loop-rest
decreases-loop-rest l = length l.rest
