use Rattle.std.proofs.Common.{◌≡◌, length}
use Rattle.crash_disk.specs.Log.{until}
use Rattle.crash_disk.specs.Spots.{spot_after, spot_at}
use Rattle.crash_disk.specs.Traces.{spot_of}
use Rattle.crash_disk.proofs.spots.trace_at.Given as goal

-- what is known of the path after the changes so far, up to the moment
abbrev pub invariant-loop-rest : goal.invariant-loop-rest
invariant-loop-rest l = spot_after (until l.moment l.rest) l.path (spot_of l.trace) ≡ spot_at l.first (until l.moment l.log) l.path

abbrev pub decreases-loop-rest : goal.decreases-loop-rest
decreases-loop-rest l = length l.rest
