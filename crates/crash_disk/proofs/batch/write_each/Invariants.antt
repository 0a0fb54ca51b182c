use Rattle.std.proofs.Common.{◌≡◌, take}
use Rattle.crash_disk.specs.Effects.{Becomes, Touches}
use Rattle.crash_disk.specs.Writes.{paths_of, with_writes}
use Rattle.crash_disk.proofs.batch.write_each.Given as goal

-- no call has failed, and the first are done
abbrev pub invariant-loop-write : goal.invariant-loop-write
invariant-loop-write g l =
    let D = g.D.Disk in
    record {
      quiet : D.faults l.disk ≡ D.faults l.fn.disk;
      touches : Touches D (paths_of l.writes) l.fn.disk l.disk;
      done : Becomes D (with_writes (take l.write-index l.writes)) l.fn.disk l.disk;
    }
