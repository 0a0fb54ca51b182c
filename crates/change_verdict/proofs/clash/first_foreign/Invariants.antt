use Rattle.std.proofs.Common.{◌≡◌, Some, drop}
use Rattle.crash_disk.specs.Disks.{State}
use Rattle.crash_disk.specs.Effects.{OnlyReads}
use Rattle.change_verdict.specs.Near.{first_foreign_of}
use Rattle.change_verdict.proofs.clash.first_foreign.Given as goal

-- no call has failed, nothing has changed, and none of the paths so far meets a file
abbrev pub invariant-loop-path : goal.invariant-loop-path
invariant-loop-path g l = record {
  quiet : g.D.Disk.faults l.disk ≡ g.D.Disk.faults l.fn.disk;
  reads : OnlyReads g.D.Disk l.fn.disk l.disk;
  told : (s : State) → g.D.Disk.told l.fn.disk ≡ Some s → first_foreign_of s.files (drop l.path-index l.paths) ≡ first_foreign_of s.files l.paths;
}
