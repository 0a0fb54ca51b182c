use Rattle.std.proofs.Common.{◌≡◌, Some, false}
use Rattle.crash_disk.specs.Disks.{State}
use Rattle.crash_disk.specs.Effects.{OnlyReads}
use Rattle.change_verdict.specs.Near.{has_file_above}
use Rattle.change_verdict.proofs.foreign.is_file_above.Given as goal

-- no call has failed, nothing has changed, and no file stands at a folder so far
abbrev pub invariant-loop-at : goal.invariant-loop-at
invariant-loop-at g l = record {
  quiet : g.D.Disk.faults l.disk ≡ g.D.Disk.faults l.fn.disk;
  reads : OnlyReads g.D.Disk l.fn.disk l.disk;
  told : (s : State) → g.D.Disk.told l.fn.disk ≡ Some s → has_file_above s.files l.path l.at ≡ false;
}
