use Rattle.std.proofs.Common.{◌≡◌, take}
use Rattle.crash_disk.specs.Effects.{OnlyReads}
use Rattle.switch_state.specs.Gathering.{IsGathered}
use Rattle.switch_state.proofs.removals.standing_files.Given as goal

-- no call has failed, and what stands at the first paths was read
abbrev pub invariant-loop-path : goal.invariant-loop-path
invariant-loop-path g l =
    let D = g.D.Disk in
    record {
      quiet : D.faults l.disk ≡ D.faults l.fn.disk;
      reads : OnlyReads D l.fn.disk l.disk;
      so_far : IsGathered (D.told l.fn.disk) (take l.path-index l.paths) l.files l.left;
    }
