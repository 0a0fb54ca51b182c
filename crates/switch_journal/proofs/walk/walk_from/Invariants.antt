use Rattle.std.proofs.Common.{◌≡◌, Some}
use Rattle.crash_disk.specs.Disks.{State}
use Rattle.crash_disk.specs.Effects.{OnlyReads}
use Rattle.switch_journal.specs.Formed.{IsFormedIn}
use Rattle.switch_journal.specs.Walks.{IsWalked}
use Rattle.switch_journal.specs.declared.walk.Walked.{Walked}
use Rattle.switch_journal.proofs.walk.walk_from.Given as goal

-- no call has failed, what is said is well formed, and a walk that goes on from here goes on from the start
abbrev pub invariant-loop-number : goal.invariant-loop-number
invariant-loop-number g l =
    let D = g.D.Disk in
    record {
      quiet : D.faults l.disk ≡ D.faults l.fn.disk;
      reads : OnlyReads D l.fn.disk l.disk;
      formed : IsFormedIn l.fn.old l.walk.kept;
      on : (s : State) → D.told l.fn.disk ≡ Some s → (w : Walked) → IsWalked l.fn.old s.files l.number l.walk.kept l.walk.work w → IsWalked l.fn.old s.files l.fn.from l.fn.walk.kept l.fn.walk.work w;
    }
