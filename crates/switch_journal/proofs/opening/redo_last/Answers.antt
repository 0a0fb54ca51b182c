use Rattle.crash_disk.proofs.Stops.{began, wrote}
use Rattle.switch_journal.proofs.Openings.{redo_failed, redone}
use Rattle.switch_journal.proofs.opening.redo_last.Goals as goal

pub returns-in-Ok-clause-opening : goal.returns-in-Ok-clause-opening
returns-in-Ok-clause-opening g c = λ s is reads.
    let written = wrote g.D.Disk c.as_slice.ensures c.write_all.ensures.touches c.in-Ok.ensures.done in
    redone g.D.Disk g.met.D.Disk.now_is s reads is written.touches written.leaves

pub returns-in-Err-clause-opening : goal.returns-in-Err-clause-opening
returns-in-Err-clause-opening g c = λ s is reads. redo_failed g.D.Disk g.met.D.Disk.now_is s reads is (began c.as_slice.ensures c.write_all.ensures.touches)
