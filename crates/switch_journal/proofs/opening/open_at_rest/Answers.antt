use Rattle.std.proofs.Common.{◌∙◌, Err}
use Rattle.crash_disk.specs.Effects.{at_rest}
use Rattle.switch_journal.specs.declared.fault.OpenFault.TheVariants as fault
use Rattle.switch_journal.proofs.Openings.{only_read, only_read_touched, read_then, read_touched}
use Rattle.switch_journal.proofs.opening.open_at_rest.Goals as goal

pub returns-in-Err-Failed-clause-opening : goal.returns-in-Err-Failed-clause-opening
returns-in-Err-Failed-clause-opening g c = λ s is. only_read g.D.Disk g.met.D.Disk.now_is s (Err fault.DiskFailed) tt tt is c.read_journal.ensures.reads

pub returns-in-Err-Memory-clause-opening : goal.returns-in-Err-Memory-clause-opening
returns-in-Err-Memory-clause-opening g c = λ s is. only_read g.D.Disk g.met.D.Disk.now_is s (Err fault.Memory) tt tt is c.read_journal.ensures.reads

pub returns-in-Ok-Bad-clause-opening : goal.returns-in-Ok-Bad-clause-opening
returns-in-Ok-Bad-clause-opening g c = λ s is.
    let bad = rw c.in-Ok-Bad.field-0-is at c.in-Ok-Bad.ensures.told (at_rest s.files) is in
    only_read g.D.Disk g.met.D.Disk.now_is s (Err (fault.NotAJournal c.in-Ok-Bad.path)) tt bad is c.read_journal.ensures.reads

pub returns-in-Ok-Whole-clause-opening : goal.returns-in-Ok-Whole-clause-opening
returns-in-Ok-Whole-clause-opening g c = λ s is.
    let reads = rw c.in-Ok-Whole.field-0-is at c.in-Ok-Whole.ensures.told (at_rest s.files) is in
    read_then g.D.Disk g.met.D.Disk.now_is s is c.read_journal.ensures.reads c.redo_last.ensures.touches.goes (c.redo_last.ensures.opening s (c.read_journal.ensures.reads.same ∙ is) reads)

pub returns-in-Err-Failed-clause-touches : goal.returns-in-Err-Failed-clause-touches
returns-in-Err-Failed-clause-touches g c = only_read_touched c.read_journal.ensures.reads

pub returns-in-Err-Memory-clause-touches : goal.returns-in-Err-Memory-clause-touches
returns-in-Err-Memory-clause-touches g c = only_read_touched c.read_journal.ensures.reads

pub returns-in-Ok-Bad-clause-touches : goal.returns-in-Ok-Bad-clause-touches
returns-in-Ok-Bad-clause-touches g c = only_read_touched c.read_journal.ensures.reads

pub returns-in-Ok-Whole-clause-touches : goal.returns-in-Ok-Whole-clause-touches
returns-in-Ok-Whole-clause-touches g c =
    read_touched c.in-Ok-Whole.journal c.in-Ok-Whole.kept c.read_journal.ensures.reads c.redo_last.ensures.touches (λ s is. rw c.in-Ok-Whole.field-0-is at c.in-Ok-Whole.ensures.told s is)

pub redo_last-requires : goal.redo_last-requires
redo_last-requires g c = rw c.in-Ok-Whole.field-0-is at c.in-Ok-Whole.ensures.formed
