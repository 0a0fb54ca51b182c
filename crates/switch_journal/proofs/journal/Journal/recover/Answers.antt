use Rattle.switch_journal.proofs.Openings.{none_touched, sync_then, sync_touched, told_then}
use Rattle.switch_journal.proofs.journal.Journal.recover.Goals as goal

pub returns-in-Ok-clause-opens : goal.returns-in-Ok-clause-opens
returns-in-Ok-clause-opens g c = λ s is. (c.open_at_rest.ensures.opening s (told_then g.D.Disk g.met.D.Disk.now_is s is c.in-Ok.ensures.done)).opens

pub returns-in-Ok-clause-crash : goal.returns-in-Ok-clause-crash
returns-in-Ok-clause-crash g c = λ s is.
    (sync_then g.D.Disk g.met.D.Disk.now_is s is c.sync.ensures.touches c.open_at_rest.ensures.touches.touches.goes (c.open_at_rest.ensures.opening s (told_then g.D.Disk g.met.D.Disk.now_is s is c.in-Ok.ensures.done))).crash

pub returns-in-Ok-clause-touches : goal.returns-in-Ok-clause-touches
returns-in-Ok-clause-touches g c = sync_touched c.sync.ensures.touches c.in-Ok.ensures.done c.open_at_rest.ensures.touches

pub returns-in-Err-clause-touches : goal.returns-in-Err-clause-touches
returns-in-Err-clause-touches g c = none_touched c.sync.ensures.touches
