use Rattle.lock_check.specs.Found.{absents_in}
use Rattle.lock_check.proofs.Ordered.{absent_parts, parts_on}
use Rattle.lock_check.proofs.targets.absents.Goals as goal

pub loop-name-preserved : goal.loop-name-preserved
loop-name-preserved c =
    parts_on (absents_in c.args.set.now) (absent_parts c.args.set.now) c.loop-name.told c.note_absent.new.told _ c.args.names.now c.loop-name.name-index c.name-item.result
    c.loop-name-test.true c.name-item.is c.in_ok-note_absent.ensures c.loop-name.invariant
