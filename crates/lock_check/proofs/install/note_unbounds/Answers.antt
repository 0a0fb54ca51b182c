use Rattle.lock_check.specs.Chased.{told_unbounds}
use Rattle.lock_check.proofs.Ordered.{parts_on, unbound_parts}
use Rattle.lock_check.proofs.install.note_unbounds.Goals as goal

pub loop-name-preserved : goal.loop-name-preserved
loop-name-preserved c =
    parts_on (told_unbounds c.args.bound.now) (unbound_parts c.args.bound.now) c.loop-name.told c.note_unbound.new.told _ c.args.asked.now c.loop-name.name-index
    c.name-item.result c.loop-name-test.true c.name-item.is c.in_ok-note_unbound.ensures c.loop-name.invariant
