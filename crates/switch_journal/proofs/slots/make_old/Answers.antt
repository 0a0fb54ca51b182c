use Rattle.switch_journal.proofs.Slotted.{old_pushed}
use Rattle.switch_journal.proofs.slots.make_old.Goals as goal

pub loop-at-preserved : goal.loop-at-preserved
loop-at-preserved c =
    old_pushed c.args.first c.loop-at.at c.loop-at.writes c.push.new.self c.push-in-loop-at.new.self c.in_ok-gate.gate c.in_ok-path.path c.loop-at.invariant c.in_ok-gate.ensures c.in_ok-path.ensures c.in_ok-push.ensures.ok c.in_ok-push-2.ensures.ok
