use Rattle.lock_check.proofs.Passing.{one_judged}
use Rattle.lock_check.proofs.removal.keep_met.Goals as goal

pub loop-member-preserved : goal.loop-member-preserved
loop-member-preserved c =
    one_judged c.holding_is_monotone.ensures c.rising_is_kept.ensures.chosen c.args.members.now c.args.set.now.items c.loop-member.member-index c.member-item.result
    c.loop-member.pass c.judge.new.pass c.loop-member.set.items c.judge.new.set.items c.loop-member-test.true c.member-item.is c.in_ok-judge.ensures.pass c.in_ok-judge.ensures.set
    c.loop-member.invariant
