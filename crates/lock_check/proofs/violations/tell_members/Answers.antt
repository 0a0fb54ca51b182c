use Rattle.std.proofs.Common.{◌∙◌}
use Rattle.lock_check.proofs.Classes.{told_more}
use Rattle.lock_check.proofs.violations.tell_members.Goals as goal

pub loop-member-preserved : goal.loop-member-preserved
loop-member-preserved c =
    told_more c.order_is_stable.ensures c.args.members.now c.args.fresh.now c.args.set.now c.as_slice.result.now c.loop-member.member-index c.member-item.result c.is_fresh.result
    c.in_ok-whats.whats c.loop-member.told c.tell_all.new.told _ c.loop-member-test.true c.member-item.is c.requires.set (c.as_slice.ensures ∙ c.in_ok-spots.ensures.value)
    c.is_fresh.ensures c.in_ok-whats.ensures c.in_ok-tell_all.ensures c.loop-member.invariant
