use Rattle.lock_check.proofs.Ordered.{held_rise}
use Rattle.lock_check.proofs.held.hold_all.Goals as goal

pub returns-clause-rises : goal.returns-clause-rises
returns-clause-rises c =
    held_rise c.order_is_stable.ensures.rising c.args.members.now c.in_ok-held.held c.sort_by_bytes.new.self c.in_ok-held.ensures c.in_ok-sort_by_bytes.ensures.ok c.requires
