use Rattle.std.proofs.Common.{refl}
use Rattle.lock_check.proofs.Ordered.{copies_rise_so, copies_sorted, ok_on}
use Rattle.lock_check.proofs.targets.sort_named.Goals as goal

pub returns-clause-sorted : goal.returns-clause-sorted
returns-clause-sorted c =
    ok_on c.members_of.result (λ sorted is. copies_sorted _ sorted c.args.copies c.sort_by_bytes.new.self refl c.in_ok-sort_by_bytes.ensures.ok is)
    c.members_of.ensures

pub returns-clause-rises : goal.returns-clause-rises
returns-clause-rises c =
    ok_on c.members_of.result (λ sorted is.
    copies_rise_so c.order_is_stable.ensures.rising sorted c.args.copies c.sort_by_bytes.new.self c.in_ok-sort_by_bytes.ensures.ok is c.requires)
    c.members_of.ensures
