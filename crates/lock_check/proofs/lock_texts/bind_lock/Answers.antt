use Rattle.lock_check.proofs.Bound.{bound_rises, items_sound}
use Rattle.lock_check.proofs.lock_texts.bind_lock.Goals as goal

pub bind_items-requires : goal.bind_items-requires
bind_items-requires c = items_sound _ c.args.items.now c.requires

pub returns-clause-rises : goal.returns-clause-rises
returns-clause-rises c =
    bound_rises c.order_is_stable.ensures.rising c.args.globals.now c.args.items.now c.in_ok-bound.bound c.sort_by_bytes.new.self c.in_ok-bound.ensures c.in_ok-sort_by_bytes.ensures.ok c.requires
