use Rattle.lock_check.proofs.Behind.{one_behind}
use Rattle.lock_check.proofs.lock_items.items_fault.Goals as goal

pub loop-item-preserved : goal.loop-item-preserved
loop-item-preserved c =
    one_behind c.loop-item.first c.item_fault.result c.sooner-first.result _ c.loop-item.names.keys c.note_name.new.names.keys c.args.nodes.now c.loop-item.item-index
    c.item-item.result c.in_ok-pkg.pkg c.loop-item-test.true c.item-item.is c.in_ok-pkg.ensures c.item_fault.ensures c.sooner-first.ensures c.in_ok-note_name.ensures c.loop-item.invariant
