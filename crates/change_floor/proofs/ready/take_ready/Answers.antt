use Rattle.std.specs.BinaryHeap.{heap_items, heap_len}
use Rattle.change_floor.proofs.Heaps.{taken_is}
use Rattle.change_floor.proofs.ready.take_ready.Goals as goal

pub returns-clause-times : goal.returns-clause-times
returns-clause-times c =
    taken_is c.pop-first.result (heap_items c.args.ready.now) (heap_items c.pop-first.new.self) c.args.place (heap_len c.args.ready.now) c.requires.ordered c.requires.first c.args.ready.now.data.ok.0
    c.pop-first.ensures.none c.pop-first.ensures.top c.pop-first.ensures.permutation c.pop-first.ensures.heap_order
