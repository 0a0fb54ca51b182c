use Rattle.std.specs.BinaryHeap.{heap_items}
use Rattle.change_floor.proofs.Heaps.{pushed_is}
use Rattle.change_floor.proofs.ready.put_ready.Goals as goal

pub returns-clause-times : goal.returns-clause-times
returns-clause-times c = pushed_is (heap_items c.args.ready.now) (heap_items c.push.new.self) (record { 0 = c.args.place }) c.in-Ok.ensures.permutation
