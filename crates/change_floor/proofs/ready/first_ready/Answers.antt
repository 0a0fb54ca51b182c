use Rattle.std.proofs.Common.{sym}
use Rattle.std.specs.BinaryHeap.{heap_items}
use Rattle.std.proofs.lemmas.Bool.{ltb-true}
use Rattle.std.specs.Prelude.{length}
use Rattle.change_floor.proofs.Heaps.{first_is}
use Rattle.change_floor.proofs.ready.first_ready.Goals as goal

pub returns-in-Some : goal.returns-in-Some
returns-in-Some c =
    first_is (heap_items c.args.ready.now) c.in-Some.first.now c.in-Some.ensures.lookup (ltb-true 0 (length (heap_items c.args.ready.now)) (sym c.in-Some.ensures.item.0)) (c.in-Some.ensures.greatest c.requires.ordered)
