use Rattle.std.proofs.Common.{◌∙◌, ap}
use Rattle.opam_top.specs.Placements.{in_byte_order, place_of}
use Rattle.opam_top.proofs.Orders.{order_more}
use Rattle.opam_top.proofs.placing.sorted.Goals as goal

pub loop-file-preserved : goal.loop-file-preserved
loop-file-preserved c =
    order_more c.pop.new.self.items c.loop-file.left.items c.loop-file.order.items c.insert.new.self.items (in_byte_order c.args.files) c.in-Some.file c.place_before-place.result
    c.in-Some.ensures.items (c.place_before-place.ensures.value ∙ ap (place_of c.in-Some.file.path) c.as_slice.ensures.value) c.in_ok-insert.ensures.items c.loop-file.invariant
