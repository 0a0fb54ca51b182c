use Rattle.std.proofs.Common.{◌∙◌, ap}
use Rattle.opam_top.specs.Locks.{in_name_order, place_of_pkg}
use Rattle.opam_top.proofs.NameOrders.{order_more}
use Rattle.opam_top.proofs.lock.in_name_order.Goals as goal

pub loop-pkg-preserved : goal.loop-pkg-preserved
loop-pkg-preserved c =
    order_more c.pop.new.self.items c.loop-pkg.left.items c.loop-pkg.order.items c.insert.new.self.items (in_name_order c.args.pkgs) c.in-Some.pkg c.place_before-place.result
    c.in-Some.ensures.items (c.place_before-place.ensures.value ∙ ap (place_of_pkg c.in-Some.pkg) c.as_slice.ensures.value) c.in_ok-insert.ensures.items c.loop-pkg.invariant
