use Rattle.action_graph.proofs.Orders.{looks_next, looks_none}
use Rattle.action_graph.proofs.listing.Waiting.look_at_all.Goals as goal

pub loop-place-init : goal.loop-place-init
loop-place-init c = looks_none c.args.needs.now c.args.wanted.now c.args.listed.now c.args.self.now.ready c.args.self.now.cursors c.requires.met c.requires.cursors

pub loop-place-preserved : goal.loop-place-preserved
loop-place-preserved c =
    looks_next c.args.needs.now c.args.wanted.now c.args.listed.now c.args.self.now.ready c.loop-place.self.ready _ c.args.places.now c.loop-place.place-index
    c.loop-place.self.cursors _ c.loop-place.invariant c.loop-place-test.true c.in_ok-look_at.ensures
