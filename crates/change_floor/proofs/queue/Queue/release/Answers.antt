use Rattle.change_floor.proofs.Queuing.{lowers_all, lowers_next, lowers_none, waits_at}
use Rattle.change_floor.proofs.queue.Queue.release.Goals as goal

pub lower-requires-clause-waits : goal.lower-requires-clause-waits
lower-requires-clause-waits c =
    waits_at c.args.self.now.left c.loop-place.self.left c.args.row.now c.loop-place.place-index c.loop-place-test.true c.loop-place.invariant.lowered c.requires.waits

pub loop-place-init : goal.loop-place-init
loop-place-init c = lowers_none c.args.self.now.left c.args.self.now.ready c.requires.fits

pub loop-place-preserved : goal.loop-place-preserved
loop-place-preserved c =
    lowers_next c.args.self.now.left c.loop-place.self.left c.lower.new.self.left c.args.self.now.ready c.loop-place.self.ready c.lower.new.self.ready c.args.row.now c.loop-place.place-index c.loop-place-test.true
    c.loop-place.invariant c.lower.ensures

pub returns : goal.returns
returns c = lowers_all c.args.self.now.left c.loop-place.self.left c.args.self.now.ready c.loop-place.self.ready c.args.row.now c.loop-place.place-index c.loop-place-test.false c.loop-place.invariant
