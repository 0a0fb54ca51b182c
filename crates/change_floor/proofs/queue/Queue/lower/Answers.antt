use Rattle.change_floor.proofs.Queuing.{lowers_free, lowers_waits, one_less}
use Rattle.change_floor.proofs.queue.Queue.lower.Goals as goal

pub returns-then-left-eq0 : goal.returns-then-left-eq0
returns-then-left-eq0 c =
    lowers_free c.args.self.now.left c.set.new.self c.args.self.now.ready c.put_ready.new.ready c.args.place _ c.if-left-eq0.true c.requires.fits c.requires.within c.requires.waits
    (one_less c.args.self.now.left c.as_slice.result.now c.args.place c.as_slice.ensures c.requires.within c.requires.waits) c.set.ensures c.put_ready.ensures.ordered c.put_ready.ensures.len c.put_ready.ensures.capacity c.put_ready.ensures.times

pub returns-else-left-eq0 : goal.returns-else-left-eq0
returns-else-left-eq0 c =
    lowers_waits c.args.self.now.left c.set.new.self c.args.self.now.ready c.args.place _ c.if-left-eq0.false c.requires.fits c.requires.within c.requires.waits
    (one_less c.args.self.now.left c.as_slice.result.now c.args.place c.as_slice.ensures c.requires.within c.requires.waits) c.set.ensures
