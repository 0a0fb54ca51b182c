use Rattle.std.proofs.Common.{◌∙◌, arith}
use Rattle.child_pool.proofs.Drains.{one_fewer, one_more}
use Rattle.child_pool.proofs.ends.drain.Goals as goal

pub loop-alloc-preserved : goal.loop-alloc-preserved
loop-alloc-preserved g c =
    let so_far = c.loop-alloc.invariant in
    let one = c.take_one.ensures in
    let fewer = one_fewer _ _ _ _ _ _ one.takes.2 in
    (one.fit, one.size ∙ so_far.1, one.told ∙ so_far.2, omega (arith, fewer, so_far.3, one.room, one.few), one_more _ _ _ _ _ _ _ _ _ _ _ one.takes.0 so_far.2 so_far.4 one.takes.1 one.takes.2)
