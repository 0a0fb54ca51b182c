use Rattle.std.proofs.Common.{arith}
use Rattle.lock_check.proofs.Among.{adds_all, adds_none, adds_step}
use Rattle.lock_check.proofs.growth.add_all.Goals as goal

pub loop-name-init : goal.loop-name-init
loop-name-init c = adds_none c.args.needed.now.keys c.args.fresh.now

pub loop-name-preserved : goal.loop-name-preserved
loop-name-preserved c =
    adds_step c.args.names.now c.loop-name.name-index c.name-item.result c.args.needed.now.keys c.args.fresh.now c.loop-name.needed.keys c.loop-name.fresh
    c.add_name.new.needed.keys c.add_name.new.fresh c.loop-name-test.true c.name-item.is c.loop-name.invariant c.in_ok-add_name.ensures.ok

pub returns-clause-ok : goal.returns-clause-ok
returns-clause-ok c =
    adds_all c.args.names.now c.loop-name.name-index c.args.needed.now.keys c.args.fresh.now c.loop-name.needed.keys c.loop-name.fresh
    (omega (arith, c.loop-name-test.false, c.loop-name.auto.name-index-end)) c.loop-name.invariant
