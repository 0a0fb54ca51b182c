use Rattle.std.proofs.Common.{[]}
use Rattle.lock_check.specs.Growth.{led_to}
use Rattle.lock_check.proofs.Among.{grows_from, grows_on}
use Rattle.lock_check.proofs.Growing.{reached}
use Rattle.lock_check.proofs.Ordered.{on_err, on_ok}
use Rattle.lock_check.proofs.growth.grow.Goals as goal

pub returns-in_err-spread-clause-err : goal.returns-in_err-spread-clause-err
returns-in_err-spread-clause-err c =
    on_err c.from_residual-in_err-spread.result
    (grows_on c.args.needed.now.keys [] c.add_all.new.needed.keys c.add_all.new.fresh c.spread.new.needed.keys c.spread.new.fresh
    (grows_from c.args.needed.now.keys c.args.fresh.now c.add_all.new.needed.keys c.add_all.new.fresh c.requires.fresh c.in_ok-add_all.ensures.ok.grows) c.in_err-spread.ensures.err)

pub returns-clause-ok : goal.returns-clause-ok
returns-clause-ok c =
    on_ok c.await_open.result
    (reached (led_to c.args.bound.now c.args.installed.now) c.args.names.now c.args.needed.now.keys c.add_all.new.needed.keys c.add_all.new.fresh c.spread.new.needed.keys c.spread.new.fresh
    c.args.fresh.now c.requires.fresh c.in_ok-add_all.ensures.ok c.in_ok-spread.ensures.ok)

pub returns-clause-err : goal.returns-clause-err
returns-clause-err c =
    on_err c.await_open.result
    (grows_on c.args.needed.now.keys [] c.add_all.new.needed.keys c.add_all.new.fresh c.spread.new.needed.keys c.spread.new.fresh
    (grows_from c.args.needed.now.keys c.args.fresh.now c.add_all.new.needed.keys c.add_all.new.fresh c.requires.fresh c.in_ok-add_all.ensures.ok.grows) c.in_ok-spread.ensures.ok.grows)
