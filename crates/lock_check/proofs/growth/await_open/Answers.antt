use Rattle.std.proofs.Common.{arith}
use Rattle.lock_check.specs.Growth.{is_open}
use Rattle.lock_check.proofs.Ordered.{on_err}
use Rattle.lock_check.proofs.Undoing.{awaits_first, awaits_last, awaits_next, awaits_some}
use Rattle.lock_check.proofs.growth.await_open.Goals as goal

pub returns-in_err-await_one-clause-err : goal.returns-in_err-await_one-clause-err
returns-in_err-await_one-clause-err c =
    on_err c.from_residual.result
    (awaits_some (is_open c.args.bound.now c.args.installed.now) c.args.names.now c.loop-name.name-index c.args.waiting.now.keys c.loop-name.waiting.keys c.await_one.new.waiting.keys
    c.in_err-await_one.ensures.err c.loop-name.invariant)

pub loop-name-init : goal.loop-name-init
loop-name-init c = awaits_first (is_open c.args.bound.now c.args.installed.now) c.args.waiting.now.keys

pub loop-name-preserved : goal.loop-name-preserved
loop-name-preserved c =
    awaits_next (is_open c.args.bound.now c.args.installed.now) c.args.names.now c.loop-name.name-index c.name-item.result c.args.waiting.now.keys c.loop-name.waiting.keys
    c.await_one.new.waiting.keys c.loop-name-test.true c.name-item.is c.in_ok-await_one.ensures.ok c.loop-name.invariant

pub returns : goal.returns
returns c = record {
  ok = awaits_last (is_open c.args.bound.now c.args.installed.now) c.args.names.now c.loop-name.name-index c.args.waiting.now.keys c.loop-name.waiting.keys
      (omega (arith, c.loop-name-test.false, c.loop-name.auto.name-index-end)) c.loop-name.invariant;
  err = tt;
}
