use Rattle.std.proofs.Common.{◌≡◌, ◌+◌, ◌-◌, true, arith}
use Rattle.child_pool.proofs.Fates.{goes_on, stops}
use Rattle.child_pool.proofs.steps.build.Goals as goal

pub returns-then-not-is_good : goal.returns-then-not-is_good
returns-then-not-is_good g c =
    stops (g.W.Workshop.told c.args.shop.now) c.args.job.now c.loop-step.step (c.len.result + 1 - c.loop-step.step) (c.len.result - c.loop-step.step) c.in_ok-ending.ending c.in_ok-ending.ensures.told (λ same. let good : c.is_good.result ≡ true = c.is_good.ensures.1 same in cc) (omega arith) c.loop-step.invariant

pub loop-step-preserved : goal.loop-step-preserved
loop-step-preserved g c =
    goes_on (g.W.Workshop.told c.args.shop.now) c.args.job.now c.loop-step.step (c.len.result + 1 - c.loop-step.step) (c.len.result + 1 - (c.loop-step.step + 1)) c.in_ok-ending.ending c.in_ok-ending.ensures.told (c.is_good.ensures.0 c.if-not-is_good.false) (omega arith) c.loop-step.invariant
