use Rattle.std.proofs.Common.{◌-◌}
use Rattle.child_pool.proofs.Fates.{LeadsToFate}
use Rattle.child_pool.proofs.steps.build.Given as goal

-- the steps so far were good ones
abbrev pub invariant-loop-step : goal.invariant-loop-step
invariant-loop-step g l = LeadsToFate (g.W.Workshop.told l.shop) l.job l.step (l.count - l.step)
