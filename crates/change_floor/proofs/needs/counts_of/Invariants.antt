use Rattle.std.proofs.Common.{◌≡◌, take, map}
use Rattle.action_graph.specs.declared.plan.Step.{Step}
use Rattle.change_floor.specs.Keeping.{unmet}
use Rattle.change_floor.proofs.needs.counts_of.Given as goal

abbrev pub invariant-loop-place : goal.invariant-loop-place
invariant-loop-place l = l.counts ≡ map (λ (step : Step). unmet l.plan l.decided step.needs) (take l.place l.installs)
