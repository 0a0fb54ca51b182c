use Rattle.std.proofs.Common.{◌≡◌, ◌-◌}
use Rattle.action_graph.specs.Found.{Spreads}
use Rattle.action_graph.specs.Gathering.{gathered_marks}
use Rattle.action_graph.proofs.reach.reach.Given as goal

abbrev pub invariant-loop-done : goal.invariant-loop-done
invariant-loop-done g l = (l.found.count ≡ l.count) × Spreads l.count (g.S.Steps.leads l.steps) l.starts l.done (gathered_marks l.found) l.found.places

abbrev pub decreases-loop-done : goal.decreases-loop-done
decreases-loop-done g l = l.count - l.done
