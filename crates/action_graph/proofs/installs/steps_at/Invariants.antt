use Rattle.std.proofs.Common.{◌≡◌, map, take}
use Rattle.action_graph.specs.Listing.{step_in}
use Rattle.action_graph.proofs.installs.steps_at.Given as goal

abbrev pub invariant-loop-place : goal.invariant-loop-place
invariant-loop-place l = l.steps ≡ map (step_in l.needs) (take l.place-index l.order)
