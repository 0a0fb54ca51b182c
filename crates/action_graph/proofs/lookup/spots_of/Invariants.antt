use Rattle.std.proofs.Common.{◌≡◌, take}
use Rattle.action_graph.specs.Nodes.{spots_from}
use Rattle.action_graph.proofs.lookup.spots_of.Given as goal

abbrev pub invariant-loop-at : goal.invariant-loop-at
invariant-loop-at l = l.spots ≡ spots_from 0 (take l.at l.members)
