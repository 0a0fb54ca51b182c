use Rattle.std.proofs.Common.{◌≡◌, map, take}
use Rattle.action_graph.specs.Nodes.{node_at}
use Rattle.action_graph.proofs.affected.Change.nodes_of.Given as goal

abbrev pub invariant-loop-place : goal.invariant-loop-place
invariant-loop-place l = l.found ≡ map (node_at l.self.installed.now l.self.members.now) (take l.place-index l.places)
