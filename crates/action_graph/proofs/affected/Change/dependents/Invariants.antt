use Rattle.action_graph.specs.Nodes.{Depends}
use Rattle.action_graph.proofs.affected.Change.dependents.Given as goal

abbrev pub invariant-loop-at : goal.invariant-loop-at
invariant-loop-at l = Depends l.self.installed.now l.self.members.now l.at l.rows
