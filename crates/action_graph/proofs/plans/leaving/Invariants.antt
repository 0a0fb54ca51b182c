use Rattle.action_graph.specs.Nodes.{OfEntries}
use Rattle.action_graph.proofs.plans.leaving.Given as goal

abbrev pub invariant-loop-at : goal.invariant-loop-at
invariant-loop-at l = OfEntries l.change.installed.now l.change.members.now l.marks l.at l.leaving
