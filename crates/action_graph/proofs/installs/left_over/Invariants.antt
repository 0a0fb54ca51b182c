use Rattle.action_graph.specs.Found.{IsLeft}
use Rattle.action_graph.proofs.installs.left_over.Given as goal

abbrev pub invariant-loop-at : goal.invariant-loop-at
invariant-loop-at l = IsLeft l.wanted l.listed l.at l.left
