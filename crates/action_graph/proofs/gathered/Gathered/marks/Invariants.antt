use Rattle.std.proofs.Common.{◌≡◌}
use Rattle.action_graph.specs.Gathering.{marks_from}
use Rattle.action_graph.proofs.gathered.Gathered.marks.Given as goal

abbrev pub invariant-loop-at : goal.invariant-loop-at
invariant-loop-at l = l.marks ≡ marks_from l.self.set 0 l.at
