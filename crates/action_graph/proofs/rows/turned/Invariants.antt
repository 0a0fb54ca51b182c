use Rattle.action_graph.specs.Listing.{TurnsBelow}
use Rattle.action_graph.proofs.rows.turned.Given as goal

abbrev pub invariant-loop-from : goal.invariant-loop-from
invariant-loop-from l = TurnsBelow l.from l.rows l.others
