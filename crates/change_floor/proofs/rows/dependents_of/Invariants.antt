use Rattle.change_floor.specs.Keeping.{TurnedBelow}
use Rattle.change_floor.proofs.rows.dependents_of.Given as goal

abbrev pub invariant-loop-place : goal.invariant-loop-place
invariant-loop-place l = TurnedBelow l.fn.plan l.place l.rows
