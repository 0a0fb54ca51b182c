use Rattle.switch_state.proofs.Recovered.{IsReading}
use Rattle.switch_state.proofs.recovery.read_members.Given as goal

-- the members so far are those of the texts before
abbrev pub invariant-loop-one : goal.invariant-loop-one
invariant-loop-one l = IsReading l.fn.globals l.fn.standing l.one-iterator.rest.items l.members
