use Rattle.std.proofs.Common.{map}
use Rattle.switch_journal.specs.Reading.{standing_of}
use Rattle.switch_state.proofs.Recovered.{IsReading}
use Rattle.switch_state.proofs.recovery.read_target.Given as goal

-- the members so far are those of the texts before
abbrev pub invariant-loop-entry : goal.invariant-loop-entry
invariant-loop-entry l = IsReading l.fn.globals (map (standing_of l.fn.from) l.fn.target) (map (standing_of l.fn.from) l.entry-iterator.rest.items) l.members
