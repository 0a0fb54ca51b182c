use Rattle.std.proofs.Common.{take}
use Rattle.change_floor.specs.Keeping.{Notes}
use Rattle.change_floor.proofs.rows.Rows.note.Given as goal

abbrev pub invariant-loop-need : goal.invariant-loop-need
invariant-loop-need l = Notes l.plan l.initial.self (take l.need-index l.needs) l.dependent l.self
