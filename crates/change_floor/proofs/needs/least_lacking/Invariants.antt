use Rattle.std.proofs.Common.{take, not}
use Rattle.change_floor.specs.Floors.{has_installed}
use Rattle.change_floor.proofs.Standing.{IsFiltered}
use Rattle.change_floor.proofs.needs.least_lacking.Given as goal

abbrev pub invariant-loop-need : goal.invariant-loop-need
invariant-loop-need l = IsFiltered (λ need. not (has_installed l.plan l.decided need)) (take l.need-index l.needs) l.least
