use Rattle.std.proofs.Common.{◌≡◌, take}
use Rattle.change_floor.specs.Keeping.{unmet}
use Rattle.change_floor.proofs.needs.unmet_of.Given as goal

abbrev pub invariant-loop-need : goal.invariant-loop-need
invariant-loop-need l = l.count ≡ unmet l.plan l.decided (take l.need-index l.needs)
