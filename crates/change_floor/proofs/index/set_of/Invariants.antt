use Rattle.std.proofs.Common.{take}
use Rattle.change_floor.specs.Keeping.{KnowsMissing}
use Rattle.change_floor.proofs.index.set_of.Given as goal

abbrev pub invariant-loop-member : goal.invariant-loop-member
invariant-loop-member l = KnowsMissing (take l.member-index l.members) l.set
