use Rattle.std.proofs.Common.{take}
use Rattle.lock_check.specs.Growth.{AddsAll}
use Rattle.lock_check.proofs.growth.add_all.Given as goal

-- the first ones came
abbrev pub invariant-loop-name : goal.invariant-loop-name
invariant-loop-name l = AddsAll (take l.name-index l.names) l.fn.needed.keys l.fn.fresh l.needed.keys l.fresh
