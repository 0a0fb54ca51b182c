use Rattle.std.proofs.Common.{◌≡◌, length}
use Rattle.outside_io.specs.Scripts.{goes_on_well}
use Rattle.outside_io.proofs.script_shop.goes_on_well.Given as goal

-- no ending so far is NotPrepared
abbrev pub invariant-loop-rest : goal.invariant-loop-rest
invariant-loop-rest l = goes_on_well l.rest ≡ goes_on_well l.endings

abbrev pub decreases-loop-rest : goal.decreases-loop-rest
decreases-loop-rest l = length l.rest
