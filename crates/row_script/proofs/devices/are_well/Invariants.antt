use Rattle.std.proofs.Common.{◌≡◌, length}
use Rattle.outside_io.specs.Scripts.{all_well}
use Rattle.row_script.proofs.devices.are_well.Given as goal

-- no script so far has an ending that cannot be
abbrev pub invariant-loop-rest : goal.invariant-loop-rest
invariant-loop-rest l = all_well l.rest ≡ all_well l.scripts

abbrev pub decreases-loop-rest : goal.decreases-loop-rest
decreases-loop-rest l = length l.rest
