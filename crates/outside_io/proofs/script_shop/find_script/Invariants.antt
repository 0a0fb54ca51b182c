use Rattle.std.proofs.Common.{◌≡◌, length}
use Rattle.outside_io.specs.Scripts.{script_of}
use Rattle.outside_io.proofs.script_shop.find_script.Given as goal

-- the package's script stands in the rest where it stands in all
abbrev pub invariant-loop-rest : goal.invariant-loop-rest
invariant-loop-rest l = script_of l.rest l.pkg ≡ script_of l.scripts l.pkg

abbrev pub decreases-loop-rest : goal.decreases-loop-rest
decreases-loop-rest l = length l.rest
