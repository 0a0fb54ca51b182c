use Rattle.std.proofs.Common.{◌-◌}
use Rattle.syntax_places.specs.Beginnings.{IsBetween}
use Rattle.syntax_places.proofs.beginnings.between.Given as goal

abbrev pub invariant-loop-high : goal.invariant-loop-high
invariant-loop-high l = IsBetween l.bytes l.low l.high

abbrev pub decreases-loop-high : goal.decreases-loop-high
decreases-loop-high l = l.high - l.low
