use Rattle.std.proofs.Common.{◌≤◌, ◌-◌, length}
use Rattle.syntax_places.specs.Beginnings.{IsNear}
use Rattle.syntax_places.proofs.beginnings.beginning_len.Given as goal

abbrev pub invariant-loop-low : goal.invariant-loop-low
invariant-loop-low l = (l.start ≤ l.low) × IsNear l.bytes l.low

abbrev pub decreases-loop-low : goal.decreases-loop-low
decreases-loop-low l = length l.bytes - l.low
