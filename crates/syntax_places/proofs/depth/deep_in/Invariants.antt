use Rattle.std.proofs.Common.{◌≤◌, ◌-◌, length}
use Rattle.syntax_places.proofs.Walked.{Walked}
use Rattle.syntax_places.proofs.depth.deep_in.Given as goal

-- nothing so far is too deep
abbrev pub invariant-loop-at : goal.invariant-loop-at
invariant-loop-at l = (l.at ≤ length l.text) × Walked l.text l.at l.follower

abbrev pub decreases-loop-at : goal.decreases-loop-at
decreases-loop-at l = length l.text - l.at
