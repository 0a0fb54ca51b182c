use Rattle.std.proofs.Common.{ℕ, ◌<◌, ◌≤◌, ◌-◌, ◌++◌, [], false, get_or}
use Rattle.syntax_trees.specs.Following.{at_entry}
use Rattle.syntax_faults.specs.Endings.{TokensFollow}
use Rattle.syntax_places.specs.Beginnings.{endings}
use Rattle.syntax_places.proofs.beginnings.ending_of.Given as goal

-- none of the endings so far serves
abbrev pub invariant-loop-number : goal.invariant-loop-number
invariant-loop-number l = (l.number ≤ 17) × ((k : ℕ) → k < l.number → ¬ (TokensFollow (at_entry false) (l.bytes ++ get_or endings k [])))

abbrev pub decreases-loop-number : goal.decreases-loop-number
decreases-loop-number l = 17 - l.number
