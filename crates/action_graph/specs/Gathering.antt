-- Proof words alone: places that are found, of which few are.
use Rattle.std.specs.Prelude.{ℕ, zero, suc, ◌+◌, Bool, List, [], ◌∷◌}
use Rattle.std.specs.BTreeSet.{BTreeSet}
use Rattle.action_graph.specs.Listing.{has}
use Rattle.action_graph.specs.declared.gathered.Gathered.{Gathered}

-- for so many places from one on, whether each stands in a set
abbrev pub marks_from : BTreeSet ℕ → ℕ → ℕ → List Bool
marks_from set at zero = []
marks_from set at (suc count) = has set at ∷ marks_from set (at + 1) count

-- the same of what was gathered
abbrev pub gathered_marks : Gathered → List Bool
gathered_marks found = marks_from found.set 0 found.count
