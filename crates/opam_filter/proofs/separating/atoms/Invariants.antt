use Rattle.std.proofs.Common.{◌≡◌, ◌++◌, reverse}
use Rattle.opam_filter.specs.Sets.{atoms}
use Rattle.opam_filter.proofs.Moves.{atoms_of, count_all}
use Rattle.opam_filter.proofs.separating.atoms.Given as goal

-- what was found, and then what is left, from its end
abbrev pub invariant-loop-part : goal.invariant-loop-part
invariant-loop-part l = l.found.items ++ reverse (atoms_of l.left) ≡ reverse (atoms l.fn.formula)

abbrev pub decreases-loop-part : goal.decreases-loop-part
decreases-loop-part l = count_all l.left
