use Rattle.std.proofs.Common.{◌≡◌, length}
use Rattle.std.specs.Ordering.{nat_cmp}
use Rattle.std.specs.Cmp.Lexicographic.{slice_cmp}
use Rattle.std.specs.FinMap.{find}
use Rattle.opam_top.proofs.owners.find_owner.Given as goal

-- the path stands in the rest where it stands in all
abbrev pub invariant-loop-rest : goal.invariant-loop-rest
invariant-loop-rest l = find (slice_cmp nat_cmp) l.path l.rest ≡ find (slice_cmp nat_cmp) l.path l.owners

abbrev pub decreases-loop-rest : goal.decreases-loop-rest
decreases-loop-rest l = length l.rest
