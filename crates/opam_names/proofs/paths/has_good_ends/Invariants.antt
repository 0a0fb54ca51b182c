use Rattle.std.proofs.Common.{◌≡◌, ◌≤◌, [], ◌∷◌, ◌++◌, length}
use Rattle.std.specs.List.{list_all}
use Rattle.opam_names.specs.Paths.{is_part, parts}
use Rattle.opam_names.proofs.paths.has_good_ends.Given as goal

abbrev pub invariant-loop-slash : goal.invariant-loop-slash
invariant-loop-slash l = (list_all is_part (parts (l.rest ++ 97 ∷ [])) ≡ list_all is_part (parts (l.front ++ 97 ∷ []))) × (length l.rest ≤ 1024)

abbrev pub decreases-loop-slash : goal.decreases-loop-slash
decreases-loop-slash l = length l.rest
