use Rattle.std.proofs.Common.{◌≡◌, take}
use Rattle.opam_filter.proofs.+copy_reduced.Given as goal

abbrev pub invariant-copies::copy_all_reduced-loop-reduced : goal.invariant-copies::copy_all_reduced-loop-reduced
invariant-copies::copy_all_reduced-loop-reduced l = l.copies ≡ take l.reduced-index l.all
