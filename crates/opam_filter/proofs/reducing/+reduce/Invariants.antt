use Rattle.std.proofs.Common.{◌≡◌, filter, map, take}
use Rattle.opam_filter.specs.Reductions.{is_left, reduced}
use Rattle.opam_filter.proofs.reducing.+reduce.Given as goal

abbrev pub invariant-reduce_all-loop-part : goal.invariant-reduce_all-loop-part
invariant-reduce_all-loop-part l = l.left ≡ filter is_left (map (reduced l.vars) (take l.part-index l.parts))
