use Rattle.std.proofs.Common.{◌≡◌, take}
use Rattle.opam_filter.proofs.+copy_filter.Given as goal

abbrev pub invariant-copies::copy_filters-loop-filter : goal.invariant-copies::copy_filters-loop-filter
invariant-copies::copy_filters-loop-filter l = l.copies ≡ take l.filter-index l.filters
