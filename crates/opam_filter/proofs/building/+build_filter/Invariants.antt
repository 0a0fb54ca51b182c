use Rattle.std.proofs.Common.{◌≡◌, ◌++◌, map, drop, None}
use Rattle.opam_filter.specs.Faults.{judged, of_filters}
use Rattle.opam_filter.specs.Trees.{Read, read}
use Rattle.opam_filter.proofs.building.+build_filter.Given as goal

-- what is built, and then what is left, which has no fault
abbrev pub invariant-build_filters-loop-node : goal.invariant-build_filters-loop-node
invariant-build_filters-loop-node l = record {
  built : l.filters ++ map (λ (node : Read). node.filter) (map read (drop l.node-index l.nodes)) ≡ map (λ (node : Read). node.filter) (map read l.nodes);
  sound : of_filters (map judged (drop l.node-index l.nodes)) ≡ None;
}
