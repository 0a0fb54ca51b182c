use Rattle.std.proofs.Common.{◌≡◌, ◌++◌, map, drop, None}
use Rattle.opam_filter.specs.Faults.{judged, of_braces}
use Rattle.opam_filter.specs.Trees.{Read, read}
use Rattle.opam_filter.proofs.building.+build_braces.Given as goal

-- what is built, and then what is left, which has no fault
abbrev pub invariant-build_all_braces-loop-node : goal.invariant-build_all_braces-loop-node
invariant-build_all_braces-loop-node l = record {
  built : l.braces ++ map (λ (node : Read). node.braces) (map read (drop l.node-index l.nodes)) ≡ map (λ (node : Read). node.braces) (map read l.nodes);
  sound : of_braces (map judged (drop l.node-index l.nodes)) ≡ None;
}
