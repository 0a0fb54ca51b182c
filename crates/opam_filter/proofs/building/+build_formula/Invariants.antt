use Rattle.std.proofs.Common.{◌≡◌, ◌++◌, map, drop, None}
use Rattle.opam_filter.specs.Faults.{judged, of_formulas}
use Rattle.opam_filter.specs.Trees.{Read, read}
use Rattle.opam_filter.proofs.building.+build_formula.Given as goal

-- what is built, and then what is left, which has no fault
abbrev pub invariant-build_formulas-loop-node : goal.invariant-build_formulas-loop-node
invariant-build_formulas-loop-node l = record {
  built : l.formulas ++ map (λ (node : Read). node.formula) (map read (drop l.node-index l.nodes)) ≡ map (λ (node : Read). node.formula) (map read l.nodes);
  sound : of_formulas (map judged (drop l.node-index l.nodes)) ≡ None;
}
