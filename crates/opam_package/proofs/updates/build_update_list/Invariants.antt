use Rattle.std.proofs.Common.{◌≡◌, [], ◌++◌, drop, map}
use Rattle.std.specs.List.{flat_map}
use Rattle.opam_package.specs.Updates.{update_faults, update_of}
use Rattle.opam_package.proofs.updates.build_update_list.Given as goal

-- what is built, and then what is left, which has no fault
abbrev pub invariant-loop-node : goal.invariant-loop-node
invariant-loop-node l = record {
  built : l.all ++ map update_of (drop l.node-index l.nodes) ≡ map update_of l.nodes;
  sound : flat_map update_faults (drop l.node-index l.nodes) ≡ [];
}
