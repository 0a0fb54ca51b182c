use Rattle.std.proofs.Common.{◌≡◌, [], ◌++◌, drop, map}
use Rattle.std.specs.List.{flat_map}
use Rattle.opam_package.specs.Updates.{lone_faults, lone_update}
use Rattle.opam_package.proofs.updates.build_lone_list.Given as goal

-- what is built, and then what is left, which has no fault
abbrev pub invariant-loop-node : goal.invariant-loop-node
invariant-loop-node l = record {
  built : l.all ++ map lone_update (drop l.node-index l.nodes) ≡ map lone_update l.nodes;
  sound : flat_map lone_faults (drop l.node-index l.nodes) ≡ [];
}
