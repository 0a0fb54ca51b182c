use Rattle.std.proofs.Common.{◌≡◌, [], ◌++◌, drop, map}
use Rattle.std.specs.List.{flat_map}
use Rattle.opam_package.specs.Commands.{arg_faults, arg_of}
use Rattle.opam_package.proofs.commands.build_arg_list.Given as goal

-- what is built, and then what is left, which has no fault
abbrev pub invariant-loop-node : goal.invariant-loop-node
invariant-loop-node l = record {
  built : l.args ++ map arg_of (drop l.node-index l.nodes) ≡ map arg_of l.nodes;
  sound : flat_map arg_faults (drop l.node-index l.nodes) ≡ [];
}
