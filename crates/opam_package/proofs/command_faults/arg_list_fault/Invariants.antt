use Rattle.std.proofs.Common.{◌≡◌, drop}
use Rattle.std.specs.List.{flat_map}
use Rattle.opam_package.specs.Commands.{arg_faults}
use Rattle.opam_package.specs.PackageFaults.{first_fault, sooner}
use Rattle.opam_package.proofs.command_faults.arg_list_fault.Given as goal

-- the first so far, and then that of those that are left
abbrev pub invariant-loop-node : goal.invariant-loop-node
invariant-loop-node l =
    sooner l.first (first_fault (flat_map arg_faults (drop l.node-index l.nodes))) ≡ first_fault (flat_map arg_faults l.nodes)
