use Rattle.std.proofs.Common.{◌≡◌, drop}
use Rattle.std.specs.List.{flat_map}
use Rattle.lock_check.specs.LockFaults.{first_lock_fault, sooner_lock_fault}
use Rattle.lock_check.specs.LockItems.{part_faults}
use Rattle.lock_check.proofs.lock_items.further_fault.Given as goal

-- the first so far, and then those of the parts that are left
abbrev pub invariant-loop-node : goal.invariant-loop-node
invariant-loop-node l =
    sooner_lock_fault l.first (first_lock_fault (flat_map part_faults (drop l.node-index l.nodes))) ≡ first_lock_fault (flat_map part_faults l.nodes)
