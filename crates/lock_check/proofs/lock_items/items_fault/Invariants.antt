use Rattle.std.proofs.Common.{◌≡◌, [], drop}
use Rattle.lock_check.specs.LockFaults.{first_lock_fault, sooner_lock_fault}
use Rattle.lock_check.specs.LockItems.{faults_behind}
use Rattle.lock_check.proofs.lock_items.items_fault.Given as goal

-- the first so far, and then those of the items that are left
abbrev pub invariant-loop-item : goal.invariant-loop-item
invariant-loop-item l =
    sooner_lock_fault l.first (first_lock_fault (faults_behind l.names.keys (drop l.item-index l.nodes))) ≡ first_lock_fault (faults_behind [] l.nodes)
