use Rattle.std.proofs.Common.{◌≡◌, [], ◌++◌, drop}
use Rattle.std.specs.List.{flat_map}
use Rattle.lock_check.specs.LockItems.{bound_in, further_faults}
use Rattle.lock_check.proofs.lock_items.bind_items.Given as goal

-- those so far, and then those of the items that are left, which have no fault
abbrev pub invariant-loop-item : goal.invariant-loop-item
invariant-loop-item l = record {
  bound : l.bound ++ bound_in l.globals (drop l.item-index l.nodes) ≡ bound_in l.globals l.nodes;
  sound : flat_map further_faults (drop l.item-index l.nodes) ≡ [];
}
