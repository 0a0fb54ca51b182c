use Rattle.std.proofs.Common.{◌≡◌, [], ◌++◌, drop, map}
use Rattle.std.specs.List.{flat_map}
use Rattle.lock_check.specs.LockItems.{part_faults, passes}
use Rattle.lock_check.proofs.lock_items.passed.Given as goal

-- those so far, and then those of the parts that are left, which have no fault
abbrev pub invariant-loop-node : goal.invariant-loop-node
invariant-loop-node l = record {
  flags : l.flags ++ map (passes l.globals) (drop l.node-index l.nodes) ≡ map (passes l.globals) l.nodes;
  sound : flat_map part_faults (drop l.node-index l.nodes) ≡ [];
}
