use Rattle.std.proofs.Common.{◌≡◌, drop, filter}
use Rattle.std.specs.Option.{option_copied}
use Rattle.lock_check.specs.LockItems.{is_constraint, one_version}
use Rattle.lock_check.proofs.Found.{found_and}
use Rattle.lock_check.proofs.lock_items.one_version.Given as goal

-- the one so far, and those that are left
abbrev pub invariant-loop-node : goal.invariant-loop-node
invariant-loop-node l =
    one_version (found_and (option_copied l.found) (filter is_constraint (drop l.node-index l.nodes)))
    ≡ one_version (filter is_constraint l.nodes)
