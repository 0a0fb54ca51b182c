use Rattle.std.proofs.Common.{◌≡◌, ◌+◌, ◌-◌, ◌^◌, ◌≤◌, drop, filter, length}
use Rattle.std.specs.Prelude.{min}
use Rattle.lock_check.specs.Growth.{is_uninstalled}
use Rattle.lock_check.proofs.growth.count_new.Given as goal

-- what there is, and those that are left
abbrev pub invariant-loop-name : goal.invariant-loop-name
invariant-loop-name l = record {
  same : min (l.sum + length (filter (is_uninstalled l.installed) (drop l.name-index l.names))) (2 ^ 32 - 1)
      ≡ min (l.fn.count + length (filter (is_uninstalled l.installed) l.names)) (2 ^ 32 - 1);
  small : l.sum ≤ 2 ^ 32 - 1;
}
