use Rattle.std.proofs.Common.{◌+◌, ◌-◌, length, map}
use Rattle.lock_check.specs.Chased.{pkg_name}
use Rattle.lock_check.specs.Growth.{IsSpreading, count_missing, led_to}
use Rattle.lock_check.proofs.growth.spread.Given as goal

abbrev pub invariant-loop-done : goal.invariant-loop-done
invariant-loop-done l = IsSpreading (led_to l.bound l.installed) l.fn.needed.keys l.fn.fresh l.done l.needed.keys l.fresh

abbrev pub decreases-loop-done : goal.decreases-loop-done
decreases-loop-done l = count_missing (map pkg_name l.bound) l.needed.keys + (length l.fresh - l.done)
