use Rattle.std.proofs.Common.{◌≡◌}
use Rattle.lock_check.specs.Chased.{held_by_name}
use Rattle.plan_rows.proofs.chases.chase.Given as goal

-- what is installed stays
abbrev pub invariant-loop-i : goal.invariant-loop-i
invariant-loop-i l = l.chase.installed ≡ held_by_name l.installed
