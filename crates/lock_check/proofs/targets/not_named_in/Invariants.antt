use Rattle.std.proofs.Common.{◌≡◌, ◌++◌, drop}
use Rattle.lock_check.specs.Removals.{not_named}
use Rattle.lock_check.proofs.targets.not_named_in.Given as goal

-- those so far, and then those that are left
abbrev pub invariant-loop-member : goal.invariant-loop-member
invariant-loop-member l = l.others ++ not_named (drop l.member-index l.installed) l.named.keys ≡ not_named l.installed l.named.keys
