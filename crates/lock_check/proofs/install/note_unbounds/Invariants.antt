use Rattle.std.proofs.Common.{◌≡◌, ◌++◌, drop}
use Rattle.lock_check.specs.Chased.{told_unbounds}
use Rattle.lock_check.proofs.install.note_unbounds.Given as goal

-- those so far, and then those that are left
abbrev pub invariant-loop-name : goal.invariant-loop-name
invariant-loop-name l = l.told ++ told_unbounds l.bound (drop l.name-index l.asked) ≡ l.fn.told ++ told_unbounds l.bound l.asked
