use Rattle.std.proofs.Common.{◌≡◌, ◌++◌, drop, map}
use Rattle.lock_check.specs.Chased.{stay}
use Rattle.lock_check.specs.Installs.{inner}
use Rattle.lock_check.proofs.install.kept.Given as goal

-- those so far, and then those that are left
abbrev pub invariant-loop-member : goal.invariant-loop-member
invariant-loop-member l = map inner l.copies ++ stay l.bound l.needed.keys (drop l.member-index l.installed) ≡ stay l.bound l.needed.keys l.installed
