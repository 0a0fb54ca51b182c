use Rattle.std.proofs.Common.{◌≡◌, ◌++◌, drop}
use Rattle.lock_check.proofs.install.copy_pkgs.Given as goal

-- those so far, and then those that are left
abbrev pub invariant-loop-pkg : goal.invariant-loop-pkg
invariant-loop-pkg l = l.copies ++ drop l.pkg-index l.pkgs ≡ l.pkgs
