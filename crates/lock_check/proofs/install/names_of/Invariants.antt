use Rattle.std.proofs.Common.{◌≡◌, ◌++◌, drop, map}
use Rattle.lock_check.specs.Chased.{pkg_name}
use Rattle.lock_check.proofs.install.names_of.Given as goal

-- those so far, and then those that are left
abbrev pub invariant-loop-pkg : goal.invariant-loop-pkg
invariant-loop-pkg l = l.names ++ map pkg_name (drop l.pkg-index l.pkgs) ≡ map pkg_name l.pkgs
