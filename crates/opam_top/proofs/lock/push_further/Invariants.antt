use Rattle.std.proofs.Common.{◌≡◌, ◌++◌, drop}
use Rattle.opam_top.specs.Locks.{further_pkgs}
use Rattle.opam_top.proofs.lock.push_further.Given as goal

abbrev pub invariant-loop-pkg : goal.invariant-loop-pkg
invariant-loop-pkg l = l.text.items ++ further_pkgs (drop l.pkg-index l.pkgs) ≡ l.initial.text.items ++ further_pkgs l.pkgs
