use Rattle.std.proofs.Common.{◌≡◌, ◌+◌, drop}
use Rattle.opam_top.specs.Locks.{place_of_pkg}
use Rattle.opam_top.proofs.lock.place_before.Given as goal

abbrev pub invariant-loop-place : goal.invariant-loop-place
invariant-loop-place l = l.place + place_of_pkg l.pkg (drop l.place l.pkgs) ≡ place_of_pkg l.pkg l.pkgs
