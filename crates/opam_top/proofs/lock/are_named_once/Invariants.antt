use Rattle.std.proofs.Common.{◌≡◌, length}
use Rattle.opam_top.specs.Locks.{are_named_once}
use Rattle.opam_top.proofs.lock.are_named_once.Given as goal

abbrev pub invariant-loop-rest : goal.invariant-loop-rest
invariant-loop-rest l = are_named_once l.rest ≡ are_named_once l.pkgs

abbrev pub decreases-loop-rest : goal.decreases-loop-rest
decreases-loop-rest l = length l.rest
