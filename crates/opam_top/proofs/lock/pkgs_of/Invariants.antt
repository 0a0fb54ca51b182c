use Rattle.std.proofs.Common.{◌≡◌, length}
use Rattle.opam_top.specs.Locks.{prepended, read_pkgs}
use Rattle.opam_top.proofs.lock.pkgs_of.Given as goal

-- the packages so far and those of the rest are all
abbrev pub invariant-loop-rest : goal.invariant-loop-rest
invariant-loop-rest l = prepended l.pkgs (read_pkgs l.rest) ≡ read_pkgs l.texts

abbrev pub decreases-loop-rest : goal.decreases-loop-rest
decreases-loop-rest l = length l.rest
