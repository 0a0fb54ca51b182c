use Rattle.std.proofs.Common.{◌≡◌, drop}
use Rattle.opam_package.specs.Dependencies.{meets_one}
use Rattle.opam_package.proofs.dependencies.meets_one.Given as goal

-- those that are left decide
abbrev pub invariant-loop-atom : goal.invariant-loop-atom
invariant-loop-atom l = meets_one (drop l.atom-index l.atoms) l.other ≡ meets_one l.atoms l.other
