use Rattle.std.proofs.Common.{◌≡◌, ◌++◌, drop, map}
use Rattle.opam_filter.specs.Reductions.{reduced}
use Rattle.opam_package.proofs.formulas.reduce_each.Given as goal

-- what is reduced, and then what is left
abbrev pub invariant-loop-formula : goal.invariant-loop-formula
invariant-loop-formula l = l.all ++ map (reduced l.vars) (drop l.formula-index l.formulas) ≡ map (reduced l.vars) l.formulas
