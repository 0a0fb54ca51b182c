-- What is taken out of a formula, and what is left to be taken.
use Rattle.std.proofs.Common.{ℕ, ◌+◌, List, map}
use Rattle.std.specs.Prelude.{sum}
use Rattle.std.specs.List.{flat_map}
use Rattle.opam_filter.specs.Sets.{atoms}
use Rattle.opam_filter.specs.declared.formula.Formula.{Formula}
use Rattle.opam_filter.specs.declared.formula.Formula.TheOpen.{Formula-F}
use Rattle.opam_filter.specs.declared.formula.Formula.TheFolds.{fold-Formula}

-- how many formulas it is made of, itself among them
abbrev layer_count : Formula-F ℕ → ℕ
layer_count (Formula-F.Atom name braces) = 1
layer_count (Formula-F.And parts) = 1 + sum parts
layer_count (Formula-F.Or parts) = 1 + sum parts

abbrev pub count : Formula → ℕ
count = fold-Formula ℕ layer_count

abbrev pub count_all : List Formula → ℕ
count_all formulas = sum (map count formulas)

abbrev pub atoms_of : List Formula → List Formula
atoms_of formulas = flat_map (λ atoms. atoms) (map atoms formulas)
