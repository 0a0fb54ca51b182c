-- What a set of packages meets, and what one package does (opam manual, package formulas).
use Rattle.std.specs.Prelude.{ℕ, List, [], ◌∷◌, Bool, true, false, bytes_eq, ◌&&◌}
use Rattle.std.specs.List.{flat_map, list_all, list_any}
use Rattle.opam_names.specs.ByteOrders.{RisesBy}
use Rattle.opam_names.specs.declared.packages.Pkg.{Pkg}
use Rattle.opam_filter.specs.NameSets.{in_byte_order}
use Rattle.opam_filter.specs.Reductions.{is_met}
use Rattle.opam_filter.specs.declared.formula.Formula.{Formula, roll-Formula}
use Rattle.opam_filter.specs.declared.formula.Formula.TheOpen.{Formula-F}
use Rattle.opam_filter.specs.declared.formula.Formula.TheFolds.{fold-Formula}
use Rattle.opam_filter.specs.declared.formula.Reduced.{Reduced, out-Reduced}
use Rattle.opam_filter.specs.declared.formula.Reduced.TheOpen.{Reduced-F}
use Rattle.opam_filter.specs.declared.formula.Reduced.TheFolds.{fold-Reduced}
use Rattle.opam_filter.specs.declared.formula.Test.{Test}

-- a package of that name, at a version that meets the test
abbrev pub is_met_by : List ℕ → Test → Pkg → Bool
is_met_by name test pkg = bytes_eq pkg.name name && is_met test pkg.version

-- what was dropped holds; an `and` holds where all parts do, an `or` where some part does
abbrev pub layer_holds : List Pkg → Reduced-F Bool → Bool
layer_holds set Reduced-F.Dropped = true
layer_holds set (Reduced-F.And parts) = list_all (λ part. part) parts
layer_holds set (Reduced-F.Or parts) = list_any (λ part. part) parts
layer_holds set (Reduced-F.Atom name test) = list_any (is_met_by name test) set

-- a set meets what is left of a formula
abbrev pub holds : Reduced → List Pkg → Bool
holds reduced set = fold-Reduced Bool (layer_holds set) reduced

-- whether it is an atom that the package meets
abbrev pub layer_meets : Pkg → Reduced-F Reduced → Bool
layer_meets pkg Reduced-F.Dropped = false
layer_meets pkg (Reduced-F.And parts) = false
layer_meets pkg (Reduced-F.Or parts) = false
layer_meets pkg (Reduced-F.Atom name test) = is_met_by name test pkg

-- a package does, where that is one atom
abbrev pub meets : Reduced → Pkg → Bool
meets reduced pkg = layer_meets pkg (out-Reduced reduced)

-- the names of kept atoms, as often as they stand there
abbrev pub layer_kept : Reduced-F (List (List ℕ)) → List (List ℕ)
layer_kept Reduced-F.Dropped = []
layer_kept (Reduced-F.And parts) = flat_map (λ names. names) parts
layer_kept (Reduced-F.Or parts) = flat_map (λ names. names) parts
layer_kept (Reduced-F.Atom name test) = name ∷ []

-- the names of all kept atoms
abbrev pub kept_names : Reduced → List (List ℕ)
kept_names = fold-Reduced (List (List ℕ)) layer_kept

-- the same in the order of bytes, each once
abbrev pub names : Reduced → List (List ℕ)
names reduced = in_byte_order (kept_names reduced)

-- each atom as a formula of its own, from left to right
abbrev pub layer_atoms : Formula-F (List Formula) → List Formula
layer_atoms (Formula-F.Atom name braces) = roll-Formula (Formula-F.Atom name braces) ∷ []
layer_atoms (Formula-F.And parts) = flat_map (λ atoms. atoms) parts
layer_atoms (Formula-F.Or parts) = flat_map (λ atoms. atoms) parts

-- the atoms of a formula
abbrev pub atoms : Formula → List Formula
atoms = fold-Formula (List Formula) layer_atoms

-- each name comes before those after it in the order of bytes, so each stands there once
abbrev pub Rises : List Pkg → Type 0
Rises set = RisesBy (λ pkg. pkg.name) set
