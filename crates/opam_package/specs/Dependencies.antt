-- What a package stands on within a set of packages, and what it forbids (opam manual, package formulas; file format: opam, depends,
-- depopts and conflicts). That a dependency of the build alone is no edge is this project's own.
use Rattle.std.specs.Prelude.{ℕ, List, filter, map, Bool, not, bytes_eq, ◌&&◌, ◌||◌}
use Rattle.std.specs.List.{list_any}
use Rattle.opam_names.specs.declared.packages.Pkg.{Pkg}
use Rattle.opam_filter.specs.Sets.{kept_names, meets}
use Rattle.opam_filter.specs.declared.formula.Reduced.{Reduced}
use Rattle.opam_package.specs.declared.package.Need.{Need}
use Rattle.opam_package.specs.declared.package.Package.{Package}

-- an atom that was kept names it
abbrev pub names_it : List ℕ → Reduced → Bool
names_it name left = list_any (bytes_eq name) (kept_names left)

-- the package is another one
abbrev pub is_other : Package → Pkg → Bool
is_other dependent other = not (bytes_eq other.name dependent.pkg.name)

-- it meets one of the atoms
abbrev pub meets_one : List Reduced → Pkg → Bool
meets_one atoms other = list_any (λ atom. meets atom other) atoms

-- a kept atom of a reading for running names it
abbrev pub is_run_with : List Need → List ℕ → Bool
is_run_with needs name = list_any (λ (need : Need). names_it name need.runtime) needs

-- or of one for building
abbrev pub is_built_with : List Need → List ℕ → Bool
is_built_with needs name = list_any (λ (need : Need). names_it name need.runtime || names_it name need.building) needs

-- the package needs it when it runs: it depends on it, or it meets an optional dependency
abbrev pub is_edge : Package → Pkg → Bool
is_edge dependent other =
    is_other dependent other && (is_run_with dependent.items other.name || meets_one dependent.depopts other)

-- the package needs it when it runs or is built
abbrev pub is_need : Package → Pkg → Bool
is_need dependent other =
    is_other dependent other && (is_built_with dependent.items other.name || meets_one dependent.depopts other)

-- the names of those in a set, in the order of the set
abbrev pub edges_in : Package → List Pkg → List (List ℕ)
edges_in dependent set = map (λ pkg. pkg.name) (filter (is_edge dependent) set)

-- the same of those that it needs in all
abbrev pub needs_in : Package → List Pkg → List (List ℕ)
needs_in dependent set = map (λ pkg. pkg.name) (filter (is_need dependent) set)

-- a package forbids another one that meets one of its conflicts
abbrev pub is_forbidden : Package → Pkg → Bool
is_forbidden dependent other = is_other dependent other && meets_one dependent.conflicts other
