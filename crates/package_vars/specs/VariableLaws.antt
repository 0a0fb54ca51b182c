-- What a variable of a build depends on.
use Rattle.std.specs.Prelude.{◌≡◌, ℕ, List, [], ◌∷◌, Bool, bytes_eq, codes, ◌&&◌, ◌||◌, if◌then◌else◌}
use Rattle.std.specs.FinMap.{get}
use Rattle.std.specs.List.{list_any}
use Rattle.std.specs.Option.{option_or}
use Rattle.std.specs.declared.option.Option.{Option}
use Rattle.std.specs.declared.option.Option.TheVariants.{None, Some}
use Rattle.opam_names.specs.declared.packages.Pkg.{Pkg}
use Rattle.opam_filter.specs.Scopes.{plain, scoped}
use Rattle.package_vars.specs.BuildVariables.{build_rows, variables_of}
use Rattle.package_vars.specs.declared.facts.Facts.{Facts}
use Rattle.package_vars.specs.declared.facts.View.{View}

-- a package has its name as scope, and `_` where that is the name of the package that is built
abbrev pub has_scope : Pkg → List ℕ → Pkg → Bool
has_scope built scope pkg = bytes_eq scope pkg.name || (bytes_eq pkg.name built.name && bytes_eq scope (codes "_"))

-- the last of some packages that passes a test
abbrev pub last_where : (Pkg → Bool) → List Pkg → Option Pkg
last_where test [] = None
last_where test (pkg ∷ pkgs) = option_or (last_where test pkgs) (if test pkg then Some pkg else None)

-- what two builds of one package see is the same at a variable without a scope, and else where the view's last package of
-- that scope is the same, and the scope is asked for in both or in none
pub record ScopesAreEnough : Type 0 where
  pub plain : (facts : Facts) (view other : View) (built : Pkg) (asked names : List (List ℕ)) (name : List ℕ)
      → get (variables_of (build_rows facts view built asked)) (plain name) ≡ get (variables_of (build_rows facts other built names)) (plain name)
  pub scoped : (facts : Facts) (view other : View) (built : Pkg) (asked names : List (List ℕ)) (scope name : List ℕ)
      → last_where (has_scope built scope) view.members ≡ last_where (has_scope built scope) other.members
      → list_any (bytes_eq scope) asked ≡ list_any (bytes_eq scope) names
      → get (variables_of (build_rows facts view built asked)) (scoped scope name) ≡ get (variables_of (build_rows facts other built names)) (scoped scope name)
