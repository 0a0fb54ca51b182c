-- What the environment of a job depends on.
use Rattle.std.specs.Prelude.{◌≡◌, ℕ, List, IsTrue}
use Rattle.std.specs.List.{All, flat_map}
use Rattle.opam_names.specs.declared.packages.Pkg.{Pkg}
use Rattle.opam_package.specs.declared.package.Package.{Package}
use Rattle.package_vars.specs.VariableLaws.{has_scope, last_where}
use Rattle.package_vars.specs.declared.facts.Facts.{Facts}
use Rattle.package_vars.specs.declared.facts.View.{View}
use Rattle.opam_filter.specs.Laws.{is_scope_among}
use Rattle.std.specs.declared.option.Option.TheVariants.{Some}
use Rattle.build_env.specs.Jobs.{build_job}
use Rattle.build_env.specs.JobNames.{asked_by_export, asked_by_update}
use Rattle.build_env.specs.declared.export.Export.{Export}

-- for a package, two views have the same at each scope of some names, and at `_`
abbrev pub LookAlike : List (List ℕ) → View → View → Pkg → Type 0
LookAlike names view other pkg =
    (scope : List ℕ) → IsTrue (is_scope_among names (Some scope))
    → last_where (has_scope pkg scope) view.members ≡ last_where (has_scope pkg scope) other.members

-- two views look alike to an export: they do at what its updates ask for
abbrev pub ExportsLookAlike : View → View → Export → Type 0
ExportsLookAlike view other export = LookAlike (asked_by_export export) view other export.pkg

-- the environment of a job depends on the exports, and of the package on what it is called and its own updates; of the view
-- on the packages alone that these updates ask for, each for its own package
pub record EnvironmentIsOfExports : Type 0 where
  pub commands : (built other : Package) (view : View) (exports : List Export) (facts : Facts)
      → other.pkg ≡ built.pkg → other.build_env ≡ built.build_env
      → (build_job other view exports facts).env ≡ (build_job built view exports facts).env
  pub members : (built : Package) (view other : View) (exports : List Export) (facts : Facts)
      → LookAlike (flat_map asked_by_update built.build_env) view other built.pkg → All (ExportsLookAlike view other) exports
      → (build_job built other exports facts).env ≡ (build_job built view exports facts).env
