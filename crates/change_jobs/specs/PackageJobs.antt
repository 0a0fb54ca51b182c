-- The job of a member of a target: it is built in sight of its view, in the environment that the packages of that view set (opam manual, file format:
-- opam, build and setenv). That a view is the member's needs with all that these run with is this project's own.
use Rattle.std.specs.Prelude.{◌≡◌, ◌<◌, ◌-◌, ◌^◌, ℕ, List, Bool, filter, length, map, slice_get}
use Rattle.std.specs.List.{All, list_any}
use Rattle.std.specs.declared.option.Option.TheVariants.{Some}
use Rattle.opam_names.specs.ByteOrders.{has_key}
use Rattle.opam_names.specs.declared.packages.Pkg.{Pkg}
use Rattle.opam_filter.specs.Variables.{Values}
use Rattle.opam_package.specs.PackageTexts.{IsPackageText}
use Rattle.opam_package.specs.declared.package.Member.{Member}
use Rattle.opam_package.specs.declared.package.Package.{Package}
use Rattle.outside_io.specs.declared.workshop.Job.{Job}
use Rattle.package_vars.specs.declared.facts.Facts.{Facts}
use Rattle.action_graph.specs.Leaving.{name_of}
use Rattle.action_graph.specs.Views.{IsView}
use Rattle.build_env.specs.Jobs.{build_job}
use Rattle.build_env.specs.declared.export.Export.{Export}

-- the name of a package
abbrev pub name_of_pkg : Pkg → List ℕ
name_of_pkg pkg = pkg.name

-- whether the view has a package of this name
abbrev pub is_seen : List Pkg → Member → Bool
is_seen view member = list_any (has_key name_of_pkg (name_of member)) view

-- what a member sets in the environment of those who need it
abbrev pub export_of : Member → Export
export_of member = record { pkg = member.package.pkg; updates = member.package.exports }

-- what the members of a view set there, in the byte order of their names, as the members stand
abbrev pub exports_in : List Member → List Pkg → List Export
exports_in members view = map export_of (filter (is_seen view) members)

-- the job of the member at a place: a function of the members, the facts and the place alone
pub record IsJobOf (members : List Member) (facts : Facts) (place : ℕ) (job : Job) : Type 0 where
  pub built : Member
  pub stands : slice_get members place ≡ Some built
  pub view : List Pkg
  pub sees : IsView members place view
  pub made : job ≡ build_job built.package (record { members = view }) (exports_in members view) facts

-- no member has more commands than the steps of a job can count
abbrev pub AreShort : List Member → Type 0
AreShort members = All (λ (member : Member). length member.package.commands < 2 ^ 32 - 1) members

-- a package that was read from an opam text has few commands
abbrev pub PackagesAreShort : Type 0
PackagesAreShort = (bytes : List ℕ) (pkg : Pkg) (globals : Values) (found : Package) → IsPackageText bytes pkg globals found → length found.commands < 2 ^ 32 - 1
