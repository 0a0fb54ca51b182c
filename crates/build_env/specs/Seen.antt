-- Words of private clauses: the packages of a view by their names, and the environment made from those that are asked for.
use Rattle.std.specs.Prelude.{ℕ, List, [], ◌∷◌, ◌++◌}
use Rattle.std.specs.BTreeMap.{insert_entry, is_at}
use Rattle.std.specs.List.{All, flat_map}
use Rattle.std.specs.Map.{lookup}
use Rattle.std.specs.Option.{option_to_list}
use Rattle.std.specs.declared.option.Option.{Option}
use Rattle.opam_names.specs.ByteOrders.{byte_order}
use Rattle.opam_names.specs.Names.{IsName}
use Rattle.opam_names.specs.declared.packages.Pkg.{Pkg}
use Rattle.opam_filter.specs.Variables.{Values}
use Rattle.opam_package.specs.declared.package.Package.{Package}
use Rattle.package_vars.specs.declared.facts.Facts.{Facts}
use Rattle.package_vars.specs.declared.facts.View.{View}
use Rattle.build_env.specs.Environments.{Environment, variables_for, with_built, with_pairs, with_updates}
use Rattle.build_env.specs.JobNames.{asked_by_command, asked_by_export, asked_by_update}
use Rattle.build_env.specs.declared.export.Export.{Export}

-- packages with their names
abbrev pub Named : Type 0
Named = List (List ℕ × Pkg)

-- the index with one package more
abbrev pub with_member : Named → Pkg → Named
with_member named pkg = insert_entry byte_order named pkg.name pkg

-- the index with these packages, one after another
abbrev pub with_members : Named → List Pkg → Named
with_members named [] = named
with_members named (pkg ∷ pkgs) = with_members (with_member named pkg) pkgs

-- packages by their names
abbrev pub by_name : List Pkg → Named
by_name members = with_members [] members

-- their names are names
abbrev pub AreNamed : List Pkg → Type 0
AreNamed members = All (λ pkg. IsName pkg.name) members

-- the package of this name
abbrev pub member_at : Named → List ℕ → Option Pkg
member_at named name = lookup (is_at (byte_order name)) named

-- the packages of these names, those that there are
abbrev pub members_at : Named → List (List ℕ) → List Pkg
members_at named names = flat_map (λ name. option_to_list (member_at named name)) names

-- a view of those alone that a package asks for, and the one of its own name
abbrev pub view_seen : Named → Pkg → List (List ℕ) → View
view_seen named pkg asked = record { members = members_at named (pkg.name ∷ asked) }

-- the variables of a package under what is seen of its view by name
abbrev pub values_seen : Facts → Named → Pkg → List (List ℕ) → Values
values_seen facts named pkg asked = variables_for facts (view_seen named pkg asked) asked pkg

-- what a package itself asks for
abbrev pub asked_by_own : Package → List (List ℕ)
asked_by_own built = flat_map asked_by_command built.commands ++ flat_map asked_by_update built.build_env

-- the updates of an export, and of several
abbrev pub with_export_seen : Facts → Named → Environment → Export → Environment
with_export_seen facts named env export =
    with_updates (values_seen facts named export.pkg (asked_by_export export)) env export.updates

-- the environment with these exports, each under the variables of its own package
abbrev pub with_exports_seen : Facts → Named → Environment → List Export → Environment
with_exports_seen facts named env [] = env
with_exports_seen facts named env (export ∷ exports) = with_exports_seen facts named (with_export_seen facts named env export) exports

-- the whole, under these variables of the package
abbrev pub environment_seen : Facts → Named → Values → Package → List Export → Environment
environment_seen facts named values built exports =
    let given = with_built (with_pairs [] facts.env) facts.prefix built.pkg in
    with_updates values (with_exports_seen facts named given exports) built.build_env
