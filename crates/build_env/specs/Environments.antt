-- The environment of a job (opam manual, file format: opam, setenv and build-env; the order is this project's own).
use Rattle.std.specs.Prelude.{ℕ, List, [], ◌∷◌, ◌++◌, codes}
use Rattle.std.specs.BTreeMap.{insert_entry, is_at}
use Rattle.std.specs.Map.{lookup}
use Rattle.std.specs.Option.{unwrap_or}
use Rattle.opam_names.specs.ByteOrders.{byte_order}
use Rattle.opam_names.specs.declared.packages.Pkg.{Pkg}
use Rattle.syntax_trees.specs.declared.tree.EnvOp.{EnvOp}
use Rattle.syntax_trees.specs.declared.tree.EnvOp.TheVariants.{Set, Before, After, BeforeKeep, AfterKeep}
use Rattle.opam_filter.specs.Texts.{expanded}
use Rattle.opam_filter.specs.Variables.{Values}
use Rattle.opam_package.specs.declared.package.EnvUpdate.{EnvUpdate}
use Rattle.package_vars.specs.BuildVariables.{build_rows, variables_of}
use Rattle.package_vars.specs.declared.facts.Facts.{Facts}
use Rattle.package_vars.specs.declared.facts.View.{View}
use Rattle.build_env.specs.declared.export.Export.{Export}

-- names with their values, in byte order of the names, each name once
abbrev pub Environment : Type 0
Environment = List (List ℕ × List ℕ)

-- an environment in which the name has this value
abbrev pub with_value : Environment → List ℕ → List ℕ → Environment
with_value env name value = insert_entry byte_order env name value

-- the value that a name has, empty where it has none
abbrev pub value_there : Environment → List ℕ → List ℕ
value_there env name = unwrap_or (lookup (is_at (byte_order name)) env) []

-- two values with a colon between
abbrev pub with_colon : List ℕ → List ℕ → List ℕ
with_colon one other = one ++ codes ":" ++ other

-- the new value by the sign of the update: `=`, `+=`, `=+`, `:=`, `=:`
abbrev pub updated : EnvOp → List ℕ → List ℕ → List ℕ
updated Set old value = value
updated Before [] value = value
updated Before (byte ∷ old) value = with_colon value (byte ∷ old)
updated After [] value = value
updated After (byte ∷ old) value = with_colon (byte ∷ old) value
updated BeforeKeep old value = with_colon value old
updated AfterKeep old value = with_colon old value

-- a name updated
abbrev pub with_sign : Environment → List ℕ → EnvOp → List ℕ → Environment
with_sign env name op value = with_value env name (updated op (value_there env name) value)

-- updates one after another, their values expanded under these variables
abbrev pub with_updates : Values → Environment → List EnvUpdate → Environment
with_updates values env [] = env
with_updates values env (update ∷ updates) =
    with_updates values (with_sign env update.name update.op (expanded values update.value)) updates

-- the variables of a package of the view or of the one that is built
abbrev pub variables_for : Facts → View → List (List ℕ) → Pkg → Values
variables_for facts view asked pkg = variables_of (build_rows facts view pkg asked)

-- what is handed in, of several values of one name the last
abbrev pub with_pairs : Environment → List (List ℕ × List ℕ) → Environment
with_pairs env [] = env
with_pairs env (pair ∷ pairs) = with_pairs (with_value env pair.0 pair.1) pairs

-- the commands of the switch before all others, and what is built for which prefix
abbrev pub with_built : Environment → List ℕ → Pkg → Environment
with_built env prefix pkg =
    let found = with_sign env (codes "PATH") Before (prefix ++ codes "/bin") in
    let placed = with_value found (codes "OPAM_SWITCH_PREFIX") prefix in
    let named = with_value placed (codes "OPAM_PACKAGE_NAME") pkg.name in
    with_value named (codes "OPAM_PACKAGE_VERSION") pkg.version

-- the updates of the exports, in the order of the list, each under the variables of its own package
abbrev pub with_exports : Facts → View → List (List ℕ) → Environment → List Export → Environment
with_exports facts view asked env [] = env
with_exports facts view asked env (export ∷ exports) =
    with_exports facts view asked (with_updates (variables_for facts view asked export.pkg) env export.updates) exports

-- what is handed in, the switch and the package, the exports, and the updates of the package itself, one after another
abbrev pub environment_of : Facts → View → List (List ℕ) → Pkg → List Export → List EnvUpdate → Environment
environment_of facts view asked pkg exports own =
    let given = with_built (with_pairs [] facts.env) facts.prefix pkg in
    with_updates (variables_for facts view asked pkg) (with_exports facts view asked given exports) own
