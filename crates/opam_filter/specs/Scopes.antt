-- The value of a variable: its own, or that of the same variable of several packages (opam manual, filters: package variables).
use Rattle.std.specs.Prelude.{ℕ, List, map, length, Bool, nat_le, codes, bytes_eq, ◌&&◌, ◌||◌, if◌then◌else◌}
use Rattle.std.specs.FinMap.{get}
use Rattle.std.specs.List.{list_all}
use Rattle.std.specs.declared.option.Option.{Option}
use Rattle.std.specs.declared.option.Option.TheVariants.{None, Some}
use Rattle.opam_names.specs.Names.{is_name}
use Rattle.syntax_trees.specs.Words.{scope_parts}
use Rattle.syntax_trees.specs.declared.tree.Var.{Var}
use Rattle.opam_filter.specs.Truths.{all_of, truth_of, value_of}
use Rattle.opam_filter.specs.Variables.{Values}
use Rattle.opam_filter.specs.declared.truth.Truth.{Truth}
use Rattle.opam_filter.specs.declared.truth.Truth.TheVariants.{Yes, No, Undefined}
use Rattle.opam_filter.specs.declared.truth.VarValue.{VarValue}
use Rattle.opam_filter.specs.declared.truth.VarValue.TheVariants.{Text}

-- a variable without a scope
abbrev pub plain : List ℕ → Var
plain name = record { scope = None; name = name }

-- a variable with a scope
abbrev pub scoped : List ℕ → List ℕ → Var
scoped scope name = record { scope = Some scope; name = name }

-- `_`, or the name of a package
abbrev pub is_package_part : List ℕ → Bool
is_package_part part = bytes_eq part (codes "_") || is_name part

-- two parts or more, joined by `+`; any other scope is looked up as it stands
abbrev pub is_joined : List ℕ → Bool
is_joined scope = nat_le 2 (length (scope_parts scope)) && list_all is_package_part (scope_parts scope)

-- the `&` of the variables of this name with each part alone as scope
abbrev pub all_in : Values → List ℕ → List (List ℕ) → Truth
all_in values name parts = all_of (map (λ part. truth_of (get values (scoped part name))) parts)

-- the words for it
abbrev pub enable_value : Truth → Option VarValue
enable_value Yes = Some (Text (codes "enable"))
enable_value No = Some (Text (codes "disable"))
enable_value Undefined = None

-- `enable` says whether all of the packages are installed
abbrev pub joined_value : Values → List (List ℕ) → List ℕ → Option VarValue
joined_value values parts name =
    if bytes_eq name (codes "enable") then enable_value (all_in values (codes "installed") parts)
    else value_of (all_in values name parts)

-- the value of a variable by its scope
abbrev pub scoped_value : Values → Option (List ℕ) → List ℕ → Option VarValue
scoped_value values None name = get values (plain name)
scoped_value values (Some scope) name =
    if is_joined scope then joined_value values (scope_parts scope) name else get values (scoped scope name)

-- what a variable is
abbrev pub value_at : Values → Var → Option VarValue
value_at values variable = scoped_value values variable.scope variable.name
