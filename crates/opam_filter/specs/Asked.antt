-- The names of packages with which the variables of a filter or of a text are looked up. This project's own.
use Rattle.std.specs.Prelude.{ℕ, List, [], ◌∷◌, ◌++◌, filter, if◌then◌else◌}
use Rattle.std.specs.List.{flat_map}
use Rattle.std.specs.declared.option.Option.{Option}
use Rattle.std.specs.declared.option.Option.TheVariants.{None, Some}
use Rattle.opam_names.specs.Names.{is_name}
use Rattle.syntax_trees.specs.Words.{scope_parts}
use Rattle.opam_filter.specs.NameSets.{in_byte_order}
use Rattle.opam_filter.specs.Scopes.{is_joined}
use Rattle.opam_filter.specs.Texts.{asked_for, parts_of}
use Rattle.opam_filter.specs.declared.filter.Filter.{Filter}
use Rattle.opam_filter.specs.declared.filter.Filter.TheOpen.{Filter-F}
use Rattle.opam_filter.specs.declared.filter.Filter.TheFolds.{fold-Filter}

-- of several parts each is looked up alone, any other scope as it stands
abbrev pub scope_names : List ℕ → List (List ℕ)
scope_names scope = filter is_name (if is_joined scope then scope_parts scope else scope ∷ [])

-- the names in a scope, where there is one
abbrev pub names_of_scope : Option (List ℕ) → List (List ℕ)
names_of_scope None = []
names_of_scope (Some scope) = scope_names scope

-- of the variables in a text, as often as they stand there
abbrev pub names_in_text : List ℕ → List (List ℕ)
names_in_text text = flat_map (λ hole. names_of_scope (asked_for hole.inside).scope) (parts_of text).holes

-- from the names of the parts of a filter
abbrev pub layer_names : Filter-F (List (List ℕ)) → List (List ℕ)
layer_names (Filter-F.Flag flag) = []
layer_names (Filter-F.Text text) = names_in_text text
layer_names (Filter-F.Var variable) = names_of_scope variable.scope
layer_names (Filter-F.Rel op left right) = left ++ right
layer_names (Filter-F.Not part) = part
layer_names (Filter-F.Defined part) = part
layer_names (Filter-F.And parts) = flat_map (λ names. names) parts
layer_names (Filter-F.Or parts) = flat_map (λ names. names) parts

-- of the variables in a filter, as often as they stand there
abbrev pub names_in : Filter → List (List ℕ)
names_in = fold-Filter (List (List ℕ)) layer_names

-- the same of a filter in the order of bytes, each once
abbrev pub asked : Filter → List (List ℕ)
asked filter = in_byte_order (names_in filter)

-- the same of a text
abbrev pub asked_in : List ℕ → List (List ℕ)
asked_in text = in_byte_order (names_in_text text)
