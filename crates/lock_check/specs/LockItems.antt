-- The items of a lock (opam manual, file format: opam, depends; lock files): each binds a name to a version, `"name" {= "version"}`, with
-- further filters joined by `&` or without. That other items are refused is this project's own.
use Rattle.std.specs.Prelude.{ℕ, List, [], ◌∷◌, ◌++◌, filter, Bool, true, false, bytes_eq, ◌||◌, if◌then◌else◌}
use Rattle.std.specs.List.{flat_map, list_all, list_any}
use Rattle.std.specs.declared.option.Option.{Option}
use Rattle.std.specs.declared.option.Option.TheVariants.{None, Some}
use Rattle.opam_names.specs.ByteOrders.{in_order_by}
use Rattle.opam_names.specs.Names.{is_name, is_version}
use Rattle.opam_names.specs.declared.packages.Pkg.{Pkg}
use Rattle.syntax_trees.specs.declared.tree.Node.{Node}
use Rattle.syntax_trees.specs.declared.tree.RelOp.TheVariants.{Eq}
use Rattle.syntax_trees.specs.declared.tree.Value.TheOpen.{Value-F}
use Rattle.opam_filter.specs.Faults.{judged}
use Rattle.opam_filter.specs.NameSets.{with_name}
use Rattle.opam_filter.specs.Trees.{read}
use Rattle.opam_filter.specs.Truths.{is_yes}
use Rattle.opam_filter.specs.Values.{filter_truth}
use Rattle.opam_filter.specs.Variables.{Values}
use Rattle.opam_package.specs.Fields.{listed}
use Rattle.opam_package.specs.Views.{Outside, outside, text_in, values_of}
use Rattle.lock_check.specs.declared.lock_fault.LockFault.{LockFault}
use Rattle.lock_check.specs.declared.lock_fault.LockFault.TheVariants.{Unbound, Twice}
use Rattle.lock_check.specs.LockFaults.{inner_lock_faults}

-- bytes, where there are any that pass the test
abbrev pub where_passed : (List ℕ → Bool) → Option (List ℕ) → Option (List ℕ)
where_passed test None = None
where_passed test (Some bytes) = if test bytes then Some bytes else None

-- a relation without a left side is a constraint on the version
abbrev pub is_constraint_at : Outside → Bool
is_constraint_at (Value-F.PreRel op right) = true
is_constraint_at value = false

-- the same of a node
abbrev pub is_constraint : Node → Bool
is_constraint node = is_constraint_at (outside node)

-- the version that a constraint `= "version"` asks for
abbrev pub exact_at : Outside → Option (List ℕ)
exact_at (Value-F.PreRel Eq right) = where_passed is_version (text_in right)
exact_at value = None

-- the same of a node
abbrev pub exact_version : Node → Option (List ℕ)
exact_version node = exact_at (outside node)

-- the parts of an `&`, or the one value
abbrev pub joined_at : Outside → Node → List Node
joined_at (Value-F.And nodes) node = nodes
joined_at value node = node ∷ []

-- the same of a node
abbrev pub joined_parts : Node → List Node
joined_parts node = joined_at (outside node) node

-- the name of an item: a text with braces, which is a name
abbrev pub item_name_at : Outside → Option (List ℕ)
item_name_at (Value-F.Braced before nodes) = where_passed is_name (text_in before)
item_name_at value = None

-- the parts of the one value in its braces
abbrev pub conditions_at : Outside → List Node
conditions_at (Value-F.Braced before (node ∷ [])) = joined_parts node
conditions_at value = []

-- the same of an item
abbrev pub conditions : Node → List Node
conditions item = conditions_at (outside item)

-- the version of the one constraint among them
abbrev pub one_version : List Node → Option (List ℕ)
one_version (node ∷ []) = exact_version node
one_version nodes = None

-- a name at a version, where there are both
abbrev pub pkg_of_both : Option (List ℕ) → Option (List ℕ) → Option Pkg
pkg_of_both None version = None
pkg_of_both (Some name) None = None
pkg_of_both (Some name) (Some version) = Some (record { name = name; version = version })

-- the package of an item; none of one that has another form
abbrev pub item_pkg : Node → Option Pkg
item_pkg item = pkg_of_both (item_name_at (outside item)) (one_version (filter is_constraint (conditions item)))

-- all parts but constraints are further filters
abbrev pub part_faults : Node → List LockFault
part_faults node = if is_constraint node then [] else inner_lock_faults (judged node).filter

-- the faults of the further filters of an item
abbrev pub further_faults : Node → List LockFault
further_faults item = flat_map part_faults (conditions item)

-- an item of another form is unbound; a name may not be that of an earlier item
abbrev pub faults_of_pkg : List (List ℕ) → Node → Option Pkg → List LockFault
faults_of_pkg names item None = Unbound item.span ∷ []
faults_of_pkg names item (Some pkg) =
    if list_any (bytes_eq pkg.name) names then Twice item.span ∷ further_faults item else further_faults item

-- the names of items, in byte order and each once, with one more
abbrev pub names_with : List (List ℕ) → Option Pkg → List (List ℕ)
names_with names None = names
names_with names (Some pkg) = with_name names pkg.name

-- the faults of items that stand behind others with these names
abbrev pub faults_behind : List (List ℕ) → List Node → List LockFault
faults_behind names [] = []
faults_behind names (item ∷ more) = faults_of_pkg names item (item_pkg item) ++ faults_behind (names_with names (item_pkg item)) more

-- the values of `depends`; an absent field has none
abbrev pub lock_items : Option Node → List Node
lock_items field = listed values_of field

-- the faults of a lock
abbrev pub lock_faults : Option Node → List LockFault
lock_faults field = faults_behind [] (lock_items field)

-- a part that is a further filter is true
abbrev pub passes : Values → Node → Bool
passes values node = is_constraint node || is_yes (filter_truth values (read node).filter)

-- all further filters of an item are true
abbrev pub is_binding : Values → Node → Bool
is_binding values item = list_all (passes values) (conditions item)

-- the package that an item binds: none where a further filter is not true
abbrev pub bound_pkgs : Bool → Option Pkg → List Pkg
bound_pkgs false pkg = []
bound_pkgs true None = []
bound_pkgs true (Some pkg) = pkg ∷ []

-- the package that an item binds
abbrev pub bound_by_item : Values → Node → List Pkg
bound_by_item values item = bound_pkgs (is_binding values item) (item_pkg item)

-- the packages that items bind, in their order
abbrev pub bound_in : Values → List Node → List Pkg
bound_in values items = flat_map (bound_by_item values) items

-- the same in the byte order of their names
abbrev pub bound_in_order : Values → List Node → List Pkg
bound_in_order values items = in_order_by (λ pkg. pkg.name) (bound_in values items)

-- those that a lock binds, in the byte order of their names
abbrev pub bound_by : Values → Option Node → List Pkg
bound_by values field = bound_in_order values (lock_items field)
