-- Updates of the environment (opam manual, file format: opam, setenv and build-env): a name, a sign and a text.
use Rattle.std.specs.Prelude.{ℕ, List, [], ◌∷◌, ◌++◌, Bool, false, map, is_none, if◌then◌else◌}
use Rattle.std.specs.List.{flat_map}
use Rattle.std.specs.declared.option.Option.{Option}
use Rattle.std.specs.declared.option.Option.TheVariants.{None, Some}
use Rattle.syntax_trees.specs.declared.tree.EnvOp.{EnvOp}
use Rattle.syntax_trees.specs.declared.tree.EnvOp.TheVariants.{Set}
use Rattle.syntax_trees.specs.declared.tree.Node.{Node}
use Rattle.syntax_trees.specs.declared.tree.RelOp.{RelOp}
use Rattle.syntax_trees.specs.declared.tree.RelOp.TheVariants.{Eq}
use Rattle.syntax_trees.specs.declared.tree.Span.{Span}
use Rattle.syntax_trees.specs.declared.tree.Value.TheOpen.{Value-F}
use Rattle.syntax_trees.specs.declared.tree.Var.{Var}
use Rattle.opam_package.specs.declared.fault.PackageFault.{PackageFault}
use Rattle.opam_package.specs.declared.fault.PackageFault.TheVariants.{WrongKind, EnvOperator}
use Rattle.opam_package.specs.declared.package.EnvUpdate.{EnvUpdate}
use Rattle.opam_package.specs.Forms.{bytes_faults, text_of}
use Rattle.opam_package.specs.Views.{Outside, is_list, list_in, outside, text_in, variable_in}

-- on the left stands a variable without a scope
abbrev pub target_faults_of : Option Var → Span → List PackageFault
target_faults_of None span = WrongKind span ∷ []
target_faults_of (Some variable) span = if is_none variable.scope then [] else WrongKind span ∷ []

-- the same of a node
abbrev pub target_faults : Node → List PackageFault
target_faults node = target_faults_of (variable_in node) node.span

-- the name of the variable on the left
abbrev pub target_name : Option Var → List ℕ
target_name None = []
target_name (Some variable) = variable.name

-- of the relations `=` alone is a sign of updates
abbrev pub sign_faults : RelOp → Span → List PackageFault
sign_faults Eq span = []
sign_faults op span = EnvOperator span ∷ []

-- on the right stands a text; another value is told at the whole update
abbrev pub given_faults_of : Option (List ℕ) → Span → Span → List PackageFault
given_faults_of None span whole = EnvOperator whole ∷ []
given_faults_of (Some bytes) span whole = bytes_faults bytes span

-- the same of a node
abbrev pub given_faults : Node → Span → List PackageFault
given_faults node whole = given_faults_of (text_in node) node.span whole

-- what is wrong with the two sides
abbrev pub sides_faults : Node → Node → Span → List PackageFault
sides_faults left right whole = target_faults left ++ given_faults right whole

-- the same with a sign that is a relation
abbrev pub relation_faults : RelOp → Node → Node → Span → List PackageFault
relation_faults op left right whole = target_faults left ++ sign_faults op whole ++ given_faults right whole

-- an update is two sides with a sign
abbrev pub update_faults_at : Outside → Span → List PackageFault
update_faults_at (Value-F.Rel op left right) span = relation_faults op left right span
update_faults_at (Value-F.Env op left right) span = sides_faults left right span
update_faults_at value span = WrongKind span ∷ []

-- the same of a node
abbrev pub update_faults : Node → List PackageFault
update_faults node = update_faults_at (outside node) node.span

-- what stands for a value that is none
abbrev pub no_update : EnvUpdate
no_update = record { name = []; op = Set; value = [] }

-- the update of two sides
abbrev pub update_with : EnvOp → Node → Node → EnvUpdate
update_with op left right = record { name = target_name (variable_in left); op = op; value = text_of right }

-- the update that a value is
abbrev pub update_at : Outside → EnvUpdate
update_at (Value-F.Rel op left right) = update_with Set left right
update_at (Value-F.Env op left right) = update_with op left right
update_at value = no_update

-- the same of a node
abbrev pub update_of : Node → EnvUpdate
update_of node = update_at (outside node)

-- a list of one update
abbrev pub lone_faults_of : Option (List Node) → Span → List PackageFault
lone_faults_of (Some (only ∷ [])) span = update_faults only
lone_faults_of nodes span = WrongKind span ∷ []

-- the same of a node
abbrev pub lone_faults : Node → List PackageFault
lone_faults node = lone_faults_of (list_in node) node.span

-- the update in such a list
abbrev pub lone_update_of : Option (List Node) → EnvUpdate
lone_update_of (Some (only ∷ [])) = update_of only
lone_update_of nodes = no_update

-- the same of a node
abbrev pub lone_update : Node → EnvUpdate
lone_update node = lone_update_of (list_in node)

-- the first of several values is a list
abbrev pub begins_with_list : List Node → Bool
begins_with_list [] = false
begins_with_list (first ∷ more) = is_list first

-- a list that begins so is one of lists of one update each, any other a list of updates
abbrev pub listed_faults : List Node → List PackageFault
listed_faults nodes = if begins_with_list nodes then flat_map lone_faults nodes else flat_map update_faults nodes

-- the updates of such a list
abbrev pub listed_updates : List Node → List EnvUpdate
listed_updates nodes = if begins_with_list nodes then map lone_update nodes else map update_of nodes

-- one update, or a list
abbrev pub updates_faults_of : Option (List Node) → Node → List PackageFault
updates_faults_of None node = update_faults node
updates_faults_of (Some nodes) node = listed_faults nodes

-- the same of a node
abbrev pub updates_faults : Node → List PackageFault
updates_faults node = updates_faults_of (list_in node) node

-- the updates of one, or of a list
abbrev pub updates_listed : Option (List Node) → Node → List EnvUpdate
updates_listed None node = update_of node ∷ []
updates_listed (Some nodes) node = listed_updates nodes

-- the same of a node
abbrev pub updates_of : Node → List EnvUpdate
updates_of node = updates_listed (list_in node) node
