-- What a value is, without looking into its parts (opam manual, file format: values).
use Rattle.std.specs.Prelude.{ℕ, List, [], ◌∷◌, Bool}
use Rattle.std.specs.Option.{is_some, unwrap_or}
use Rattle.std.specs.declared.option.Option.{Option}
use Rattle.std.specs.declared.option.Option.TheVariants.{None, Some}
use Rattle.syntax_trees.specs.declared.tree.Node.{Node}
use Rattle.syntax_trees.specs.declared.tree.Value.{Value}
use Rattle.syntax_trees.specs.declared.tree.Value.TheOpen.{Value-F}
use Rattle.syntax_trees.specs.declared.tree.Value.TheViews.{out-Value}
use Rattle.syntax_trees.specs.declared.tree.Var.{Var}

-- a value with its parts
abbrev pub Outside : Type 0
Outside = Value-F Value Node

-- what a node is
abbrev pub outside : Node → Outside
outside node = out-Value node.value

-- the bytes of a text
abbrev pub text_at : Outside → Option (List ℕ)
text_at (Value-F.Text bytes) = Some bytes
text_at value = None

-- the same of a node
abbrev pub text_in : Node → Option (List ℕ)
text_in node = text_at (outside node)

-- a variable
abbrev pub variable_at : Outside → Option Var
variable_at (Value-F.Ident variable) = Some variable
variable_at value = None

-- the same of a node
abbrev pub variable_in : Node → Option Var
variable_in node = variable_at (outside node)

-- the values of a list
abbrev pub list_at : Outside → Option (List Node)
list_at (Value-F.List nodes) = Some nodes
list_at value = None

-- the same of a node
abbrev pub list_in : Node → Option (List Node)
list_in node = list_at (outside node)

-- what stands in braces after a value
abbrev pub braces_at : Outside → Option (List Node)
braces_at (Value-F.Braced before nodes) = Some nodes
braces_at value = None

-- the same of a node
abbrev pub braces_in : Node → Option (List Node)
braces_in node = braces_at (outside node)

-- the value without these
abbrev pub bare_at : Outside → Node → Node
bare_at (Value-F.Braced before nodes) node = before
bare_at value node = node

-- the same of a node
abbrev pub bare : Node → Node
bare node = bare_at (outside node) node

-- whether it is a list
abbrev pub is_list : Node → Bool
is_list node = is_some (list_in node)

-- the values of a list, or the one value
abbrev pub values_of : Node → List Node
values_of node = unwrap_or (list_in node) (node ∷ [])
