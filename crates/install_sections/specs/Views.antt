-- What a value is, without looking into its parts (opam manual, file format: values).
use Rattle.std.specs.Prelude.{ℕ, List, [], ◌∷◌}
use Rattle.std.specs.Option.{unwrap_or}
use Rattle.std.specs.declared.option.Option.{Option}
use Rattle.std.specs.declared.option.Option.TheVariants.{None, Some}
use Rattle.syntax_trees.specs.declared.tree.Node.{Node}
use Rattle.syntax_trees.specs.declared.tree.Value.{Value}
use Rattle.syntax_trees.specs.declared.tree.Value.TheOpen.{Value-F}
use Rattle.syntax_trees.specs.declared.tree.Value.TheViews.{out-Value}

-- a value with its parts
abbrev pub Outside : Type 0
Outside = Value-F Value Node

-- the node as it is seen from outside
abbrev pub outside : Node → Outside
outside node = out-Value node.value

-- the bytes of a text
abbrev pub text_at : Outside → Option (List ℕ)
text_at (Value-F.Text bytes) = Some bytes
text_at value = None

-- the text that the node is, if it is one
abbrev pub text_in : Node → Option (List ℕ)
text_in node = text_at (outside node)

-- the values of a list
abbrev pub list_at : Outside → Option (List Node)
list_at (Value-F.List nodes) = Some nodes
list_at value = None

-- the items of the list that the node is, if it is one
abbrev pub list_in : Node → Option (List Node)
list_in node = list_at (outside node)

-- the values of a list, or the one value
abbrev pub values_of : Node → List Node
values_of node = unwrap_or (list_in node) (node ∷ [])
