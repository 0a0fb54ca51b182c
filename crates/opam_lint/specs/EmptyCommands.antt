-- Lists without values among commands (opam manual, file format: opam, build). That they are told is this project's own.
use Rattle.std.specs.Prelude.{List, [], ◌∷◌, ◌++◌}
use Rattle.std.specs.List.{flat_map}
use Rattle.syntax_trees.specs.declared.tree.Node.{Node}
use Rattle.syntax_trees.specs.declared.tree.Span.{Span}
use Rattle.syntax_trees.specs.declared.tree.Value.TheFolds.{fold-Node}
use Rattle.syntax_trees.specs.declared.tree.Value.TheOpen.{Value-F, Node-F}
use Rattle.opam_package.specs.Views.{outside}
use Rattle.opam_lint.specs.declared.finding.Finding.{Finding}
use Rattle.opam_lint.specs.declared.finding.Problem.TheVariants.{EmptyCommand}

-- the nodes in a value, from left to right
abbrev pub nodes_in : {V N : Type 0} → Value-F V N → List N
nodes_in (Value-F.Flag flag) = []
nodes_in (Value-F.Int number) = []
nodes_in (Value-F.Text bytes) = []
nodes_in (Value-F.Ident variable) = []
nodes_in (Value-F.List nodes) = nodes
nodes_in (Value-F.Group nodes) = nodes
nodes_in (Value-F.Braced node nodes) = node ∷ nodes
nodes_in (Value-F.Not node) = node ∷ []
nodes_in (Value-F.Defined node) = node ∷ []
nodes_in (Value-F.Rel op left right) = left ∷ right ∷ []
nodes_in (Value-F.PreRel op right) = right ∷ []
nodes_in (Value-F.And nodes) = nodes
nodes_in (Value-F.Or nodes) = nodes
nodes_in (Value-F.Env op left right) = left ∷ right ∷ []

-- an empty list is found where it begins
abbrev pub own_empty : {V N : Type 0} → Value-F V N → Span → List Finding
own_empty (Value-F.List []) span = record { code = 24; at = span.start; problem = EmptyCommand } ∷ []
own_empty value span = []

-- the empty lists of a value, from those of its parts
abbrev pub layer_empties : Value-F (Span → List Finding) (List Finding) → Span → List Finding
layer_empties layer span = own_empty layer span ++ flat_map (λ found. found) (nodes_in layer)

-- those of a value at the span of its node
abbrev pub node_empties : Node-F (Span → List Finding) (List Finding) → List Finding
node_empties node = node.value node.span

-- the empty lists in a value, itself among them
abbrev pub empties : Node → List Finding
empties = fold-Node (Span → List Finding) (List Finding) layer_empties node_empties

-- the empty lists inside a value, itself aside
abbrev pub empty_commands : Node → List Finding
empty_commands node = flat_map empties (nodes_in (outside node))
