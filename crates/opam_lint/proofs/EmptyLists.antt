-- The empty lists in a value are its own and those of its parts.
use Rattle.std.proofs.Common.{◌≡◌, List, [], ◌∷◌, ◌++◌, map, refl, sym, ap, ◌∙◌}
use Rattle.std.specs.List.{flat_map}
use Rattle.syntax_trees.specs.declared.tree.Node.{Node}
use Rattle.syntax_trees.specs.declared.tree.Span.{Span}
use Rattle.syntax_trees.specs.declared.tree.Value.{Value}
use Rattle.syntax_trees.specs.declared.tree.Value.TheOpen.{Value-F}
use Rattle.syntax_trees.specs.declared.tree.Value.TheFolds.{fold-Value, map-Value}
use Rattle.syntax_trees.specs.declared.tree.Value.TheViews.{roll-out-Value}
use Rattle.syntax_trees.proofs.Folds.{fold_node, node_at}
use Rattle.opam_package.specs.Views.{outside}
use Rattle.opam_lint.specs.declared.finding.Finding.{Finding}
use Rattle.opam_lint.specs.EmptyCommands.{empties, empty_commands, layer_empties, node_empties, nodes_in, own_empty}

-- a layer, with what is found in its nodes
abbrev pub found_of : Value-F Value Node → Value-F (Span → List Finding) (List Finding)
found_of = map-Value Value Node (Span → List Finding) (List Finding) (fold-Value (Span → List Finding) (List Finding) layer_empties node_empties) empties

joined : (nodes : List Node) → flat_map (λ found. found) (map empties nodes) ≡ flat_map empties nodes
joined [] = refl
joined (node ∷ more) = ap (λ l. empties node ++ l) (joined more)

by_layer : (layer : Value-F Value Node) (span : Span) → layer_empties (found_of layer) span ≡ own_empty layer span ++ flat_map empties (nodes_in layer)
by_layer (Value-F.Flag flag) span = refl
by_layer (Value-F.Int number) span = refl
by_layer (Value-F.Text bytes) span = refl
by_layer (Value-F.Ident variable) span = refl
by_layer (Value-F.List []) span = refl
by_layer (Value-F.List (node ∷ more)) span = joined (node ∷ more)
by_layer (Value-F.Group nodes) span = joined nodes
by_layer (Value-F.Braced node nodes) span = joined (node ∷ nodes)
by_layer (Value-F.Not node) span = refl
by_layer (Value-F.Defined node) span = refl
by_layer (Value-F.Rel op left right) span = refl
by_layer (Value-F.PreRel op right) span = refl
by_layer (Value-F.And nodes) span = joined nodes
by_layer (Value-F.Or nodes) span = joined nodes
by_layer (Value-F.Env op left right) span = refl

-- a node is made of its layer
of_layer : (node : Node) → node ≡ node_at (outside node) node.span
of_layer node = ap (λ (v : Value). let n : Node = record { value = v; span = node.span } in n) (sym (roll-out-Value node.value))

pub empties_split : (node : Node) → empties node ≡ own_empty (outside node) node.span ++ empty_commands node
empties_split node =
    ap empties (of_layer node)
    ∙ fold_node (Span → List Finding) (List Finding) layer_empties node_empties (outside node) node.span
    ∙ by_layer (outside node) node.span
