-- The canonical spelling of a value, a layer at a time.
use Rattle.std.proofs.Common.{◌≡◌, ℕ, List}
use Rattle.syntax_trees.specs.declared.tree.Node.{Node}
use Rattle.syntax_trees.specs.declared.tree.Span.{Span}
use Rattle.syntax_trees.specs.declared.tree.Value.{Value}
use Rattle.syntax_trees.specs.declared.tree.Value.TheOpen.{Value-F}
use Rattle.syntax_trees.specs.declared.tree.Value.TheFolds.{fold-Value, map-Value}
use Rattle.syntax_trees.proofs.Folds.{node_at, fold_node}
use Rattle.opam_syntax.specs.Spelling.{value_text, layer_text, node_text}

pub text_at : (value : Value-F Value Node) (span : Span) → value_text (node_at value span)
    ≡ layer_text (map-Value Value Node (List ℕ) (List ℕ) (fold-Value (List ℕ) (List ℕ) layer_text node_text) value_text value)
text_at = fold_node (List ℕ) (List ℕ) layer_text node_text
