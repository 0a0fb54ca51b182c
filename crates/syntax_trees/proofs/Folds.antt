-- Folds over trees, a layer at a time.
use Rattle.std.proofs.Common.{◌≡◌, ℕ, ap, ◌∙◌}
use Rattle.syntax_trees.specs.declared.tree.Node.{Node}
use Rattle.syntax_trees.specs.declared.tree.Span.{Span}
use Rattle.syntax_trees.specs.declared.tree.Value.{Value, roll-Value}
use Rattle.syntax_trees.specs.declared.tree.Value.TheOpen.{Value-F, Node-F}
use Rattle.syntax_trees.specs.declared.tree.Value.TheFolds.{fold-Node, fold-Value, fold-roll-Node, fold-roll-Value, map-Value}
use Rattle.syntax_trees.specs.Nesting.{depth, layer_depth, node_depth}

abbrev pub node_at : Value-F Value Node → Span → Node
node_at value span = record { value = roll-Value value; span = span }

pub fold_node : (A B : Type 0) (step : Value-F A B → A) (step' : Node-F A B → B) (value : Value-F Value Node) (span : Span)
    → fold-Node A B step step' (node_at value span)
    ≡ step' (record { value = step (map-Value Value Node A B (fold-Value A B step step') (fold-Node A B step step') value); span = span })
fold_node A B step step' value span =
    let n : Node-F Value Node = record { value = roll-Value value; span = span } in
    let made : A → Node-F A B = λ v. record { value = v; span = span } in
    fold-roll-Node A B step step' n ∙ ap (λ v. step' (made v)) (fold-roll-Value A B step step' value)

pub depth_at : (value : Value-F Value Node) (span : Span) → depth (node_at value span)
    ≡ layer_depth (map-Value Value Node ℕ ℕ (fold-Value ℕ ℕ layer_depth node_depth) depth value)
depth_at = fold_node ℕ ℕ layer_depth node_depth
