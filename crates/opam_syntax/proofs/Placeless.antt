-- A fold that looks at no span gives the same for a tree without its places.
use Rattle.std.proofs.Common.{◌≡◌, ℕ, List, [], ◌∷◌, refl, sym, ap, subst, ◌∙◌, map}
use denote.Hole.Holds.{Such}
use Rattle.syntax_trees.specs.declared.tree.Node.{Node}
use Rattle.syntax_trees.specs.declared.tree.Span.{Span}
use Rattle.syntax_trees.specs.declared.tree.Value.{Value, roll-Value}
use Rattle.syntax_trees.specs.declared.tree.Value.TheBlock.{the_family, member-Value, member-Node}
use Rattle.syntax_trees.specs.declared.tree.Value.TheOpen.{Value-F, Node-F}
use Rattle.syntax_trees.specs.declared.tree.Value.TheFolds.{fold-Node, fold-Value, fold-roll-Node, fold-roll-Value, ind-Node, map-Value, claims}
use Rattle.syntax_trees.specs.Nesting.{depth, layer_depth}
use Rattle.opam_syntax.specs.Spelling.{value_text, layer_text}
use Rattle.opam_syntax.specs.Printed.{placeless, placeless_layer}
use Rattle.syntax_trees.proofs.Folds.{node_at, fold_node}

abbrev roll_layer : Value-F Value Node → Value
roll_layer layer = roll-Value layer

abbrev pub placeless_value : Value → Value
placeless_value = fold-Value Value Node (λ layer. roll-Value layer) placeless_layer

abbrev inner : (A : Type 0) → Node-F A A → A
inner A node = node.value

abbrev over_value : (A : Type 0) (step : Value-F A A → A) → Value → A
over_value A step = fold-Value A A step (inner A)

abbrev over_node : (A : Type 0) (step : Value-F A A → A) → Node → A
over_node A step = fold-Node A A step (inner A)

abbrev ValueSame : (A : Type 0) (step : Value-F A A → A) → Value → Type 0
ValueSame A step value = over_value A step (placeless_value value) ≡ over_value A step value

abbrev NodeSame : (A : Type 0) (step : Value-F A A → A) → Node → Type 0
NodeSame A step node = over_node A step (placeless node) ≡ over_node A step node

-- the parts of a layer, each with a proof beside it
abbrev ValuePart : (A : Type 0) (step : Value-F A A → A) → Type 0
ValuePart A step = Such the_family (claims (ValueSame A step) (NodeSame A step)) member-Value

abbrev NodePart : (A : Type 0) (step : Value-F A A → A) → Type 0
NodePart A step = Such the_family (claims (ValueSame A step) (NodeSame A step)) member-Node

abbrev layer_of : (A : Type 0) (step : Value-F A A → A) → Value-F (ValuePart A step) (NodePart A step) → Value-F Value Node
layer_of A step = map-Value (ValuePart A step) (NodePart A step) Value Node (λ e. e.0) (λ e. e.0)

nodes_same : (A : Type 0) (step : Value-F A A → A) (parts : List (NodePart A step))
    → map (over_node A step) (map placeless (map (λ (e : NodePart A step). e.0) parts)) ≡ map (over_node A step) (map (λ (e : NodePart A step). e.0) parts)
nodes_same A step [] = refl
nodes_same A step (e ∷ parts) = let here : NodeSame A step e.0 = e.1 in let more = nodes_same A step parts in cc

pub two_same : {A B C : Type 0} (f : A → B → C) {a c : A} {b d : B} → a ≡ c → b ≡ d → f a b ≡ f c d
two_same f {a} {c} {b} {d} e g = ap (λ x. f x b) e ∙ ap (λ y. f c y) g

layer_same : (A : Type 0) (step : Value-F A A → A) (layer : Value-F (ValuePart A step) (NodePart A step))
    → map-Value Value Node A A (over_value A step) (over_node A step) (map-Value Value Node Value Node placeless_value placeless (layer_of A step layer))
    ≡ map-Value Value Node A A (over_value A step) (over_node A step) (layer_of A step layer)
layer_same A step (Value-F.Flag flag) = refl
layer_same A step (Value-F.Int number) = refl
layer_same A step (Value-F.Text bytes) = refl
layer_same A step (Value-F.Ident variable) = refl
layer_same A step (Value-F.List nodes) = ap (λ ns. Value-F.List ns) (nodes_same A step nodes)
layer_same A step (Value-F.Group nodes) = ap (λ ns. Value-F.Group ns) (nodes_same A step nodes)
layer_same A step (Value-F.Braced value nodes) = two_same (λ v ns. Value-F.Braced v ns) value.1 (nodes_same A step nodes)
layer_same A step (Value-F.Not value) = ap (λ v. Value-F.Not v) value.1
layer_same A step (Value-F.Defined value) = ap (λ v. Value-F.Defined v) value.1
layer_same A step (Value-F.Rel op left right) = two_same (λ v w. Value-F.Rel op v w) left.1 right.1
layer_same A step (Value-F.PreRel op right) = ap (λ v. Value-F.PreRel op v) right.1
layer_same A step (Value-F.And nodes) = ap (λ ns. Value-F.And ns) (nodes_same A step nodes)
layer_same A step (Value-F.Or nodes) = ap (λ ns. Value-F.Or ns) (nodes_same A step nodes)
layer_same A step (Value-F.Env op left right) = two_same (λ v w. Value-F.Env op v w) left.1 right.1

value_same : (A : Type 0) (step : Value-F A A → A) (layer : Value-F (ValuePart A step) (NodePart A step)) → ValueSame A step (roll-Value (layer_of A step layer))
value_same A step layer =
    let whole = layer_of A step layer in
    ap (over_value A step) (fold-roll-Value Value Node (λ l. roll-Value l) placeless_layer whole)
    ∙ fold-roll-Value A A step (inner A) (map-Value Value Node Value Node placeless_value placeless whole)
    ∙ ap step (layer_same A step layer)
    ∙ sym (fold-roll-Value A A step (inner A) whole)

node_same : (A : Type 0) (step : Value-F A A → A) (value : ValuePart A step) (span : Span) → NodeSame A step (record { value = value.0; span = span })
node_same A step value span =
    let here : ValueSame A step value.0 = value.1 in
    let one : Node-F Value Node = record { value = value.0; span = span } in
    let other : Node-F Value Node = record { value = placeless_value value.0; span = record { start = 0; end = 0 } } in
    ap (over_node A step) (fold-roll-Node Value Node (λ l. roll-Value l) placeless_layer one)
    ∙ fold-roll-Node A A step (inner A) other
    ∙ here
    ∙ sym (fold-roll-Node A A step (inner A) one)

every_node_same : (A : Type 0) (step : Value-F A A → A) (node : Node) → NodeSame A step node
every_node_same A step =
    ind-Node (ValueSame A step) (NodeSame A step)
    (λ x y is. subst (λ (l : Value-F Value Node). ValueSame A step (roll-Value l)) is (value_same A step y))
    (λ x y is. subst (λ (n : Node-F Value Node). NodeSame A step (record { value = n.value; span = n.span })) is (node_same A step y.value y.span))

pub depth_placeless : (node : Node) → depth (placeless node) ≡ depth node
depth_placeless = every_node_same ℕ layer_depth

pub text_placeless : (node : Node) → value_text (placeless node) ≡ value_text node
text_placeless = every_node_same (List ℕ) layer_text

-- a value of a layer, without places
abbrev pub bare_shape : Value-F Value Node → Node
bare_shape shape = record { value = roll-Value shape; span = record { start = 0; end = 0 } }

pub placeless_at : (shape : Value-F Value Node) (span : Span) → placeless (node_at shape span) ≡ bare_shape (map-Value Value Node Value Node placeless_value placeless shape)
placeless_at = fold_node Value Node (λ l. roll-Value l) placeless_layer
