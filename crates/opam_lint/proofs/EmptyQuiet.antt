-- Of empty commands no error is found.
use Rattle.std.proofs.Common.{◌≡◌, List, [], ◌∷◌, ◌++◌, false, map, refl, sym, ap, subst, ◌∙◌}
use Rattle.std.specs.List.{AllByRecursion, flat_map, list_any}
use Rattle.std.proofs.lemmas.List.Folds.{list_any-append}
use Rattle.syntax_trees.specs.declared.tree.Node.{Node, roll-Node}
use Rattle.syntax_trees.specs.declared.tree.Span.{Span}
use Rattle.syntax_trees.specs.declared.tree.Value.{Value, roll-Value}
use Rattle.syntax_trees.specs.declared.tree.Value.TheOpen.{Value-F, Node-F}
use Rattle.syntax_trees.specs.declared.tree.Value.TheFolds.{fold-Value, fold-roll-Node, fold-roll-Value, ind-Node, map-Value}
use Rattle.opam_package.specs.Views.{outside}
use Rattle.opam_lint.specs.declared.finding.Finding.{Finding}
use Rattle.opam_lint.specs.EmptyCommands.{empties, empty_commands, layer_empties, node_empties, nodes_in, own_empty}
use Rattle.opam_lint.specs.FindingTexts.{is_error}
use Rattle.opam_lint.proofs.EmptyLists.{found_of}

-- no error is among them
abbrev pub Quiet : List Finding → Type 0
Quiet findings = list_any is_error findings ≡ false

pub joined_quiet : (xs ys : List Finding) → Quiet xs → Quiet ys → Quiet (xs ++ ys)
joined_quiet [] ys first second = second
joined_quiet (x ∷ xs) ys first second = list_any-append is_error (x ∷ xs) ys ∙ rw (first, second) refl

flat_quiet : (lists : List (List Finding)) → AllByRecursion Quiet lists → Quiet (flat_map (λ found. found) lists)
flat_quiet [] all = refl
flat_quiet (list ∷ lists) all = joined_quiet list (flat_map (λ found. found) lists) all.0 (flat_quiet lists all.1)

own_quiet : (layer : Value-F (Span → List Finding) (List Finding)) (span : Span) → Quiet (own_empty layer span)
own_quiet (Value-F.Flag flag) span = refl
own_quiet (Value-F.Int number) span = refl
own_quiet (Value-F.Text bytes) span = refl
own_quiet (Value-F.Ident variable) span = refl
own_quiet (Value-F.List []) span = refl
own_quiet (Value-F.List (node ∷ more)) span = refl
own_quiet (Value-F.Group nodes) span = refl
own_quiet (Value-F.Braced node nodes) span = refl
own_quiet (Value-F.Not node) span = refl
own_quiet (Value-F.Defined node) span = refl
own_quiet (Value-F.Rel op left right) span = refl
own_quiet (Value-F.PreRel op right) span = refl
own_quiet (Value-F.And nodes) span = refl
own_quiet (Value-F.Or nodes) span = refl
own_quiet (Value-F.Env op left right) span = refl

layer_quiet : (layer : Value-F (Span → List Finding) (List Finding)) (span : Span) → AllByRecursion Quiet (nodes_in layer) → Quiet (layer_empties layer span)
layer_quiet layer span all = joined_quiet (own_empty layer span) (flat_map (λ found. found) (nodes_in layer)) (own_quiet layer span) (flat_quiet (nodes_in layer) all)

-- ---- every node

abbrev ValueQuiet : Value → Type 0
ValueQuiet value = (span : Span) → Quiet (fold-Value (Span → List Finding) (List Finding) layer_empties node_empties value span)

abbrev NodeQuiet : Node → Type 0
NodeQuiet node = Quiet (empties node)

abbrev QuietValue : Type 0
QuietValue = (value : Value) × ValueQuiet value

abbrev QuietNode : Type 0
QuietNode = (node : Node) × NodeQuiet node

lists_quiet : (nodes : List QuietNode) → AllByRecursion Quiet (map empties (map (λ n. n.0) nodes))
lists_quiet [] = tt
lists_quiet (node ∷ nodes) = (node.1, lists_quiet nodes)

parts_quiet : (layer : Value-F QuietValue QuietNode) → AllByRecursion Quiet (nodes_in (found_of (map-Value QuietValue QuietNode Value Node (λ v. v.0) (λ n. n.0) layer)))
parts_quiet (Value-F.Flag flag) = tt
parts_quiet (Value-F.Int number) = tt
parts_quiet (Value-F.Text bytes) = tt
parts_quiet (Value-F.Ident variable) = tt
parts_quiet (Value-F.List nodes) = lists_quiet nodes
parts_quiet (Value-F.Group nodes) = lists_quiet nodes
parts_quiet (Value-F.Braced node nodes) = (node.1, lists_quiet nodes)
parts_quiet (Value-F.Not node) = (node.1, tt)
parts_quiet (Value-F.Defined node) = (node.1, tt)
parts_quiet (Value-F.Rel op left right) = (left.1, (right.1, tt))
parts_quiet (Value-F.PreRel op right) = (right.1, tt)
parts_quiet (Value-F.And nodes) = lists_quiet nodes
parts_quiet (Value-F.Or nodes) = lists_quiet nodes
parts_quiet (Value-F.Env op left right) = (left.1, (right.1, tt))

value_step : (layer : Value-F Value Node) → AllByRecursion Quiet (nodes_in (found_of layer)) → ValueQuiet (roll-Value layer)
value_step layer all span =
    subst Quiet (sym (ap (λ (f : Span → List Finding). f span) (fold-roll-Value (Span → List Finding) (List Finding) layer_empties node_empties layer)))
    (layer_quiet (found_of layer) span all)

node_step : (node : Node-F Value Node) → ValueQuiet node.value → NodeQuiet (roll-Node node)
node_step node quiet = subst Quiet (sym (fold-roll-Node (Span → List Finding) (List Finding) layer_empties node_empties node)) (quiet node.span)

empties_quiet : (node : Node) → Quiet (empties node)
empties_quiet =
    ind-Node ValueQuiet NodeQuiet
    (λ x y is. value_step x (subst (λ (layer : Value-F Value Node). AllByRecursion Quiet (nodes_in (found_of layer))) is (parts_quiet y)))
    (λ x y is. node_step x (subst (λ (node : Node-F Value Node). ValueQuiet node.value) is y.value.1))

all_quiet : (nodes : List Node) → Quiet (flat_map empties nodes)
all_quiet [] = refl
all_quiet (node ∷ more) = joined_quiet (empties node) (flat_map empties more) (empties_quiet node) (all_quiet more)

pub commands_quiet : (node : Node) → Quiet (empty_commands node)
commands_quiet node = all_quiet (nodes_in (outside node))
