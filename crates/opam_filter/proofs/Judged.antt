-- The faults of a node by what it is.
use Rattle.std.proofs.Common.{◌⊎◌, inl, inr, ◌≡◌, ℕ, ◌+◌, ◌<◌, ◌≤◌, length, get_or, List, [], ◌∷◌, map, drop, sym, ap, refl, ◌∙◌, arith}
use Rattle.std.specs.declared.option.Option.{Option}
use Rattle.std.proofs.lemmas.List.{drop_more}
use Rattle.syntax_trees.specs.declared.tree.Node.{Node}
use Rattle.syntax_trees.specs.declared.tree.Span.{Span}
use Rattle.syntax_trees.specs.declared.tree.Value.{Value, roll-Value}
use Rattle.syntax_trees.specs.declared.tree.Value.TheVariants as variants
use Rattle.syntax_trees.specs.declared.tree.Value.TheViews.{out-Value, roll-out-Value}
use Rattle.syntax_trees.specs.declared.tree.RelOp.{RelOp}
use Rattle.syntax_trees.specs.declared.tree.Value.TheOpen.{Value-F}
use Rattle.syntax_trees.specs.declared.tree.Value.TheFolds.{fold-Value, map-Value}
use Rattle.syntax_trees.proofs.Folds.{fold_node, node_at}
use Rattle.opam_filter.specs.declared.fault.FilterFault.{FilterFault}
use Rattle.opam_filter.specs.Faults.{Judged, earlier, earliest, judged, shape_judged, node_judged, no_filter, of_filters, of_formulas, some_constrains, filter_group, braces_group, filter_role, braces_role, Shape}
use Rattle.opam_filter.proofs.Earliest.{earlier_assoc}

-- a layer, with what its nodes are judged
abbrev pub shape_of : Value-F Value Node → Shape
shape_of = map-Value Value Node (Span → Judged) Judged (fold-Value (Span → Judged) Judged shape_judged node_judged) judged

-- a node that is made of a layer
judged_at : (layer : Value-F Value Node) (span : Span) → judged (node_at layer span) ≡ shape_judged (shape_of layer) span
judged_at = fold_node (Span → Judged) Judged shape_judged node_judged

-- a node by its value
pub same_node : (node : Node) (v : Value) → node.value ≡ v → node ≡ record { value = v; span = node.span }
same_node node v same = ap (λ (w : Value). let n : Node = record { value = w; span = node.span } in n) same

-- a node by its layer
pub judged_as : (node : Node) (layer : Value-F Value Node) → node.value ≡ roll-Value layer → judged node ≡ shape_judged (shape_of layer) node.span
judged_as node layer is = ap judged (same_node node (roll-Value layer) is) ∙ judged_at layer node.span

-- a list, by the slice that is lent of it, as are those below
pub judged_list : (node : Node) (nodes slice : List Node) → node.value ≡ variants.List nodes → slice ≡ nodes
    → judged node ≡ shape_judged (Value-F.List (map judged slice)) node.span
judged_list node nodes slice is same =
    judged_as node (Value-F.List nodes) (is ∙ sym (variants.rolls-List nodes))
    ∙ ap (λ xs. shape_judged (Value-F.List (map judged xs)) node.span) (sym same)

-- a group
pub judged_group : (node : Node) (nodes slice : List Node) → node.value ≡ variants.Group nodes → slice ≡ nodes
    → judged node ≡ shape_judged (Value-F.Group (map judged slice)) node.span
judged_group node nodes slice is same =
    judged_as node (Value-F.Group nodes) (is ∙ sym (variants.rolls-Group nodes))
    ∙ ap (λ xs. shape_judged (Value-F.Group (map judged xs)) node.span) (sym same)

-- what `&` joins
pub judged_and : (node : Node) (nodes slice : List Node) → node.value ≡ variants.And nodes → slice ≡ nodes
    → judged node ≡ shape_judged (Value-F.And (map judged slice)) node.span
judged_and node nodes slice is same =
    judged_as node (Value-F.And nodes) (is ∙ sym (variants.rolls-And nodes))
    ∙ ap (λ xs. shape_judged (Value-F.And (map judged xs)) node.span) (sym same)

-- what `|` joins
pub judged_or : (node : Node) (nodes slice : List Node) → node.value ≡ variants.Or nodes → slice ≡ nodes
    → judged node ≡ shape_judged (Value-F.Or (map judged slice)) node.span
judged_or node nodes slice is same =
    judged_as node (Value-F.Or nodes) (is ∙ sym (variants.rolls-Or nodes))
    ∙ ap (λ xs. shape_judged (Value-F.Or (map judged xs)) node.span) (sym same)

-- a value with braces
pub judged_braced : (node first before : Node) (nodes slice : List Node) → node.value ≡ variants.Braced before nodes → first ≡ before → slice ≡ nodes
    → judged node ≡ shape_judged (Value-F.Braced (judged first) (map judged slice)) node.span
judged_braced node first before nodes slice is same same' =
    judged_as node (Value-F.Braced before nodes) (is ∙ sym (variants.rolls-Braced before nodes))
    ∙ ap (λ x. shape_judged (Value-F.Braced (judged x) (map judged nodes)) node.span) (sym same)
    ∙ ap (λ xs. shape_judged (Value-F.Braced (judged first) (map judged xs)) node.span) (sym same')

-- a list, a group, or what `&` or `|` joins
abbrev IsNodes : Node → List Node → Type 0
IsNodes node nodes =
    (node.value ≡ variants.List nodes) ⊎ ((node.value ≡ variants.Group nodes) ⊎ ((node.value ≡ variants.And nodes) ⊎ (node.value ≡ variants.Or nodes)))

-- a role in which lists, groups, `&` and `|` are judged alike
abbrev IsAlike : {A : Type 0} → (Judged → A) → (List Judged → Span → A) → (List Judged → Shape) → Type 0
IsAlike role value shape = (nodes : List Judged) (span : Span) → role (shape_judged (shape nodes) span) ≡ value nodes span

-- what such a role says of a node
of_nodes : {A : Type 0} (role : Judged → A) (value : List Judged → Span → A)
    → IsAlike role value (λ nodes. Value-F.List nodes) → IsAlike role value (λ nodes. Value-F.Group nodes)
    → IsAlike role value (λ nodes. Value-F.And nodes) → IsAlike role value (λ nodes. Value-F.Or nodes)
    → (node : Node) (nodes slice : List Node) → IsNodes node nodes → slice ≡ nodes → role (judged node) ≡ value (map judged slice) node.span
of_nodes role value list group and or node nodes slice (inl is) same =
    ap role (judged_list node nodes slice is same) ∙ list (map judged slice) node.span
of_nodes role value list group and or node nodes slice (inr (inl is)) same =
    ap role (judged_group node nodes slice is same) ∙ group (map judged slice) node.span
of_nodes role value list group and or node nodes slice (inr (inr (inl is))) same =
    ap role (judged_and node nodes slice is same) ∙ and (map judged slice) node.span
of_nodes role value list group and or node nodes slice (inr (inr (inr is))) same =
    ap role (judged_or node nodes slice is same) ∙ or (map judged slice) node.span

-- as a side of a relation
pub side_of_nodes : (node : Node) (nodes slice : List Node) → IsNodes node nodes → slice ≡ nodes
    → (judged node).side ≡ no_filter (of_filters (map judged slice)) node.span
side_of_nodes = of_nodes (λ j. j.side) (λ nodes span. no_filter (of_filters nodes) span) (λ _ _. refl) (λ _ _. refl) (λ _ _. refl) (λ _ _. refl)

-- as a formula
pub formula_of_nodes : (node : Node) (nodes slice : List Node) → IsNodes node nodes → slice ≡ nodes
    → (judged node).formula ≡ of_formulas (map judged slice)
formula_of_nodes = of_nodes (λ j. j.formula) (λ nodes span. of_formulas nodes) (λ _ _. refl) (λ _ _. refl) (λ _ _. refl) (λ _ _. refl)

-- whether one has a constraint on the version
pub constraint_of_nodes : (node : Node) (nodes slice : List Node) → IsNodes node nodes → slice ≡ nodes
    → (judged node).constrains ≡ some_constrains (map judged slice)
constraint_of_nodes = of_nodes (λ j. j.constrains) (λ nodes span. some_constrains nodes) (λ _ _. refl) (λ _ _. refl) (λ _ _. refl) (λ _ _. refl)

-- it is not made so
abbrev pub IsApart : {A : Type 0} → Node → (A → Value) → Type 0
IsApart {A} node made = (x : A) → node.value ≡ made x → ⊥

-- in braces as a filter
abbrev pub IsFilterThere : Node → Type 0
IsFilterThere node = (judged node).filter ≡ (judged node).braces

-- where the two roles judge a layer alike
pub filter_there : (node : Node) (layer : Value-F Value Node) → node.value ≡ roll-Value layer
    → filter_role (shape_of layer) node.span ≡ braces_role (shape_of layer) node.span → IsFilterThere node
filter_there node layer is alike =
    let same = judged_as node layer is in
    ap (λ j. j.filter) same ∙ alike ∙ sym (ap (λ j. j.braces) same)

-- in braces all but constraints, groups, `!`, `?`, `&` and `|` is a filter
braces_layer : (node : Node) (layer : Value-F Value Node) → node.value ≡ roll-Value layer
    → IsApart node variants.Group → IsApart node variants.Not → IsApart node variants.Defined → ((op : RelOp) → IsApart node (variants.PreRel op))
    → IsApart node variants.And → IsApart node variants.Or → IsFilterThere node
braces_layer node (Value-F.Flag flag) is group not defined related and or = filter_there node (Value-F.Flag flag) is refl
braces_layer node (Value-F.Int number) is group not defined related and or = filter_there node (Value-F.Int number) is refl
braces_layer node (Value-F.Text bytes) is group not defined related and or = filter_there node (Value-F.Text bytes) is refl
braces_layer node (Value-F.Ident variable) is group not defined related and or = filter_there node (Value-F.Ident variable) is refl
braces_layer node (Value-F.List nodes) is group not defined related and or = filter_there node (Value-F.List nodes) is refl
braces_layer node (Value-F.Group nodes) is group not defined related and or = absurd (group nodes (is ∙ variants.rolls-Group nodes))
braces_layer node (Value-F.Braced first nodes) is group not defined related and or = filter_there node (Value-F.Braced first nodes) is refl
braces_layer node (Value-F.Not part) is group not defined related and or = absurd (not part (is ∙ variants.rolls-Not part))
braces_layer node (Value-F.Defined part) is group not defined related and or = absurd (defined part (is ∙ variants.rolls-Defined part))
braces_layer node (Value-F.Rel op left right) is group not defined related and or = filter_there node (Value-F.Rel op left right) is refl
braces_layer node (Value-F.PreRel op right) is group not defined related and or = absurd (related op right (is ∙ variants.rolls-PreRel op right))
braces_layer node (Value-F.And nodes) is group not defined related and or = absurd (and nodes (is ∙ variants.rolls-And nodes))
braces_layer node (Value-F.Or nodes) is group not defined related and or = absurd (or nodes (is ∙ variants.rolls-Or nodes))
braces_layer node (Value-F.Env op left right) is group not defined related and or = filter_there node (Value-F.Env op left right) is refl

-- the same without the layer
pub braces_else : (node : Node) → IsApart node variants.Group → IsApart node variants.Not → IsApart node variants.Defined → ((op : RelOp) → IsApart node (variants.PreRel op))
    → IsApart node variants.And → IsApart node variants.Or → IsFilterThere node
braces_else node = braces_layer node (out-Value node.value) (sym (roll-out-Value node.value))

-- the only item of a list
pub one_item : {A : Type 0} (xs : List A) (x : A) → 1 ≤ length xs → length xs < 2 → x ≡ get_or xs 0 x → xs ≡ x ∷ []
one_item [] x some few is = absurd (omega arith)
one_item (y ∷ []) x some few is = ap (λ z. z ∷ []) (sym is)
one_item (y ∷ z ∷ zs) x some few is = absurd (omega arith)

-- a group of several is no filter
pub several_filters : (nodes : List Node) (span : Span) → 2 ≤ length nodes
    → no_filter (of_filters (map judged nodes)) span ≡ filter_group (map judged nodes) span
several_filters [] span some = absurd (omega arith)
several_filters (x ∷ []) span some = absurd (omega arith)
several_filters (x ∷ y ∷ more) span some = refl

-- the same in braces
pub several_in_braces : (nodes : List Node) (span : Span) → 2 ≤ length nodes
    → no_filter (of_filters (map judged nodes)) span ≡ braces_group (map judged nodes) span
several_in_braces [] span some = absurd (omega arith)
several_in_braces (x ∷ []) span some = absurd (omega arith)
several_in_braces (x ∷ y ∷ more) span some = refl

-- one node more is looked at
pub one_more : (role : Judged → Option FilterFault) (nodes : List Node) (i : ℕ) (node : Node) (so_far fault now total : Option FilterFault)
    → i < length nodes → node ≡ get_or nodes i node → fault ≡ role (judged node) → now ≡ earlier so_far fault
    → earlier so_far (earliest (map role (map judged (drop i nodes)))) ≡ total
    → earlier now (earliest (map role (map judged (drop (i + 1) nodes)))) ≡ total
one_more role nodes i node so_far fault now total within is judged_so joined before =
    let rest = earliest (map role (map judged (drop (i + 1) nodes))) in
    ap (λ f. earlier f rest) (joined ∙ ap (λ f. earlier so_far f) judged_so)
    ∙ earlier_assoc so_far (role (judged node)) rest
    ∙ ap (λ n. earlier so_far (earlier (role (judged n)) rest)) is
    ∙ ap (λ xs. earlier so_far (earliest (map role (map judged xs)))) (sym (drop_more nodes i node within))
    ∙ before
