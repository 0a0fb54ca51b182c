-- What a node without a fault is, and what it is read as.
use Rattle.std.proofs.Common.{ℕ, ◌+◌, ◌≡◌, ◌<◌, ◌≤◌, List, [], ◌∷◌, length, get_or, drop, map, sym, ap, subst, refl, ◌∙◌, arith}
use Rattle.std.specs.Result.{IfOk}
use Rattle.std.specs.declared.option.Option.TheVariants.{None}
use Rattle.std.specs.declared.option.Option.{Option}
use Rattle.std.specs.declared.result.Result.{Result}
use Rattle.std.proofs.lemmas.List.{drop_more}
use Rattle.syntax_trees.specs.declared.tree.Node.{Node}
use Rattle.syntax_trees.specs.declared.tree.Span.{Span}
use Rattle.syntax_trees.specs.declared.tree.RelOp.{RelOp}
use Rattle.syntax_trees.specs.declared.tree.Value.{Value, roll-Value}
use Rattle.syntax_trees.specs.declared.tree.Value.TheVariants as variants
use Rattle.syntax_trees.specs.declared.tree.Value.TheViews.{out-Value, roll-out-Value}
use Rattle.syntax_trees.specs.declared.tree.Value.TheOpen.{Value-F}
use Rattle.syntax_trees.specs.declared.tree.Value.TheFolds.{fold-Value, map-Value}
use Rattle.syntax_trees.proofs.Folds.{fold_node, node_at}
use Rattle.opam_filter.specs.declared.formula.Formula.{Formula}
use Rattle.opam_filter.specs.declared.formula.Formula.TheVariants as formulas
use Rattle.opam_filter.specs.declared.fault.FilterFault.{FilterFault}
use Rattle.opam_filter.specs.declared.fault.FilterFault.TheVariants.{NotAFilter}
use Rattle.opam_filter.specs.Faults.{Judged, Shape, earlier, judged, of_braces, of_filters, earliest, filter_group, braces_group, filter_role, side_role, shape_judged}
use Rattle.opam_filter.specs.Trees.{Read, read, shape_read, node_read}
use Rattle.opam_filter.proofs.Earliest.{earlier_left, earlier_right, some_fault, is_no_filter}
use Rattle.opam_filter.proofs.Judged.{IsApart, shape_of, judged_as, judged_braced, judged_group, same_node, one_item}

-- a side of a relation that has no fault is a filter that has none
side_role_is_filter : (shape : Shape) (span : Span) → side_role shape span ≡ None → filter_role shape span ≡ None
side_role_is_filter (Value-F.Flag flag) span none = refl
side_role_is_filter (Value-F.Int number) span none = none
side_role_is_filter (Value-F.Text bytes) span none = none
side_role_is_filter (Value-F.Ident variable) span none = refl
side_role_is_filter (Value-F.List nodes) span none = none
side_role_is_filter (Value-F.Group nodes) span none = absurd (is_no_filter (of_filters nodes) span none)
side_role_is_filter (Value-F.Braced first nodes) span none = none
side_role_is_filter (Value-F.Not part) span none = absurd (is_no_filter part.filter span none)
side_role_is_filter (Value-F.Defined part) span none = absurd (is_no_filter part.filter span none)
side_role_is_filter (Value-F.Rel op left right) span none = absurd (is_no_filter (earlier left.side right.side) span none)
side_role_is_filter (Value-F.PreRel op right) span none = none
side_role_is_filter (Value-F.And nodes) span none = absurd (is_no_filter (of_filters nodes) span none)
side_role_is_filter (Value-F.Or nodes) span none = absurd (is_no_filter (of_filters nodes) span none)
side_role_is_filter (Value-F.Env op left right) span none = none

-- a node by its own layer
by_shape : (node : Node) → judged node ≡ shape_judged (shape_of (out-Value node.value)) node.span
by_shape node = judged_as node (out-Value node.value) (sym (roll-out-Value node.value))

-- the same of a node
pub side_is_filter : (node : Node) → (judged node).side ≡ None → (judged node).filter ≡ None
side_is_filter node none =
    let same = by_shape node in
    ap (λ j. j.filter) same ∙ side_role_is_filter (shape_of (out-Value node.value)) node.span (sym (ap (λ j. j.side) same) ∙ none)

-- a relation is judged by its sides
sides_at : (node left right : Node) (op : RelOp) → node.value ≡ variants.Rel op left right
    → (judged node).filter ≡ earlier (judged left).side (judged right).side
sides_at node left right op is = ap (λ j. j.filter) (judged_as node (Value-F.Rel op left right) (is ∙ sym (variants.rolls-Rel op left right)))

-- the left side of a relation that has no fault
pub left_of : (node left right lent : Node) (op : RelOp) → node.value ≡ variants.Rel op left right → (judged node).filter ≡ None
    → lent ≡ left → (judged lent).filter ≡ None
left_of node left right lent op is none same =
    ap (λ n. (judged n).filter) same ∙ side_is_filter left (earlier_left _ _ (sym (sides_at node left right op is) ∙ none))

-- the right side
pub right_of : (node left right lent : Node) (op : RelOp) → node.value ≡ variants.Rel op left right → (judged node).filter ≡ None
    → lent ≡ right → (judged lent).filter ≡ None
right_of node left right lent op is none same =
    ap (λ n. (judged n).filter) same ∙ side_is_filter right (earlier_right _ _ (sym (sides_at node left right op is) ∙ none))

-- a layer that has a fault as a filter is none
refused : (node : Node) (layer : Value-F Value Node) → node.value ≡ roll-Value layer → (judged node).filter ≡ None
    → (filter_role (shape_of layer) node.span ≡ None → ⊥) → ⊥
refused node layer is none never = never (sym (ap (λ j. j.filter) (judged_as node layer is)) ∙ none)

-- nothing else is a filter
other_layer : (node : Node) (layer : Value-F Value Node) → node.value ≡ roll-Value layer → (judged node).filter ≡ None
    → IsApart node variants.Flag → IsApart node variants.Text → IsApart node variants.Ident → IsApart node variants.Group
    → IsApart node variants.Not → IsApart node variants.Defined → ((op : RelOp) (left : Node) → IsApart node (variants.Rel op left))
    → IsApart node variants.And → IsApart node variants.Or → ⊥
other_layer node (Value-F.Flag flag) is none flagged text named group not defined related and or = flagged flag (is ∙ variants.rolls-Flag flag)
other_layer node (Value-F.Int number) is none flagged text named group not defined related and or =
    refused node (Value-F.Int number) is none (some_fault (NotAFilter node.span))
other_layer node (Value-F.Text bytes) is none flagged text named group not defined related and or = text bytes (is ∙ variants.rolls-Text bytes)
other_layer node (Value-F.Ident variable) is none flagged text named group not defined related and or = named variable (is ∙ variants.rolls-Ident variable)
other_layer node (Value-F.List nodes) is none flagged text named group not defined related and or =
    refused node (Value-F.List nodes) is none (is_no_filter (of_filters (map judged nodes)) node.span)
other_layer node (Value-F.Group nodes) is none flagged text named group not defined related and or = group nodes (is ∙ variants.rolls-Group nodes)
other_layer node (Value-F.Braced first nodes) is none flagged text named group not defined related and or =
    refused node (Value-F.Braced first nodes) is none (is_no_filter (earlier (judged first).filter (of_filters (map judged nodes))) node.span)
other_layer node (Value-F.Not part) is none flagged text named group not defined related and or = not part (is ∙ variants.rolls-Not part)
other_layer node (Value-F.Defined part) is none flagged text named group not defined related and or = defined part (is ∙ variants.rolls-Defined part)
other_layer node (Value-F.Rel op left right) is none flagged text named group not defined related and or = related op left right (is ∙ variants.rolls-Rel op left right)
other_layer node (Value-F.PreRel op right) is none flagged text named group not defined related and or =
    refused node (Value-F.PreRel op right) is none (is_no_filter (judged right).filter node.span)
other_layer node (Value-F.And nodes) is none flagged text named group not defined related and or = and nodes (is ∙ variants.rolls-And nodes)
other_layer node (Value-F.Or nodes) is none flagged text named group not defined related and or = or nodes (is ∙ variants.rolls-Or nodes)
other_layer node (Value-F.Env op left right) is none flagged text named group not defined related and or =
    refused node (Value-F.Env op left right) is none (is_no_filter (earlier (judged left).filter (judged right).filter) node.span)

-- the same without the layer
pub no_other_filter : (node : Node) → (judged node).filter ≡ None
    → IsApart node variants.Flag → IsApart node variants.Text → IsApart node variants.Ident → IsApart node variants.Group
    → IsApart node variants.Not → IsApart node variants.Defined → ((op : RelOp) (left : Node) → IsApart node (variants.Rel op left))
    → IsApart node variants.And → IsApart node variants.Or → ⊥
no_other_filter node = other_layer node (out-Value node.value) (sym (roll-out-Value node.value))

-- a layer, with what its nodes are read as
abbrev layer_read : Value-F Value Node → Value-F Read Read
layer_read = map-Value Value Node Read Read (fold-Value Read Read shape_read node_read) read

-- a node that is made of a layer
read_at : (layer : Value-F Value Node) (span : Span) → read (node_at layer span) ≡ shape_read (layer_read layer)
read_at = fold_node Read Read shape_read node_read

-- a node by its layer
read_as : (node : Node) (layer : Value-F Value Node) → node.value ≡ roll-Value layer → read node ≡ shape_read (layer_read layer)
read_as node layer is = ap read (same_node node (roll-Value layer) is) ∙ read_at layer node.span

-- what stands before braces that have no fault
pub name_before : (node before lent : Node) (nodes : List Node) → node.value ≡ variants.Braced before nodes → (judged node).formula ≡ None → lent ≡ before
    → (judged lent).name ≡ None
name_before node before lent nodes is none same =
    earlier_left (judged lent).name (of_braces (map judged nodes)) (sym (ap (λ j. j.formula) (judged_braced node lent before nodes nodes is same refl)) ∙ none)

-- a group is read by what is in it
read_group : (node : Node) (nodes slice : List Node) → node.value ≡ variants.Group nodes → slice ≡ nodes
    → read node ≡ shape_read (Value-F.Group (map read slice))
read_group node nodes slice is same =
    read_as node (Value-F.Group nodes) (is ∙ sym (variants.rolls-Group nodes)) ∙ ap (λ xs. shape_read (Value-F.Group (map read xs))) (sym same)

-- a group of none as a formula
pub formula_of_none : (node : Node) (nodes slice : List Node) (built : List Formula) → node.value ≡ variants.Group nodes → slice ≡ nodes
    → length slice < 1 → built ≡ [] → formulas.And built ≡ (read node).formula
formula_of_none node nodes [] built is same few none =
    ap (λ xs. formulas.And xs) none ∙ sym (formulas.rolls-And []) ∙ sym (ap (λ r. r.formula) (read_group node nodes [] is same))
formula_of_none node nodes (x ∷ xs) built is same few none = absurd (omega arith)

-- of several
pub formula_of_several : (node : Node) (nodes slice : List Node) (built : List Formula) → node.value ≡ variants.Group nodes → slice ≡ nodes
    → 2 ≤ length slice → built ≡ map (λ (r : Read). r.formula) (map read slice) → formulas.And built ≡ (read node).formula
formula_of_several node nodes [] built is same some built_so = absurd (omega arith)
formula_of_several node nodes (x ∷ []) built is same some built_so = absurd (omega arith)
formula_of_several node nodes (x ∷ y ∷ more) built is same some built_so =
    ap (λ xs. formulas.And xs) built_so ∙ sym (formulas.rolls-And (map (λ (r : Read). r.formula) (map read (x ∷ y ∷ more))))
    ∙ sym (ap (λ r. r.formula) (read_group node nodes (x ∷ y ∷ more) is same))

-- a group that has no fault is of one
lone_group : (nodes : List Node) (span : Span) → filter_group (map judged nodes) span ≡ None → length nodes ≡ 1
lone_group [] span none = absurd (is_no_filter (of_filters []) span none)
lone_group (x ∷ []) span none = refl
lone_group (x ∷ y ∷ more) span none = absurd (is_no_filter (of_filters (map judged (x ∷ y ∷ more))) span none)

-- the same in braces
lone_in_braces : (nodes : List Node) (span : Span) → braces_group (map judged nodes) span ≡ None → length nodes ≡ 1
lone_in_braces [] span none = absurd (is_no_filter (of_filters []) span none)
lone_in_braces (x ∷ []) span none = refl
lone_in_braces (x ∷ y ∷ more) span none = absurd (is_no_filter (of_filters (map judged (x ∷ y ∷ more))) span none)

-- the same of a node
pub lone_filter : (node : Node) (nodes slice : List Node) → node.value ≡ variants.Group nodes → slice ≡ nodes → (judged node).filter ≡ None → length slice ≡ 1
lone_filter node nodes slice is same none = lone_group slice node.span (sym (ap (λ j. j.filter) (judged_group node nodes slice is same)) ∙ none)

-- the same of a node in braces
pub lone_braces : (node : Node) (nodes slice : List Node) → node.value ≡ variants.Group nodes → slice ≡ nodes → (judged node).braces ≡ None → length slice ≡ 1
lone_braces node nodes slice is same none = lone_in_braces slice node.span (sym (ap (λ j. j.braces) (judged_group node nodes slice is same)) ∙ none)

-- of several nodes without a fault the next has none
pub next_sound : (role : Judged → Option FilterFault) (nodes : List Node) (i : ℕ) (node : Node) → i < length nodes → node ≡ get_or nodes i node
    → earliest (map role (map judged (drop i nodes))) ≡ None → role (judged node) ≡ None
next_sound role nodes i node within is none =
    ap (λ n. role (judged n)) is
    ∙ earlier_left (role (judged (get_or nodes i node))) (earliest (map role (map judged (drop (i + 1) nodes))))
    (sym (ap (λ xs. earliest (map role (map judged xs))) (drop_more nodes i node within)) ∙ none)

-- a group of one
pub read_lone : (node only : Node) (nodes slice : List Node) → node.value ≡ variants.Group nodes → slice ≡ nodes
    → 1 ≤ length slice → length slice < 2 → only ≡ get_or slice 0 only → read node ≡ shape_read (Value-F.Group (read only ∷ []))
read_lone node only nodes slice is same some few lone =
    read_group node nodes slice is same ∙ ap (λ xs. shape_read (Value-F.Group (map read xs))) (one_item slice only some few lone)

-- what is read as the one thing is read as the other
pub as_well : {A E : Type 0} (result : Result A E) (x y : A) → x ≡ y → IfOk result (λ v. v ≡ y) → IfOk result (λ v. v ≡ x)
as_well {A} {E} result x y same read_so = let P : A → Type 0 = λ z. IfOk result (λ v. v ≡ z) in subst P (sym same) read_so
