-- Where there is no constraint on the version, braces are judged as a filter is.
use Rattle.std.proofs.Common.{◌≡◌, ◌||◌, Bool, true, false, List, [], ◌∷◌, map, refl, sym, ap, ◌∙◌, subst}
use Rattle.std.specs.Prelude.{if◌then◌else◌}
use Rattle.std.specs.List.{AllByRecursion}
use Rattle.std.specs.declared.option.Option.TheVariants.{None, Some}
use Rattle.std.proofs.lemmas.Bool.{false≢true}
use Rattle.syntax_trees.specs.declared.tree.Node.{Node, roll-Node}
use Rattle.syntax_trees.specs.declared.tree.Span.{Span}
use Rattle.syntax_trees.specs.declared.tree.Value.{Value, roll-Value}
use Rattle.syntax_trees.specs.declared.tree.Value.TheOpen.{Value-F, Node-F}
use Rattle.syntax_trees.specs.declared.tree.Value.TheFolds.{fold-Value, fold-roll-Node, fold-roll-Value, ind-Node, map-Value}
use Rattle.opam_filter.specs.declared.fault.FilterFault.TheVariants.{NegatedVersion}
use Rattle.syntax_trees.specs.declared.tree.RelOp.{RelOp}
use Rattle.syntax_trees.specs.declared.tree.Value.TheVariants as variants
use Rattle.syntax_trees.specs.declared.tree.Value.TheViews.{out-Value, roll-out-Value}
use Rattle.opam_filter.proofs.Earliest.{earlier_left, earlier_right, some_fault}
use Rattle.opam_filter.proofs.Judged.{IsApart, filter_there, judged_as, shape_of}
use Rattle.opam_filter.specs.Faults.{Judged, Shape, braces_group, braces_role, constrains_role, earlier, filter_group, filter_role, judged, negation, node_judged, of_braces, of_filters, shape_judged, some_constrains}

-- with no constraint it is judged alike in braces and as a filter
abbrev Alike : Judged → Type 0
Alike node = node.constrains ≡ false → node.braces ≡ node.filter

or_left : (x y : Bool) → (x || y) ≡ false → x ≡ false
or_left true y is = is
or_left false y is = refl

or_right : (x y : Bool) → (x || y) ≡ false → y ≡ false
or_right true y is = absurd (false≢true (sym is))
or_right false y is = is

all_alike : (nodes : List Judged) → AllByRecursion Alike nodes → some_constrains nodes ≡ false → of_braces nodes ≡ of_filters nodes
all_alike [] alike none = refl
all_alike (node ∷ nodes) alike none =
    let here = alike.0 (or_left node.constrains (some_constrains nodes) none) in
    let later = all_alike nodes alike.1 (or_right node.constrains (some_constrains nodes) none) in
    ap (λ one. earlier one (of_braces nodes)) here ∙ ap (earlier node.filter) later

group_alike : (nodes : List Judged) (span : Span) → AllByRecursion Alike nodes → some_constrains nodes ≡ false → braces_group nodes span ≡ filter_group nodes span
group_alike [] span alike none = refl
group_alike (node ∷ []) span alike none = alike.0 (or_left node.constrains false none)
group_alike (node ∷ other ∷ nodes) span alike none = refl

negation_alike : (node : Judged) (span : Span) → Alike node → node.constrains ≡ false → negation node span ≡ node.filter
negation_alike node span alike none = ap (λ b. earlier (if b then Some (NegatedVersion span) else None) node.braces) none ∙ alike none

-- the parts that decide are judged alike
abbrev AlikeParts : Shape → Type 0
AlikeParts (Value-F.Group nodes) = AllByRecursion Alike nodes
AlikeParts (Value-F.And nodes) = AllByRecursion Alike nodes
AlikeParts (Value-F.Or nodes) = AllByRecursion Alike nodes
AlikeParts (Value-F.Not node) = Alike node
AlikeParts (Value-F.Defined node) = Alike node
AlikeParts shape = Unit {0}

shape_alike : (shape : Shape) (span : Span) → AlikeParts shape → constrains_role shape ≡ false → braces_role shape span ≡ filter_role shape span
shape_alike (Value-F.Flag flag) span alike none = refl
shape_alike (Value-F.Int number) span alike none = refl
shape_alike (Value-F.Text bytes) span alike none = refl
shape_alike (Value-F.Ident variable) span alike none = refl
shape_alike (Value-F.List nodes) span alike none = refl
shape_alike (Value-F.Group nodes) span alike none = group_alike nodes span alike none
shape_alike (Value-F.Braced node nodes) span alike none = refl
shape_alike (Value-F.Not node) span alike none = negation_alike node span alike none
shape_alike (Value-F.Defined node) span alike none = negation_alike node span alike none
shape_alike (Value-F.Rel op left right) span alike none = refl
shape_alike (Value-F.PreRel op right) span alike none = absurd (false≢true (sym none))
shape_alike (Value-F.And nodes) span alike none = all_alike nodes alike none
shape_alike (Value-F.Or nodes) span alike none = all_alike nodes alike none
shape_alike (Value-F.Env op left right) span alike none = refl

-- ---- every node

abbrev value_judged : Value → Span → Judged
value_judged = fold-Value (Span → Judged) Judged shape_judged node_judged

abbrev ValueAlike : Value → Type 0
ValueAlike value = (span : Span) → Alike (value_judged value span)

abbrev NodeAlike : Node → Type 0
NodeAlike node = Alike (judged node)

abbrev AlikeValue : Type 0
AlikeValue = (value : Value) × ValueAlike value

abbrev AlikeNode : Type 0
AlikeNode = (node : Node) × NodeAlike node

lists_alike : (nodes : List AlikeNode) → AllByRecursion Alike (map judged (map (λ n. n.0) nodes))
lists_alike [] = tt
lists_alike (node ∷ nodes) = (node.1, lists_alike nodes)

layer_alike : (layer : Value-F AlikeValue AlikeNode) → AlikeParts (shape_of (map-Value AlikeValue AlikeNode Value Node (λ v. v.0) (λ n. n.0) layer))
layer_alike (Value-F.Flag flag) = tt
layer_alike (Value-F.Int number) = tt
layer_alike (Value-F.Text bytes) = tt
layer_alike (Value-F.Ident variable) = tt
layer_alike (Value-F.List nodes) = tt
layer_alike (Value-F.Group nodes) = lists_alike nodes
layer_alike (Value-F.Braced node nodes) = tt
layer_alike (Value-F.Not node) = node.1
layer_alike (Value-F.Defined node) = node.1
layer_alike (Value-F.Rel op left right) = tt
layer_alike (Value-F.PreRel op right) = tt
layer_alike (Value-F.And nodes) = lists_alike nodes
layer_alike (Value-F.Or nodes) = lists_alike nodes
layer_alike (Value-F.Env op left right) = tt

value_step : (layer : Value-F Value Node) → AlikeParts (shape_of layer) → ValueAlike (roll-Value layer)
value_step layer alike span =
    subst Alike (sym (ap (λ (f : Span → Judged). f span) (fold-roll-Value (Span → Judged) Judged shape_judged node_judged layer)))
    (λ none. shape_alike (shape_of layer) span alike none)

node_step : (node : Node-F Value Node) → ValueAlike node.value → NodeAlike (roll-Node node)
node_step node alike = subst Alike (sym (fold-roll-Node (Span → Judged) Judged shape_judged node_judged node)) (alike node.span)

pub alike_unless_constrained : (node : Node) → Alike (judged node)
alike_unless_constrained =
    ind-Node ValueAlike NodeAlike
    (λ x y is. value_step x (subst (λ (layer : Value-F Value Node). AlikeParts (shape_of layer)) is (layer_alike y)))
    (λ x y is. node_step x (subst (λ (node : Node-F Value Node). ValueAlike node.value) is y.value.1))

-- ---- what has no fault in braces, and is no constraint, group, `&` or `|`, is a filter

negation_by : (b : Bool) (part : Judged) (span : Span) → part.constrains ≡ b → Alike part → negation part span ≡ None → part.filter ≡ None
negation_by true part span is alike none =
    absurd (some_fault (NegatedVersion span)
    (sym (ap (λ b. if b then Some (NegatedVersion span) else None) is) ∙ earlier_left (if part.constrains then Some (NegatedVersion span) else None) part.braces none))
negation_by false part span is alike none = sym (alike is) ∙ earlier_right (if part.constrains then Some (NegatedVersion span) else None) part.braces none

negation_sound : (part : Judged) (span : Span) → Alike part → negation part span ≡ None → part.filter ≡ None
negation_sound part span alike none = negation_by part.constrains part span refl alike none

sound_layer : (node : Node) (layer : Value-F Value Node) → node.value ≡ roll-Value layer → (judged node).braces ≡ None
    → IsApart node variants.Group → ((op : RelOp) → IsApart node (variants.PreRel op)) → IsApart node variants.And → IsApart node variants.Or → (judged node).filter ≡ None
sound_layer node (Value-F.Flag flag) is none group related and or = filter_there node (Value-F.Flag flag) is refl ∙ none
sound_layer node (Value-F.Int number) is none group related and or = filter_there node (Value-F.Int number) is refl ∙ none
sound_layer node (Value-F.Text bytes) is none group related and or = filter_there node (Value-F.Text bytes) is refl ∙ none
sound_layer node (Value-F.Ident variable) is none group related and or = filter_there node (Value-F.Ident variable) is refl ∙ none
sound_layer node (Value-F.List nodes) is none group related and or = filter_there node (Value-F.List nodes) is refl ∙ none
sound_layer node (Value-F.Group nodes) is none group related and or = absurd (group nodes (is ∙ variants.rolls-Group nodes))
sound_layer node (Value-F.Braced first nodes) is none group related and or = filter_there node (Value-F.Braced first nodes) is refl ∙ none
sound_layer node (Value-F.Not part) is none group related and or =
    let same = judged_as node (Value-F.Not part) is in
    ap (λ j. j.filter) same ∙ negation_sound (judged part) node.span (alike_unless_constrained part) (sym (ap (λ j. j.braces) same) ∙ none)
sound_layer node (Value-F.Defined part) is none group related and or =
    let same = judged_as node (Value-F.Defined part) is in
    ap (λ j. j.filter) same ∙ negation_sound (judged part) node.span (alike_unless_constrained part) (sym (ap (λ j. j.braces) same) ∙ none)
sound_layer node (Value-F.Rel op left right) is none group related and or = filter_there node (Value-F.Rel op left right) is refl ∙ none
sound_layer node (Value-F.PreRel op right) is none group related and or = absurd (related op right (is ∙ variants.rolls-PreRel op right))
sound_layer node (Value-F.And nodes) is none group related and or = absurd (and nodes (is ∙ variants.rolls-And nodes))
sound_layer node (Value-F.Or nodes) is none group related and or = absurd (or nodes (is ∙ variants.rolls-Or nodes))
sound_layer node (Value-F.Env op left right) is none group related and or = filter_there node (Value-F.Env op left right) is refl ∙ none

pub filter_in_braces : (node : Node) → (judged node).braces ≡ None
    → IsApart node variants.Group → ((op : RelOp) → IsApart node (variants.PreRel op)) → IsApart node variants.And → IsApart node variants.Or → (judged node).filter ≡ None
filter_in_braces node = sound_layer node (out-Value node.value) (sym (roll-out-Value node.value))
