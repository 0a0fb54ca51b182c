-- The fault that is told of a node is the first of the list of all its faults.
use Rattle.std.proofs.Common.{◌≡◌, ℕ, zero, suc, ◌<◌, ◌||◌, length, get_or, Bool, true, false, if◌then◌else◌, inl, inr, List, [], ◌∷◌, ◌++◌, map, refl, sym, ap, subst, ◌∙◌, arith}
use Rattle.std.proofs.lemmas.List.{append-nil, map-append}
use Rattle.std.specs.List.{Contains, flat_map, list_any}
use Rattle.std.specs.declared.option.Option.{Option}
use Rattle.std.specs.declared.option.Option.TheVariants.{None, Some}
use Rattle.opam_names.specs.Names.{is_name}
use Rattle.syntax_trees.specs.declared.tree.Node.{Node, roll-Node}
use Rattle.syntax_trees.specs.declared.tree.Span.{Span}
use Rattle.syntax_trees.specs.declared.tree.Value.{Value, roll-Value}
use Rattle.syntax_trees.specs.declared.tree.Value.TheOpen.{Value-F, Node-F}
use Rattle.syntax_trees.specs.declared.tree.Value.TheFolds.{fold-Value, fold-roll-Node, fold-roll-Value, ind-Node, map-Value}
use Rattle.opam_filter.specs.declared.fault.FilterFault.{FilterFault}
use Rattle.opam_filter.specs.declared.fault.FilterFault.TheVariants.{NotAFilter, NotText, BadName, NegatedVersion}
use Rattle.opam_filter.specs.Faults.{Judged, Shape, braces_role, constrains_role, earlier, earliest, filter_role, formula_role, is_text, judged, name_fault, name_role, negation, no_filter, node_judged, of_filters, shape_judged, side_role, some_constrains, text_fault, version_role}
use Rattle.opam_filter.specs.FaultLists.{FaultsAreListed, IsFirstOf, Layer, Listed, all_faults, before_faults, braces_faults, filter_faults, formula_faults, has_constraint, layer_listed, name_faults, negated_faults, node_listed, side_faults, text_faults, version_faults}
use Rattle.opam_filter.specs.Laws.{IsAmong}
use Rattle.opam_filter.proofs.Earliest.{earlier_left, some_fault}
use Rattle.opam_filter.proofs.FirstFault.{told}
use Rattle.opam_filter.proofs.Judged.{shape_of}

-- the first fault of a list
abbrev first : List FilterFault → Option FilterFault
first faults = earliest (map Some faults)

-- what is told of a node by the lists of its faults
abbrev firsts : Listed → Judged
firsts faults = record {
  filter = first faults.filter;
  side = first faults.side;
  braces = first faults.braces;
  version = first faults.version;
  formula = first faults.formula;
  name = first faults.name;
  constrains = faults.constrains;
}

abbrev shape_firsts : Layer → Shape
shape_firsts = map-Value (Span → Listed) Listed (Span → Judged) Judged (λ value span. firsts (value span)) firsts

of_both : (faults others : List FilterFault) → first (faults ++ others) ≡ earlier (first faults) (first others)
of_both faults others = ap earliest (map-append Some faults others) ∙ told.grouped (map Some faults) (map Some others)

with_nothing : (fault : Option FilterFault) → earlier fault None ≡ fault
with_nothing None = refl
with_nothing (Some fault) = refl

-- nothing of its own
alone : (faults : List FilterFault) → first (faults ++ []) ≡ first faults
alone faults = ap first (append-nil faults)

alone_within : (faults : List FilterFault) → first ((faults ++ []) ++ []) ≡ first faults
alone_within faults = alone (faults ++ []) ∙ alone faults

-- of several nodes
of_nodes : (role : Listed → List FilterFault) (one : Judged → Option FilterFault) → ((node : Listed) → first (role node) ≡ one (firsts node))
    → (nodes : List Listed) → first (flat_map role nodes) ≡ earliest (map one (map firsts nodes))
of_nodes role one same [] = refl
of_nodes role one same (node ∷ nodes) =
    of_both (role node) (flat_map role nodes)
    ∙ ap (λ f. earlier f (first (flat_map role nodes))) (same node)
    ∙ ap (earlier (one (firsts node))) (of_nodes role one same nodes)

as_filters : (nodes : List Listed) → first (flat_map (λ (node : Listed). node.filter) nodes) ≡ of_filters (map firsts nodes)
as_filters = of_nodes (λ node. node.filter) (λ node. node.filter) (λ _. refl)

in_braces : (nodes : List Listed) → first (flat_map (λ (node : Listed). node.braces) nodes) ≡ earliest (map (λ (node : Judged). node.braces) (map firsts nodes))
in_braces = of_nodes (λ node. node.braces) (λ node. node.braces) (λ _. refl)

as_formulas : (nodes : List Listed) → first (flat_map (λ (node : Listed). node.formula) nodes) ≡ earliest (map (λ (node : Judged). node.formula) (map firsts nodes))
as_formulas = of_nodes (λ node. node.formula) (λ node. node.formula) (λ _. refl)

-- of several nodes that are together no filter
no_filters : (nodes : List Listed) (span : Span) → first (flat_map (λ (node : Listed). node.filter) nodes ++ NotAFilter span ∷ []) ≡ no_filter (of_filters (map firsts nodes)) span
no_filters nodes span = of_both (flat_map (λ (node : Listed). node.filter) nodes) (NotAFilter span ∷ []) ∙ ap (λ f. no_filter f span) (as_filters nodes)

-- of one, and of two
no_filter_one : (node : Listed) (span : Span) → first ((node.filter ++ []) ++ NotAFilter span ∷ []) ≡ no_filter (first node.filter) span
no_filter_one node span = no_filters (node ∷ []) span ∙ ap (λ f. no_filter f span) (with_nothing (first node.filter))

no_filter_two : (left right : Listed) (span : Span) → first ((left.filter ++ (right.filter ++ [])) ++ NotAFilter span ∷ []) ≡ no_filter (earlier (first left.filter) (first right.filter)) span
no_filter_two left right span =
    no_filters (left ∷ right ∷ []) span ∙ ap (λ f. no_filter (earlier (first left.filter) f) span) (with_nothing (first right.filter))

-- of a text, a name, a negation
unless : (b : Bool) (fault : FilterFault) → first (if b then [] else fault ∷ []) ≡ (if b then None else Some fault)
unless true fault = refl
unless false fault = refl

where_so : (b : Bool) (fault : FilterFault) → first (if b then fault ∷ [] else []) ≡ (if b then Some fault else None)
where_so true fault = refl
where_so false fault = refl

of_text : (bytes : List ℕ) (span : Span) → first (text_faults bytes span) ≡ text_fault bytes span
of_text bytes span = unless (is_text bytes) (NotText span)

of_name : (bytes : List ℕ) (span : Span) → first (name_faults bytes span) ≡ name_fault bytes span
of_name bytes span = unless (is_name bytes) (BadName span)

of_negated : (node : Listed) (span : Span) → first (negated_faults node span) ≡ negation (firsts node) span
of_negated node span =
    of_both (if node.constrains then NegatedVersion span ∷ [] else []) node.braces
    ∙ ap (λ f. earlier f (first node.braces)) (where_so node.constrains (NegatedVersion span))

-- ---- a layer in each place

filter_first : (layer : Layer) (span : Span) → first (filter_faults layer span) ≡ filter_role (shape_firsts layer) span
filter_first (Value-F.Flag flag) span = refl
filter_first (Value-F.Int number) span = refl
filter_first (Value-F.Text bytes) span = of_text bytes span
filter_first (Value-F.Ident variable) span = refl
filter_first (Value-F.List nodes) span = no_filters nodes span
filter_first (Value-F.Group []) span = refl
filter_first (Value-F.Group (node ∷ [])) span = alone_within node.filter
filter_first (Value-F.Group (node ∷ other ∷ nodes)) span = no_filters (node ∷ other ∷ nodes) span
filter_first (Value-F.Braced node nodes) span = no_filters (node ∷ nodes) span
filter_first (Value-F.Not node) span = alone_within node.filter
filter_first (Value-F.Defined node) span = alone_within node.filter
filter_first (Value-F.Rel op left right) span = alone (left.side ++ right.side) ∙ of_both left.side right.side
filter_first (Value-F.PreRel op right) span = no_filter_one right span
filter_first (Value-F.And nodes) span = alone (flat_map (λ (node : Listed). node.filter) nodes) ∙ as_filters nodes
filter_first (Value-F.Or nodes) span = alone (flat_map (λ (node : Listed). node.filter) nodes) ∙ as_filters nodes
filter_first (Value-F.Env op left right) span = no_filter_two left right span

side_first : (layer : Layer) (span : Span) → first (side_faults layer span) ≡ side_role (shape_firsts layer) span
side_first (Value-F.Flag flag) span = refl
side_first (Value-F.Int number) span = refl
side_first (Value-F.Text bytes) span = of_text bytes span
side_first (Value-F.Ident variable) span = refl
side_first (Value-F.List nodes) span = no_filters nodes span
side_first (Value-F.Group nodes) span = no_filters nodes span
side_first (Value-F.Braced node nodes) span = no_filters (node ∷ nodes) span
side_first (Value-F.Not node) span = no_filter_one node span
side_first (Value-F.Defined node) span = no_filter_one node span
side_first (Value-F.Rel op left right) span =
    of_both (left.side ++ right.side) (NotAFilter span ∷ []) ∙ ap (λ f. no_filter f span) (of_both left.side right.side)
side_first (Value-F.PreRel op right) span = no_filter_one right span
side_first (Value-F.And nodes) span = no_filters nodes span
side_first (Value-F.Or nodes) span = no_filters nodes span
side_first (Value-F.Env op left right) span = no_filter_two left right span

braces_first : (layer : Layer) (span : Span) → first (braces_faults layer span) ≡ braces_role (shape_firsts layer) span
braces_first (Value-F.PreRel op right) span = refl
braces_first (Value-F.And nodes) span = in_braces nodes
braces_first (Value-F.Or nodes) span = in_braces nodes
braces_first (Value-F.Group []) span = refl
braces_first (Value-F.Group (node ∷ [])) span = refl
braces_first (Value-F.Group (node ∷ other ∷ nodes)) span = no_filters (node ∷ other ∷ nodes) span
braces_first (Value-F.Not node) span = of_negated node span
braces_first (Value-F.Defined node) span = of_negated node span
braces_first layer span = filter_first layer span

version_first : (layer : Layer) (span : Span) → first (version_faults layer span) ≡ version_role (shape_firsts layer) span
version_first (Value-F.Text bytes) span = of_text bytes span
version_first layer span = refl

before_first : (layer : Layer) (span : Span) → first (before_faults layer span) ≡ name_role (shape_firsts layer) span
before_first (Value-F.Text bytes) span = of_name bytes span
before_first layer span = refl

formula_first : (layer : Layer) (span : Span) → first (formula_faults layer span) ≡ formula_role (shape_firsts layer) span
formula_first (Value-F.Text bytes) span = of_name bytes span
formula_first (Value-F.Braced node nodes) span =
    of_both node.name (flat_map (λ (node : Listed). node.braces) nodes) ∙ ap (earlier (first node.name)) (in_braces nodes)
formula_first (Value-F.List nodes) span = as_formulas nodes
formula_first (Value-F.Group nodes) span = as_formulas nodes
formula_first (Value-F.And nodes) span = as_formulas nodes
formula_first (Value-F.Or nodes) span = as_formulas nodes
formula_first layer span = refl

or_false : (b : Bool) → (b || false) ≡ b
or_false true = refl
or_false false = refl

some_first : (nodes : List Listed) → list_any (λ (node : Listed). node.constrains) nodes ≡ some_constrains (map firsts nodes)
some_first [] = refl
some_first (node ∷ nodes) = ap (λ b. node.constrains || b) (some_first nodes)

constrains_first : (layer : Layer) → has_constraint layer ≡ constrains_role (shape_firsts layer)
constrains_first (Value-F.Flag flag) = refl
constrains_first (Value-F.Int number) = refl
constrains_first (Value-F.Text bytes) = refl
constrains_first (Value-F.Ident variable) = refl
constrains_first (Value-F.List nodes) = some_first nodes
constrains_first (Value-F.Group nodes) = some_first nodes
constrains_first (Value-F.Braced node nodes) = ap (λ b. node.constrains || b) (some_first nodes)
constrains_first (Value-F.Not node) = or_false node.constrains
constrains_first (Value-F.Defined node) = or_false node.constrains
constrains_first (Value-F.Rel op left right) = ap (λ b. left.constrains || b) (or_false right.constrains)
constrains_first (Value-F.PreRel op right) = refl
constrains_first (Value-F.And nodes) = some_first nodes
constrains_first (Value-F.Or nodes) = some_first nodes
constrains_first (Value-F.Env op left right) = ap (λ b. left.constrains || b) (or_false right.constrains)

same_judged : (a b : Judged) → a.filter ≡ b.filter → a.side ≡ b.side → a.braces ≡ b.braces → a.version ≡ b.version → a.formula ≡ b.formula
    → a.name ≡ b.name → a.constrains ≡ b.constrains → a ≡ b
same_judged a b filter side braces version formula name constrains = λ i. record {
  filter = filter i;
  side = side i;
  braces = braces i;
  version = version i;
  formula = formula i;
  name = name i;
  constrains = constrains i;
}

layer_first : (layer : Layer) (span : Span) → shape_judged (shape_firsts layer) span ≡ firsts (layer_listed layer span)
layer_first layer span = sym (same_judged (firsts (layer_listed layer span)) (shape_judged (shape_firsts layer) span)
    (filter_first layer span) (side_first layer span) (braces_first layer span) (version_first layer span)
    (formula_first layer span) (before_first layer span) (constrains_first layer))

-- ---- every node

abbrev value_judged : Value → Span → Judged
value_judged = fold-Value (Span → Judged) Judged shape_judged node_judged

abbrev value_listed : Value → Span → Listed
value_listed = fold-Value (Span → Listed) Listed layer_listed node_listed

abbrev layer_of : Value-F Value Node → Layer
layer_of = map-Value Value Node (Span → Listed) Listed value_listed all_faults

abbrev FirstValue : Value → Type 0
FirstValue value = (span : Span) → value_judged value span ≡ firsts (value_listed value span)

abbrev FirstNode : Node → Type 0
FirstNode node = judged node ≡ firsts (all_faults node)

abbrev ToldValue : Type 0
ToldValue = (value : Value) × FirstValue value

abbrev ToldNode : Type 0
ToldNode = (node : Node) × FirstNode node

abbrev plain_layer : Value-F ToldValue ToldNode → Value-F Value Node
plain_layer = map-Value ToldValue ToldNode Value Node (λ v. v.0) (λ n. n.0)

abbrev IsToldSo : Value-F Value Node → Type 0
IsToldSo layer = shape_of layer ≡ shape_firsts (layer_of layer)

lists_told : (nodes : List ToldNode) → map judged (map (λ (n : ToldNode). n.0) nodes) ≡ map firsts (map all_faults (map (λ (n : ToldNode). n.0) nodes))
lists_told [] = refl
lists_told (node ∷ nodes) = let here : FirstNode node.0 = node.1 in let later = lists_told nodes in cc

two : {A B C : Type 0} (f : A → B → C) {a c : A} {b d : B} → a ≡ c → b ≡ d → f a b ≡ f c d
two f {a} {c} {b} {d} e g = ap (λ x. f x b) e ∙ ap (λ y. f c y) g

layer_told : (layer : Value-F ToldValue ToldNode) → IsToldSo (plain_layer layer)
layer_told (Value-F.Flag flag) = refl
layer_told (Value-F.Int number) = refl
layer_told (Value-F.Text bytes) = refl
layer_told (Value-F.Ident variable) = refl
layer_told (Value-F.List nodes) = ap (λ ns. Value-F.List ns) (lists_told nodes)
layer_told (Value-F.Group nodes) = ap (λ ns. Value-F.Group ns) (lists_told nodes)
layer_told (Value-F.Braced node nodes) = two (λ n ns. Value-F.Braced n ns) node.1 (lists_told nodes)
layer_told (Value-F.Not node) = ap (λ n. Value-F.Not n) node.1
layer_told (Value-F.Defined node) = ap (λ n. Value-F.Defined n) node.1
layer_told (Value-F.Rel op left right) = two (λ l r. Value-F.Rel op l r) left.1 right.1
layer_told (Value-F.PreRel op right) = ap (λ r. Value-F.PreRel op r) right.1
layer_told (Value-F.And nodes) = ap (λ ns. Value-F.And ns) (lists_told nodes)
layer_told (Value-F.Or nodes) = ap (λ ns. Value-F.Or ns) (lists_told nodes)
layer_told (Value-F.Env op left right) = two (λ l r. Value-F.Env op l r) left.1 right.1

value_step : (layer : Value-F Value Node) → IsToldSo layer → FirstValue (roll-Value layer)
value_step layer same span =
    ap (λ (f : Span → Judged). f span) (fold-roll-Value (Span → Judged) Judged shape_judged node_judged layer)
    ∙ ap (λ (s : Shape). shape_judged s span) same
    ∙ layer_first (layer_of layer) span
    ∙ sym (ap (λ (f : Span → Listed). firsts (f span)) (fold-roll-Value (Span → Listed) Listed layer_listed node_listed layer))

node_step : (node : Node-F Value Node) → FirstValue node.value → FirstNode (roll-Node node)
node_step node same =
    fold-roll-Node (Span → Judged) Judged shape_judged node_judged node
    ∙ same node.span
    ∙ sym (ap firsts (fold-roll-Node (Span → Listed) Listed layer_listed node_listed node))

node_first : (node : Node) → FirstNode node
node_first =
    ind-Node FirstValue FirstNode
    (λ x y is. value_step x (subst IsToldSo is (layer_told y)))
    (λ x y is. node_step x (subst (λ (node : Node-F Value Node). FirstValue node.value) is y.value.1))

-- ---- what the first of a list is

among_at : (fault : FilterFault) (faults : List FilterFault) (k : ℕ) → k < length faults → get_or faults k fault ≡ fault → IsAmong fault (map Some faults)
among_at fault [] k low is = absurd (omega arith)
among_at fault (one ∷ more) zero low is = inl (ap Some is)
among_at fault (one ∷ more) (suc k) low is = inr (among_at fault more k (omega arith) is)

contained : (fault : FilterFault) (faults : List FilterFault) → IsAmong fault (map Some faults) → Contains faults fault
contained fault [] is = absurd is
contained fault (one ∷ more) (inl is) = (0, omega arith, cc)
contained fault (one ∷ more) (inr is) = let later = contained fault more is in (suc later.0, omega (arith, later.1), later.2)

none_of : (faults : List FilterFault) → first faults ≡ None → faults ≡ []
none_of [] is = refl
none_of (fault ∷ more) is = absurd (some_fault fault (earlier_left (Some fault) (first more) is))

is_first : (faults : List FilterFault) (fault : Option FilterFault) → fault ≡ first faults → IsFirstOf faults fault
is_first faults fault same = record {
  none = λ is. none_of faults (sym same ∙ is);
  one = λ one is. contained one faults ((told.told (map Some faults)).one one (sym same ∙ is));
  before = λ one other is has. (told.told (map Some faults)).first one other (sym same ∙ is) (among_at other faults has.0 has.1 has.2);
  same = same;
}

pub faults_are_listed : FaultsAreListed
faults_are_listed node = let same = node_first node in record {
  filter = is_first _ _ (ap (λ j. j.filter) same);
  side = is_first _ _ (ap (λ j. j.side) same);
  braces = is_first _ _ (ap (λ j. j.braces) same);
  version = is_first _ _ (ap (λ j. j.version) same);
  formula = is_first _ _ (ap (λ j. j.formula) same);
  name = is_first _ _ (ap (λ j. j.name) same);
  constrains = sym (ap (λ j. j.constrains) same);
}
