-- All faults of a node, for each place in which it may stand: those of what is in it, and then its own (opam manual, filters
-- and package formulas; that no fault hides another one is this project's own).
use Rattle.std.specs.Prelude.{◌≡◌, ℕ, List, [], ◌∷◌, ◌++◌, map, Bool, true, false, if◌then◌else◌, Contains}
use Rattle.std.specs.List.{flat_map, list_any}
use Rattle.std.specs.declared.option.Option.{Option}
use Rattle.std.specs.declared.option.Option.TheVariants.{None, Some}
use Rattle.opam_names.specs.Names.{is_name}
use Rattle.syntax_trees.specs.declared.tree.Node.{Node}
use Rattle.syntax_trees.specs.declared.tree.Span.{Span}
use Rattle.syntax_trees.specs.declared.tree.Value.TheOpen.{Value-F, Node-F}
use Rattle.syntax_trees.specs.declared.tree.Value.TheFolds.{fold-Node}
use Rattle.opam_filter.specs.declared.fault.FilterFault.{FilterFault}
use Rattle.opam_filter.specs.declared.fault.FilterFault.TheVariants.{NotAFilter, NotAFormula, NotText, BadName, NegatedVersion}
use Rattle.opam_filter.specs.Faults.{Judged, comes_before, earliest, is_text, judged}

-- all faults of a node for each place in which it may stand
pub record Listed : Type 0 where
  -- as a filter
  pub filter : List FilterFault
  -- as a side of a relation
  pub side : List FilterFault
  -- as a value in braces
  pub braces : List FilterFault
  -- on the right side of a constraint on the version
  pub version : List FilterFault
  -- as a formula
  pub formula : List FilterFault
  -- before braces
  pub name : List FilterFault
  -- whether it has a constraint on the version anywhere in it
  pub constrains : Bool

-- a value, with the faults of its nodes
abbrev pub Layer : Type 0
Layer = Value-F (Span → Listed) Listed

-- the nodes in it, from left to right
abbrev pub nodes_in : Layer → List Listed
nodes_in (Value-F.Flag flag) = []
nodes_in (Value-F.Int number) = []
nodes_in (Value-F.Text bytes) = []
nodes_in (Value-F.Ident variable) = []
nodes_in (Value-F.List nodes) = nodes
nodes_in (Value-F.Group nodes) = nodes
nodes_in (Value-F.Braced node nodes) = node ∷ nodes
nodes_in (Value-F.Not node) = node ∷ []
nodes_in (Value-F.Defined node) = node ∷ []
nodes_in (Value-F.Rel op left right) = left ∷ right ∷ []
nodes_in (Value-F.PreRel op right) = right ∷ []
nodes_in (Value-F.And nodes) = nodes
nodes_in (Value-F.Or nodes) = nodes
nodes_in (Value-F.Env op left right) = left ∷ right ∷ []

-- a text that is UTF-8 without a zero byte has none
abbrev pub text_faults : List ℕ → Span → List FilterFault
text_faults bytes span = if is_text bytes then [] else NotText span ∷ []

-- nor has a name
abbrev pub name_faults : List ℕ → Span → List FilterFault
name_faults bytes span = if is_name bytes then [] else BadName span ∷ []

-- what is in a value is looked into as filters, and the two of a relation as its sides
abbrev pub inner_faults : Layer → List FilterFault
inner_faults (Value-F.Rel op left right) = left.side ++ right.side
inner_faults layer = flat_map (λ node. node.filter) (nodes_in layer)

-- an integer, a list, braces, a relation without a left side, an update, and a group of none or several is no filter
abbrev pub own_faults : Layer → Span → List FilterFault
own_faults (Value-F.Flag flag) span = []
own_faults (Value-F.Text bytes) span = text_faults bytes span
own_faults (Value-F.Ident variable) span = []
own_faults (Value-F.Group (node ∷ [])) span = []
own_faults (Value-F.Not node) span = []
own_faults (Value-F.Defined node) span = []
own_faults (Value-F.Rel op left right) span = []
own_faults (Value-F.And nodes) span = []
own_faults (Value-F.Or nodes) span = []
own_faults layer span = NotAFilter span ∷ []

-- as a filter
abbrev pub filter_faults : Layer → Span → List FilterFault
filter_faults layer span = inner_faults layer ++ own_faults layer span

-- a side of a relation is a boolean, a text or an identifier
abbrev pub own_side_faults : Layer → Span → List FilterFault
own_side_faults (Value-F.Flag flag) span = []
own_side_faults (Value-F.Text bytes) span = text_faults bytes span
own_side_faults (Value-F.Ident variable) span = []
own_side_faults layer span = NotAFilter span ∷ []

-- as a side
abbrev pub side_faults : Layer → Span → List FilterFault
side_faults layer span = inner_faults layer ++ own_side_faults layer span

-- `!` and `?` may not stand over a constraint on the version
abbrev pub negated_faults : Listed → Span → List FilterFault
negated_faults node span = (if node.constrains then NegatedVersion span ∷ [] else []) ++ node.braces

-- in braces a relation without a left side is a constraint on the version; `&`, `|`, groups of one, `!` and `?` are looked
-- into as braces, and all else is a filter
abbrev pub braces_faults : Layer → Span → List FilterFault
braces_faults (Value-F.PreRel op right) span = right.version
braces_faults (Value-F.And nodes) span = flat_map (λ node. node.braces) nodes
braces_faults (Value-F.Or nodes) span = flat_map (λ node. node.braces) nodes
braces_faults (Value-F.Group (node ∷ [])) span = node.braces
braces_faults (Value-F.Not node) span = negated_faults node span
braces_faults (Value-F.Defined node) span = negated_faults node span
braces_faults layer span = filter_faults layer span

-- the right side of a constraint is a text or an identifier
abbrev pub version_faults : Layer → Span → List FilterFault
version_faults (Value-F.Text bytes) span = text_faults bytes span
version_faults (Value-F.Ident variable) span = []
version_faults layer span = NotAFormula span ∷ []

-- before braces stands the name of a package
abbrev pub before_faults : Layer → Span → List FilterFault
before_faults (Value-F.Text bytes) span = name_faults bytes span
before_faults layer span = NotAFormula span ∷ []

-- a formula is built of names, with or without braces, by `&`, `|`, groups and lists; other nodes are not looked into
abbrev pub formula_faults : Layer → Span → List FilterFault
formula_faults (Value-F.Text bytes) span = name_faults bytes span
formula_faults (Value-F.Braced node nodes) span = node.name ++ flat_map (λ node. node.braces) nodes
formula_faults (Value-F.List nodes) span = flat_map (λ node. node.formula) nodes
formula_faults (Value-F.Group nodes) span = flat_map (λ node. node.formula) nodes
formula_faults (Value-F.And nodes) span = flat_map (λ node. node.formula) nodes
formula_faults (Value-F.Or nodes) span = flat_map (λ node. node.formula) nodes
formula_faults layer span = NotAFormula span ∷ []

-- a constraint on the version is a relation without a left side, or has one in it
abbrev pub has_constraint : Layer → Bool
has_constraint (Value-F.PreRel op right) = true
has_constraint layer = list_any (λ node. node.constrains) (nodes_in layer)

-- a value, for each place in which it may stand
abbrev pub layer_listed : Layer → Span → Listed
layer_listed layer span = record {
  filter = filter_faults layer span;
  side = side_faults layer span;
  braces = braces_faults layer span;
  version = version_faults layer span;
  formula = formula_faults layer span;
  name = before_faults layer span;
  constrains = has_constraint layer;
}

-- the same at the span of its node
abbrev pub node_listed : Node-F (Span → Listed) Listed → Listed
node_listed node = node.value node.span

-- all faults of a node
abbrev pub all_faults : Node → Listed
all_faults = fold-Node (Span → Listed) Listed layer_listed node_listed

-- what is told of a list of faults: none where it is empty, else one of them, before which none of them comes, and of
-- several such the first in the list
pub record IsFirstOf (faults : List FilterFault) (told : Option FilterFault) : Type 0 where
  pub none : told ≡ None → faults ≡ []
  pub one : (first : FilterFault) → told ≡ Some first → Contains faults first
  pub before : (first other : FilterFault) → told ≡ Some first → Contains faults other → comes_before other first ≡ false
  pub same : told ≡ earliest (map Some faults)

-- the fault that is told of a node in each place is the first of all that it has there
pub record TellsFirst (faults : Listed) (told : Judged) : Type 0 where
  pub filter : IsFirstOf faults.filter told.filter
  pub side : IsFirstOf faults.side told.side
  pub braces : IsFirstOf faults.braces told.braces
  pub version : IsFirstOf faults.version told.version
  pub formula : IsFirstOf faults.formula told.formula
  pub name : IsFirstOf faults.name told.name
  pub constrains : faults.constrains ≡ told.constrains

-- that holds of every node
abbrev pub FaultsAreListed : Type 0
FaultsAreListed = (node : Node) → TellsFirst (all_faults node) (judged node)
