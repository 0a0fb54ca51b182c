-- What is wrong with a node as a filter, as braces and as a formula, and which of several faults comes first (opam manual,
-- filters and package formulas; the order of faults is this project's own).
use Rattle.std.specs.Prelude.{◌≡◌, ℕ, List, [], ◌∷◌, map, Bool, true, false, nat_lt, ◌==◌, ◌&&◌, ◌||◌, if◌then◌else◌}
use Rattle.std.specs.List.{list_all, list_any}
use Rattle.std.specs.Str.{is_utf8}
use Rattle.std.specs.declared.option.Option.{Option}
use Rattle.std.specs.declared.option.Option.TheVariants.{None, Some}
use Rattle.opam_names.specs.Names.{is_name}
use Rattle.opam_names.specs.Paths.{is_not_zero}
use Rattle.syntax_trees.specs.declared.tree.Node.{Node}
use Rattle.syntax_trees.specs.declared.tree.Span.{Span}
use Rattle.syntax_trees.specs.declared.tree.Value.TheOpen.{Value-F, Node-F}
use Rattle.syntax_trees.specs.declared.tree.Value.TheFolds.{fold-Node}
use Rattle.opam_filter.specs.declared.fault.FilterFault.{FilterFault}
use Rattle.opam_filter.specs.declared.fault.FilterFault.TheVariants.{NotAFilter, NotAFormula, NotText, BadName, NegatedVersion, Memory}

-- where a fault stands
abbrev pub place_of : FilterFault → ℕ
place_of (NotAFilter span) = span.start
place_of (NotAFormula span) = span.start
place_of (NotText span) = span.start
place_of (BadName span) = span.start
place_of (NegatedVersion span) = span.start
place_of Memory = 0

-- at one place a text that is none comes first
abbrev pub rank_of : FilterFault → ℕ
rank_of (NotText span) = 0
rank_of (NotAFilter span) = 1
rank_of (NotAFormula span) = 2
rank_of (BadName span) = 3
rank_of (NegatedVersion span) = 4
rank_of Memory = 5

-- the one further left comes first, and at one place the one of the lesser kind
abbrev pub comes_before : FilterFault → FilterFault → Bool
comes_before one other = nat_lt (place_of one) (place_of other) || (place_of one == place_of other && nat_lt (rank_of one) (rank_of other))

-- of two, the one that comes before; of two of one kind at one place, that of the inner node, which is named first
abbrev pub earlier : Option FilterFault → Option FilterFault → Option FilterFault
earlier None other = other
earlier (Some one) None = Some one
earlier (Some one) (Some other) = if comes_before other one then Some other else Some one

-- the first of several
abbrev pub earliest : List (Option FilterFault) → Option FilterFault
earliest [] = None
earliest (first ∷ more) = earlier first (earliest more)

-- the first fault of a node for each place in which it may stand
pub record Judged : Type 0 where
  -- as a filter
  pub filter : Option FilterFault
  -- as a side of a relation
  pub side : Option FilterFault
  -- as a value in braces
  pub braces : Option FilterFault
  -- on the right side of a constraint on the version
  pub version : Option FilterFault
  -- as a formula
  pub formula : Option FilterFault
  -- before braces
  pub name : Option FilterFault
  -- whether it has a constraint on the version anywhere in it
  pub constrains : Bool

-- what a reading answers that gives up: want of memory, which is free, or else the first fault
abbrev pub IsFaultOf : Option FilterFault → FilterFault → Type 0
IsFaultOf first (NotAFilter span) = first ≡ Some (NotAFilter span)
IsFaultOf first (NotAFormula span) = first ≡ Some (NotAFormula span)
IsFaultOf first (NotText span) = first ≡ Some (NotText span)
IsFaultOf first (BadName span) = first ≡ Some (BadName span)
IsFaultOf first (NegatedVersion span) = first ≡ Some (NegatedVersion span)
IsFaultOf first Memory = Unit {0}

-- a text is UTF-8 without a zero byte
abbrev pub is_text : List ℕ → Bool
is_text bytes = is_utf8 bytes && list_all is_not_zero bytes

-- the fault of a text
abbrev pub text_fault : List ℕ → Span → Option FilterFault
text_fault bytes span = if is_text bytes then None else Some (NotText span)

-- the fault of a text that has to be a name
abbrev pub name_fault : List ℕ → Span → Option FilterFault
name_fault bytes span = if is_name bytes then None else Some (BadName span)

-- no filter: its parts are looked into, and come first
abbrev pub no_filter : Option FilterFault → Span → Option FilterFault
no_filter parts span = earlier parts (Some (NotAFilter span))

-- the first fault of several nodes as filters, as braces, as formulas
abbrev pub of_filters : List Judged → Option FilterFault
of_filters nodes = earliest (map (λ node. node.filter) nodes)

-- the same as values in braces
abbrev pub of_braces : List Judged → Option FilterFault
of_braces nodes = earliest (map (λ node. node.braces) nodes)

-- the same as formulas
abbrev pub of_formulas : List Judged → Option FilterFault
of_formulas nodes = earliest (map (λ node. node.formula) nodes)

-- a value whose parts are judged
abbrev pub Shape : Type 0
Shape = Value-F (Span → Judged) Judged

-- a group of one is what is in it
abbrev pub filter_group : List Judged → Span → Option FilterFault
filter_group (node ∷ []) span = node.filter
filter_group nodes span = no_filter (of_filters nodes) span

-- a filter is a boolean, a text, an identifier, a relation of two such, `! f`, `? f`, `f & f`, `f | f` or a group of one
abbrev pub filter_role : Shape → Span → Option FilterFault
filter_role (Value-F.Flag flag) span = None
filter_role (Value-F.Int number) span = Some (NotAFilter span)
filter_role (Value-F.Text bytes) span = text_fault bytes span
filter_role (Value-F.Ident variable) span = None
filter_role (Value-F.List nodes) span = no_filter (of_filters nodes) span
filter_role (Value-F.Group nodes) span = filter_group nodes span
filter_role (Value-F.Braced node nodes) span = no_filter (earlier node.filter (of_filters nodes)) span
filter_role (Value-F.Not node) span = node.filter
filter_role (Value-F.Defined node) span = node.filter
filter_role (Value-F.Rel op left right) span = earlier left.side right.side
filter_role (Value-F.PreRel op right) span = no_filter right.filter span
filter_role (Value-F.And nodes) span = of_filters nodes
filter_role (Value-F.Or nodes) span = of_filters nodes
filter_role (Value-F.Env op left right) span = no_filter (earlier left.filter right.filter) span

-- a side of a relation is a boolean, a text or an identifier
abbrev pub side_role : Shape → Span → Option FilterFault
side_role (Value-F.Flag flag) span = None
side_role (Value-F.Text bytes) span = text_fault bytes span
side_role (Value-F.Ident variable) span = None
side_role (Value-F.Int number) span = Some (NotAFilter span)
side_role (Value-F.List nodes) span = no_filter (of_filters nodes) span
side_role (Value-F.Group nodes) span = no_filter (of_filters nodes) span
side_role (Value-F.Braced node nodes) span = no_filter (earlier node.filter (of_filters nodes)) span
side_role (Value-F.Not node) span = no_filter node.filter span
side_role (Value-F.Defined node) span = no_filter node.filter span
side_role (Value-F.Rel op left right) span = no_filter (earlier left.side right.side) span
side_role (Value-F.PreRel op right) span = no_filter right.filter span
side_role (Value-F.And nodes) span = no_filter (of_filters nodes) span
side_role (Value-F.Or nodes) span = no_filter (of_filters nodes) span
side_role (Value-F.Env op left right) span = no_filter (earlier left.filter right.filter) span

-- `!` and `?` may not stand over a constraint on the version; what stands under them is judged as in braces
abbrev pub negation : Judged → Span → Option FilterFault
negation node span = earlier (if node.constrains then Some (NegatedVersion span) else None) node.braces

-- the same in braces
abbrev pub braces_group : List Judged → Span → Option FilterFault
braces_group (node ∷ []) span = node.braces
braces_group nodes span = no_filter (of_filters nodes) span

-- in braces a relation without a left side is a constraint on the version; `&`, `|` and groups of one join braces, and all
-- else is a filter
abbrev pub braces_role : Shape → Span → Option FilterFault
braces_role (Value-F.PreRel op right) span = right.version
braces_role (Value-F.And nodes) span = of_braces nodes
braces_role (Value-F.Or nodes) span = of_braces nodes
braces_role (Value-F.Group nodes) span = braces_group nodes span
braces_role (Value-F.Not node) span = negation node span
braces_role (Value-F.Defined node) span = negation node span
braces_role shape span = filter_role shape span

-- the right side of a constraint is a text or an identifier
abbrev pub version_role : Shape → Span → Option FilterFault
version_role (Value-F.Text bytes) span = text_fault bytes span
version_role (Value-F.Ident variable) span = None
version_role shape span = Some (NotAFormula span)

-- before braces stands the name of a package
abbrev pub name_role : Shape → Span → Option FilterFault
name_role (Value-F.Text bytes) span = name_fault bytes span
name_role shape span = Some (NotAFormula span)

-- a formula is built of names, with or without braces, by `&`, `|`, groups and lists; other nodes are not looked into
abbrev pub formula_role : Shape → Span → Option FilterFault
formula_role (Value-F.Text bytes) span = name_fault bytes span
formula_role (Value-F.Braced node nodes) span = earlier node.name (of_braces nodes)
formula_role (Value-F.List nodes) span = of_formulas nodes
formula_role (Value-F.Group nodes) span = of_formulas nodes
formula_role (Value-F.And nodes) span = of_formulas nodes
formula_role (Value-F.Or nodes) span = of_formulas nodes
formula_role shape span = Some (NotAFormula span)

-- some of the nodes has a constraint on the version
abbrev pub some_constrains : List Judged → Bool
some_constrains nodes = list_any (λ node. node.constrains) nodes

-- a node has a constraint on the version in it
abbrev pub constrains_role : Shape → Bool
constrains_role (Value-F.Flag flag) = false
constrains_role (Value-F.Int number) = false
constrains_role (Value-F.Text bytes) = false
constrains_role (Value-F.Ident variable) = false
constrains_role (Value-F.List nodes) = some_constrains nodes
constrains_role (Value-F.Group nodes) = some_constrains nodes
constrains_role (Value-F.Braced node nodes) = node.constrains || some_constrains nodes
constrains_role (Value-F.Not node) = node.constrains
constrains_role (Value-F.Defined node) = node.constrains
constrains_role (Value-F.Rel op left right) = left.constrains || right.constrains
constrains_role (Value-F.PreRel op right) = true
constrains_role (Value-F.And nodes) = some_constrains nodes
constrains_role (Value-F.Or nodes) = some_constrains nodes
constrains_role (Value-F.Env op left right) = left.constrains || right.constrains

-- a value, for each place in which it may stand
abbrev pub shape_judged : Shape → Span → Judged
shape_judged shape span = record {
  filter = filter_role shape span;
  side = side_role shape span;
  braces = braces_role shape span;
  version = version_role shape span;
  formula = formula_role shape span;
  name = name_role shape span;
  constrains = constrains_role shape;
}

-- the same at the span of its node
abbrev pub node_judged : Node-F (Span → Judged) Judged → Judged
node_judged node = node.value node.span

-- the faults of a node
abbrev pub judged : Node → Judged
judged = fold-Node (Span → Judged) Judged shape_judged node_judged
