-- The filter, the braces and the formula that a node is, where it has no fault in that place.
use Rattle.std.specs.Prelude.{ℕ, List, [], ◌∷◌, map}
use Rattle.syntax_trees.specs.declared.tree.Node.{Node}
use Rattle.syntax_trees.specs.declared.tree.Value.TheOpen.{Value-F, Node-F}
use Rattle.syntax_trees.specs.declared.tree.Value.TheFolds.{fold-Node}
use Rattle.opam_filter.specs.declared.filter.Filter.{Filter, roll-Filter}
use Rattle.opam_filter.specs.declared.filter.Filter.TheOpen.{Filter-F}
use Rattle.opam_filter.specs.declared.formula.Formula.{Formula, roll-Formula}
use Rattle.opam_filter.specs.declared.formula.Formula.TheOpen.{Formula-F}
use Rattle.opam_filter.specs.declared.formula.Braces.{Braces, roll-Braces}
use Rattle.opam_filter.specs.declared.formula.Braces.TheOpen.{Braces-F}

-- what a node is read as, by the place in which it stands
pub record Read : Type 0 where
  pub filter : Filter
  pub braces : Braces
  pub formula : Formula
  -- the name before braces
  pub name : List ℕ

-- what stands for a node with a fault: such a node is never read
abbrev pub none : Filter
none = roll-Filter (Filter-F.Or [])

-- a value whose parts are read
abbrev pub Shape : Type 0
Shape = Value-F Read Read

-- a value as a filter
abbrev pub as_filter : Shape → Filter
as_filter (Value-F.Flag flag) = roll-Filter (Filter-F.Flag flag)
as_filter (Value-F.Text bytes) = roll-Filter (Filter-F.Text bytes)
as_filter (Value-F.Ident variable) = roll-Filter (Filter-F.Var variable)
as_filter (Value-F.Group (node ∷ [])) = node.filter
as_filter (Value-F.Not node) = roll-Filter (Filter-F.Not node.filter)
as_filter (Value-F.Defined node) = roll-Filter (Filter-F.Defined node.filter)
as_filter (Value-F.Rel op left right) = roll-Filter (Filter-F.Rel op left.filter right.filter)
as_filter (Value-F.And nodes) = roll-Filter (Filter-F.And (map (λ node. node.filter) nodes))
as_filter (Value-F.Or nodes) = roll-Filter (Filter-F.Or (map (λ node. node.filter) nodes))
as_filter shape = none

-- values in braces join by `&`
abbrev pub all_braces : List Read → Braces
all_braces nodes = roll-Braces (Braces-F.And (map (λ node. node.braces) nodes))

-- a value in braces
abbrev pub as_braces : Shape → Braces
as_braces (Value-F.PreRel op right) = roll-Braces (Braces-F.Version op right.filter)
as_braces (Value-F.And nodes) = all_braces nodes
as_braces (Value-F.Or nodes) = roll-Braces (Braces-F.Or (map (λ node. node.braces) nodes))
as_braces (Value-F.Group (node ∷ [])) = node.braces
as_braces shape = roll-Braces (Braces-F.Filter (as_filter shape))

-- formulas join by `&`
abbrev pub all_formulas : List Read → Formula
all_formulas nodes = roll-Formula (Formula-F.And (map (λ node. node.formula) nodes))

-- a group of one is what is in it
abbrev pub formula_group : List Read → Formula
formula_group (node ∷ []) = node.formula
formula_group nodes = all_formulas nodes

-- a group of one reads as what is in it; lists and other groups join by `&`
abbrev pub as_formula : Shape → Formula
as_formula (Value-F.Text bytes) = roll-Formula (Formula-F.Atom bytes (all_braces []))
as_formula (Value-F.Braced node nodes) = roll-Formula (Formula-F.Atom node.name (all_braces nodes))
as_formula (Value-F.List nodes) = all_formulas nodes
as_formula (Value-F.Group nodes) = formula_group nodes
as_formula (Value-F.And nodes) = all_formulas nodes
as_formula (Value-F.Or nodes) = roll-Formula (Formula-F.Or (map (λ node. node.formula) nodes))
as_formula shape = all_formulas []

-- a text as a name
abbrev pub as_name : Shape → List ℕ
as_name (Value-F.Text bytes) = bytes
as_name shape = []

-- a value, for each place in which it may stand
abbrev pub shape_read : Shape → Read
shape_read shape = record { filter = as_filter shape; braces = as_braces shape; formula = as_formula shape; name = as_name shape }

-- a span adds nothing
abbrev pub node_read : Node-F Read Read → Read
node_read node = node.value

-- what a node is read as
abbrev pub read : Node → Read
read = fold-Node Read Read shape_read node_read
