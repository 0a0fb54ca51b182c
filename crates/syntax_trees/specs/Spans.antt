-- Spans that lie within so many bytes: they are not empty, and end at the last byte or before.
use Rattle.std.specs.Prelude.{ℕ, Bool, true, nat_lt, nat_le, ◌&&◌}
use Rattle.std.specs.List.{list_all}
use Rattle.syntax_trees.specs.declared.tree.Node.{Node}
use Rattle.syntax_trees.specs.declared.tree.Span.{Span}
use Rattle.syntax_trees.specs.declared.tree.Value.TheOpen.{Value-F, Node-F}
use Rattle.syntax_trees.specs.declared.tree.Value.TheFolds.{fold-Node}
use Rattle.syntax_trees.specs.Files.{Contents, FieldContents, SectionContents}

-- the span of some bytes, within so many
abbrev pub span_within : ℕ → Span → Bool
span_within total span = nat_lt span.start span.end && nat_le span.end total

-- whether the parts of a value do, each with all of its parts
abbrev pub parts_within : Value-F Bool Bool → Bool
parts_within (Value-F.Flag flag) = true
parts_within (Value-F.Int number) = true
parts_within (Value-F.Text bytes) = true
parts_within (Value-F.Ident variable) = true
parts_within (Value-F.List nodes) = list_all (λ node. node) nodes
parts_within (Value-F.Group nodes) = list_all (λ node. node) nodes
parts_within (Value-F.Braced value nodes) = value && list_all (λ node. node) nodes
parts_within (Value-F.Not value) = value
parts_within (Value-F.Defined value) = value
parts_within (Value-F.Rel op left right) = left && right
parts_within (Value-F.PreRel op right) = right
parts_within (Value-F.And nodes) = list_all (λ node. node) nodes
parts_within (Value-F.Or nodes) = list_all (λ node. node) nodes
parts_within (Value-F.Env op left right) = left && right

-- the span of a node and those of its parts
abbrev pub node_within : ℕ → Node-F Bool Bool → Bool
node_within total node = span_within total node.span && node.value

-- a node and all that is in it
abbrev pub within : ℕ → Node → Bool
within total = fold-Node Bool Bool parts_within (node_within total)

-- the spans in an item
abbrev pub contents_within : ℕ → Contents → Bool
contents_within total (FieldContents value) = within total value
contents_within total (SectionContents fields) = list_all (λ field. within total field.1) fields
