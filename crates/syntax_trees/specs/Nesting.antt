-- Nesting: the open brackets of all three kinds, braces of sections among them, and the prefix operators whose operand is being
-- read. The limit of 64 is this project's own.
use Rattle.std.specs.Prelude.{ℕ, ◌+◌, ◌≤◌, max, List, [], ◌∷◌, map, Bool, nat_lt, nat_le, ◌&&◌, if◌then◌else◌}
use Rattle.std.specs.Option.{unwrap_or}
use Rattle.std.specs.declared.option.Option.{Option}
use Rattle.std.specs.declared.option.Option.TheVariants.{None, Some}
use Rattle.syntax_trees.specs.declared.limits.TheConstants.{NESTING_LIMIT}
use Rattle.syntax_trees.specs.declared.tree.Node.{Node}
use Rattle.syntax_trees.specs.declared.tree.Span.{Span}
use Rattle.syntax_trees.specs.declared.tree.Value.TheOpen.{Value-F, Node-F}
use Rattle.syntax_trees.specs.declared.tree.Value.TheFolds.{fold-Node}
use Rattle.syntax_trees.specs.Files.{Contents, FieldContents, SectionContents, Entry}

-- the largest of numbers, or 0
abbrev pub most : List ℕ → ℕ
most [] = 0
most (n ∷ numbers) = max n (most numbers)

-- how deeply a value nests, from how deeply its parts do
abbrev pub layer_depth : Value-F ℕ ℕ → ℕ
layer_depth (Value-F.Flag flag) = 0
layer_depth (Value-F.Int number) = 0
layer_depth (Value-F.Text bytes) = 0
layer_depth (Value-F.Ident variable) = 0
layer_depth (Value-F.List nodes) = 1 + most nodes
layer_depth (Value-F.Group nodes) = 1 + most nodes
layer_depth (Value-F.Braced value nodes) = max value (1 + most nodes)
layer_depth (Value-F.Not value) = 1 + value
layer_depth (Value-F.Defined value) = 1 + value
layer_depth (Value-F.Rel op left right) = max left right
layer_depth (Value-F.PreRel op right) = right
layer_depth (Value-F.And nodes) = most nodes
layer_depth (Value-F.Or nodes) = most nodes
layer_depth (Value-F.Env op left right) = max left right

-- a span adds nothing
abbrev pub node_depth : Node-F ℕ ℕ → ℕ
node_depth node = node.value

-- how deeply a node nests
abbrev pub depth : Node → ℕ
depth = fold-Node ℕ ℕ layer_depth node_depth

-- the braces of a section count
abbrev pub contents_depth : Contents → ℕ
contents_depth (FieldContents value) = depth value
contents_depth (SectionContents fields) = 1 + most (map (λ field. depth field.1) fields)

-- nothing nests deeper than 64
abbrev pub AreShallow : List Entry → Type 0
AreShallow entries = most (map (λ entry. contents_depth entry.contents) entries) ≤ NESTING_LIMIT

-- the first that is there
abbrev pub first_of : Option ℕ → Option ℕ → Option ℕ
first_of None other = other
first_of (Some n) other = Some n

-- the first that is there of several
abbrev pub first_among : List (Option ℕ) → Option ℕ
first_among [] = None
first_among (found ∷ more) = first_of found (first_among more)

-- within one bracket or prefix operator more
abbrev pub deeper : Option ℕ → Option ℕ
deeper None = None
deeper (Some n) = Some (1 + n)

-- in how many brackets and prefix operators of a value a place stands that is in one of its parts
abbrev pub layer_around : Value-F (Option ℕ) (Option ℕ) → Option ℕ
layer_around (Value-F.Flag flag) = None
layer_around (Value-F.Int number) = None
layer_around (Value-F.Text bytes) = None
layer_around (Value-F.Ident variable) = None
layer_around (Value-F.List nodes) = deeper (first_among nodes)
layer_around (Value-F.Group nodes) = deeper (first_among nodes)
layer_around (Value-F.Braced value nodes) = first_of value (deeper (first_among nodes))
layer_around (Value-F.Not value) = deeper value
layer_around (Value-F.Defined value) = deeper value
layer_around (Value-F.Rel op left right) = first_of left right
layer_around (Value-F.PreRel op right) = right
layer_around (Value-F.And nodes) = first_among nodes
layer_around (Value-F.Or nodes) = first_among nodes
layer_around (Value-F.Env op left right) = first_of left right

-- a place lies in a span
abbrev pub is_in : ℕ → Span → Bool
is_in place span = nat_le span.start place && nat_lt place span.end

-- a place in a node that is in none of its parts is that of one of its own signs, which stands in nothing of the node
abbrev pub node_around : ℕ → Node-F (Option ℕ) (Option ℕ) → Option ℕ
node_around place node = if is_in place node.span then first_of node.value (Some 0) else None

-- in how many brackets and prefix operators of the node a place in it stands; none, if it is not in the node
abbrev pub around : ℕ → Node → Option ℕ
around place = fold-Node (Option ℕ) (Option ℕ) layer_around (node_around place)

-- in how many of an item's brackets and prefix operators a place stands
abbrev pub contents_around : ℕ → Contents → Option ℕ
contents_around place (FieldContents value) = around place value
contents_around place (SectionContents fields) = deeper (first_among (map (λ field. around place field.1) fields))

-- the nesting of a place of a file: none outside of values and sections
abbrev pub nesting_at : ℕ → List Entry → ℕ
nesting_at place entries = unwrap_or (first_among (map (λ entry. contents_around place entry.contents) entries)) 0
