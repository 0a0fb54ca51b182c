-- The grammar of values (opam manual, file format: grammar). `Spells level tokens node rest`: the tokens begin with some that
-- spell the node, as a value that binds as tightly as the level says, and the rest stands after them.
use Rattle.std.specs.Prelude.{◌≡◌, List, [], ◌∷◌, Bool, true, false, IsFalse}
use Rattle.std.specs.declared.option.Option.{Option}
use Rattle.std.specs.declared.option.Option.TheVariants.{None, Some}
use Rattle.syntax_trees.specs.declared.token.Token.{Token}
use Rattle.syntax_trees.specs.declared.token.Token.TheVariants.{Flag, Int, Text, Plain, Scoped, OpenList, CloseList, OpenBraces, CloseBraces, OpenGroup, CloseGroup, Relation, Update, And, Or, Not, Defined}
use Rattle.syntax_trees.specs.declared.tree.RelOp.{RelOp}
use Rattle.syntax_trees.specs.declared.tree.EnvOp.{EnvOp}
use Rattle.syntax_trees.specs.declared.tree.Span.{Span}
use Rattle.syntax_trees.specs.declared.tree.Node.{Node}
use Rattle.syntax_trees.specs.declared.tree.Value.{Value, roll-Value}
use Rattle.syntax_trees.specs.declared.tree.Value.TheOpen.{Value-F}
use Rattle.syntax_trees.specs.Tokens.{Placed, placed}

-- from the loosest to the tightest
pub data Level : Type 0 where
  ValueLevel : Level
  OrLevel : Level
  AndLevel : Level
  UnaryLevel : Level
  RelationLevel : Level
  BracedLevel : Level
  PrimaryLevel : Level

-- the value that one token spells
abbrev pub atom_of : Token → Option Value
atom_of (Flag flag) = Some (roll-Value (Value-F.Flag flag))
atom_of (Int number) = Some (roll-Value (Value-F.Int number))
atom_of (Text bytes) = Some (roll-Value (Value-F.Text bytes))
atom_of (Plain name) = Some (roll-Value (Value-F.Ident (record { scope = None; name = name })))
atom_of (Scoped scope name) = Some (roll-Value (Value-F.Ident (record { scope = Some scope; name = name })))
atom_of token = None

-- a node whose spelling goes from the start of one span to the end of another
abbrev pub node : Value-F Value Node → Span → Span → Node
node value from to = record { value = roll-Value value; span = record { start = from.start; end = to.end } }

-- the span of the last of several nodes
abbrev pub last_span : Node → List Node → Span
last_span first [] = first.span
last_span first (next ∷ more) = last_span next more

-- one part stands for itself, several are joined
abbrev pub all_of : Node → List Node → Node
all_of first [] = first
all_of first (next ∷ more) = node (Value-F.And (first ∷ next ∷ more)) first.span (last_span next more)

-- the same joined by `|`
abbrev pub any_of : Node → List Node → Node
any_of first [] = first
any_of first (next ∷ more) = node (Value-F.Or (first ∷ next ∷ more)) first.span (last_span next more)

-- the sign of a relation comes next
abbrev pub begins_relation : List Placed → Bool
begins_relation (placed (Relation op) at ∷ tokens) = true
begins_relation tokens = false

mutual
  pub data Spells : Level → List Placed → Node → List Placed → Type 0 where
    -- primary = boolean | integer | text | plain | scoped | "[" { value } "]" | "(" { value } ")"
    atom : {token : Token} {value : Value} {span : Span} {rest : List Placed} → atom_of token ≡ Some value
        → Spells PrimaryLevel (placed token span ∷ rest) (record { value = value; span = span }) rest
    list : {from to : Span} {tokens rest : List Placed} {nodes : List Node}
        → AreValues tokens nodes (placed CloseList to ∷ rest)
        → Spells PrimaryLevel (placed OpenList from ∷ tokens) (node (Value-F.List nodes) from to) rest
    group : {from to : Span} {tokens rest : List Placed} {nodes : List Node}
        → AreValues tokens nodes (placed CloseGroup to ∷ rest)
        → Spells PrimaryLevel (placed OpenGroup from ∷ tokens) (node (Value-F.Group nodes) from to) rest
    -- braced = primary [ "{" { value } "}" ]
    bare : {tokens rest : List Placed} {value : Node} → Spells PrimaryLevel tokens value rest → Spells BracedLevel tokens value rest
    braced : {from to : Span} {tokens inner rest : List Placed} {value : Node} {nodes : List Node}
        → Spells PrimaryLevel tokens value (placed OpenBraces from ∷ inner) → AreValues inner nodes (placed CloseBraces to ∷ rest)
        → Spells BracedLevel tokens (node (Value-F.Braced value nodes) value.span to) rest
    -- relation = rel braced | braced [ rel braced ], where a sign that stands after the left side joins to it
    pre_relation : {op : RelOp} {from : Span} {tokens rest : List Placed} {right : Node} → Spells BracedLevel tokens right rest
        → Spells RelationLevel (placed (Relation op) from ∷ tokens) (node (Value-F.PreRel op right) from right.span) rest
    alone : {tokens rest : List Placed} {value : Node} → Spells BracedLevel tokens value rest → IsFalse (begins_relation rest)
        → Spells RelationLevel tokens value rest
    relation : {op : RelOp} {at : Span} {tokens more rest : List Placed} {left right : Node}
        → Spells BracedLevel tokens left (placed (Relation op) at ∷ more) → Spells BracedLevel more right rest
        → Spells RelationLevel tokens (node (Value-F.Rel op left right) left.span right.span) rest
    -- unary = ( "!" | "?" ) unary | relation
    no_prefix : {tokens rest : List Placed} {value : Node} → Spells RelationLevel tokens value rest → Spells UnaryLevel tokens value rest
    negation : {from : Span} {tokens rest : List Placed} {value : Node} → Spells UnaryLevel tokens value rest
        → Spells UnaryLevel (placed Not from ∷ tokens) (node (Value-F.Not value) from value.span) rest
    definedness : {from : Span} {tokens rest : List Placed} {value : Node} → Spells UnaryLevel tokens value rest
        → Spells UnaryLevel (placed Defined from ∷ tokens) (node (Value-F.Defined value) from value.span) rest
    -- and = unary { "&" unary }
    conjunction : {tokens rest : List Placed} {first : Node} {more : List Node} → AreConjuncts tokens first more rest
        → Spells AndLevel tokens (all_of first more) rest
    -- or = and { "|" and }
    disjunction : {tokens rest : List Placed} {first : Node} {more : List Node} → AreDisjuncts tokens first more rest
        → Spells OrLevel tokens (any_of first more) rest
    -- value = or [ ( "+=" | "=+" | ":=" | "=:" ) or ]
    no_update : {tokens rest : List Placed} {value : Node} → Spells OrLevel tokens value rest → Spells ValueLevel tokens value rest
    update : {op : EnvOp} {at : Span} {tokens more rest : List Placed} {left right : Node}
        → Spells OrLevel tokens left (placed (Update op) at ∷ more) → Spells OrLevel more right rest
        → Spells ValueLevel tokens (node (Value-F.Env op left right) left.span right.span) rest

  -- { value }
  pub data AreValues : List Placed → List Node → List Placed → Type 0 where
    no_value : {rest : List Placed} → AreValues rest [] rest
    value : {tokens between rest : List Placed} {first : Node} {more : List Node} → Spells ValueLevel tokens first between
        → AreValues between more rest → AreValues tokens (first ∷ more) rest

  -- unary { "&" unary }: the first, and the others
  pub data AreConjuncts : List Placed → Node → List Node → List Placed → Type 0 where
    last_conjunct : {tokens rest : List Placed} {last : Node} → Spells UnaryLevel tokens last rest → AreConjuncts tokens last [] rest
    conjunct : {at : Span} {tokens between rest : List Placed} {first next : Node} {more : List Node}
        → Spells UnaryLevel tokens first (placed And at ∷ between) → AreConjuncts between next more rest
        → AreConjuncts tokens first (next ∷ more) rest

  -- and { "|" and }
  pub data AreDisjuncts : List Placed → Node → List Node → List Placed → Type 0 where
    last_disjunct : {tokens rest : List Placed} {last : Node} → Spells AndLevel tokens last rest → AreDisjuncts tokens last [] rest
    disjunct : {at : Span} {tokens between rest : List Placed} {first next : Node} {more : List Node}
        → Spells AndLevel tokens first (placed Or at ∷ between) → AreDisjuncts between next more rest
        → AreDisjuncts tokens first (next ∷ more) rest
