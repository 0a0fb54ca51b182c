-- Parsing by levels: a value is parsed as far as it goes, so that what stands after it does not go on with it. Words that only the
-- parser's own clauses cite.
use Rattle.std.specs.Prelude.{◌≡◌, ◌≢◌, ℕ, ◌+◌, ◌<◌, ◌≤◌, ◌&&◌, length, List, [], ◌∷◌, map, Bool, true, false, Result, Ok, Err}
use Rattle.std.specs.declared.option.Option.{Option}
use Rattle.std.specs.declared.option.Option.TheVariants.{None, Some}
use Rattle.syntax_trees.specs.declared.fault.ParseFault.{ParseFault}
use Rattle.syntax_trees.specs.declared.fault.ParseFault.TheVariants.{Memory}
use Rattle.syntax_trees.specs.declared.token.Token.{Token}
use Rattle.syntax_trees.specs.declared.token.Token.TheVariants.{Flag, Int, Text, Plain, Scoped, Colon, OpenList, CloseList, OpenBraces, CloseBraces, OpenGroup, CloseGroup, Relation, Update, And, Or, Not, Defined}
use Rattle.syntax_trees.specs.declared.token.PlacedToken.{PlacedToken}
use Rattle.syntax_trees.specs.declared.queue.Sign.{Sign}
use Rattle.syntax_trees.specs.declared.queue.Sign.TheVariants as sign
use Rattle.syntax_trees.specs.declared.queue.Prefix.{Prefix}
use Rattle.syntax_trees.specs.declared.queue.Prefix.TheVariants as prefix
use Rattle.syntax_trees.specs.declared.queue.Bracket.{Bracket}
use Rattle.syntax_trees.specs.declared.queue.Bracket.TheVariants as bracket
use Rattle.syntax_trees.specs.declared.tree.RelOp.{RelOp}
use Rattle.syntax_trees.specs.declared.tree.EnvOp.{EnvOp}
use Rattle.syntax_trees.specs.declared.tree.Span.{Span}
use Rattle.syntax_trees.specs.declared.tree.Node.{Node}
use Rattle.syntax_trees.specs.declared.tree.Value.TheOpen.{Value-F}
use Rattle.syntax_trees.specs.declared.values.Beginning.{Beginning}
use Rattle.syntax_trees.specs.declared.values.Beginning.TheVariants as beginning
use Rattle.syntax_trees.specs.declared.values.Enclosed.{Enclosed}
use Rattle.syntax_trees.specs.Tokens.{Placed, placed}
use Rattle.syntax_trees.specs.Read.{placed_of}
use Rattle.syntax_trees.specs.Grammar.{Level, ValueLevel, OrLevel, AndLevel, PrimaryLevel, atom_of, node, all_of, any_of, Spells, AreValues, AreConjuncts, AreDisjuncts}
use Rattle.syntax_trees.specs.Nesting.{depth, most}

-- a token that goes on with what stands before it, at some level
pub data Follower : Type 0 where
  Braces : Follower
  Ampersand : Follower
  Bar : Follower
  Assignment : Follower
  Other : Follower

abbrev pub follower : Token → Follower
follower OpenBraces = Braces
follower And = Ampersand
follower Or = Bar
follower (Update op) = Assignment
follower token = Other

abbrev pub stops_at : Level → Follower → Bool
stops_at PrimaryLevel f = true
stops_at ValueLevel Other = true
stops_at ValueLevel f = false
stops_at OrLevel Other = true
stops_at OrLevel Assignment = true
stops_at OrLevel f = false
stops_at AndLevel Other = true
stops_at AndLevel Assignment = true
stops_at AndLevel Bar = true
stops_at AndLevel f = false
stops_at level Braces = false
stops_at level f = true

-- what follows does not go on with a value of the level
abbrev pub stops : Level → List Placed → Bool
stops level [] = true
stops level (placed token at ∷ tokens) = stops_at level (follower token)

-- the token that a sign is
abbrev pub sign_token : Sign → Token
sign_token sign.Colon = Colon
sign_token sign.CloseList = CloseList
sign_token sign.OpenBraces = OpenBraces
sign_token sign.CloseBraces = CloseBraces
sign_token sign.CloseGroup = CloseGroup
sign_token sign.And = And
sign_token sign.Or = Or

-- the sign that a token is
abbrev pub sign_of : Token → Option Sign
sign_of Colon = Some sign.Colon
sign_of CloseList = Some sign.CloseList
sign_of OpenBraces = Some sign.OpenBraces
sign_of CloseBraces = Some sign.CloseBraces
sign_of CloseGroup = Some sign.CloseGroup
sign_of And = Some sign.And
sign_of Or = Some sign.Or
sign_of token = None

-- the first token
abbrev pub first_token : List Placed → Option Token
first_token [] = None
first_token (placed token at ∷ tokens) = Some token

-- the sign that comes next
abbrev pub next_sign : List Placed → Option Sign
next_sign [] = None
next_sign (placed token at ∷ tokens) = sign_of token

-- what a taken token leaves
abbrev pub Takes : List Placed → Option PlacedToken → List Placed → Type 0
Takes tokens None rest = tokens ≡ []
Takes tokens (Some token) rest = tokens ≡ placed_of token ∷ rest

-- the sign is taken, if it comes next
abbrev pub TakesSign : Sign → List Placed → Option Span → List Placed → Type 0
TakesSign sign tokens None rest = (rest ≡ tokens) × (next_sign tokens ≢ Some sign)
TakesSign sign tokens (Some at) rest = tokens ≡ placed (sign_token sign) at ∷ rest

-- the sign of a relation
abbrev pub relation_of : Token → Option RelOp
relation_of (Relation op) = Some op
relation_of token = None

abbrev pub next_relation : List Placed → Option RelOp
next_relation [] = None
next_relation (placed token at ∷ tokens) = relation_of token

abbrev pub TakesRelation : List Placed → Option (RelOp × Span) → List Placed → Type 0
TakesRelation tokens None rest = (rest ≡ tokens) × (next_relation tokens ≡ None)
TakesRelation tokens (Some sign) rest = tokens ≡ placed (Relation sign.0) sign.1 ∷ rest

-- the sign of an update
abbrev pub update_of : Token → Option EnvOp
update_of (Update op) = Some op
update_of token = None

abbrev pub next_update : List Placed → Option EnvOp
next_update [] = None
next_update (placed token at ∷ tokens) = update_of token

abbrev pub TakesUpdate : List Placed → Option (EnvOp × Span) → List Placed → Type 0
TakesUpdate tokens None rest = (rest ≡ tokens) × (next_update tokens ≡ None)
TakesUpdate tokens (Some sign) rest = tokens ≡ placed (Update sign.0) sign.1 ∷ rest

-- a prefix operator
abbrev pub prefix_token : Prefix → Token
prefix_token prefix.Not = Not
prefix_token prefix.Defined = Defined

-- a node with such an operator before its operand
abbrev pub prefix_node : Prefix → Span → Node → Node
prefix_node prefix.Not from operand = node (Value-F.Not operand) from operand.span
prefix_node prefix.Defined from operand = node (Value-F.Defined operand) from operand.span

abbrev pub prefix_of : Token → Option Prefix
prefix_of Not = Some prefix.Not
prefix_of Defined = Some prefix.Defined
prefix_of token = None

abbrev pub next_prefix : List Placed → Option Prefix
next_prefix [] = None
next_prefix (placed token at ∷ tokens) = prefix_of token

abbrev pub TakesPrefix : List Placed → Option (Prefix × Span) → List Placed → Type 0
TakesPrefix tokens None rest = (rest ≡ tokens) × (next_prefix tokens ≡ None)
TakesPrefix tokens (Some sign) rest = tokens ≡ placed (prefix_token sign.0) sign.1 ∷ rest

-- how a primary begins
abbrev pub IsBeginning : Token → Beginning → Type 0
IsBeginning token (beginning.Atom value) = atom_of token ≡ Some value
IsBeginning token beginning.OpenList = token ≡ OpenList
IsBeginning token beginning.OpenGroup = token ≡ OpenGroup
IsBeginning token beginning.Stray = (atom_of token ≡ None) × (token ≢ OpenList) × (token ≢ OpenGroup)

-- what is made, but for want of memory
abbrev pub Makes : {A : Type 0} → A → Result A ParseFault → Type 0
Makes made (Ok value) = value ≡ made
Makes made (Err fault) = fault ≡ Memory

-- a node with which tokens begin, at a level and no deeper than is allowed; what stands after it does not go on with it
pub record IsParsed (level : Level) (allowed : ℕ) (tokens : List Placed) (node : Node) (rest : List Placed) : Type 0 where
  pub spelled : Spells level tokens node rest
  pub stopped : stops level rest ≡ true
  pub shallow : depth node ≤ allowed

-- the tokens begin with no such node
abbrev pub IsRefused : Level → ℕ → List Placed → Type 0
IsRefused level allowed tokens = (node : Node) (rest : List Placed) → ¬ (IsParsed level allowed tokens node rest)

-- a node is parsed, or there is none
abbrev pub Parses : Level → ℕ → List Placed → Result Node ParseFault → List Placed → Type 0
Parses level allowed tokens (Ok node) rest = IsParsed level allowed tokens node rest
Parses level allowed tokens (Err fault) rest = fault ≢ Memory → IsRefused level allowed tokens

-- a token that is a value
abbrev pub is_atom : Token → Bool
is_atom (Flag flag) = true
is_atom (Int number) = true
is_atom (Text bytes) = true
is_atom (Plain name) = true
is_atom (Scoped scope name) = true
is_atom token = false

-- a token that goes on with no atom, at no level
abbrev pub ends_value : Token → Bool
ends_value OpenBraces = false
ends_value And = false
ends_value Or = false
ends_value (Relation op) = false
ends_value (Update op) = false
ends_value token = true

-- such tokens, or none
abbrev pub end_value : List Placed → Bool
end_value [] = true
end_value (placed token at ∷ tokens) = ends_value token

-- an atom, and nothing that goes on with it
abbrev pub next_is_lone : List Placed → Bool
next_is_lone [] = false
next_is_lone (placed token at ∷ tokens) = is_atom token && end_value tokens

-- a value that is an atom, whatever is allowed, or nothing is taken
abbrev pub ReadsLoneAtom : List Placed → Option Node → List Placed → Type 0
ReadsLoneAtom tokens None rest = rest ≡ tokens
ReadsLoneAtom tokens (Some node) rest = ((allowed : ℕ) → IsParsed ValueLevel allowed tokens node rest) × (length rest < length tokens)

-- the sign that closes a bracket
abbrev pub closing : Bracket → Sign
closing bracket.List = sign.CloseList
closing bracket.Group = sign.CloseGroup
closing bracket.Braces = sign.CloseBraces

-- values up to the sign that closes their bracket
pub record AreEnclosed (bracket : Bracket) (allowed : ℕ) (tokens : List Placed) (nodes : List Node) (to : Span) (rest : List Placed) : Type 0 where
  pub spelled : AreValues tokens nodes (placed (sign_token (closing bracket)) to ∷ rest)
  pub shallow : 1 + most (map depth nodes) ≤ allowed

-- no such values
abbrev pub AreNoneEnclosed : Bracket → ℕ → List Placed → Type 0
AreNoneEnclosed bracket allowed tokens =
    (nodes : List Node) (to : Span) (rest : List Placed) → ¬ (AreEnclosed bracket allowed tokens nodes to rest)

-- values are parsed, or there are none
abbrev pub Encloses : Bracket → ℕ → List Placed → Result Enclosed ParseFault → List Placed → Type 0
Encloses bracket allowed tokens (Ok enclosed) rest = AreEnclosed bracket allowed tokens enclosed.nodes enclosed.to rest
Encloses bracket allowed tokens (Err fault) rest = fault ≢ Memory → AreNoneEnclosed bracket allowed tokens

-- several parts that are joined by `&`
abbrev pub AreAll : List Placed → List Node → List Placed → Type 0
AreAll tokens [] rest = ⊥
AreAll tokens (first ∷ more) rest = AreConjuncts tokens first more rest

-- the same joined by `|`
abbrev pub AreAny : List Placed → List Node → List Placed → Type 0
AreAny tokens [] rest = ⊥
AreAny tokens (first ∷ more) rest = AreDisjuncts tokens first more rest

-- the parts that stand after the first and its sign, as far as they go
pub record AreJoined (level : Level) (Spell : List Placed → List Node → List Placed → Type 0) (allowed : ℕ) (tokens : List Placed) (parts : List Node) (rest : List Placed) : Type 0 where
  pub spelled : Spell tokens parts rest
  pub stopped : stops level rest ≡ true
  pub shallow : most (map depth parts) ≤ allowed

abbrev pub AreNoneJoined : Level → (List Placed → List Node → List Placed → Type 0) → ℕ → List Placed → Type 0
AreNoneJoined level Spell allowed tokens = (parts : List Node) (rest : List Placed) → ¬ (AreJoined level Spell allowed tokens parts rest)

-- the first and the others are joined, or there are no others
abbrev pub JoinsAll : Node → ℕ → List Placed → Result Node ParseFault → List Placed → Type 0
JoinsAll first allowed tokens (Ok joined) rest = (parts : List Node) × AreJoined AndLevel AreAll allowed tokens parts rest × (joined ≡ all_of first parts)
JoinsAll first allowed tokens (Err fault) rest = fault ≢ Memory → AreNoneJoined AndLevel AreAll allowed tokens

abbrev pub JoinsAny : Node → ℕ → List Placed → Result Node ParseFault → List Placed → Type 0
JoinsAny first allowed tokens (Ok joined) rest = (parts : List Node) × AreJoined OrLevel AreAny allowed tokens parts rest × (joined ≡ any_of first parts)
JoinsAny first allowed tokens (Err fault) rest = fault ≢ Memory → AreNoneJoined OrLevel AreAny allowed tokens
