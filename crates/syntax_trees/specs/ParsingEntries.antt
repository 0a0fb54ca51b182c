-- Parsing of fields, sections and their lists. Words that only the parser's own clauses cite.
use Rattle.std.specs.Prelude.{◌≡◌, ◌≢◌, ℕ, ◌+◌, ◌≤◌, List, [], ◌∷◌, map, Result, Ok, Err}
use Rattle.std.specs.declared.option.Option.{Option}
use Rattle.std.specs.declared.option.Option.TheVariants.{None, Some}
use Rattle.syntax_trees.specs.declared.entry.ReadEntry.{ReadEntry}
use Rattle.syntax_trees.specs.declared.entry.ReadField.{ReadField}
use Rattle.syntax_trees.specs.declared.fault.ParseFault.{ParseFault}
use Rattle.syntax_trees.specs.declared.fault.ParseFault.TheVariants.{Memory}
use Rattle.syntax_trees.specs.declared.parsing.ReadName.{ReadName}
use Rattle.syntax_trees.specs.declared.parsing.FieldsInside.{FieldsInside}
use Rattle.syntax_trees.specs.declared.limits.TheConstants.{NESTING_LIMIT}
use Rattle.syntax_trees.specs.declared.token.Token.{Token}
use Rattle.syntax_trees.specs.declared.token.Token.TheVariants.{Text, Plain, Colon, CloseBraces}
use Rattle.syntax_trees.specs.declared.tree.Node.{Node}
use Rattle.syntax_trees.specs.declared.tree.Span.{Span}
use Rattle.syntax_trees.specs.Tokens.{Placed, placed}
use Rattle.syntax_trees.specs.Grammar.{ValueLevel}
use Rattle.syntax_trees.specs.Files.{Entry, AreFields, AreEntries}
use Rattle.syntax_trees.specs.Nesting.{depth, most, contents_depth, AreShallow}
use Rattle.syntax_trees.specs.Read.{entry_of, read_fields, read_places}
use Rattle.syntax_trees.specs.Parsing.{IsParsed}

-- a plain identifier comes first
abbrev pub ReadsName : List Placed → Result ReadName ParseFault → List Placed → Type 0
ReadsName tokens (Ok name) rest = tokens ≡ placed (Plain name.word) name.span ∷ rest
ReadsName tokens (Err fault) rest = (name : List ℕ) (at : Span) (more : List Placed) → tokens ≢ placed (Plain name) at ∷ more

-- the text that a token is
abbrev pub text_of : Token → Option (List ℕ)
text_of (Text bytes) = Some bytes
text_of token = None

-- the text that comes next
abbrev pub next_text : List Placed → Option (List ℕ)
next_text [] = None
next_text (placed token at ∷ tokens) = text_of token

-- a text is taken, if it comes next
abbrev pub TakesText : List Placed → Option (List ℕ) → List Placed → Type 0
TakesText tokens None rest = (rest ≡ tokens) × (next_text tokens ≡ None)
TakesText tokens (Some text) rest = (at : Span) × (tokens ≡ placed (Text text) at ∷ rest)

-- a name, where it begins, a colon and a value
pub record IsField (allowed : ℕ) (tokens : List Placed) (name : List ℕ) (place : ℕ) (value : Node) (rest : List Placed) : Type 0 where
  pub from : Span
  pub at : Span
  pub more : List Placed
  pub starts : from.start ≡ place
  pub begins : tokens ≡ placed (Plain name) from ∷ placed Colon at ∷ more
  pub parsed : IsParsed ValueLevel allowed more value rest

abbrev pub IsNoField : ℕ → List Placed → Type 0
IsNoField allowed tokens = (name : List ℕ) (place : ℕ) (value : Node) (rest : List Placed) → ¬ (IsField allowed tokens name place value rest)

abbrev pub ReadsField : ℕ → List Placed → Result ReadField ParseFault → List Placed → Type 0
ReadsField allowed tokens (Ok field) rest = IsField allowed tokens field.name field.place field.value rest
ReadsField allowed tokens (Err fault) rest = fault ≢ Memory → IsNoField allowed tokens

-- fields up to the brace that closes their section
pub record AreClosedFields (tokens : List Placed) (fields : List (List ℕ × Node)) (places : List ℕ) (to : Span) (rest : List Placed) : Type 0 where
  pub spelled : AreFields tokens fields places (placed CloseBraces to ∷ rest)
  pub shallow : 1 + most (map (λ field. depth field.1) fields) ≤ NESTING_LIMIT

abbrev pub AreNoFields : List Placed → Type 0
AreNoFields tokens =
    (fields : List (List ℕ × Node)) (places : List ℕ) (to : Span) (rest : List Placed) → ¬ (AreClosedFields tokens fields places to rest)

abbrev pub ReadsFields : List Placed → Result FieldsInside ParseFault → List Placed → Type 0
ReadsFields tokens (Ok inside) rest = AreClosedFields tokens (read_fields inside.fields) (read_places inside.fields) inside.to rest
ReadsFields tokens (Err fault) rest = fault ≢ Memory → AreNoFields tokens

-- whatever entries the tokens spell, this is the first, and those of the rest are the others
pub record IsEntry (tokens : List Placed) (entry : Entry) (rest : List Placed) : Type 0 where
  pub leads : (entries : List Entry) → AreEntries rest entries → AreEntries tokens (entry ∷ entries)
  pub only : (entries : List Entry) → AreEntries tokens entries → (more : List Entry) × (entries ≡ entry ∷ more) × AreEntries rest more
  pub shallow : contents_depth entry.contents ≤ NESTING_LIMIT

-- no shallow entry is the first of what the tokens spell
abbrev pub IsNoEntry : List Placed → Type 0
IsNoEntry tokens = (entry : Entry) (more : List Entry) → AreEntries tokens (entry ∷ more) → ¬ (contents_depth entry.contents ≤ NESTING_LIMIT)

abbrev pub ReadsEntry : List Placed → Result ReadEntry ParseFault → List Placed → Type 0
ReadsEntry tokens (Ok entry) rest = IsEntry tokens (entry_of entry) rest
ReadsEntry tokens (Err fault) rest = fault ≢ Memory → IsNoEntry tokens

-- an entry that is made, but for want of memory
abbrev pub MakesEntry : Entry → Result ReadEntry ParseFault → Type 0
MakesEntry made (Ok entry) = entry_of entry ≡ made
MakesEntry made (Err fault) = fault ≡ Memory

-- no shallow entries are spelled
abbrev pub HasNoShallow : List Placed → Type 0
HasNoShallow tokens = (entries : List Entry) → AreEntries tokens entries → ¬ (AreShallow entries)
