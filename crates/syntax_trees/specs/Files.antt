-- Files: fields, and sections of fields (opam manual, file format: general syntax).
use Rattle.std.specs.Prelude.{ℕ, List, [], ◌∷◌, length, true, false}
use Rattle.std.specs.declared.option.Option.{Option}
use Rattle.std.specs.declared.option.Option.TheVariants.{None, Some}
use Rattle.syntax_trees.specs.declared.file.Key.{Key}
use Rattle.syntax_trees.specs.declared.token.Token.TheVariants.{Plain, Text, Colon, OpenBraces, CloseBraces}
use Rattle.syntax_trees.specs.declared.tree.Node.{Node}
use Rattle.syntax_trees.specs.declared.tree.Span.{Span}
use Rattle.syntax_trees.specs.Tokens.{Placed, placed, AreTokens}
use Rattle.syntax_trees.specs.Grammar.{Spells, ValueLevel}

-- the value of a field, or the fields of a section
pub data Contents : Type 0 where
  FieldContents : Node → Contents
  SectionContents : List (List ℕ × Node) → Contents

-- an item of a file, as it stands there: doubled names and all
pub record Entry : Type 0 where
  pub key : Key
  pub contents : Contents
  pub span : Span
  pub places : List ℕ  -- where the names of the fields of a section begin

-- a field, from the start of its name to the end of its value
abbrev pub field_entry : List ℕ → Span → Node → Entry
field_entry name from value = record {
  key = record { name = name; section = false; label = None };
  contents = FieldContents value;
  span = record { start = from.start; end = value.span.end };
  places = [];
}

-- a section, from the start of its name to its closing brace
abbrev pub section_entry : List ℕ → Option (List ℕ) → Span → List (List ℕ × Node) → List ℕ → Span → Entry
section_entry name label from fields places to = record {
  key = record { name = name; section = true; label = label };
  contents = SectionContents fields;
  span = record { start = from.start; end = to.end };
  places = places;
}

-- { field }, where field = plain ":" value: the fields, where their names begin, and the tokens that stand after them
pub data AreFields : List Placed → List (List ℕ × Node) → List ℕ → List Placed → Type 0 where
  no_field : {rest : List Placed} → AreFields rest [] [] rest
  field : {name : List ℕ} {from at : Span} {tokens between rest : List Placed} {value : Node} {fields : List (List ℕ × Node)} {places : List ℕ}
      → Spells ValueLevel tokens value between → AreFields between fields places rest
      → AreFields (placed (Plain name) from ∷ placed Colon at ∷ tokens) ((name, value) ∷ fields) (from.start ∷ places) rest

-- file = { field | section }, where section = plain [ text ] "{" { field } "}"
pub data AreEntries : List Placed → List Entry → Type 0 where
  no_entry : AreEntries [] []
  field_next : {name : List ℕ} {from at : Span} {tokens between : List Placed} {value : Node} {entries : List Entry}
      → Spells ValueLevel tokens value between → AreEntries between entries
      → AreEntries (placed (Plain name) from ∷ placed Colon at ∷ tokens) (field_entry name from value ∷ entries)
  section_next : {name : List ℕ} {from at to : Span} {tokens between : List Placed} {fields : List (List ℕ × Node)} {places : List ℕ} {entries : List Entry}
      → AreFields tokens fields places (placed CloseBraces to ∷ between) → AreEntries between entries
      → AreEntries (placed (Plain name) from ∷ placed OpenBraces at ∷ tokens) (section_entry name None from fields places to ∷ entries)
  labelled_next : {name label : List ℕ} {from by at to : Span} {tokens between : List Placed} {fields : List (List ℕ × Node)} {places : List ℕ} {entries : List Entry}
      → AreFields tokens fields places (placed CloseBraces to ∷ between) → AreEntries between entries
      → AreEntries (placed (Plain name) from ∷ placed (Text label) by ∷ placed OpenBraces at ∷ tokens) (section_entry name (Some label) from fields places to ∷ entries)

-- the grammar derives these items from the bytes, at any depth and with doubled names too
abbrev pub Derives : List ℕ → List Entry → Type 0
Derives bytes entries = (tokens : List Placed) × AreTokens (length bytes) bytes tokens × AreEntries tokens entries
