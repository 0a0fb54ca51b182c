-- What the parts of the reader hand on to one another, as the definitions see it. This project's own.
use Rattle.std.specs.Prelude.{ℕ, List, [], map}
use Rattle.syntax_trees.specs.declared.entry.ReadContents.{ReadContents}
use Rattle.syntax_trees.specs.declared.entry.ReadContents.TheVariants.{Field, Section}
use Rattle.syntax_trees.specs.declared.entry.ReadEntry.{ReadEntry}
use Rattle.syntax_trees.specs.declared.entry.ReadField.{ReadField}
use Rattle.syntax_trees.specs.declared.token.PlacedToken.{PlacedToken}
use Rattle.syntax_trees.specs.declared.tree.Node.{Node}
use Rattle.syntax_trees.specs.Files.{Contents, FieldContents, SectionContents, Entry}
use Rattle.syntax_trees.specs.Tokens.{Placed, placed}

-- a token and where it stands
abbrev pub placed_of : PlacedToken → Placed
placed_of token = placed token.token token.span

-- tokens and where they stand
abbrev pub placed_tokens : List PlacedToken → List Placed
placed_tokens tokens = map placed_of tokens

-- a field of a section: its name and its value
abbrev pub field_of : ReadField → List ℕ × Node
field_of field = (field.name, field.value)

-- the fields of a section
abbrev pub read_fields : List ReadField → List (List ℕ × Node)
read_fields fields = map field_of fields

-- where their names begin
abbrev pub read_places : List ReadField → List ℕ
read_places fields = map (λ field. field.place) fields

-- what is in an item
abbrev pub read_contents : ReadContents → Contents
read_contents (Field value) = FieldContents value
read_contents (Section fields) = SectionContents (read_fields fields)

-- where the names of the fields of a section begin
abbrev pub contents_places : ReadContents → List ℕ
contents_places (Field value) = []
contents_places (Section fields) = read_places fields

-- an item as it stands in a text
abbrev pub entry_of : ReadEntry → Entry
entry_of entry = record {
  key = entry.key;
  contents = read_contents entry.contents;
  span = entry.span;
  places = contents_places entry.contents;
}

-- items as they stand in a text
abbrev pub read_entries : List ReadEntry → List Entry
read_entries entries = map entry_of entries
