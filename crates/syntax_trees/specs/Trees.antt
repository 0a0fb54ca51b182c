-- What it means that bytes are the text of a file (opam manual, file format): the grammar derives its items, nothing nests deeper
-- than 64, and no name comes twice.
use Rattle.std.specs.Prelude.{◌≡◌, ℕ, List, map}
use Rattle.std.specs.declared.option.Option.TheVariants.{None}
use Rattle.syntax_trees.specs.declared.file.File.{File}
use Rattle.syntax_trees.specs.declared.file.Item.{Item}
use Rattle.syntax_trees.specs.declared.file.Item.TheVariants.{Field, Section}
use Rattle.syntax_trees.specs.declared.file.Key.{Key}
use Rattle.syntax_trees.specs.Files.{Contents, FieldContents, SectionContents, Entry, Derives}
use Rattle.syntax_trees.specs.Nesting.{AreShallow}
use Rattle.syntax_trees.specs.Doubles.{doubled_at}

-- what an item has in it; the room that a map keeps is no part of that
abbrev pub contents_of : Item → Contents
contents_of (Field value) = FieldContents value
contents_of (Section fields) = SectionContents fields.entries

-- the items of a file, in order
abbrev pub items_of : File → List (Key × Contents)
items_of file = map (λ item. let pair : Key × Contents = (item.0, contents_of item.1) in pair) file.items.entries

-- the same of items as they stand in a text
abbrev pub told_items : List Entry → List (Key × Contents)
told_items entries = map (λ entry. let pair : Key × Contents = (entry.key, entry.contents) in pair) entries

-- the bytes spell these items, and nothing is too deep or doubled
pub record IsSpelling (bytes : List ℕ) (entries : List Entry) : Type 0 where
  pub derived : Derives bytes entries
  pub shallow : AreShallow entries
  pub single : doubled_at entries ≡ None

-- the file has these items, at these places
pub record HasEntries (file : File) (entries : List Entry) : Type 0 where
  pub items : items_of file ≡ told_items entries
  pub places : file.places ≡ map (λ entry. entry.span) entries

-- the bytes are the text of the file
abbrev pub IsTextOf : List ℕ → File → Type 0
IsTextOf bytes file = (entries : List Entry) × IsSpelling bytes entries × HasEntries file entries
