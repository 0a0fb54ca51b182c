-- The first doubled name as a reader finds it: the keys of items among one another, and the names of the fields of each section
-- among one another. It is the one that `Doubles` tells, where items stand one after another. This project's own.
use Rattle.std.specs.Prelude.{◌≡◌, ℕ, Bool, true, false, List, [], ◌∷◌, ◌++◌, map, bytes_eq, if◌then◌else◌}
use Rattle.std.specs.List.{list_any}
use Rattle.std.specs.declared.option.Option.{Option}
use Rattle.std.specs.declared.option.Option.TheVariants.{None, Some}
use Rattle.syntax_trees.specs.declared.entry.ReadContents.{ReadContents}
use Rattle.syntax_trees.specs.declared.entry.ReadContents.TheVariants.{Field, Section}
use Rattle.syntax_trees.specs.declared.entry.ReadEntry.{ReadEntry}
use Rattle.syntax_trees.specs.declared.entry.ReadField.{ReadField}
use Rattle.syntax_trees.specs.declared.fault.SyntaxFault.{SyntaxFault}
use Rattle.syntax_trees.specs.declared.fault.SyntaxFault.TheVariants.{Ended, Stray, Deep, Doubled, Memory}
use Rattle.syntax_trees.specs.declared.file.Item.{Item}
use Rattle.syntax_trees.specs.declared.file.Key.{Key}
use Rattle.syntax_trees.specs.Doubles.{key_eq}
use Rattle.syntax_trees.specs.Files.{Contents}
use Rattle.syntax_trees.specs.Nesting.{first_of}
use Rattle.syntax_trees.specs.Read.{read_contents}
use Rattle.syntax_trees.specs.Trees.{contents_of}

-- the place of the first field whose name is among these or those before it
abbrev pub fields_twice : List (List ℕ) → List ReadField → Option ℕ
fields_twice seen [] = None
fields_twice seen (field ∷ fields) =
    if list_any (bytes_eq field.name) seen then Some field.place else fields_twice (seen ++ field.name ∷ []) fields

-- the same of what is in an item
abbrev pub contents_twice : ReadContents → Option ℕ
contents_twice (Field value) = None
contents_twice (Section fields) = fields_twice [] fields

-- whether it is a section
abbrev pub is_section : ReadContents → Bool
is_section (Field value) = false
is_section (Section fields) = true

-- the place of the first item whose key is among these or those before it, or of the first field that is doubled in its section
abbrev pub entries_twice : List Key → List ReadEntry → Option ℕ
entries_twice seen [] = None
entries_twice seen (entry ∷ entries) =
    if list_any (key_eq entry.key) seen then Some entry.span.start
    else first_of (contents_twice entry.contents) (entries_twice (seen ++ entry.key ∷ []) entries)

-- this doubled name is told, or memory was wanting
abbrev pub TellsDoubled : Option ℕ → SyntaxFault → Type 0
TellsDoubled found (Doubled at) = found ≡ Some at
TellsDoubled found Memory = Unit {0}
TellsDoubled found (Ended at) = ⊥
TellsDoubled found (Stray at) = ⊥
TellsDoubled found (Deep at) = ⊥

-- the items of a map, seen as they stand in a file
abbrev pub told_entries : List (Key × Item) → List (Key × Contents)
told_entries entries = map (λ item. let pair : Key × Contents = (item.0, contents_of item.1) in pair) entries

-- an item as it stands in a file
abbrev pub told_entry : ReadEntry → Key × Contents
told_entry entry = (entry.key, read_contents entry.contents)
