-- What is read of the canonical spelling of a file: the same items in the same order, at other places. This project's own.
use Rattle.std.specs.Prelude.{◌≡◌, ℕ, List, map}
use Rattle.syntax_trees.specs.declared.file.File.{File}
use Rattle.syntax_trees.specs.declared.file.Key.{Key}
use Rattle.syntax_trees.specs.declared.tree.Node.{Node}
use Rattle.syntax_trees.specs.declared.tree.Value.{Value, roll-Value}
use Rattle.syntax_trees.specs.declared.tree.Value.TheOpen.{Node-F}
use Rattle.syntax_trees.specs.declared.tree.Value.TheFolds.{fold-Node}
use Rattle.syntax_trees.specs.Files.{Contents, FieldContents, SectionContents, Entry}
use Rattle.opam_syntax.specs.Spelling.{file_text}
use Rattle.syntax_trees.specs.Trees.{items_of, told_items, IsSpelling, IsTextOf}

-- a node that stands nowhere
abbrev pub placeless_layer : Node-F Value Node → Node
placeless_layer node = record { value = node.value; span = record { start = 0; end = 0 } }

-- a value without its place and those of its parts
abbrev pub placeless : Node → Node
placeless = fold-Node Value Node (λ layer. roll-Value layer) placeless_layer

-- the same of the fields of a section
abbrev pub placeless_fields : List (List ℕ × Node) → List (List ℕ × Node)
placeless_fields fields = map (λ field. let pair : List ℕ × Node = (field.0, placeless field.1) in pair) fields

-- the same of an item
abbrev pub placeless_contents : Contents → Contents
placeless_contents (FieldContents value) = FieldContents (placeless value)
placeless_contents (SectionContents fields) = SectionContents (placeless_fields fields)

-- items without the places of their values
abbrev pub placeless_items : List (Key × Contents) → List (Key × Contents)
placeless_items items = map (λ item. let pair : Key × Contents = (item.0, placeless_contents item.1) in pair) items

-- whatever text a file was read from, its canonical spelling spells the same items, at other places
abbrev pub PrintedIsSpelled : Type 0
PrintedIsSpelled = (bytes : List ℕ) (file : File) → IsTextOf bytes file
    → (entries : List Entry) × IsSpelling (file_text file) entries × (placeless_items (told_items entries) ≡ placeless_items (items_of file))

-- a file that is read of the canonical spelling has the items of the file that was printed, and is printed as it was
abbrev pub PrintedIsReadBack : Type 0
PrintedIsReadBack = (bytes : List ℕ) (file other : File) → IsTextOf bytes file → IsTextOf (file_text file) other
    → (placeless_items (items_of other) ≡ placeless_items (items_of file)) × (file_text other ≡ file_text file)
