-- How the items of a file are found, and what an absent one means.
use Rattle.std.specs.Prelude.{ℕ, List, [], ◌∷◌, bytes_eq, if◌then◌else◌}
use Rattle.std.specs.declared.option.Option.{Option}
use Rattle.std.specs.declared.option.Option.TheVariants.{None, Some}
use Rattle.syntax_trees.specs.declared.file.Key.{Key}
use Rattle.syntax_trees.specs.declared.tree.Node.{Node}
use Rattle.syntax_trees.specs.Files.{Contents, FieldContents, SectionContents}

-- items in the order of a file
abbrev pub FileItems : Type 0
FileItems = List (Key × Contents)

-- the value of a field of this name, or else that of a later item
abbrev pub or_later : List ℕ → List ℕ → Contents → Option Node → Option Node
or_later name found (FieldContents value) later = if bytes_eq found name then Some value else later
or_later name found (SectionContents fields) later = later

-- the value of the field of this name at the top of a file
abbrev pub field_of : List ℕ → FileItems → Option Node
field_of name [] = None
field_of name (item ∷ more) = or_later name item.0.name item.1 (field_of name more)

-- the same of the fields of a section
abbrev pub inner_field : List ℕ → List (List ℕ × Node) → Option Node
inner_field name [] = None
inner_field name (field ∷ more) = if bytes_eq field.0 name then Some field.1 else inner_field name more

-- an absent list is empty
abbrev pub listed : {X : Type 0} → (Node → List X) → Option Node → List X
listed reading None = []
listed reading (Some node) = reading node
