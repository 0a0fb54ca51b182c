-- Doubled names: no item has the key of an earlier one, and no field of a section the name of an earlier one there. This project's
-- own: opam's syntax allows them.
use Rattle.std.specs.Prelude.{ℕ, List, [], ◌∷◌, ◌++◌, Bool, true, false, not, bytes_eq, ◌==◌, ◌&&◌, if◌then◌else◌}
use Rattle.std.specs.List.{list_any}
use Rattle.std.specs.declared.option.Option.{Option}
use Rattle.std.specs.declared.option.Option.TheVariants.{None, Some}
use Rattle.syntax_trees.specs.declared.file.Key.{Key}
use Rattle.syntax_trees.specs.declared.tree.Node.{Node}
use Rattle.syntax_trees.specs.Files.{Contents, FieldContents, SectionContents, Entry}

-- what must not come twice: the key of an item, or the name of a field of the section that begins at this place
pub data Name : Type 0 where
  ItemName : Key → Name
  FieldName : ℕ → List ℕ → Name

-- labels are equal, or neither is there
abbrev pub label_eq : Option (List ℕ) → Option (List ℕ) → Bool
label_eq None None = true
label_eq (Some one) (Some other) = bytes_eq one other
label_eq one other = false

-- name, kind and label are equal
abbrev pub key_eq : Key → Key → Bool
key_eq one other =
    bytes_eq one.name other.name && (if one.section then other.section else not other.section) && label_eq one.label other.label

-- both are keys of items, or names in one section, and are equal
abbrev pub name_eq : Name → Name → Bool
name_eq (ItemName one) (ItemName other) = key_eq one other
name_eq (FieldName section one) (FieldName other_section other) = section == other_section && bytes_eq one other
name_eq one other = false

-- the names of the fields of a section, each with its place
abbrev pub field_names : ℕ → List (List ℕ × Node) → List ℕ → List (Name × ℕ)
field_names section [] places = []
field_names section (field ∷ fields) [] = []
field_names section (field ∷ fields) (place ∷ places) = (FieldName section field.0, place) ∷ field_names section fields places

-- the names in an item, where it is a section
abbrev pub inner_names : ℕ → Contents → List ℕ → List (Name × ℕ)
inner_names section (FieldContents value) places = []
inner_names section (SectionContents fields) places = field_names section fields places

-- the names of a file with their places, from its beginning to its end
abbrev pub names : List Entry → List (Name × ℕ)
names [] = []
names (entry ∷ entries) =
    (ItemName entry.key, entry.span.start) ∷ inner_names entry.span.start entry.contents entry.places ++ names entries

-- the place of the first name that is among those before it
abbrev pub first_doubled : List Name → List (Name × ℕ) → Option ℕ
first_doubled before [] = None
first_doubled before (name ∷ more) =
    if list_any (name_eq name.0) before then Some name.1 else first_doubled (name.0 ∷ before) more

-- the place of the first doubled name of a file
abbrev pub doubled_at : List Entry → Option ℕ
doubled_at entries = first_doubled [] (names entries)
