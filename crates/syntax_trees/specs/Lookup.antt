-- What is found in a file by the name of a field. This project's own.
use Rattle.std.specs.Prelude.{ℕ, List, [], ◌∷◌, false, if◌then◌else◌}
use Rattle.std.specs.declared.option.Option.{Option}
use Rattle.std.specs.declared.option.Option.TheVariants.{None, Some}
use Rattle.syntax_trees.specs.declared.file.Item.{Item}
use Rattle.syntax_trees.specs.declared.file.Item.TheVariants.{Field, Section}
use Rattle.syntax_trees.specs.declared.file.Key.{Key}
use Rattle.syntax_trees.specs.declared.tree.Node.{Node}
use Rattle.syntax_trees.specs.Doubles.{key_eq}

-- the key of a field
abbrev pub field_key : List ℕ → Key
field_key name = record { name = name; section = false; label = None }

-- the value of a field
abbrev pub value_in : Item → Option Node
value_in (Field value) = Some value
value_in (Section fields) = None

-- the value of the field of this name among items
abbrev pub field_value : List (Key × Item) → List ℕ → Option Node
field_value [] name = None
field_value (item ∷ items) name = if key_eq (field_key name) item.0 then value_in item.1 else field_value items name
