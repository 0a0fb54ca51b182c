-- The canonical spelling of a file: a line for each field, one space between values, short texts. This project's own.
use Rattle.std.specs.Prelude.{ℕ, ◌+◌, ◌/◌, ◌%◌, List, [], ◌∷◌, ◌++◌, Bool, true, false, codes, nat_lt, ◌==◌, ◌||◌, if◌then◌else◌}
use Rattle.std.specs.Fmt.{signed_decimal}
use Rattle.std.specs.List.{flat_map}
use Rattle.std.specs.declared.option.Option.{Option}
use Rattle.std.specs.declared.option.Option.TheVariants.{None, Some}
use Rattle.syntax_trees.specs.declared.file.File.{File}
use Rattle.syntax_trees.specs.declared.file.Key.{Key}
use Rattle.syntax_trees.specs.declared.tree.Node.{Node}
use Rattle.syntax_trees.specs.declared.tree.Var.{Var}
use Rattle.syntax_trees.specs.declared.tree.Value.TheOpen.{Value-F, Node-F}
use Rattle.syntax_trees.specs.declared.tree.Value.TheFolds.{fold-Node}
use Rattle.syntax_trees.specs.Signs.{relation_text, update_text}
use Rattle.syntax_trees.specs.Files.{Contents, FieldContents, SectionContents}
use Rattle.syntax_trees.specs.Trees.{items_of}

-- texts with the same bytes between any two
abbrev pub joined_by : List ℕ → List (List ℕ) → List ℕ
joined_by between [] = []
joined_by between (text ∷ []) = text
joined_by between (text ∷ next ∷ more) = text ++ between ++ joined_by between (next ∷ more)

-- a backslash and three decimal digits
abbrev pub decimal_escape : ℕ → List ℕ
decimal_escape b = 92 ∷ (48 + b / 100) ∷ (48 + b / 10 % 10) ∷ (48 + b % 10) ∷ []

-- a byte of a text
abbrev pub byte_text : ℕ → List ℕ
byte_text b =
    if b == 92 || b == 34 then 92 ∷ b ∷ []
    else (if b == 10 then codes "\\n"
    else (if b == 9 then codes "\\t"
    else (if b == 13 then codes "\\r"
    else (if nat_lt b 32 || b == 127 then decimal_escape b else b ∷ []))))

-- a text in quotes
abbrev pub quoted : List ℕ → List ℕ
quoted bytes = 34 ∷ flat_map byte_text bytes ++ 34 ∷ []

-- a boolean
abbrev pub flag_text : Bool → List ℕ
flag_text true = codes "true"
flag_text false = codes "false"

-- a scope and its colon, where there is one
abbrev pub scope_text : Option (List ℕ) → List ℕ
scope_text None = []
scope_text (Some scope) = scope ++ codes ":"

-- an identifier
abbrev pub variable_text : Var → List ℕ
variable_text variable = scope_text variable.scope ++ variable.name

-- how a value is spelled, from how its parts are
abbrev pub layer_text : Value-F (List ℕ) (List ℕ) → List ℕ
layer_text (Value-F.Flag flag) = flag_text flag
layer_text (Value-F.Int number) = signed_decimal number
layer_text (Value-F.Text bytes) = quoted bytes
layer_text (Value-F.Ident variable) = variable_text variable
layer_text (Value-F.List nodes) = codes "[" ++ joined_by (codes " ") nodes ++ codes "]"
layer_text (Value-F.Group nodes) = codes "(" ++ joined_by (codes " ") nodes ++ codes ")"
layer_text (Value-F.Braced value nodes) = value ++ codes " {" ++ joined_by (codes " ") nodes ++ codes "}"
layer_text (Value-F.Not value) = codes "! " ++ value
layer_text (Value-F.Defined value) = codes "? " ++ value
layer_text (Value-F.Rel op left right) = left ++ codes " " ++ relation_text op ++ codes " " ++ right
layer_text (Value-F.PreRel op right) = relation_text op ++ codes " " ++ right
layer_text (Value-F.And nodes) = joined_by (codes " & ") nodes
layer_text (Value-F.Or nodes) = joined_by (codes " | ") nodes
layer_text (Value-F.Env op left right) = left ++ codes " " ++ update_text op ++ codes " " ++ right

-- a span adds nothing
abbrev pub node_text : Node-F (List ℕ) (List ℕ) → List ℕ
node_text node = node.value

-- how a value is spelled
abbrev pub value_text : Node → List ℕ
value_text = fold-Node (List ℕ) (List ℕ) layer_text node_text

-- a field is a line
abbrev pub field_text : List ℕ → Node → List ℕ
field_text name value = name ++ codes ": " ++ value_text value ++ codes "\n"

-- a label and a space, where there is one
abbrev pub label_text : Option (List ℕ) → List ℕ
label_text None = []
label_text (Some label) = quoted label ++ codes " "

-- the fields of a section, each on a line of its own
abbrev pub fields_text : List (List ℕ × Node) → List ℕ
fields_text fields = flat_map (λ field. codes "  " ++ field_text field.0 field.1) fields

-- a section has a line for each field, and one for its closing brace
abbrev pub item_text : Key → Contents → List ℕ
item_text key (FieldContents value) = field_text key.name value
item_text key (SectionContents fields) =
    key.name ++ codes " " ++ label_text key.label ++ codes "{\n" ++ fields_text fields ++ codes "}\n"

-- one item after another
abbrev pub items_text : List (Key × Contents) → List ℕ
items_text items = flat_map (λ item. item_text item.0 item.1) items

-- the canonical spelling
abbrev pub file_text : File → List ℕ
file_text file = items_text (items_of file)
