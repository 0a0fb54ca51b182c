-- Commands (opam manual, file format: opam, build): arguments and commands, each perhaps with one filter in braces.
use Rattle.std.specs.Prelude.{ℕ, List, [], ◌∷◌, ◌++◌, Bool, false, map, slice_get, ◌&&◌, if◌then◌else◌}
use Rattle.std.specs.List.{flat_map}
use Rattle.std.specs.Option.{is_some}
use Rattle.std.specs.declared.option.Option.{Option}
use Rattle.std.specs.declared.option.Option.TheVariants.{None, Some}
use Rattle.syntax_trees.specs.declared.tree.Node.{Node}
use Rattle.syntax_trees.specs.declared.tree.Span.{Span}
use Rattle.syntax_trees.specs.declared.tree.Var.{Var}
use Rattle.opam_filter.specs.declared.filter.Filter.{Filter}
use Rattle.opam_filter.specs.Trees.{read}
use Rattle.opam_package.specs.declared.fault.PackageFault.{PackageFault}
use Rattle.opam_package.specs.declared.fault.PackageFault.TheVariants.{WrongKind, TooMany}
use Rattle.opam_package.specs.declared.limits.TheConstants.{COMMAND_LIMIT}
use Rattle.opam_package.specs.declared.package.Arg.{Arg}
use Rattle.opam_package.specs.declared.package.Command.{Command}
use Rattle.opam_package.specs.declared.package.Word.{Word}
use Rattle.opam_package.specs.declared.package.Word.TheVariants.{Text, Var as Variable}
use Rattle.opam_package.specs.Forms.{bytes_faults, filter_faults, text_of}
use Rattle.opam_package.specs.Views.{bare, braces_in, is_list, list_in, text_in, variable_in}

-- braces hold one filter; a value need not have them
abbrev pub braces_faults : Option (List Node) → Span → List PackageFault
braces_faults None span = []
braces_faults (Some (node ∷ [])) span = filter_faults node
braces_faults (Some nodes) span = WrongKind span ∷ []

-- the filter in braces, where a value has them
abbrev pub braces_filter : Option (List Node) → Option Filter
braces_filter (Some (node ∷ [])) = Some (read node).filter
braces_filter braces = None

-- a word is a text or a variable
abbrev pub word_faults_of : Option (List ℕ) → Option Var → Span → List PackageFault
word_faults_of (Some bytes) variable span = bytes_faults bytes span
word_faults_of None (Some variable) span = []
word_faults_of None None span = WrongKind span ∷ []

-- the same of a node
abbrev pub word_faults : Node → List PackageFault
word_faults node = word_faults_of (text_in node) (variable_in node) node.span

-- a variable, or else a text
abbrev pub word_with : Option Var → List ℕ → Word
word_with (Some variable) bytes = Variable variable
word_with None bytes = Text bytes

-- the word that a node is
abbrev pub word_of : Node → Word
word_of node = word_with (variable_in node) (text_of node)

-- an argument is a word, perhaps with a filter
abbrev pub arg_faults : Node → List PackageFault
arg_faults node = word_faults (bare node) ++ braces_faults (braces_in node) node.span

-- the argument that a node is
abbrev pub arg_of : Node → Arg
arg_of node = record { word = word_of (bare node); filter = braces_filter (braces_in node) }

-- a list of arguments
abbrev pub args_faults_of : Option (List Node) → Span → List PackageFault
args_faults_of None span = WrongKind span ∷ []
args_faults_of (Some nodes) span = flat_map arg_faults nodes

-- the same of a node
abbrev pub args_faults : Node → List PackageFault
args_faults node = args_faults_of (list_in node) node.span

-- the arguments in a list
abbrev pub args_listed : Option (List Node) → List Arg
args_listed None = []
args_listed (Some nodes) = map arg_of nodes

-- the arguments that a node has
abbrev pub args_of : Node → List Arg
args_of node = args_listed (list_in node)

-- a command is a list of arguments, perhaps with a filter
abbrev pub command_faults : Node → List PackageFault
command_faults node = args_faults (bare node) ++ braces_faults (braces_in node) node.span

-- the command that a node is
abbrev pub command_of : Node → Command
command_of node = record { args = args_of (bare node); filter = braces_filter (braces_in node) }

-- the first of several values is a list, perhaps with braces
abbrev pub begins_with_command : List Node → Bool
begins_with_command [] = false
begins_with_command (first ∷ more) = is_list (bare first)

-- a list that begins so has commands in it, the empty list has none, and any other value is one command
abbrev pub commands_listed : Option (List Node) → Node → List Node
commands_listed None node = node ∷ []
commands_listed (Some []) node = []
commands_listed (Some nodes) node = if begins_with_command nodes then nodes else node ∷ []

-- the nodes of a field that are a command each
abbrev pub command_nodes : Node → List Node
command_nodes node = commands_listed (list_in node) node

-- a list of commands
abbrev pub holds_commands : Option (List Node) → Bool
holds_commands None = false
holds_commands (Some nodes) = begins_with_command nodes

-- it has no braces of its own
abbrev pub own_braces_faults : Node → List PackageFault
own_braces_faults node = if is_some (braces_in node) && holds_commands (list_in (bare node)) then WrongKind node.span ∷ [] else []

-- there is no command after so many
abbrev pub too_many_faults : Option Node → List PackageFault
too_many_faults None = []
too_many_faults (Some node) = TooMany node.span ∷ []

-- the commands of a package
abbrev pub commands_faults : Node → List PackageFault
commands_faults node =
    own_braces_faults node ++ flat_map command_faults (command_nodes node) ++ too_many_faults (slice_get (command_nodes node) COMMAND_LIMIT)

-- the commands of a field
abbrev pub commands_of : Node → List Command
commands_of node = map command_of (command_nodes node)
