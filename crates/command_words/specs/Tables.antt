-- The commands with their options and plain words. This project's own. A new command or option is a row more.
use Rattle.std.specs.Prelude.{ℕ, List, [], ◌∷◌, Bool, true, false, bytes_eq, codes, if◌then◌else◌}
use Rattle.std.specs.declared.option.Option.{Option}
use Rattle.std.specs.declared.option.Option.TheVariants.{None, Some}
use Rattle.command_words.specs.declared.tables.Kind.{Kind}
use Rattle.command_words.specs.declared.tables.Kind.TheVariants.{Install, Remove, Reinstall, List as Listing, Show, Lint}
use Rattle.command_words.specs.declared.tables.ValueKind.{ValueKind}
use Rattle.command_words.specs.declared.tables.ValueKind.TheVariants.{Path, Jobs}
use Rattle.command_words.specs.declared.tables.PlainKind.{PlainKind}
use Rattle.command_words.specs.declared.tables.PlainKind.TheVariants.{Nothing, Names, SomeNames, Package, File}

-- an option: its name, what its value is, and whether it has to be given
pub record Allowed : Type 0 where
  pub name : List ℕ
  pub value : ValueKind
  pub required : Bool

-- a command: its options, and what its plain words are
pub record Row : Type 0 where
  pub options : List Allowed
  pub words : PlainKind

-- `--lock-file FILE`, which has to be given
abbrev pub lock_file_option : Allowed
lock_file_option = record { name = codes "--lock-file"; value = Path; required = true }

-- `--repo DIR`
abbrev pub repo_option : Allowed
repo_option = record { name = codes "--repo"; value = Path; required = false }

-- `--jobs N`
abbrev pub jobs_option : Allowed
jobs_option = record { name = codes "--jobs"; value = Jobs; required = false }

-- the row of each command
abbrev pub row : Kind → Row
row Install = record { options = lock_file_option ∷ repo_option ∷ jobs_option ∷ []; words = Names }
row Remove = record { options = jobs_option ∷ []; words = SomeNames }
row Reinstall = record { options = jobs_option ∷ []; words = SomeNames }
row Listing = record { options = []; words = Nothing }
row Show = record { options = repo_option ∷ []; words = Package }
row Lint = record { options = []; words = File }

-- which command a word is
abbrev pub kind_of : List ℕ → Option Kind
kind_of word =
    if bytes_eq word (codes "install") then Some Install
    else if bytes_eq word (codes "remove") then Some Remove
    else if bytes_eq word (codes "reinstall") then Some Reinstall
    else if bytes_eq word (codes "list") then Some Listing
    else if bytes_eq word (codes "show") then Some Show
    else if bytes_eq word (codes "lint") then Some Lint
    else None

-- what the value of an option is, where it is one of these
abbrev pub value_of : List Allowed → List ℕ → Option ValueKind
value_of [] name = None
value_of (allowed ∷ options) name = if bytes_eq name allowed.name then Some allowed.value else value_of options name
