-- The reading of words: a command, or the first fault from the left. This project's own.
use Rattle.std.specs.Prelude.{ℕ, List, [], ◌∷◌, ◌++◌, Bool, true, false, not, bytes_eq, codes, nat_le, ◌&&◌, ◌||◌, Result, Ok, Err, if◌then◌else◌}
use Rattle.std.specs.List.{after_first, before_first, fold, list_all, list_any}
use Rattle.std.specs.BTreeSet.{insert_key}
use Rattle.std.specs.Cmp.Lexicographic.{slice_cmp}
use Rattle.std.specs.Ordering.{nat_cmp}
use Rattle.std.specs.declared.option.Option.{Option}
use Rattle.std.specs.declared.option.Option.TheVariants.{None, Some}
use Rattle.opam_names.specs.Names.{is_digit, is_name, is_version}
use Rattle.opam_names.specs.Orders.{is_zero, number}
use Rattle.opam_names.specs.Packages.{is_dot}
use Rattle.opam_names.specs.Paths.{is_not_zero}
use Rattle.command_words.specs.Arguments.{arguments}
use Rattle.command_words.specs.Tables.{Allowed, Row, kind_of, row, value_of}
use Rattle.command_words.specs.declared.arguments.Argument.{Argument}
use Rattle.command_words.specs.declared.arguments.Argument.TheVariants.{Given, Plain}
use Rattle.command_words.specs.declared.command.Change.TheVariants as change
use Rattle.command_words.specs.declared.command.Command.{Command}
use Rattle.command_words.specs.declared.command.Command.TheVariants.{Change, Query}
use Rattle.command_words.specs.declared.command.Query.TheVariants as query
use Rattle.command_words.specs.declared.command.Shown.{Shown}
use Rattle.command_words.specs.declared.command.Shown.TheVariants.{Name, Exact}
use Rattle.command_words.specs.declared.fault.WordFault.{WordFault}
use Rattle.command_words.specs.declared.fault.WordFault.TheVariants.{NoCommand, UnknownCommand, UnknownOption, Repeated, MissingValue, BadValue, BadName, ExtraWord, MissingOption, MissingWord}
use Rattle.command_words.specs.declared.tables.Kind.{Kind}
use Rattle.command_words.specs.declared.tables.Kind.TheVariants as kind
use Rattle.command_words.specs.declared.tables.ValueKind.{ValueKind}
use Rattle.command_words.specs.declared.tables.ValueKind.TheVariants.{Path, Jobs}
use Rattle.command_words.specs.declared.tables.PlainKind.{PlainKind}
use Rattle.command_words.specs.declared.tables.PlainKind.TheVariants.{Nothing, Names, SomeNames, Package, File}

-- the name of a file or a folder is not empty and has no zero byte
abbrev pub is_path : List ℕ → Bool
is_path text = not (bytes_eq text []) && list_all is_not_zero text

-- the first digit is a zero
abbrev pub begins_with_zero : List ℕ → Bool
begins_with_zero [] = false
begins_with_zero (digit ∷ digits) = is_zero digit

-- 1 to 64 in decimal, without a sign or a leading zero
abbrev pub is_jobs : List ℕ → Bool
is_jobs text = list_all is_digit text && not (begins_with_zero text) && nat_le 1 (number text) && nat_le (number text) 64

-- an option may have this value
abbrev pub is_value : ValueKind → List ℕ → Bool
is_value Path text = is_path text
is_value Jobs text = is_jobs text

-- some byte of the word is a dot
abbrev pub has_dot : List ℕ → Bool
has_dot word = list_any is_dot word

-- a word with a dot is a package, and one without is a name
abbrev pub is_shown : List ℕ → Bool
is_shown word = if has_dot word then is_name (before_first is_dot word) && is_version (after_first is_dot word) else is_name word

-- a command may have this plain word
abbrev pub is_word : PlainKind → List ℕ → Bool
is_word Nothing word = true
is_word Names word = is_name word
is_word SomeNames word = is_name word
is_word Package word = is_shown word
is_word File word = is_path word

-- the argument is a plain word
abbrev pub is_plain : Argument → Bool
is_plain (Given name value) = false
is_plain (Plain word) = true

-- some argument is a plain word
abbrev pub has_word : List Argument → Bool
has_word given = list_any is_plain given

-- a command has as many plain words as it may
abbrev pub is_full : PlainKind → List Argument → Bool
is_full Nothing given = true
is_full Names given = false
is_full SomeNames given = false
is_full Package given = has_word given
is_full File given = has_word given

-- and as many as it needs
abbrev pub is_enough : PlainKind → List Argument → Bool
is_enough Nothing given = true
is_enough Names given = true
is_enough SomeNames given = has_word given
is_enough Package given = has_word given
is_enough File given = has_word given

-- the argument gives this option
abbrev pub gives : List ℕ → Argument → Bool
gives option (Given name value) = bytes_eq option name
gives option (Plain word) = false

-- some argument gives this option
abbrev pub is_given : List ℕ → List Argument → Bool
is_given option given = list_any (gives option) given

-- an option needs a value, and one that it may have
abbrev pub fault_of_value : ValueKind → List ℕ → Option (List ℕ) → Option WordFault
fault_of_value kind name None = Some (MissingValue name)
fault_of_value kind name (Some text) = if is_value kind text then None else Some (BadValue name text)

-- the fault of an option: it is unknown, comes again, or its value is wrong
abbrev pub fault_of_known : Option ValueKind → Bool → List ℕ → Option (List ℕ) → Option WordFault
fault_of_known None repeated name text = Some (UnknownOption name)
fault_of_known (Some kind) repeated name text = if repeated then Some (Repeated name) else fault_of_value kind name text

-- the fault of a plain word: it is one too many, or no such word
abbrev pub fault_of_word : PlainKind → List Argument → List ℕ → Option WordFault
fault_of_word words given word = if is_full words given then Some (ExtraWord word) else (if is_word words word then None else Some (BadName word))

-- the fault of an argument after these
abbrev pub fault_of : Row → List Argument → Argument → Option WordFault
fault_of r given (Given name text) = fault_of_known (value_of r.options name) (is_given name given) name text
fault_of r given (Plain word) = fault_of_word r.words given word

-- an option that has to be given is given
abbrev pub is_met : List Argument → Allowed → Bool
is_met given option = not option.required || is_given option.name given

-- the fault at the end of all words
abbrev pub fault_at_end : List ℕ → Row → List Argument → Option WordFault
fault_at_end command r given =
    if list_all (is_met given) r.options then (if is_enough r.words given then None else Some (MissingWord command)) else Some MissingOption

-- the first fault, where there are two
abbrev pub or_later : Option WordFault → Option WordFault → Option WordFault
or_later None later = later
or_later (Some fault) later = Some fault

-- the first fault from the left, of further arguments after these
abbrev pub first_fault : List ℕ → Row → List Argument → List Argument → Option WordFault
first_fault command r given [] = fault_at_end command r given
first_fault command r given (next ∷ further) = or_later (fault_of r given next) (first_fault command r (given ++ next ∷ []) further)

-- the value, or what stands for it
abbrev pub value_or : List ℕ → Option (List ℕ) → List ℕ
value_or text None = text
value_or text (Some given) = given

-- the value of an option, or what stands for it where it is not given
abbrev pub option_or : List ℕ → List ℕ → List Argument → List ℕ
option_or text option [] = text
option_or text option (Given name value ∷ given) = if bytes_eq option name then value_or text value else option_or text option given
option_or text option (Plain word ∷ given) = option_or text option given

-- the current folder, where none is given
abbrev pub repo_of : List Argument → List ℕ
repo_of given = option_or (codes ".") (codes "--repo") given

-- the value of `--lock-file`
abbrev pub lock_file_of : List Argument → List ℕ
lock_file_of given = option_or [] (codes "--lock-file") given

-- 4, where no number is given
abbrev pub jobs_of : List Argument → ℕ
jobs_of given = number (option_or (codes "4") (codes "--jobs") given)

-- a plain word more, put in the order of bytes
abbrev pub with_name : List (List ℕ) → Argument → List (List ℕ)
with_name names (Given name value) = names
with_name names (Plain word) = insert_key (slice_cmp nat_cmp) names word

-- the plain words in the order of bytes, each once
abbrev pub names_of : List Argument → List (List ℕ)
names_of given = fold with_name [] given

-- a plain word is a name
abbrev pub is_name_or_option : Argument → Bool
is_name_or_option (Given name value) = true
is_name_or_option (Plain word) = is_name word

-- the first plain word
abbrev pub first_word : List Argument → List ℕ
first_word [] = []
first_word (Given name value ∷ given) = first_word given
first_word (Plain word ∷ given) = word

-- a package, where the word has a dot, and else a name
abbrev pub shown : List ℕ → Shown
shown word = if has_dot word then Exact (record { name = before_first is_dot word; version = after_first is_dot word }) else Name word

-- the command of arguments without a fault
abbrev pub command_of : Kind → List Argument → Command
command_of kind.Install given = Change (change.Install (lock_file_of given) (repo_of given) (jobs_of given) (names_of given))
command_of kind.Remove given = Change (change.Remove (jobs_of given) (names_of given))
command_of kind.Reinstall given = Change (change.Reinstall (jobs_of given) (names_of given))
command_of kind.List given = Query query.List
command_of kind.Show given = Query (query.Show (repo_of given) (shown (first_word given)))
command_of kind.Lint given = Query (query.Lint (first_word given))

-- the command, where there is no fault
abbrev pub unless_fault : Option WordFault → Command → Result Command WordFault
unless_fault None command = Ok command
unless_fault (Some fault) command = Err fault

-- the command of this word and these arguments, or their first fault
abbrev pub read_arguments : List ℕ → Option Kind → List Argument → Result Command WordFault
read_arguments word None given = Err (UnknownCommand word)
read_arguments word (Some k) given = unless_fault (first_fault word (row k) [] given) (command_of k given)

-- what the words of a command line ask for
abbrev pub read_words : List (List ℕ) → Result Command WordFault
read_words [] = Err NoCommand
read_words (word ∷ words) = read_arguments word (kind_of word) (arguments words)
