-- The words after the command, as options with their values and plain words. This project's own, in the manner of GNU's.
use Rattle.std.specs.Prelude.{ℕ, List, [], ◌∷◌, Bool, false, not, map, bytes_eq, codes, ◌==◌, ◌&&◌, if◌then◌else◌}
use Rattle.std.specs.List.{after_first, before_first, list_any}
use Rattle.std.specs.declared.option.Option.TheVariants.{None, Some}
use Rattle.command_words.specs.declared.arguments.Argument.{Argument}
use Rattle.command_words.specs.declared.arguments.Argument.TheVariants.{Given, Plain}

-- `--`, after which each word is plain
abbrev pub is_end_mark : List ℕ → Bool
is_end_mark word = bytes_eq word (codes "--")

-- a word that begins with `-` and is longer
abbrev pub is_option : List ℕ → Bool
is_option [] = false
is_option (b ∷ []) = false
is_option (b ∷ c ∷ bytes) = b == 45

-- the byte `=`
abbrev pub is_equals : ℕ → Bool
is_equals b = b == 61

-- some byte of the word is `=`
abbrev pub has_equals : List ℕ → Bool
has_equals word = list_any is_equals word

-- a word by itself
abbrev pub single : List ℕ → Argument
single word =
    if is_option word
    then Given (before_first is_equals word) (if has_equals word then Some (after_first is_equals word) else None)
    else Plain word

-- an option whose value is the next word
abbrev pub takes_next : List ℕ → Bool
takes_next word = is_option word && not (has_equals word)

-- what the words after the command are
abbrev pub arguments : List (List ℕ) → List Argument
arguments [] = []
arguments (word ∷ []) = if is_end_mark word then [] else single word ∷ []
arguments (word ∷ next ∷ words) =
    if is_end_mark word
    then map Plain (next ∷ words)
    else (if takes_next word then Given word (Some next) ∷ arguments words else single word ∷ arguments (next ∷ words))
