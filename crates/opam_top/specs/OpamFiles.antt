-- Opam files, as far as they are built (opam manual, file format: general syntax, opam files): the line of the format's
-- version, and then nothing, or the canonical spelling of a field `build` with a list of commands, which are lists of texts.
use Rattle.std.specs.Prelude.{ℕ, ◌+◌, ◌-◌, ◌*◌, ◌/◌, ◌%◌, List, [], ◌∷◌, ◌++◌, Bool, bytes_eq, codes, length, nat_le, not, ◌==◌, ◌&&◌, ◌||◌, if◌then◌else◌}
use Rattle.std.specs.List.{fold, list_all}
use Rattle.std.specs.Str.{is_utf8}
use Rattle.std.specs.declared.option.Option.{Option}
use Rattle.std.specs.declared.option.Option.TheVariants.{None, Some}
use Rattle.opam_top.specs.declared.opam_file.Decoder.{Decoder}
use Rattle.opam_top.specs.declared.opam_file.State.{State}
use Rattle.opam_top.specs.declared.opam_file.State.TheVariants.{Outside, InList, InCommand, InWord, AfterBackslash, AfterDigit, AfterDigits}

-- the first line of each opam file
abbrev pub version_line : List ℕ
version_line = codes "opam-version: \"2.0\"\n"

-- below 32, or 127
abbrev pub is_control : ℕ → Bool
is_control b = nat_le b 31 || b == 127

-- a backslash and three decimal digits
abbrev pub digits_escape : ℕ → List ℕ
digits_escape b = 92 ∷ (48 + b / 100) ∷ (48 + b / 10 % 10) ∷ (48 + b % 10) ∷ []

-- a byte as it stands between quotes
abbrev pub escaped : ℕ → List ℕ
escaped b =
    if b == 34 then codes "\\\""
    else if b == 92 then codes "\\\\"
    else if b == 10 then codes "\\n"
    else if b == 9 then codes "\\t"
    else if b == 13 then codes "\\r"
    else if is_control b then digits_escape b
    else b ∷ []

-- bytes as they stand between quotes
abbrev pub all_escaped : List ℕ → List ℕ
all_escaped [] = []
all_escaped (b ∷ bytes) = escaped b ++ all_escaped bytes

-- a word between quotes
abbrev pub word_text : List ℕ → List ℕ
word_text word = 34 ∷ all_escaped word ++ 34 ∷ []

-- further words, each after a space
abbrev pub further_words : List (List ℕ) → List ℕ
further_words [] = []
further_words (word ∷ words) = (32 ∷ word_text word) ++ further_words words

-- words between quotes, one space between two of them
abbrev pub spaced_words : List (List ℕ) → List ℕ
spaced_words [] = []
spaced_words (word ∷ words) = word_text word ++ further_words words

-- the words in brackets, one space between two of them
abbrev pub command_text : List (List ℕ) → List ℕ
command_text words = 91 ∷ spaced_words words ++ 93 ∷ []

-- further commands, each after a space
abbrev pub further_commands : List (List (List ℕ)) → List ℕ
further_commands [] = []
further_commands (command ∷ commands) = (32 ∷ command_text command) ++ further_commands commands

-- commands, one space between two of them
abbrev pub spaced_commands : List (List (List ℕ)) → List ℕ
spaced_commands [] = []
spaced_commands (command ∷ commands) = command_text command ++ further_commands commands

-- the spelling of an opam file with a field `build` of these commands
abbrev pub opam_text : List (List (List ℕ)) → List ℕ
opam_text commands = version_line ++ codes "build: [" ++ spaced_commands commands ++ codes "]\n"

-- neither the zero byte nor `%`, which begins a variable
abbrev pub is_word_byte : ℕ → Bool
is_word_byte b = not (b == 0) && not (b == 37)

-- UTF-8; a word may be empty
abbrev pub is_word : List ℕ → Bool
is_word word = is_utf8 word && list_all is_word_byte word

-- at most 64 commands of words
abbrev pub are_commands : List (List (List ℕ)) → Bool
are_commands commands = nat_le (length commands) 64 && list_all (list_all is_word) commands

-- what is read before the first byte
abbrev pub fresh_decoder : Decoder
fresh_decoder = record { state = Outside; word = []; words = []; commands = [] }

-- one more byte of a word
abbrev pub with_byte : Decoder → ℕ → Decoder
with_byte d b = record d { state = InWord; word = d.word ++ b ∷ [] }

-- a word has ended
abbrev pub with_word : Decoder → Decoder
with_word d = record d { state = InCommand; word = []; words = d.words ++ d.word ∷ [] }

-- a command has ended
abbrev pub with_command : Decoder → Decoder
with_command d = record d { state = InList; words = []; commands = d.commands ++ d.words ∷ [] }

-- the byte that a backslash and this one stand for, unless it is the first of three digits
abbrev pub named_byte : ℕ → Option ℕ
named_byte b =
    if b == 34 then Some 34
    else if b == 92 then Some 92
    else if b == 110 then Some 10
    else if b == 116 then Some 9
    else if b == 114 then Some 13
    else None

-- after a backslash: the byte that is meant, or the first of three digits
abbrev pub decode_escape : Decoder → ℕ → Option ℕ → Decoder
decode_escape d b None = record d { state = AfterDigit (b - 48) }
decode_escape d b (Some named) = with_byte d named

-- reads a byte in a state
abbrev pub decode_in : State → Decoder → ℕ → Decoder
decode_in Outside d b = if b == 91 then record d { state = InList } else d
decode_in InList d b = if b == 91 then record d { state = InCommand } else if b == 93 then record d { state = Outside } else d
decode_in InCommand d b = if b == 34 then record d { state = InWord } else if b == 93 then with_command d else d
decode_in InWord d b = if b == 34 then with_word d else if b == 92 then record d { state = AfterBackslash } else with_byte d b
decode_in AfterBackslash d b = decode_escape d b (named_byte b)
decode_in (AfterDigit first) d b = record d { state = AfterDigits first (b - 48) }
decode_in (AfterDigits first second) d b = with_byte d ((first * 100 + second * 10 + (b - 48)) % 256)

-- reads one more byte
abbrev pub decode_byte : Decoder → ℕ → Decoder
decode_byte d b = decode_in d.state d b

-- the commands of bytes that spell some; what other bytes give does not count, since they are not what is then spelled
abbrev pub decoded : List ℕ → List (List (List ℕ))
decoded bytes = let d : Decoder = fold decode_byte fresh_decoder bytes in d.commands

-- commands are read where the bytes are their canonical spelling
abbrev pub read_spelled_commands : List ℕ → List (List (List ℕ)) → Option (List (List (List ℕ)))
read_spelled_commands bytes commands = if are_commands commands && bytes_eq bytes (opam_text commands) then Some commands else None

-- the commands of an opam file, where it is built
abbrev pub read_opam : List ℕ → Option (List (List (List ℕ)))
read_opam bytes = if bytes_eq bytes version_line then Some [] else read_spelled_commands bytes (decoded bytes)
