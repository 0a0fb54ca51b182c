-- What is said of words that are no command. This project's own.
use Rattle.std.specs.Prelude.{ℕ, List, [], ◌++◌, codes}
use Rattle.command_words.specs.declared.fault.WordFault.{WordFault}
use Rattle.command_words.specs.declared.fault.WordFault.TheVariants.{NoCommand, UnknownCommand, UnknownOption, Repeated, MissingValue, BadValue, BadName, ExtraWord, MissingOption, MissingWord, Memory}

-- the text of each fault, without a newline
abbrev pub fault_text : WordFault → List ℕ
fault_text NoCommand = codes "no command"
fault_text (UnknownCommand word) = codes "unknown command: " ++ word
fault_text (UnknownOption option) = codes "unknown option: " ++ option
fault_text (Repeated option) = option ++ codes " is given twice"
fault_text (MissingValue option) = option ++ codes " needs a value"
fault_text (BadValue option value) = option ++ codes " has a bad value: " ++ value
fault_text (BadName word) = codes "bad name: " ++ word
fault_text (ExtraWord word) = codes "one word too many: " ++ word
fault_text MissingOption = codes "--lock-file is missing"
fault_text (MissingWord command) = command ++ codes " needs a word"
fault_text Memory = []
