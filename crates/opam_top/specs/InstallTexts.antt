-- Install texts, as far as they are built (opam manual, .install files): an empty one, or the canonical spelling of a field
-- `bin` with a list of texts. A last newline may be missing.
use Rattle.std.specs.Prelude.{ℕ, List, [], ◌∷◌, ◌++◌, length, Bool, codes, nat_le, ◌==◌, ◌&&◌, ◌||◌, if◌then◌else◌}
use Rattle.std.specs.List.{list_all}
use Rattle.std.specs.declared.option.Option.{Option}
use Rattle.std.specs.declared.option.Option.TheVariants.{None, Some}
use Rattle.opam_names.specs.Names.{is_letter, is_digit}
use Rattle.opam_names.specs.Paths.{is_part}
use Rattle.opam_top.specs.Spellings.{in_quotes, is_spelled, quoted}

-- a letter, a digit, `_`, `-` or `.`
abbrev pub is_item_byte : ℕ → Bool
is_item_byte b = is_letter b || is_digit b || b == 95 || b == 45 || b == 46

-- not empty, neither `.` nor `..`, and so short that `bin/` and it are a path
abbrev pub is_item : List ℕ → Bool
is_item item = list_all is_item_byte item && is_part item && nat_le (length item) 1020

-- further texts, each after a space
abbrev pub further : List (List ℕ) → List ℕ
further [] = []
further (item ∷ items) = (32 ∷ in_quotes item) ++ further items

-- texts in quotes, one space between two of them
abbrev pub spaced : List (List ℕ) → List ℕ
spaced [] = []
spaced (item ∷ items) = in_quotes item ++ further items

-- the spelling of an install text with these
abbrev pub install_text : List (List ℕ) → List ℕ
install_text items = codes "bin: [" ++ spaced items ++ codes "]\n"

-- at most 65,536 of them
abbrev pub are_items : List (List ℕ) → Bool
are_items items = nat_le (length items) 65536 && list_all is_item items

-- items are read where the bytes are their canonical spelling
abbrev pub read_spelled : List ℕ → List (List ℕ) → Option (List (List ℕ))
read_spelled bytes items = if are_items items && is_spelled bytes (install_text items) then Some items else None

-- what an install text has under `bin`, where it is built
abbrev pub read_items : List ℕ → Option (List (List ℕ))
read_items [] = Some []
read_items (b ∷ bytes) = read_spelled (b ∷ bytes) (quoted (b ∷ bytes))
