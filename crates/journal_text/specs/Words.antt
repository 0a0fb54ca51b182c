-- The words of which records and slots are spelled. This project's own. Numbers are big endian.
use Rattle.std.specs.Prelude.{ℕ, List, [], ◌∷◌, ◌++◌, length, Bool, true, false}
use Rattle.std.specs.List.{flat_map}
use Rattle.std.specs.Int.{w16, w32, to_be_bytes}
use Rattle.std.specs.declared.option.Option.{Option}
use Rattle.std.specs.declared.option.Option.TheVariants.{None, Some}

-- two bytes of length, and that many bytes
abbrev pub short_text : List ℕ → List ℕ
short_text bytes = to_be_bytes w16 (length bytes) ++ bytes

-- four bytes of length, and that many bytes
abbrev pub long_text : List ℕ → List ℕ
long_text bytes = to_be_bytes w32 (length bytes) ++ bytes

-- one byte, 1 for yes and 0 for no
abbrev pub flag : Bool → List ℕ
flag false = 0 ∷ []
flag true = 1 ∷ []

-- how many there are, in four bytes, and each of them
abbrev pub counted : {X : Type 0} → (X → List ℕ) → List X → List ℕ
counted spell xs = to_be_bytes w32 (length xs) ++ flat_map spell xs

-- byte 0 for none; byte 1 and what there is
abbrev pub optional : {X : Type 0} → (X → List ℕ) → Option X → List ℕ
optional spell None = 0 ∷ []
optional spell (Some x) = 1 ∷ spell x
