-- Characters that are cut off: how many bytes they lack (Unicode, table 3-7: well-formed UTF-8).
use Rattle.std.specs.Prelude.{ℕ, ◌-◌, List, [], ◌∷◌, Bool, nat_lt, nat_le, ◌==◌, ◌&&◌, if◌then◌else◌}
use Rattle.std.specs.declared.option.Option.{Option}
use Rattle.std.specs.declared.option.Option.TheVariants.{None, Some}

-- how many bytes a character has that begins with this byte from 128 on; 0: none begins so
abbrev pub char_len : ℕ → ℕ
char_len x = if nat_lt x 194 then 0 else (if nat_lt x 224 then 2 else (if nat_lt x 240 then 3 else (if nat_lt x 245 then 4 else 0)))

-- the least byte that may follow the first byte of three or four
abbrev pub second_least : ℕ → ℕ
second_least x = if x == 224 then 160 else (if x == 240 then 144 else 128)

-- the greatest byte that may
abbrev pub second_most : ℕ → ℕ
second_most x = if x == 237 then 159 else (if x == 244 then 143 else 191)

-- whether the second byte may follow the first
abbrev pub second_fits : ℕ → ℕ → Bool
second_fits x y = nat_le (second_least x) y && nat_le y (second_most x)

-- whether a byte may stand in a character after its second
abbrev pub goes_on : ℕ → Bool
goes_on z = nat_le 128 z && nat_le z 191

-- what a character that begins with this byte lacks after so many bytes
abbrev pub left_after : ℕ → ℕ → Option ℕ
left_after x seen = if nat_lt seen (char_len x) then Some (char_len x - seen) else None

-- how many bytes these lack that begin one character and are none yet
abbrev pub missing : List ℕ → Option ℕ
missing [] = None
missing (x ∷ []) = left_after x 1
missing (x ∷ y ∷ []) = if second_fits x y then left_after x 2 else None
missing (x ∷ y ∷ z ∷ []) = if second_fits x y then (if goes_on z then left_after x 3 else None) else None
missing (x ∷ y ∷ z ∷ w ∷ bytes) = None
