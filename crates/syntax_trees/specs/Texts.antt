-- Texts between quotes, or between three quotes on each side, and their escapes (opam manual, file format: strings).
use Rattle.std.specs.Prelude.{ℕ, ◌+◌, ◌-◌, ◌*◌, List, [], ◌∷◌, ◌++◌, drop, Bool, true, false, nat_le, ◌==◌, ◌&&◌, ◌||◌, ◌≡◌, if◌then◌else◌}
use Rattle.opam_names.specs.Names.{is_digit}
use Rattle.syntax_trees.specs.Signs.{begins_with}

-- what stands first inside a text: its end, or bytes that stand for some of the text's; each with what stands after it
pub data Piece : Type 0 where
  Closes : List ℕ → Piece
  Gives : List ℕ → List ℕ → Piece
  NoPiece : Piece

-- spaces and tabs
abbrev pub after_spaces : List ℕ → List ℕ
after_spaces [] = []
after_spaces (b ∷ bytes) = if b == 32 || b == 9 then after_spaces bytes else b ∷ bytes

-- three decimal digits up to 255
abbrev pub decimal : List ℕ → Piece
decimal (a ∷ b ∷ c ∷ bytes) =
    let value = 100 * (a - 48) + 10 * (b - 48) + (c - 48) in
    if is_digit a && is_digit b && is_digit c && nat_le value 255 then Gives (value ∷ []) bytes else NoPiece
decimal bytes = NoPiece

-- a hexadecimal digit of either case
abbrev pub is_hexadecimal : ℕ → Bool
is_hexadecimal b = is_digit b || (nat_le 65 b && nat_le b 70) || (nat_le 97 b && nat_le b 102)

-- its value
abbrev pub hexadecimal_value : ℕ → ℕ
hexadecimal_value b = if nat_le b 57 then b - 48 else (if nat_le b 70 then b - 55 else b - 87)

-- two hexadecimal digits of either case
abbrev pub hexadecimal : List ℕ → Piece
hexadecimal (a ∷ b ∷ bytes) =
    let value = 16 * hexadecimal_value a + hexadecimal_value b in
    if is_hexadecimal a && is_hexadecimal b then Gives (value ∷ []) bytes else NoPiece
hexadecimal bytes = NoPiece

-- the bytes that an escape of one byte stands for: \\ \" \' \n \t \r \b and a space
abbrev pub simple_escapes : List (ℕ × ℕ)
simple_escapes = (92, 92) ∷ (34, 34) ∷ (39, 39) ∷ (110, 10) ∷ (116, 9) ∷ (114, 13) ∷ (98, 8) ∷ (32, 32) ∷ []

-- the byte that an escape of one byte stands for, by this table
abbrev pub simple : List (ℕ × ℕ) → ℕ → List ℕ → Piece
simple [] b bytes = NoPiece
simple (escape ∷ more) b bytes = if escape.0 == b then Gives (escape.1 ∷ []) bytes else simple more b bytes

-- what stands after a backslash; one at the end of a line joins the next line to it without the blanks that begin that
abbrev pub escape : List ℕ → Piece
escape [] = NoPiece
escape (b ∷ bytes) =
    if is_digit b then decimal (b ∷ bytes)
    else (if b == 120 then hexadecimal bytes
    else (if b == 10 then Gives [] (after_spaces bytes)
    else (if b == 13 then (if begins_with (10 ∷ []) bytes then Gives [] (after_spaces (drop 1 bytes)) else NoPiece)
    else simple simple_escapes b bytes)))

-- a short text ends at the next quote, a long one at the next three
abbrev pub quote : Bool → List ℕ → Piece
quote false bytes = Closes bytes
quote true bytes = if begins_with (34 ∷ 34 ∷ []) bytes then Closes (drop 2 bytes) else Gives (34 ∷ []) bytes

-- what stands first inside a text
abbrev pub piece : Bool → List ℕ → Piece
piece long [] = NoPiece
piece long (b ∷ bytes) =
    if b == 92 then escape bytes else (if b == 34 then quote long bytes else Gives (b ∷ []) bytes)

-- after the opening quotes the bytes spell this text, with its closing quotes, and then the rest stands
pub data IsInside (long : Bool) : List ℕ → List ℕ → List ℕ → Type 0 where
  closes : {bytes rest : List ℕ} → piece long bytes ≡ Closes rest → IsInside long bytes [] rest
  gives : {bytes part more text rest : List ℕ} → piece long bytes ≡ Gives part more → IsInside long more text rest
      → IsInside long bytes (part ++ text) rest
