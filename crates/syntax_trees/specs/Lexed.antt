-- What the parts of the lexer answer, as the definitions see it. This project's own.
use Rattle.std.specs.Prelude.{◌≡◌, ℕ, ◌^◌, ◌<◌, ◌≤◌, List, [], ◌∷◌, length, take, drop, option_to_list, Bool, nat_le, ◌==◌, ◌&&◌, if◌then◌else◌}
use Rattle.std.specs.declared.option.Option.{Option}
use Rattle.std.specs.declared.option.Option.TheVariants.{None, Some}
use Rattle.opam_names.specs.Orders.{number}
use Rattle.syntax_trees.specs.declared.lexer.ScanEnd.{ScanEnd}
use Rattle.syntax_trees.specs.declared.lexer.ScanEnd.TheVariants.{Whole, Bad}
use Rattle.syntax_trees.specs.declared.lexer.Step.{Step}
use Rattle.syntax_trees.specs.declared.lexer.Step.TheVariants.{Skip, Take, Stop}
use Rattle.syntax_trees.specs.declared.texts.ReadText.{ReadText}
use Rattle.syntax_trees.specs.declared.texts.TextPart.{TextPart}
use Rattle.syntax_trees.specs.declared.texts.TextPart.TheVariants.{Closing, Standing, Unknown}
use Rattle.syntax_trees.specs.declared.token.PlacedToken.{PlacedToken}
use Rattle.syntax_trees.specs.declared.token.Token.{Token}
use Rattle.syntax_trees.specs.declared.token.Token.TheVariants.{Text}
use Rattle.syntax_trees.specs.Read.{placed_tokens}
use Rattle.syntax_trees.specs.Signs.{signs}
use Rattle.syntax_trees.specs.Texts.{Piece, Closes, Gives, NoPiece, IsInside}
use Rattle.syntax_trees.specs.Tokens.{First, Gap, Single, Quote, NoToken, first, Placed, AreTokens}
use Rattle.syntax_trees.specs.Words.{are_digits}

-- `:`
abbrev pub is_colon : ℕ → Bool
is_colon b = b == 58

-- `+`
abbrev pub is_plus : ℕ → Bool
is_plus b = b == 43

-- the number that digits write, where it is at most 2^63
abbrev pub small_number : List ℕ → Option ℕ
small_number digits = if are_digits digits && nat_le (number digits) (2 ^ 63) then Some (number digits) else None

-- what a part of a text spells
abbrev pub piece_of : List ℕ → TextPart → Piece
piece_of bytes (Closing len) = Closes (drop len bytes)
piece_of bytes (Standing byte len) = Gives (option_to_list byte) (drop len bytes)
piece_of bytes Unknown = NoPiece

-- it has a byte or more, and stands within the bytes
abbrev pub IsPartOf : List ℕ → TextPart → Type 0
IsPartOf bytes (Closing len) = len ≤ length bytes
IsPartOf bytes (Standing byte len) = (0 < len) × (len ≤ length bytes)
IsPartOf bytes Unknown = Unit {0}

-- a byte that an escape stands for, or none
abbrev pub given : Option ℕ → List ℕ → Piece
given None bytes = NoPiece
given (Some byte) bytes = Gives (byte ∷ []) bytes

-- the text that the bytes spell up to its closing quotes; none, if they spell no such text
abbrev pub IsTextAt : Bool → List ℕ → Option ReadText → Type 0
IsTextAt long bytes None = (text rest : List ℕ) → ¬ (IsInside long bytes text rest)
IsTextAt long bytes (Some read) = (read.len ≤ length bytes) × IsInside long bytes read.text (drop read.len bytes)

-- a comment of so many bytes, or one without an end
abbrev pub gap_to : List ℕ → Option ℕ → First
gap_to bytes None = NoToken
gap_to bytes (Some len) = Gap (drop len bytes)

-- the signs of two bytes
abbrev pub long_signs : List (List ℕ × Token)
long_signs = take 7 signs

-- the signs of one byte
abbrev pub short_signs : List (List ℕ × Token)
short_signs = drop 7 signs

-- a sign that was found, with what stands after it
abbrev pub sign_of : Option Token → List ℕ → Option (Token × List ℕ)
sign_of None rest = None
sign_of (Some token) rest = Some (token, rest)

-- what a step says that the bytes begin with
abbrev pub step_first : List ℕ → Step → First
step_first bytes (Skip len) = Gap (drop len bytes)
step_first bytes (Take token len) = Single token (drop len bytes)
step_first bytes Stop = NoToken

-- a step has a byte or more, and ends within the bytes
abbrev pub IsWithin : List ℕ → Step → Type 0
IsWithin bytes (Skip len) = (0 < len) × (len ≤ length bytes)
IsWithin bytes (Take token len) = (0 < len) × (len ≤ length bytes)
IsWithin bytes Stop = Unit {0}

-- the bytes begin with this token, and then the rest stands
pub data StandsFirst (bytes : List ℕ) : Token → List ℕ → Type 0 where
  whole : {token : Token} {rest : List ℕ} → first bytes ≡ Single token rest → StandsFirst bytes token rest
  quoted : {long : Bool} {inside text rest : List ℕ} → first bytes ≡ Quote long inside → IsInside long inside text rest
      → StandsFirst bytes (Text text) rest

-- what a step says is so: a gap, a token, or bytes that spell no tokens
abbrev pub IsFirst : List ℕ → Step → Type 0
IsFirst bytes (Skip len) = first bytes ≡ Gap (drop len bytes)
IsFirst bytes (Take token len) = StandsFirst bytes token (drop len bytes)
IsFirst bytes Stop = (total : ℕ) (tokens : List Placed) → ¬ (AreTokens total bytes tokens)

-- the bytes spell just these tokens; or a part of them is no token, and they spell none
abbrev pub HasTokens : List ℕ → List PlacedToken → ScanEnd → Type 0
HasTokens bytes tokens Whole = AreTokens (length bytes) bytes (placed_tokens tokens)
HasTokens bytes tokens (Bad start) = (all : List Placed) → ¬ (AreTokens (length bytes) bytes all)
