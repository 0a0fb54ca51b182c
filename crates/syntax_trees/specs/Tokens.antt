-- The tokens of a file, with blanks and comments between them (opam manual, file format: lexical conventions).
use Rattle.std.specs.Prelude.{ℕ, ◌-◌, List, [], ◌∷◌, length, drop, Bool, true, false, codes, ◌==◌, ◌||◌, ◌≡◌, if◌then◌else◌}
use Rattle.std.specs.declared.option.Option.{Option}
use Rattle.std.specs.declared.option.Option.TheVariants.{None, Some}
use Rattle.syntax_trees.specs.declared.token.Token.{Token}
use Rattle.syntax_trees.specs.declared.token.Token.TheVariants.{Text}
use Rattle.syntax_trees.specs.declared.tree.Span.{Span}
use Rattle.syntax_trees.specs.Words.{is_word_byte, word_of, word_token}
use Rattle.syntax_trees.specs.Signs.{signs, sign_among, begins_with}
use Rattle.syntax_trees.specs.Texts.{IsInside}

-- what bytes begin with, and what stands after it
pub data First : Type 0 where
  End : First
  Gap : List ℕ → First
  Single : Token → List ℕ → First
  Quote : Bool → List ℕ → First
  NoToken : First

-- a space, a tab, a carriage return or a newline
abbrev pub is_blank : ℕ → Bool
is_blank b = b == 32 || b == 9 || b == 13 || b == 10

-- after a comment that goes to the end of the line
abbrev pub after_line : List ℕ → List ℕ
after_line [] = []
after_line (b ∷ bytes) = if b == 10 then bytes else after_line bytes

-- after a comment that goes to the next `*)`
abbrev pub after_comment : List ℕ → First
after_comment [] = NoToken
after_comment (b ∷ bytes) = if begins_with (codes "*)") (b ∷ bytes) then Gap (drop 1 bytes) else after_comment bytes

-- a word that is a token
abbrev pub word_first : Option Token → List ℕ → First
word_first None rest = NoToken
word_first (Some token) rest = Single token rest

-- a sign that is a token
abbrev pub sign_first : Option (Token × List ℕ) → First
sign_first None = NoToken
sign_first (Some sign) = Single sign.0 sign.1

-- what bytes begin with: a gap, a quote, a word or a sign
abbrev pub first : List ℕ → First
first [] = End
first (b ∷ bytes) =
    let all = b ∷ bytes in
    if is_blank b then Gap bytes
    else (if b == 35 then Gap (after_line bytes)
    else (if begins_with (codes "(*") all then after_comment (drop 1 bytes)
    else (if begins_with (34 ∷ 34 ∷ 34 ∷ []) all then Quote true (drop 2 bytes)
    else (if b == 34 then Quote false bytes
    else (if is_word_byte b then word_first (word_token (word_of true all)) (drop (length (word_of true all)) all)
    else sign_first (sign_among signs all))))))

-- a token and where it stands
pub data Placed : Type 0 where
  placed : Token → Span → Placed

-- where something stands in a file of so many bytes: the bytes from its first on, and those after its last
abbrev pub span_between : ℕ → List ℕ → List ℕ → Span
span_between total from rest = record { start = total - length from; end = total - length rest }

-- the bytes, with which a file of so many bytes ends, spell these tokens
pub data AreTokens (total : ℕ) : List ℕ → List Placed → Type 0 where
  ends : {bytes : List ℕ} → first bytes ≡ End → AreTokens total bytes []
  gap : {bytes rest : List ℕ} {tokens : List Placed} → first bytes ≡ Gap rest → AreTokens total rest tokens
      → AreTokens total bytes tokens
  single : {bytes rest : List ℕ} {token : Token} {tokens : List Placed} → first bytes ≡ Single token rest
      → AreTokens total rest tokens → AreTokens total bytes (placed token (span_between total bytes rest) ∷ tokens)
  text : {bytes inside text rest : List ℕ} {long : Bool} {tokens : List Placed} → first bytes ≡ Quote long inside
      → IsInside long inside text rest → AreTokens total rest tokens
      → AreTokens total bytes (placed (Text text) (span_between total bytes rest) ∷ tokens)
