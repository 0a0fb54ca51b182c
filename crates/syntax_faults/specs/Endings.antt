-- How bytes that were cut off inside a file may go on: what they begin with is told, and what ends it is one of a few endings (opam manual,
-- file format: lexical conventions). The endings are this project's own: shortest ones, one for each thing that may be unfinished.
use Rattle.std.specs.Prelude.{◌≡◌, ℕ, List, [], ◌∷◌, ◌++◌, length, map, Bool, true, false, not, codes, ◌==◌, ◌||◌}
use Rattle.std.specs.declared.option.Option.TheVariants.{Some}
use Rattle.syntax_trees.specs.Following.{TokenControl, tokens_followed, token_of}
use Rattle.syntax_trees.specs.Tokens.{Placed, AreTokens}

-- what an escape that was begun may want: nothing, a byte, digits, or the newline after a carriage return
pub data IsEscapeEnd : List ℕ → Type 0 where
  no_escape : IsEscapeEnd []
  escaped_quote : IsEscapeEnd (34 ∷ [])
  last_digit : IsEscapeEnd (codes "0")
  two_digits : IsEscapeEnd (codes "00")
  escaped_newline : IsEscapeEnd (10 ∷ [])

-- the quotes of a short text, and of a long one
pub data AreQuotes : List ℕ → Type 0 where
  one_quote : AreQuotes (34 ∷ [])
  three_quotes : AreQuotes (34 ∷ 34 ∷ 34 ∷ [])

-- what may end a comment, a bracket that begins one, a word, a sign or a text
pub data IsEnding : List ℕ → Type 0 where
  no_ending : IsEnding []
  comment_ending : IsEnding (codes "**)")
  name_ending : IsEnding (codes "x")
  scope_ending : IsEnding (codes "x:x")
  equals_ending : IsEnding (codes "=")
  plus_ending : IsEnding (codes "+")
  colon_ending : IsEnding (codes ":")
  text_ending : {escape quotes : List ℕ} → IsEscapeEnd escape → AreQuotes quotes → IsEnding (escape ++ quotes)

-- the bytes spell tokens that may follow those which led to this
abbrev pub TokensFollow : TokenControl → List ℕ → Type 0
TokensFollow c bytes = (tokens : List Placed) × (d : TokenControl) × AreTokens (length bytes) bytes tokens × (tokens_followed c (map token_of tokens) ≡ Some d)

-- one of the endings makes of the bytes tokens that may follow
abbrev pub GoesOn : TokenControl → List ℕ → Type 0
GoesOn c bytes = (ending : List ℕ) × IsEnding ending × TokensFollow c (bytes ++ ending)

-- two bytes or more, or one that joins to no word: the tokens before them are settled
abbrev pub begins_apart : List ℕ → Bool
begins_apart [] = false
begins_apart (b ∷ []) = not (b == 43 || b == 58)
begins_apart (b ∷ c ∷ bytes) = true
