-- The tokens of bytes up to a place between them.
use Rattle.std.specs.Prelude.{◌≡◌, ℕ, List, [], ◌∷◌, Bool}
use Rattle.syntax_trees.specs.declared.token.Token.{Token}
use Rattle.syntax_trees.specs.declared.token.Token.TheVariants.{Text}
use Rattle.syntax_trees.specs.Texts.{IsInside}
use Rattle.syntax_trees.specs.Tokens.{Gap, Single, Quote, first, Placed, placed, span_between}

-- tokens up to a place, and what stands from there on
pub data Lexes (total : ℕ) : List ℕ → List Placed → List ℕ → Type 0 where
  none_read : {bytes : List ℕ} → Lexes total bytes [] bytes
  gap_then : {bytes rest stop : List ℕ} {tokens : List Placed} → first bytes ≡ Gap rest → Lexes total rest tokens stop → Lexes total bytes tokens stop
  single_then : {bytes rest stop : List ℕ} {token : Token} {tokens : List Placed} → first bytes ≡ Single token rest → Lexes total rest tokens stop
      → Lexes total bytes (placed token (span_between total bytes rest) ∷ tokens) stop
  text_then : {bytes inside text rest stop : List ℕ} {long : Bool} {tokens : List Placed} → first bytes ≡ Quote long inside
      → IsInside long inside text rest → Lexes total rest tokens stop → Lexes total bytes (placed (Text text) (span_between total bytes rest) ∷ tokens) stop
