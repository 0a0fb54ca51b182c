-- How tokens are read.
use Rattle.std.proofs.Common.{◌≡◌, ℕ, ◌+◌, ◌-◌, ◌<◌, ◌≤◌, Bool, true, false, ◌&&◌, ◌==◌, List, [], ◌∷◌, ◌++◌, length, take, drop, get_or, refl, sym, ap, subst, ◌∙◌, append_assoc, arith, length-drop}
use Rattle.std.specs.Prelude.{IfOk}
use Rattle.std.specs.declared.option.Option.{Option}
use Rattle.std.specs.declared.result.Result.{Result}
use Rattle.std.specs.declared.result.Result.TheVariants.{Ok, Err}
use Rattle.std.proofs.Math.ListN.{drop_of_length-le}
use Rattle.std.proofs.lemmas.List.{drop-drop}
use Rattle.std.specs.Str.{IsAscii}
use Rattle.opam_names.specs.declared.fault.OutOfMemory.{OutOfMemory}
use Rattle.syntax_trees.specs.declared.lexer.Step.{Step}
use Rattle.syntax_trees.specs.declared.lexer.Step.TheVariants.{Skip, Take, Stop}
use Rattle.syntax_trees.specs.declared.texts.ReadText.{ReadText}
use Rattle.syntax_trees.specs.declared.token.PlacedToken.{PlacedToken}
use Rattle.syntax_trees.specs.declared.tree.Span.{Span}
use Rattle.syntax_trees.specs.declared.token.Token.{Token}
use Rattle.syntax_trees.specs.declared.token.Token.TheVariants.{Text}
use Rattle.syntax_trees.specs.Lexed.{IsFirst, IsWithin, IsTextAt, StandsFirst, whole, quoted, step_first}
use Rattle.syntax_trees.specs.Read.{placed_of, placed_tokens}
use Rattle.syntax_trees.specs.Signs.{begins_with}
use Rattle.syntax_trees.specs.Texts.{IsInside}
use Rattle.syntax_trees.specs.Tokens.{Gap, Quote, first, after_line, Placed, placed, span_between, AreTokens, ends, gap, single, text}
use Rattle.syntax_trees.specs.Words.{word_of}
use Rattle.syntax_trees.proofs.OneTokens.{no_tokens, no_text, after_gap, after_single, after_text}
use Rattle.syntax_trees.proofs.WordsAgain.{skip, enter}
use Rattle.syntax_trees.proofs.WordsRead.{drop_step, word_is_ascii}

-- bytes are the first and the others
bytes_are : (bytes : List ℕ) (b : ℕ) → 0 < length bytes → get_or bytes 0 0 ≡ b → bytes ≡ b ∷ drop 1 bytes
bytes_are bytes b l e = drop_step bytes 0 l ∙ ap (λ x. x ∷ drop 1 bytes) e

-- a comment to the end of the line
pub hash_first : (bytes rest : List ℕ) (len : ℕ) → 0 < length bytes → get_or bytes 0 0 ≡ 35 → rest ≡ drop 1 bytes → drop len rest ≡ after_line rest
    → first bytes ≡ Gap (drop (1 + len) bytes)
hash_first bytes rest len l e r h =
    ap first (bytes_are bytes 35 l e)
    ∙ ap (λ s. Gap (after_line s)) (sym r) ∙ ap (λ s. Gap s) (sym h ∙ ap (drop len) r ∙ drop-drop len 1 bytes)

-- a long text, and a short one
pub long_first : (bytes : List ℕ) → 0 < length bytes → get_or bytes 0 0 ≡ 34 → begins_with (34 ∷ 34 ∷ []) (drop 1 bytes) ≡ true
    → first bytes ≡ Quote true (drop 3 bytes)
long_first bytes l e h =
    ap first (bytes_are bytes 34 l e) ∙ enter _ _ _ h ∙ ap (λ s. Quote true s) (drop-drop 2 1 bytes)

two_left : (x : Bool) → (x && false) ≡ true → ⊥
two_left true h = cc
two_left false h = cc

pub long_within : (bytes : List ℕ) → 0 < length bytes → begins_with (34 ∷ 34 ∷ []) (drop 1 bytes) ≡ true → 3 ≤ length bytes
long_within [] l h = absurd (omega arith)
long_within (a ∷ []) l h = absurd cc
long_within (a ∷ b ∷ []) l h = absurd (two_left (34 == b) h)
long_within (a ∷ b ∷ c ∷ bytes) l h = omega arith

pub short_first : (bytes : List ℕ) → 0 < length bytes → get_or bytes 0 0 ≡ 34 → begins_with (34 ∷ 34 ∷ []) (drop 1 bytes) ≡ false
    → first bytes ≡ Quote false (drop 1 bytes)
short_first bytes l e h = ap first (bytes_are bytes 34 l e) ∙ skip _ _ _ h

pub word_is_text : (bytes : List ℕ) (len : ℕ) → take len bytes ≡ word_of true bytes → IsAscii (take len bytes)
word_is_text bytes len e = subst IsAscii (sym e) (word_is_ascii true bytes)

pub is_first : (bytes : List ℕ) (step : Step) → first bytes ≡ step_first bytes step → IsFirst bytes step
is_first bytes (Skip len) e = e
is_first bytes (Take token len) e = whole e
is_first bytes Stop e = λ total tokens p. no_tokens e p

pub is_first_ok : (bytes : List ℕ) (result : Result Step OutOfMemory) → IfOk result (λ step. first bytes ≡ step_first bytes step)
    → IfOk result (λ step. IsFirst bytes step)
is_first_ok bytes (Ok step) e = is_first bytes step e
is_first_ok bytes (Err fault) e = tt

-- a text that was found after its quotes, or none
pub quoted_found : (bytes rest found : List ℕ) (long : Bool) (opening len : ℕ) → rest ≡ drop opening bytes → first bytes ≡ Quote long (drop opening bytes)
    → IsInside long rest found (drop len rest) → StandsFirst bytes (Text found) (drop (opening + len) bytes)
quoted_found bytes rest found long opening len r e p =
    let left : drop len rest ≡ drop (opening + len) bytes = ap (drop len) r ∙ drop-drop len opening bytes in
    let Here : List ℕ → Type 0 = λ l. IsInside long rest found l in
    quoted (e ∙ ap (λ l. Quote long l) (sym r)) (subst Here left p)

pub quoted_none : (bytes rest : List ℕ) (long : Bool) (opening : ℕ) → rest ≡ drop opening bytes → first bytes ≡ Quote long (drop opening bytes)
    → ((found left : List ℕ) → IsInside long rest found left → ⊥) → (total : ℕ) (tokens : List Placed) → AreTokens total bytes tokens → ⊥
quoted_none bytes rest long opening r e none total tokens p = no_text (e ∙ ap (λ l. Quote long l) (sym r)) none p

-- tokens of which the first were read: what goes on with them goes on, and it goes on if they are some
pub record ReadsTokens (bytes : List ℕ) (at : ℕ) (tokens : List Placed) : Type 0 where
  pub onto : {more : List Placed} → AreTokens (length bytes) (drop at bytes) more → AreTokens (length bytes) bytes (tokens ++ more)
  pub only : {all : List Placed} → AreTokens (length bytes) bytes all → (more : List Placed) × AreTokens (length bytes) (drop at bytes) more

pub tokens_begin : (bytes : List ℕ) → ReadsTokens bytes 0 []
tokens_begin bytes = record { onto = λ p. p; only = λ {all} p. (all, p) }

pub tokens_skip : (bytes rest : List ℕ) (tokens : List Placed) (at len : ℕ) → rest ≡ drop at bytes → first rest ≡ Gap (drop len rest)
    → ReadsTokens bytes at tokens → ReadsTokens bytes (at + len) tokens
tokens_skip bytes rest tokens at len r e s =
    let left : drop len rest ≡ drop (at + len) bytes = ap (drop len) r ∙ drop-drop len at bytes in
    let found : first (drop at bytes) ≡ Gap (drop (at + len) bytes) = ap first (sym r) ∙ e ∙ ap (λ l. Gap l) left in
    record {
      onto = λ p. s.onto (gap found p);
      only = λ p.
          let before = s.only p in
          (before.0, after_gap found before.1);
    }

-- tokens that stand before others, where one does
record Lead (total : ℕ) (bytes rest : List ℕ) (token : Token) : Type 0 where
  lead : {more : List Placed} → AreTokens total rest more → AreTokens total bytes (placed token (span_between total bytes rest) ∷ more)
  left : {all : List Placed} → AreTokens total bytes all → (more : List Placed) × AreTokens total rest more

leads : (total : ℕ) (bytes rest : List ℕ) (token : Token) → StandsFirst bytes token rest → Lead total bytes rest token
leads total bytes rest token (whole e) = record {
  lead = λ p. single e p;
  left = λ p. let a = after_single e p in (a.others, a.spelled);
}
leads total bytes rest token (quoted e i) = record {
  lead = λ p. text e i p;
  left = λ p. after_text e i p;
}

span_is : (bytes : List ℕ) (at len : ℕ) → at + len ≤ length bytes
    → span_between (length bytes) (drop at bytes) (drop (at + len) bytes) ≡ record { start = at; end = at + len }
span_is bytes at len l =
    let from : length bytes - length (drop at bytes) ≡ at = omega (arith, length-drop at bytes) in
    let to : length bytes - length (drop (at + len) bytes) ≡ at + len = omega (arith, length-drop (at + len) bytes) in
    cc

pub tokens_take : (bytes rest : List ℕ) (tokens : List Placed) (token : Token) (at len : ℕ) → rest ≡ drop at bytes → at + len ≤ length bytes
    → StandsFirst rest token (drop len rest) → ReadsTokens bytes at tokens
    → ReadsTokens bytes (at + len) (tokens ++ placed token (record { start = at; end = at + len }) ∷ [])
tokens_take bytes rest tokens token at len r l f s =
    let total = length bytes in
    let left : drop len rest ≡ drop (at + len) bytes = ap (drop len) r ∙ drop-drop len at bytes in
    let From : List ℕ → Type 0 = λ b. StandsFirst b token (drop len rest) in
    let To : List ℕ → Type 0 = λ b. StandsFirst (drop at bytes) token b in
    let one = leads total (drop at bytes) (drop (at + len) bytes) token (subst To left (subst From r f)) in
    record {
      onto = λ {more} p.
          let All : List Placed → Type 0 = λ t. AreTokens total bytes t in
          let Spanned : Span → Type 0 = λ span. AreTokens total bytes (tokens ++ (placed token span ∷ more)) in
          subst All (sym (append_assoc tokens (placed token (record { start = at; end = at + len }) ∷ []) more))
          (subst Spanned (span_is bytes at len l) (s.onto (one.lead p)));
      only = λ p. let before = s.only p in one.left before.1;
    }

pub tokens_stop : (bytes rest : List ℕ) (tokens : List Placed) (at : ℕ) → rest ≡ drop at bytes
    → ((total : ℕ) (all : List Placed) → AreTokens total rest all → ⊥) → ReadsTokens bytes at tokens
    → (all : List Placed) → AreTokens (length bytes) bytes all → ⊥
tokens_stop bytes rest tokens at r none s all p =
    let before = s.only p in
    let Here : List ℕ → Type 0 = λ l. AreTokens (length bytes) l before.0 in
    none (length bytes) before.0 (subst Here (sym r) before.1)

placed_nil : (tokens : List Placed) → tokens ++ [] ≡ tokens
placed_nil [] = refl
placed_nil (t ∷ tokens) = ap (λ l. t ∷ l) (placed_nil tokens)

pub tokens_end : (bytes : List ℕ) (tokens : List Placed) (at : ℕ) → length bytes ≤ at → ReadsTokens bytes at tokens → AreTokens (length bytes) bytes tokens
tokens_end bytes tokens at l s =
    let All : List Placed → Type 0 = λ t. AreTokens (length bytes) bytes t in
    subst All (placed_nil tokens) (s.onto (ends (ap first (drop_of_length-le bytes l))))

-- what is known of a step, by what it is
pub of_step : (bytes : List ℕ) (one other : Step) → one ≡ other → IsFirst bytes one → IsFirst bytes other
of_step bytes one other e f = let Here : Step → Type 0 = λ s. IsFirst bytes s in subst Here e f

pub step_within : (bytes : List ℕ) (one other : Step) → one ≡ other → IsWithin bytes one → IsWithin bytes other
step_within bytes one other e f = let Here : Step → Type 0 = λ s. IsWithin bytes s in subst Here e f

pub of_text : (long : Bool) (bytes : List ℕ) (read other : Option ReadText) → read ≡ other → IsTextAt long bytes read → IsTextAt long bytes other
of_text long bytes read other e f = let Here : Option ReadText → Type 0 = λ r. IsTextAt long bytes r in subst Here e f

pub placed_more : (tokens : List PlacedToken) (token : PlacedToken) → placed_tokens (tokens ++ token ∷ []) ≡ placed_tokens tokens ++ placed_of token ∷ []
placed_more [] token = refl
placed_more (t ∷ tokens) token = ap (λ l. placed_of t ∷ l) (placed_more tokens token)
