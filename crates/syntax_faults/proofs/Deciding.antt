-- Whether bytes spell tokens, and whether these may follow one another, is decided.
use Rattle.std.proofs.Common.{◌≡◌, ℕ, zero, suc, ◌<◌, ◌≤◌, Bool, false, List, [], ◌∷◌, ◌++◌, length, map, refl, ap, sym, subst, ◌∙◌, arith, ◌⊎◌, inl, inr}
use Rattle.std.specs.Prelude.{codes}
use Rattle.std.specs.declared.option.Option.{Option}
use Rattle.std.specs.declared.option.Option.TheVariants.{None, Some}
use Rattle.syntax_trees.specs.declared.token.Token.TheVariants.{Text}
use Rattle.syntax_trees.specs.Faults.{BeginsFile}
use Rattle.syntax_trees.specs.Following.{TokenControl as Control, at_entry, tokens_followed as followed, token_of}
use Rattle.syntax_trees.specs.Texts.{Piece, Closes, Gives, NoPiece, piece, IsInside, closes, gives}
use Rattle.syntax_trees.specs.Tokens.{First, End, Gap, Single, Quote, NoToken, first, Placed, placed, span_between, AreTokens, ends, gap, single, text}
use Rattle.syntax_trees.proofs.OneTokens.{same_tokens, no_tokens, after_gap, after_single, after_text, no_text, no_inside}
use Rattle.syntax_trees.proofs.Shorter.{ShrinksText, piece_shrinks, first_shrinks, after_first, inside_shrinks}
use Rattle.syntax_faults.specs.Endings.{IsEscapeEnd, no_escape, escaped_quote, last_digit, two_digits, escaped_newline, AreQuotes, one_quote, three_quotes, IsEnding, no_ending, comment_ending, name_ending, scope_ending, equals_ending, plus_ending, colon_ending, text_ending, TokensFollow, GoesOn}
use Rattle.syntax_faults.proofs.Begun.{beginnings_are_told}

-- it is so, or it is not
abbrev pub Decided : Type 0 → Type 0
Decided P = P ⊎ (P → ⊥)

pub decided_as : {P Q : Type 0} → (P → Q) → (Q → P) → Decided P → Decided Q
decided_as f g (inl p) = inl (f p)
decided_as f g (inr n) = inr (λ q. n (g q))

-- texts
abbrev pub SomeInside : Bool → List ℕ → Type 0
SomeInside long bytes = (contents : List ℕ) × (rest : List ℕ) × IsInside long bytes contents rest

inside_after : {long : Bool} {bytes part more : List ℕ} → piece long bytes ≡ Gives part more → SomeInside long bytes → SomeInside long more
inside_after e (t, r, closes f) = let g = sym e ∙ f in absurd cc
inside_after {long} {more = more} e (t, r, gives {more = m} {text = u} f i) = (u, r, subst (λ z. IsInside long z u r) (let g = sym e ∙ f in cc) i)

after_piece : (n : ℕ) (p q : Piece) → p ≡ q → ShrinksText n p → ShrinksText n q
after_piece n p q e h = subst (ShrinksText n) e h

inside_decided : (n : ℕ) (long : Bool) (bytes : List ℕ) → length bytes ≤ n → Decided (SomeInside long bytes)
inside_decided zero long bytes l = inr (λ (t, r, i). let s = inside_shrinks i in absurd (omega arith))
inside_decided (suc n) long bytes l = by_piece (piece long bytes) refl (λ more k. inside_decided n long more k)
  where
    by_piece : (p : Piece) → piece long bytes ≡ p → ((more : List ℕ) → length more ≤ n → Decided (SomeInside long more)) → Decided (SomeInside long bytes)
    by_piece (Closes rest) e f = inl ([], rest, closes e)
    by_piece (Gives part more) e f =
        let s : length more < length bytes = after_piece (length bytes) (piece long bytes) (Gives part more) e (piece_shrinks long bytes) in
        decided_as (λ (t, r, i). (part ++ t, r, gives e i)) (λ q. inside_after e q) (f more (omega arith))
    by_piece NoPiece e f = inr (λ (t, r, i). no_inside e i)

pub text_inside : (long : Bool) (bytes : List ℕ) → Decided (SomeInside long bytes)
text_inside long bytes = inside_decided (length bytes) long bytes (omega arith)

-- tokens
abbrev pub SomeTokens : ℕ → List ℕ → Type 0
SomeTokens total bytes = (tokens : List Placed) × AreTokens total bytes tokens

lexed_by : (n total : ℕ) (bytes : List ℕ) → length bytes ≤ n → Decided (SomeTokens total bytes)
lexed_by zero total [] l = inl ([], ends refl)
lexed_by zero total (b ∷ bytes) l = absurd (omega arith)
lexed_by (suc n) total bytes l = by_first (first bytes) refl (λ rest k. lexed_by n total rest k)
  where
    by_first : (f : First) → first bytes ≡ f → ((rest : List ℕ) → length rest ≤ n → Decided (SomeTokens total rest)) → Decided (SomeTokens total bytes)
    by_first End e f = inl ([], ends e)
    by_first (Gap rest) e f =
        let s : length rest < length bytes = after_first (length bytes) e (first_shrinks bytes) in
        decided_as (λ (ts, p). (ts, gap e p)) (λ (ts, p). (ts, after_gap e p)) (f rest (omega arith))
    by_first (Single token rest) e f =
        let s : length rest < length bytes = after_first (length bytes) e (first_shrinks bytes) in
        decided_as (λ (ts, p). (placed token (span_between total bytes rest) ∷ ts, single e p)) (λ (ts, p). let a = after_single e p in (a.others, a.spelled))
        (f rest (omega arith))
    by_first (Quote long inside) e f = by_text (inside_decided (length inside) long inside (omega arith))
      where
        by_text : Decided (SomeInside long inside) → Decided (SomeTokens total bytes)
        by_text (inl (t, r, i)) =
            let s : length inside < length bytes = after_first (length bytes) e (first_shrinks bytes) in
            let k = inside_shrinks i in
            decided_as (λ (ts, p). (placed (Text t) (span_between total bytes r) ∷ ts, text e i p)) (λ (ts, p). after_text e i p) (f r (omega arith))
        by_text (inr h) = inr (λ (ts, p). no_text e (λ t r i. h (t, r, i)) p)
    by_first NoToken e f = inr (λ (ts, p). no_tokens e p)

pub tokens_decided : (total : ℕ) (bytes : List ℕ) → Decided (SomeTokens total bytes)
tokens_decided total bytes = lexed_by (length bytes) total bytes (omega arith)

-- tokens that may follow
none_some : {A : Type 0} {d : Control} → None ≡ Some d → A
none_some e = absurd cc

follow_decided : (c : Control) (bytes : List ℕ) → Decided (TokensFollow c bytes)
follow_decided c bytes = by_tokens (tokens_decided (length bytes) bytes)
  where
    by_control : (ts : List Placed) → AreTokens (length bytes) bytes ts → (o : Option Control) → followed c (map token_of ts) ≡ o → Decided (TokensFollow c bytes)
    by_control ts p (Some d) e = inl (ts, d, p, e)
    by_control ts p None e =
        inr (λ (us, d, q, f). none_some (sym e ∙ ap (λ z. followed c (map token_of z)) (same_tokens p q) ∙ f))

    by_tokens : Decided (SomeTokens (length bytes) bytes) → Decided (TokensFollow c bytes)
    by_tokens (inl (ts, p)) = by_control ts p (followed c (map token_of ts)) refl
    by_tokens (inr h) = inr (λ (us, d, q, f). h (us, q))

-- the endings, one after another
record Ending : Type 0 where
  bytes : List ℕ
  is : IsEnding bytes

data Among (e : List ℕ) : List Ending → Type 0 where
  found : {i : IsEnding e} {endings : List Ending} → Among e (record { bytes = e; is = i } ∷ endings)
  later : {x : Ending} {endings : List Ending} → Among e endings → Among e (x ∷ endings)

abbrev text_by : {escape quotes : List ℕ} → IsEscapeEnd escape → AreQuotes quotes → Ending
text_by {escape} {quotes} i q = record { bytes = escape ++ quotes; is = text_ending i q }

abbrev endings : List Ending
endings =
    record { bytes = []; is = no_ending } ∷ record { bytes = codes "**)"; is = comment_ending } ∷ record { bytes = codes "x"; is = name_ending }
    ∷ record { bytes = codes "x:x"; is = scope_ending } ∷ record { bytes = codes "="; is = equals_ending } ∷ record { bytes = codes "+"; is = plus_ending }
    ∷ record { bytes = codes ":"; is = colon_ending } ∷ text_by no_escape one_quote ∷ text_by no_escape three_quotes ∷ text_by escaped_quote one_quote
    ∷ text_by escaped_quote three_quotes ∷ text_by last_digit one_quote ∷ text_by last_digit three_quotes ∷ text_by two_digits one_quote
    ∷ text_by two_digits three_quotes ∷ text_by escaped_newline one_quote ∷ text_by escaped_newline three_quotes ∷ []

-- each of them is there
all_among : (e : List ℕ) → IsEnding e → Among e endings
all_among _ no_ending = found
all_among _ comment_ending = later found
all_among _ name_ending = later (later found)
all_among _ scope_ending = later (later (later found))
all_among _ equals_ending = later (later (later (later found)))
all_among _ plus_ending = later (later (later (later (later found))))
all_among _ colon_ending = later (later (later (later (later (later found)))))
all_among _ (text_ending no_escape one_quote) = later (later (later (later (later (later (later found))))))
all_among _ (text_ending no_escape three_quotes) = later (later (later (later (later (later (later (later found)))))))
all_among _ (text_ending escaped_quote one_quote) = later (later (later (later (later (later (later (later (later found))))))))
all_among _ (text_ending escaped_quote three_quotes) = later (later (later (later (later (later (later (later (later (later found)))))))))
all_among _ (text_ending last_digit one_quote) = later (later (later (later (later (later (later (later (later (later (later found))))))))))
all_among _ (text_ending last_digit three_quotes) = later (later (later (later (later (later (later (later (later (later (later (later found)))))))))))
all_among _ (text_ending two_digits one_quote) = later (later (later (later (later (later (later (later (later (later (later (later (later found))))))))))))
all_among _ (text_ending two_digits three_quotes) = later (later (later (later (later (later (later (later (later (later (later (later (later (later found)))))))))))))
all_among _ (text_ending escaped_newline one_quote) = later (later (later (later (later (later (later (later (later (later (later (later (later (later (later found))))))))))))))
all_among _ (text_ending escaped_newline three_quotes) = later (later (later (later (later (later (later (later (later (later (later (later (later (later (later (later found)))))))))))))))

among_decided : (c : Control) (bytes : List ℕ) (es : List Ending)
    → ((e : List ℕ) × IsEnding e × TokensFollow c (bytes ++ e)) ⊎ ((e : List ℕ) → Among e es → TokensFollow c (bytes ++ e) → ⊥)
among_decided c bytes [] = inr (λ e a t. elim a [ ])
among_decided c bytes (x ∷ es) = by_first (follow_decided c (bytes ++ x.bytes)) (among_decided c bytes es)
  where
    neither : (TokensFollow c (bytes ++ x.bytes) → ⊥) → ((e : List ℕ) → Among e es → TokensFollow c (bytes ++ e) → ⊥) → (e : List ℕ) → Among e (x ∷ es)
        → TokensFollow c (bytes ++ e) → ⊥
    neither n m e found t = n t
    neither n m e (later a) t = m e a t

    by_first : Decided (TokensFollow c (bytes ++ x.bytes))
        → ((e : List ℕ) × IsEnding e × TokensFollow c (bytes ++ e)) ⊎ ((e : List ℕ) → Among e es → TokensFollow c (bytes ++ e) → ⊥)
        → ((e : List ℕ) × IsEnding e × TokensFollow c (bytes ++ e)) ⊎ ((e : List ℕ) → Among e (x ∷ es) → TokensFollow c (bytes ++ e) → ⊥)
    by_first (inl t) r = inl (x.bytes, x.is, t)
    by_first (inr n) (inl r) = inl r
    by_first (inr n) (inr m) = inr (neither n m)

goes_on_decided : (c : Control) (bytes : List ℕ) → Decided (GoesOn c bytes)
goes_on_decided c bytes = by_endings (among_decided c bytes endings)
  where
    by_endings : ((e : List ℕ) × IsEnding e × TokensFollow c (bytes ++ e)) ⊎ ((e : List ℕ) → Among e endings → TokensFollow c (bytes ++ e) → ⊥)
        → Decided (GoesOn c bytes)
    by_endings (inl (e, i, t)) = inl (e, i, t)
    by_endings (inr n) = inr (λ (e, i, t). n e (all_among e i) t)

-- whether bytes begin a file
pub begins_decided : (bytes : List ℕ) → Decided (BeginsFile bytes)
begins_decided bytes =
    decided_as (λ g. (beginnings_are_told bytes).1 g) (λ p. (beginnings_are_told bytes).0 p) (goes_on_decided (at_entry false) bytes)
