-- Bytes have at most one list of tokens.
use Rattle.std.proofs.Common.{◌≡◌, ℕ, Bool, List, ◌∷◌, ◌++◌, refl, sym, subst, ◌∙◌}
use Rattle.syntax_trees.specs.declared.token.Token.{Token}
use Rattle.syntax_trees.specs.declared.token.Token.TheVariants.{Text}
use Rattle.syntax_trees.specs.Texts.{Piece, Closes, Gives, NoPiece, piece, IsInside, closes, gives}
use Rattle.syntax_trees.specs.Tokens.{First, End, Gap, Single, Quote, NoToken, first, Placed, placed, span_between, AreTokens, ends, gap, single, text}

clash_closes : {p : Piece} {a b c : List ℕ} {A : Type 0} → p ≡ Closes a → p ≡ Gives b c → A
clash_closes {A} e f = let g = sym e ∙ f in absurd cc

inside_too : {long : Bool} {xs ys t r : List ℕ} → xs ≡ ys → IsInside long ys t r → IsInside long xs t r
inside_too {long} {t = t} {r = r} e p = subst (λ xs. IsInside long xs t r) (sym e) p

rest_of : {p : Piece} {a b : List ℕ} → p ≡ Closes a → p ≡ Closes b → a ≡ b
rest_of e f = let g = sym e ∙ f in cc

part_of : {p : Piece} {a b c d : List ℕ} → p ≡ Gives a b → p ≡ Gives c d → (a ≡ c) × (b ≡ d)
part_of e f = let g = sym e ∙ f in (cc, cc)

same_part : {a b t u r s : List ℕ} → a ≡ b → (t ≡ u) × (r ≡ s) → (a ++ t ≡ b ++ u) × (r ≡ s)
same_part e f = let g = f.0 in (cc, f.1)

pub same_inside : {long : Bool} {bytes t r : List ℕ} → IsInside long bytes t r → {u s : List ℕ} → IsInside long bytes u s → (t ≡ u) × (r ≡ s)
same_inside (closes e) (closes f) = (refl, rest_of e f)
same_inside (closes e) (gives f q) = clash_closes e f
same_inside (gives e p) (closes f) = clash_closes f e
same_inside (gives e p) (gives f q) = let g = part_of e f in same_part g.0 (same_inside p (inside_too g.1 q))

end_gap : {x : First} {a : List ℕ} {A : Type 0} → x ≡ End → x ≡ Gap a → A
end_gap {A} e f = let g = sym e ∙ f in absurd cc

end_single : {x : First} {a : List ℕ} {t : Token} {A : Type 0} → x ≡ End → x ≡ Single t a → A
end_single {A} e f = let g = sym e ∙ f in absurd cc

end_quote : {x : First} {a : List ℕ} {b : Bool} {A : Type 0} → x ≡ End → x ≡ Quote b a → A
end_quote {A} e f = let g = sym e ∙ f in absurd cc

pub gap_single : {x : First} {a c : List ℕ} {t : Token} {A : Type 0} → x ≡ Gap c → x ≡ Single t a → A
gap_single {A} e f = let g = sym e ∙ f in absurd cc

pub gap_quote : {x : First} {a c : List ℕ} {b : Bool} {A : Type 0} → x ≡ Gap c → x ≡ Quote b a → A
gap_quote {A} e f = let g = sym e ∙ f in absurd cc

pub single_quote : {x : First} {a c : List ℕ} {t : Token} {b : Bool} {A : Type 0} → x ≡ Single t c → x ≡ Quote b a → A
single_quote {A} e f = let g = sym e ∙ f in absurd cc

pub gap_of : {x : First} {a b : List ℕ} → x ≡ Gap a → x ≡ Gap b → a ≡ b
gap_of e f = let g = sym e ∙ f in cc

pub single_of : {x : First} {t u : Token} {a b : List ℕ} → x ≡ Single t a → x ≡ Single u b → (t ≡ u) × (a ≡ b)
single_of e f = let g = sym e ∙ f in (cc, cc)

pub quote_of : {x : First} {c d : Bool} {a b : List ℕ} → x ≡ Quote c a → x ≡ Quote d b → (c ≡ d) × (a ≡ b)
quote_of e f = let g = sym e ∙ f in (cc, cc)

tokens_too : {total : ℕ} {xs ys : List ℕ} {ts : List Placed} → xs ≡ ys → AreTokens total ys ts → AreTokens total xs ts
tokens_too {total} {ts = ts} e p = subst (λ xs. AreTokens total xs ts) (sym e) p

pub quoted_too : {c d : Bool} {xs ys t r : List ℕ} → c ≡ d → xs ≡ ys → IsInside d ys t r → IsInside c xs t r
quoted_too {xs = xs} {t = t} {r = r} e f p = subst (λ c. IsInside c xs t r) (sym e) (inside_too f p)

pub same_single : (total : ℕ) (bytes : List ℕ) {t u : Token} {r s : List ℕ} {ts us : List Placed} → (t ≡ u) × (r ≡ s) → ts ≡ us
    → (placed t (span_between total bytes r) ∷ ts) ≡ (placed u (span_between total bytes s) ∷ us)
same_single total bytes e f = let g = e.0 in let h = e.1 in cc

pub same_text : (total : ℕ) (bytes : List ℕ) {t u r s : List ℕ} {ts us : List Placed} → (t ≡ u) × (r ≡ s) → ts ≡ us
    → (placed (Text t) (span_between total bytes r) ∷ ts) ≡ (placed (Text u) (span_between total bytes s) ∷ us)
same_text total bytes e f = let g = e.0 in let h = e.1 in cc

pub same_tokens : {total : ℕ} {bytes : List ℕ} {ts : List Placed} → AreTokens total bytes ts → {us : List Placed} → AreTokens total bytes us → ts ≡ us
same_tokens (ends e) (ends f) = refl
same_tokens (ends e) (gap f q) = end_gap e f
same_tokens (ends e) (single f q) = end_single e f
same_tokens (ends e) (text f i q) = end_quote e f
same_tokens (gap e p) (ends f) = end_gap f e
same_tokens (gap e p) (gap f q) = same_tokens p (tokens_too (gap_of e f) q)
same_tokens (gap e p) (single f q) = gap_single e f
same_tokens (gap e p) (text f i q) = gap_quote e f
same_tokens (single e p) (ends f) = end_single f e
same_tokens (single e p) (gap f q) = gap_single f e
same_tokens {total} {bytes} (single e p) (single f q) = let g = single_of e f in same_single total bytes g (same_tokens p (tokens_too g.1 q))
same_tokens (single e p) (text f i q) = single_quote e f
same_tokens (text e i p) (ends f) = end_quote f e
same_tokens (text e i p) (gap f q) = gap_quote f e
same_tokens (text e i p) (single f q) = single_quote f e
same_tokens {total} {bytes} (text e i p) (text f j q) =
    let g = quote_of e f in
    let h = same_inside i (quoted_too g.0 g.1 j) in
    same_text total bytes h (same_tokens p (tokens_too h.1 q))

-- what stands first decides what the bytes spell
pub no_tokens : {total : ℕ} {bytes : List ℕ} {ts : List Placed} → first bytes ≡ NoToken → AreTokens total bytes ts → ⊥
no_tokens e (ends f) = let g = sym e ∙ f in cc
no_tokens e (gap f p) = let g = sym e ∙ f in cc
no_tokens e (single f p) = let g = sym e ∙ f in cc
no_tokens e (text f i p) = let g = sym e ∙ f in cc

pub after_gap : {total : ℕ} {bytes r : List ℕ} {ts : List Placed} → first bytes ≡ Gap r → AreTokens total bytes ts → AreTokens total r ts
after_gap e (ends f) = end_gap f e
after_gap e (gap f p) = tokens_too (gap_of e f) p
after_gap e (single f p) = gap_single e f
after_gap e (text f i p) = gap_quote e f

-- one token, and then others
pub record After (total : ℕ) (bytes rest : List ℕ) (token : Token) (tokens : List Placed) : Type 0 where
  pub others : List Placed
  pub spelled : AreTokens total rest others
  pub is : tokens ≡ placed token (span_between total bytes rest) ∷ others

after_found : (total : ℕ) (bytes : List ℕ) {r s : List ℕ} {t u : Token} {us : List Placed} → (t ≡ u) × (r ≡ s) → AreTokens total s us
    → After total bytes r t (placed u (span_between total bytes s) ∷ us)
after_found total bytes {us = us} e p = let f = e.0 in let g = e.1 in record { others = us; spelled = tokens_too g p; is = cc }

pub after_single : {total : ℕ} {bytes r : List ℕ} {t : Token} {ts : List Placed} → first bytes ≡ Single t r → AreTokens total bytes ts
    → After total bytes r t ts
after_single e (ends f) = end_single f e
after_single e (gap f p) = gap_single f e
after_single {total} {bytes} e (single f p) = after_found total bytes (single_of e f) p
after_single e (text f i p) = single_quote e f

pub no_text : {total : ℕ} {bytes inside : List ℕ} {long : Bool} {ts : List Placed} → first bytes ≡ Quote long inside
    → ((text rest : List ℕ) → IsInside long inside text rest → ⊥) → AreTokens total bytes ts → ⊥
no_text e h (ends f) = end_quote f e
no_text e h (gap f p) = gap_quote f e
no_text e h (single f p) = single_quote f e
no_text e h (text {text = t} {rest = r} f i p) = let g = quote_of e f in h t r (quoted_too g.0 g.1 i)

-- what stands after a text
pub after_text : {total : ℕ} {bytes inside t r : List ℕ} {long : Bool} {ts : List Placed} → first bytes ≡ Quote long inside → IsInside long inside t r
    → AreTokens total bytes ts → (more : List Placed) × AreTokens total r more
after_text e i (ends f) = end_quote f e
after_text e i (gap f p) = gap_quote f e
after_text e i (single f p) = single_quote f e
after_text e i (text {tokens = ts} f j p) =
    let g = quote_of e f in
    let h = same_inside i (quoted_too g.0 g.1 j) in
    (ts, tokens_too h.1 p)

pub no_inside : {long : Bool} {bytes t r : List ℕ} → piece long bytes ≡ NoPiece → IsInside long bytes t r → ⊥
no_inside e (closes f) = let g = sym e ∙ f in cc
no_inside e (gives f p) = let g = sym e ∙ f in cc
