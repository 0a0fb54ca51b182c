-- Tokens before a tail stay as they are, whatever stands after it.
use Rattle.std.proofs.Common.{◌≡◌, ℕ, zero, suc, ◌<◌, ◌≤◌, Bool, true, not, List, [], ◌∷◌, ◌++◌, length, drop, map, refl, ap, sym, subst, ◌∙◌, arith, inl, inr}
use Rattle.std.specs.Prelude.{◌==◌, ◌||◌}
use Rattle.std.proofs.lemmas.List.{length-append, length-drop, append_cancel_right}
use Rattle.std.specs.declared.option.Option.{Option}
use Rattle.std.specs.declared.option.Option.TheVariants.{None, Some}
use Rattle.syntax_trees.specs.declared.token.Token.{Token}
use Rattle.syntax_trees.specs.declared.token.Token.TheVariants.{Text}
use Rattle.syntax_trees.specs.Following.{TokenControl as Control, followed_after as followed_from, token_of}
use Rattle.syntax_trees.specs.Lexes.{Lexes, none_read, gap_then, single_then, text_then}
use Rattle.syntax_trees.specs.Tokens.{First, Gap, Single, Quote, first, Placed, placed, span_between}
use Rattle.syntax_trees.proofs.OneTokens.{gap_of, single_of, quote_of, quoted_too, same_inside}
use Rattle.syntax_trees.proofs.Settled.{lexes_end, lexes_short, LexesToo}
use Rattle.syntax_trees.proofs.Shorter.{first_shrinks, after_first, inside_shrinks}
use Rattle.syntax_trees.proofs.Suffixes.{EndsWith}
use Rattle.syntax_faults.specs.Endings.{begins_apart}
use Rattle.syntax_faults.proofs.TokenKinds.{AreKinds, gap_kinds, single_kinds, text_kinds, SingleGives, QuoteGives, kinds_first}
use Rattle.syntax_faults.proofs.TextSplits.{inside_settled, inside_loose, inside_split}
use Rattle.syntax_faults.proofs.Splits.{Past, PastSingle, gap_settled, single_settled, quote_settled, none_settled, loose}
use Rattle.syntax_faults.proofs.FirstSplits.{first_split}
use Rattle.syntax_faults.proofs.GoingOn.{given_by}

-- what has nothing before the place has no tokens there
apart_longer : {A : Type 0} (s x stop rest : List ℕ) → stop ≡ s ++ x → begins_apart s ≡ true → length stop ≤ length rest → length rest ≤ length x → A
apart_longer [] x stop rest k a l m = absurd cc
apart_longer (b ∷ s) x stop rest k a l m = let e = ap length k in absurd (omega (arith, length-append s x))

joins_apart : (b s : ℕ) → (s == 43 || s == 58) ≡ true → b ≡ s → not (b == 43 || b == 58) ≡ true → ⊥
joins_apart b s c e a =
    let h : (b == 43 || b == 58) ≡ true = subst (λ z. (z == 43 || z == 58) ≡ true) (sym e) c in
    let g = sym (ap not h) ∙ a in
    cc

apart_joined : {A : Type 0} (s x rest stop : List ℕ) (b : ℕ) → begins_apart s ≡ true → (b == 43 || b == 58) ≡ true → rest ≡ b ∷ x → stop ≡ s ++ x → EndsWith rest stop → A
apart_joined [] x rest stop b a c e k w = absurd cc
apart_joined (d ∷ []) x rest stop b a c e k (zero, f) =
    let same : d ∷ x ≡ b ∷ x = sym k ∙ f ∙ e in absurd (joins_apart d b c (let g = same in cc) a)
apart_joined (d ∷ []) x rest stop b a c e k (suc n, f) =
    let g = ap length (sym k ∙ f ∙ ap (drop (suc n)) e) in absurd (omega (arith, length-drop n x))
apart_joined (d ∷ d2 ∷ s) x rest stop b a c e k (n, f) =
    let g = ap length (sym k ∙ f ∙ ap (drop n) e) in absurd (omega (arith, length-drop n (b ∷ x), length-append s x))

too_far : {A : Type 0} (whole rest stop x s : List ℕ) → whole ≡ x → stop ≡ s ++ x → length stop ≤ length rest → length rest < length whole → A
too_far whole rest stop x s h k l m =
    let e = ap length h in
    let f = ap length k in
    absurd (omega (arith, length-append s x))

past_gap : (x rest : List ℕ) (f : First) → f ≡ Gap rest → Past x f → length rest ≤ length x
past_gap x rest f e h = subst (Past x) e h

past_single : (x rest : List ℕ) (token : Token) (f : First) → f ≡ Single token rest → Past x f → PastSingle x rest
past_single x rest token f e h = subst (Past x) e h

past_quote : (x inside : List ℕ) (long : Bool) (f : First) → f ≡ Quote long inside → Past x f → length inside ≤ suc (length x)
past_quote x inside long f e h = subst (Past x) e h

-- the same tokens before the tail
pub relexed : {total : ℕ} {whole stop : List ℕ} {tokens : List Placed} → Lexes total whole tokens stop → (bytes x s y : List ℕ) (total2 : ℕ) → whole ≡ bytes ++ x
    → stop ≡ s ++ x → begins_apart s ≡ true → LexesToo total2 (bytes ++ y) (s ++ y) (map token_of tokens)
relexed none_read bytes x s y total2 h k a =
    let e : bytes ≡ s = append_cancel_right bytes s x (sym h ∙ k) in
    record { tokens = []; lexes = subst (λ z. Lexes total2 (bytes ++ y) [] (z ++ y)) e none_read; same = refl }
relexed {whole = whole} {stop = stop} (gap_then {rest = rest} e l) [] x s y total2 h k a =
    too_far whole rest stop x s h k (lexes_short l) (after_first (length whole) e (first_shrinks whole))
relexed {stop = stop} (gap_then {rest = rest} e l) (b ∷ f) x s y total2 h k a =
    let now : first (b ∷ f ++ x) ≡ Gap rest = sym (ap first h) ∙ e in
    elim (first_split b f) [
      | gap_settled g q v ↦ (
          let i = relexed l g x s y total2 (gap_of now (v x)) k a in record { tokens = i.tokens; lexes = gap_then (v y) i.lexes; same = i.same })
      | single_settled token g q v ↦ absurd (let c = sym now ∙ v x in cc)
      | quote_settled long g q v ↦ absurd (let c = sym now ∙ v x in cc)
      | none_settled v ↦ absurd (let c = sym now ∙ v x in cc)
      | loose past can ↦ apart_longer s x stop rest k a (lexes_short l) (past_gap x rest (first (b ∷ f ++ x)) now (past x))
    ]
relexed {whole = whole} {stop = stop} (single_then {rest = rest} e l) [] x s y total2 h k a =
    too_far whole rest stop x s h k (lexes_short l) (after_first (length whole) e (first_shrinks whole))
relexed {stop = stop} (single_then {rest = rest} {token = token} {tokens = ts} e l) (b ∷ f) x s y total2 h k a =
    let now : first (b ∷ f ++ x) ≡ Single token rest = sym (ap first h) ∙ e in
    elim (first_split b f) [
      | gap_settled g q v ↦ absurd (let c = sym now ∙ v x in cc)
      | single_settled token2 g q v ↦ (
          let t = single_of now (v x) in
          let i = relexed l g x s y total2 t.1 k a in
          record {
            tokens = placed token (span_between total2 (b ∷ f ++ y) (g ++ y)) ∷ i.tokens;
            lexes = single_then (v y ∙ ap (λ z. Single z (g ++ y)) (sym t.0)) i.lexes;
            same = ap (λ z. token ∷ z) i.same;
          })
      | quote_settled long g q v ↦ absurd (let c = sym now ∙ v x in cc)
      | none_settled v ↦ absurd (let c = sym now ∙ v x in cc)
      | loose past can ↦ (
          elim (past_single x rest token (first (b ∷ f ++ x)) now (past x)) [
            | inl m ↦ apart_longer s x stop rest k a (lexes_short l) m
            | inr m ↦ apart_joined s x rest stop m.0 a m.1 m.2 k (lexes_end l)
          ])
    ]
relexed {whole = whole} {stop = stop} (text_then {inside = inside} {rest = rest} e i l) [] x s y total2 h k a =
    let m = inside_shrinks i in
    let n : length inside < length whole = after_first (length whole) e (first_shrinks whole) in
    too_far whole rest stop x s h k (lexes_short l) (omega arith)
relexed {stop = stop} (text_then {inside = inside} {text = contents} {rest = rest} {long = long} {tokens = ts} e i l) (b ∷ f) x s y total2 h k a =
    let now : first (b ∷ f ++ x) ≡ Quote long inside = sym (ap first h) ∙ e in
    elim (first_split b f) [
      | gap_settled g q v ↦ absurd (let c = sym now ∙ v x in cc)
      | single_settled token2 g q v ↦ absurd (let c = sym now ∙ v x in cc)
      | quote_settled long2 g q v ↦ (
          let t = quote_of (v x) now in
          elim (inside_split g x contents rest (quoted_too t.0 t.1 i)) [
            | inside_settled j ↦ (
                let r = relexed l j.left x s y total2 j.is k a in
                record {
                  tokens = placed (Text contents) (span_between total2 (b ∷ f ++ y) (j.left ++ y)) ∷ r.tokens;
                  lexes = text_then (v y) (j.too y) r.lexes;
                  same = ap (λ z. Text contents ∷ z) r.same;
                })
            | inside_loose m j ↦ apart_longer s x stop rest k a (lexes_short l) m
          ])
      | none_settled v ↦ absurd (let c = sym now ∙ v x in cc)
      | loose past can ↦ (
          let m = inside_shrinks i in
          let n = past_quote x inside long (first (b ∷ f ++ x)) now (past x) in
          apart_longer s x stop rest k a (lexes_short l) (omega arith))
    ]

-- the tokens after those before the tail
pub kinds_after : {total : ℕ} {bytes stop : List ℕ} {tokens : List Placed} → Lexes total bytes tokens stop → (kinds : List Token) → AreKinds bytes kinds
    → (more : List Token) × AreKinds stop more × (kinds ≡ map token_of tokens ++ more)
kinds_after none_read kinds p = (kinds, p, refl)
kinds_after {bytes = bytes} (gap_then {rest = rest} e l) kinds p =
    let q : AreKinds rest kinds = given_by kinds (first bytes) (Gap rest) e (kinds_first bytes p) in kinds_after l kinds q
kinds_after {bytes = bytes} (single_then {rest = rest} {token = token} e l) kinds p =
    let q : SingleGives token rest kinds = given_by kinds (first bytes) (Single token rest) e (kinds_first bytes p) in
    let r = kinds_after l q.more q.later in
    (r.0, r.1, q.is ∙ ap (λ z. token ∷ z) r.2)
kinds_after {bytes = bytes} (text_then {inside = inside} {text = contents} {rest = rest} {long = long} e i l) kinds p =
    let q : QuoteGives long inside kinds = given_by kinds (first bytes) (Quote long inside) e (kinds_first bytes p) in
    let same = same_inside i q.spelled in
    let r = kinds_after l q.more (subst (λ z. AreKinds z q.more) (sym same.1) q.later) in
    (r.0, r.1, q.is ∙ ap (λ z. Text z ∷ q.more) (sym same.0) ∙ ap (λ z. Text contents ∷ z) r.2)

pub kinds_onto : {total : ℕ} {bytes stop : List ℕ} {tokens : List Placed} → Lexes total bytes tokens stop → {kinds : List Token} → AreKinds stop kinds
    → AreKinds bytes (map token_of tokens ++ kinds)
kinds_onto none_read p = p
kinds_onto (gap_then e l) p = gap_kinds e (kinds_onto l p)
kinds_onto (single_then e l) p = single_kinds e (kinds_onto l p)
kinds_onto (text_then e i l) p = text_kinds e i (kinds_onto l p)

none_followed : (tokens : List Token) → followed_from None tokens ≡ None
none_followed [] = refl
none_followed (token ∷ tokens) = refl

pub followed_append : (o : Option Control) (one other : List Token) → followed_from o (one ++ other) ≡ followed_from (followed_from o one) other
followed_append o [] other = refl
followed_append None (token ∷ one) other = sym (none_followed other)
followed_append (Some c) (token ∷ one) other = followed_append _ one other
