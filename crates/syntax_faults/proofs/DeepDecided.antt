-- Whether a place is too deep is decided, and where none is, tokens and entries are shallow.
use Rattle.std.proofs.Common.{◌≡◌, ℕ, zero, suc, ◌-◌, ◌<◌, ◌≤◌, Bool, true, false, List, [], ◌∷◌, ◌++◌, length, drop, map, refl, ap, sym, subst, ◌∙◌, arith, append_assoc, ◌⊎◌, inl, inr}
use Rattle.std.proofs.lemmas.Bool.{cases_lt, cases_order, cases_Bool}
use Rattle.std.proofs.lemmas.List.{length-drop, append-nil}
use Rattle.std.specs.declared.option.Option.{Option}
use Rattle.std.specs.declared.option.Option.TheVariants.{None, Some}
use Rattle.syntax_trees.specs.declared.limits.TheConstants.{NESTING_LIMIT}
use Rattle.syntax_trees.specs.declared.token.Token.{Token}
use Rattle.syntax_trees.specs.declared.token.Token.TheVariants.{Text}
use Rattle.syntax_trees.specs.declared.tree.Span.{Span}
use Rattle.syntax_trees.specs.Texts.{IsInside}
use Rattle.syntax_trees.specs.Faults.{is_opening, IsTooDeep, IsDeepAt, IsNowhereDeep}
use Rattle.syntax_trees.specs.Following.{TokenControl as Control, at_entry, tokens_followed as followed, token_of}
use Rattle.syntax_trees.specs.Heights.{HeightState as State, height_step as step, height_start as start, height_after as exec, token_height as height, NestsBelow as Below}
use Rattle.syntax_trees.specs.Lexes.{Lexes, none_read, gap_then, single_then, text_then}
use Rattle.syntax_trees.specs.Tokens.{First, End, Gap, Single, Quote, NoToken, first, Placed, placed, span_between, AreTokens, ends, gap, single, text}
use Rattle.syntax_trees.proofs.OneTokens.{gap_single, gap_quote, single_quote, gap_of, single_of, quote_of, quoted_too, same_single, same_text, same_inside}
use Rattle.syntax_trees.proofs.Settled.{lexes_end, lexes_short}
use Rattle.syntax_trees.proofs.Shorter.{first_shrinks, after_first, inside_shrinks}
use Rattle.syntax_trees.proofs.Suffixes.{EndsWith}
use Rattle.syntax_faults.specs.Laws.{OpensTooDeep}
use Rattle.syntax_faults.proofs.Deciding.{Decided, decided_as, SomeInside, text_inside}
use Rattle.syntax_faults.proofs.DeepPlaces.{front_leads, kinds_put, deep_places_are_told}
use Rattle.syntax_faults.proofs.Levels.{Within, within_step}

-- one reading goes no further than another that has gone on
gone_on : {A : Type 0} {total : ℕ} {rest stop : List ℕ} {tokens : List Placed} (bytes : List ℕ) → length rest < length bytes → Lexes total rest tokens stop → bytes ≡ stop → A
gone_on bytes s l k = let m = lexes_short l in let e = ap length k in absurd (omega arith)

lexes_of : {total : ℕ} {a b stop : List ℕ} {tokens : List Placed} → a ≡ b → Lexes total b tokens stop → Lexes total a tokens stop
lexes_of {total} {stop = stop} {tokens = tokens} e p = subst (λ z. Lexes total z tokens stop) (sym e) p

-- two readings of the same bytes up to the same place are one
same_lexes : {total : ℕ} {bytes stop end : List ℕ} {one other : List Placed} → Lexes total bytes one stop → Lexes total bytes other end → stop ≡ end → one ≡ other
same_lexes none_read none_read k = refl
same_lexes {bytes = bytes} none_read (gap_then f q) k = gone_on bytes (after_first (length bytes) f (first_shrinks bytes)) q k
same_lexes {bytes = bytes} none_read (single_then f q) k = gone_on bytes (after_first (length bytes) f (first_shrinks bytes)) q k
same_lexes {bytes = bytes} none_read (text_then {inside = inside} {rest = rest} f j q) k =
    let s : length inside < length bytes = after_first (length bytes) f (first_shrinks bytes) in
    let t = inside_shrinks j in
    let m : length rest < length bytes = omega arith in
    gone_on bytes m q k
same_lexes {bytes = bytes} (gap_then e p) none_read k = gone_on bytes (after_first (length bytes) e (first_shrinks bytes)) p (sym k)
same_lexes (gap_then e p) (gap_then f q) k = same_lexes p (lexes_of (gap_of e f) q) k
same_lexes (gap_then e p) (single_then f q) k = gap_single e f
same_lexes (gap_then e p) (text_then f j q) k = gap_quote e f
same_lexes {bytes = bytes} (single_then e p) none_read k = gone_on bytes (after_first (length bytes) e (first_shrinks bytes)) p (sym k)
same_lexes (single_then e p) (gap_then f q) k = gap_single f e
same_lexes {total} {bytes} (single_then e p) (single_then f q) k =
    let g = single_of e f in same_single total bytes g (same_lexes p (lexes_of g.1 q) k)
same_lexes (single_then e p) (text_then f j q) k = single_quote e f
same_lexes {bytes = bytes} (text_then {inside = inside} {rest = rest} e i p) none_read k =
    let s : length inside < length bytes = after_first (length bytes) e (first_shrinks bytes) in
    let t = inside_shrinks i in
    let m : length rest < length bytes = omega arith in
    gone_on bytes m p (sym k)
same_lexes (text_then e i p) (gap_then f q) k = gap_quote f e
same_lexes (text_then e i p) (single_then f q) k = single_quote f e
same_lexes {total} {bytes} (text_then e i p) (text_then f j q) k =
    let g = quote_of e f in
    let h = same_inside i (quoted_too g.0 g.1 j) in
    same_text total bytes h (same_lexes p (lexes_of h.1 q) k)

-- a reading up to the last so many bytes
abbrev Reading : ℕ → List ℕ → ℕ → Type 0
Reading total bytes k = (tokens : List Placed) × (stop : List ℕ) × Lexes total bytes tokens stop × (length stop ≡ k)

after_end : {total k : ℕ} {bytes : List ℕ} → first bytes ≡ End → k < length bytes → Reading total bytes k → ⊥
after_end e l (ts, s, none_read, h) = omega arith
after_end e l (ts, s, gap_then f q, h) = let g = sym e ∙ f in cc
after_end e l (ts, s, single_then f q, h) = let g = sym e ∙ f in cc
after_end e l (ts, s, text_then f j q, h) = let g = sym e ∙ f in cc

after_none : {total k : ℕ} {bytes : List ℕ} → first bytes ≡ NoToken → k < length bytes → Reading total bytes k → ⊥
after_none e l (ts, s, none_read, h) = omega arith
after_none e l (ts, s, gap_then f q, h) = let g = sym e ∙ f in cc
after_none e l (ts, s, single_then f q, h) = let g = sym e ∙ f in cc
after_none e l (ts, s, text_then f j q, h) = let g = sym e ∙ f in cc

after_gap : {total k : ℕ} {bytes rest : List ℕ} → first bytes ≡ Gap rest → k < length bytes → Reading total bytes k → Reading total rest k
after_gap e l (ts, s, none_read, h) = absurd (omega arith)
after_gap e l (ts, s, gap_then f q, h) = (ts, s, lexes_of (gap_of e f) q, h)
after_gap e l (ts, s, single_then f q, h) = gap_single e f
after_gap e l (ts, s, text_then f j q, h) = gap_quote e f

after_single : {total k : ℕ} {bytes rest : List ℕ} {token : Token} → first bytes ≡ Single token rest → k < length bytes → Reading total bytes k → Reading total rest k
after_single e l (ts, s, none_read, h) = absurd (omega arith)
after_single e l (ts, s, gap_then f q, h) = gap_single f e
after_single e l (ts, s, single_then {tokens = us} f q, h) = (us, s, lexes_of (single_of e f).1 q, h)
after_single e l (ts, s, text_then f j q, h) = single_quote e f

after_text : {total k : ℕ} {bytes inside : List ℕ} {long : Bool} → first bytes ≡ Quote long inside → k < length bytes → Reading total bytes k
    → (contents : List ℕ) × (rest : List ℕ) × IsInside long inside contents rest × Reading total rest k
after_text e l (ts, s, none_read, h) = absurd (omega arith)
after_text e l (ts, s, gap_then f q, h) = gap_quote f e
after_text e l (ts, s, single_then f q, h) = single_quote f e
after_text e l (ts, s, text_then {text = t} {rest = r} {tokens = us} f j q, h) =
    let g = quote_of e f in (t, r, quoted_too g.0 g.1 j, (us, s, q, h))

reading_step : (n total : ℕ) (bytes : List ℕ) (k : ℕ) → k < length bytes → length bytes ≤ suc n → ((rest : List ℕ) → length rest ≤ n → Decided (Reading total rest k))
    → Decided (Reading total bytes k)
reading_step n total bytes k l m f = by_first (first bytes) refl
  where
    by_first : (u : First) → first bytes ≡ u → Decided (Reading total bytes k)
    by_first End e = inr (after_end e l)
    by_first (Gap rest) e =
        let s : length rest < length bytes = after_first (length bytes) e (first_shrinks bytes) in
        decided_as (λ (ts, s, q, h). (ts, s, gap_then e q, h)) (after_gap e l) (f rest (omega arith))
    by_first (Single token rest) e =
        let s : length rest < length bytes = after_first (length bytes) e (first_shrinks bytes) in
        decided_as (λ (ts, s, q, h). (placed token (span_between total bytes rest) ∷ ts, s, single_then e q, h)) (after_single e l) (f rest (omega arith))
    by_first (Quote long inside) e = by_text (text_inside long inside)
      where
        by_text : Decided (SomeInside long inside) → Decided (Reading total bytes k)
        by_text (inl (t, r, i)) =
            let s : length inside < length bytes = after_first (length bytes) e (first_shrinks bytes) in
            let j = inside_shrinks i in
            decided_as (λ (ts, s, q, h). (placed (Text t) (span_between total bytes r) ∷ ts, s, text_then e i q, h))
            (λ x. let a = after_text e l x in subst (λ z. Reading total z k) (sym (same_inside i a.2).1) a.3) (f r (omega arith))
        by_text (inr h) = inr (λ x. let a = after_text e l x in h (a.0, a.1, a.2))
    by_first NoToken e = inr (after_none e l)

reading_by : (n total : ℕ) (bytes : List ℕ) (k : ℕ) → length bytes ≤ n → Decided (Reading total bytes k)
reading_by zero total bytes k l = by_length (cases_lt k (length bytes))
  where
    by_length : (k < length bytes) ⊎ (length bytes ≤ k) → Decided (Reading total bytes k)
    by_length (inl m) = absurd (omega arith)
    by_length (inr m) = by_equal (cases_order (length bytes) k)
      where
        by_equal : (length bytes ≡ k) ⊎ ((length bytes < k) ⊎ (k < length bytes)) → Decided (Reading total bytes k)
        by_equal (inl e) = inl ([], bytes, none_read, e)
        by_equal (inr (inl h)) = inr (λ (ts, s, q, e). let r = lexes_short q in omega arith)
        by_equal (inr (inr h)) = absurd (omega arith)
reading_by (suc n) total bytes k l = by_equal (λ rest m. reading_by n total rest k m) (cases_order (length bytes) k)
  where
    by_equal : ((rest : List ℕ) → length rest ≤ n → Decided (Reading total rest k)) → (length bytes ≡ k) ⊎ ((length bytes < k) ⊎ (k < length bytes))
        → Decided (Reading total bytes k)
    by_equal f (inl e) = inl ([], bytes, none_read, e)
    by_equal f (inr (inl h)) = inr (λ (ts, s, q, e). let r = lexes_short q in omega arith)
    by_equal f (inr (inr h)) = reading_step n total bytes k h l f

-- what bytes end with is told by its length
same_end : (bytes stop : List ℕ) (place : ℕ) → place < length bytes → EndsWith bytes stop → length stop ≡ length bytes - place → stop ≡ drop place bytes
same_end bytes stop place l (n, e) h =
    let f : length stop ≡ length bytes - n = ap length e ∙ length-drop n bytes in
    let g : n ≡ place = omega arith in
    e ∙ ap (λ z. drop z bytes) g

-- the tokens before a place, where it is one between tokens
abbrev BeforePlace : List ℕ → ℕ → Type 0
BeforePlace bytes place = (tokens : List Placed) × Lexes (length bytes) bytes tokens (drop place bytes)

before_decided : (bytes : List ℕ) (place : ℕ) → place < length bytes → Decided (BeforePlace bytes place)
before_decided bytes place l =
    decided_as
    (λ (ts, s, q, h). (ts, subst (λ z. Lexes (length bytes) bytes ts z) (same_end bytes s place l (lexes_end q) h) q))
    (λ (ts, q). (ts, drop place bytes, q, length-drop place bytes))
    (reading_by (length bytes) (length bytes) bytes (length bytes - place) (omega arith))

same_token : {t u : Token} {a b : List ℕ} {f : First} → f ≡ Single t a → f ≡ Single u b → t ≡ u
same_token e f = (single_of e f).0

-- whether the tokens before a place and the one at it nest too deep
opens_decided : (bytes : List ℕ) (place : ℕ) → Decided (OpensTooDeep bytes place)
opens_decided bytes place = by_length (cases_lt place (length bytes))
  where
    by_height : (l : place < length bytes) (ts : List Placed) (q : Lexes (length bytes) bytes ts (drop place bytes)) (token : Token) (rest : List ℕ)
        → first (drop place bytes) ≡ Single token rest → is_opening token ≡ true → (d : Control) → followed (at_entry false) (map token_of ts ++ token ∷ []) ≡ Some d
        → (height (exec start (map token_of ts)) token < NESTING_LIMIT) ⊎ (NESTING_LIMIT ≤ height (exec start (map token_of ts)) token) → Decided (OpensTooDeep bytes place)
    by_height l ts q token rest e o d f (inr h) = inl (record {
      tokens = ts;
      token = token;
      rest = rest;
      control = d;
      within = l;
      before = q;
      here = e;
      opening = o;
      follow = f;
      nested = h;
    })
    by_height l ts q token rest e o d f (inl h) =
        inr (λ x.
        let same = same_lexes x.before q refl in
        let t = same_token x.here e in
        let g : height (exec start (map token_of x.tokens)) x.token ≡ height (exec start (map token_of ts)) token =
        ap (λ z. height (exec start (map token_of z)) x.token) same ∙ ap (λ z. height (exec start (map token_of ts)) z) t in
        let n = x.nested in
        omega arith)

    by_follow : (l : place < length bytes) (ts : List Placed) (q : Lexes (length bytes) bytes ts (drop place bytes)) (token : Token) (rest : List ℕ)
        → first (drop place bytes) ≡ Single token rest → is_opening token ≡ true → (o : Option Control)
        → followed (at_entry false) (map token_of ts ++ token ∷ []) ≡ o → Decided (OpensTooDeep bytes place)
    by_follow l ts q token rest e o (Some d) f =
        by_height l ts q token rest e o d f (cases_lt (height (exec start (map token_of ts)) token) NESTING_LIMIT)
    by_follow l ts q token rest e o None f =
        inr (λ x.
        let same = same_lexes x.before q refl in
        let t = same_token x.here e in
        let g = sym f ∙ sym (ap (λ z. followed (at_entry false) (map token_of z ++ token ∷ [])) same)
        ∙ sym (ap (λ z. followed (at_entry false) (map token_of x.tokens ++ z ∷ [])) t) ∙ x.follow in
        cc)

    by_opening : (l : place < length bytes) (ts : List Placed) (q : Lexes (length bytes) bytes ts (drop place bytes)) (token : Token) (rest : List ℕ)
        → first (drop place bytes) ≡ Single token rest → (is_opening token ≡ true) ⊎ (is_opening token ≡ false) → Decided (OpensTooDeep bytes place)
    by_opening l ts q token rest e (inl o) = by_follow l ts q token rest e o (followed (at_entry false) (map token_of ts ++ token ∷ [])) refl
    by_opening l ts q token rest e (inr o) =
        inr (λ x. let g = sym o ∙ sym (ap is_opening (same_token x.here e)) ∙ x.opening in cc)

    by_first : (l : place < length bytes) (ts : List Placed) (q : Lexes (length bytes) bytes ts (drop place bytes)) (f : First) → first (drop place bytes) ≡ f
        → Decided (OpensTooDeep bytes place)
    by_first l ts q (Single token rest) e = by_opening l ts q token rest e (cases_Bool (is_opening token))
    by_first l ts q End e = inr (λ x. let g = sym e ∙ x.here in cc)
    by_first l ts q (Gap rest) e = inr (λ x. let g = sym e ∙ x.here in cc)
    by_first l ts q (Quote long inside) e = inr (λ x. let g = sym e ∙ x.here in cc)
    by_first l ts q NoToken e = inr (λ x. let g = sym e ∙ x.here in cc)

    by_place : (l : place < length bytes) → Decided (BeforePlace bytes place) → Decided (OpensTooDeep bytes place)
    by_place l (inl (ts, q)) = by_first l ts q (first (drop place bytes)) refl
    by_place l (inr n) = inr (λ x. n (x.tokens, x.before))

    by_length : (place < length bytes) ⊎ (length bytes ≤ place) → Decided (OpensTooDeep bytes place)
    by_length (inl l) = by_place l (before_decided bytes place l)
    by_length (inr l) = inr (λ x. let w = x.within in omega arith)

pub deep_decided : (bytes : List ℕ) (place : ℕ) → Decided (IsTooDeep bytes place)
deep_decided bytes place = let d = deep_places_are_told bytes place in decided_as d.1 d.0 (opens_decided bytes place)

-- the first place that is too deep
first_deep : (bytes : List ℕ) (n : ℕ) → ((place : ℕ) × IsDeepAt bytes place) ⊎ ((place : ℕ) → place < n → IsTooDeep bytes place → ⊥)
first_deep bytes zero = inr (λ place l d. omega arith)
first_deep bytes (suc n) = next (first_deep bytes n) (deep_decided bytes n)
  where
    up_to : ((place : ℕ) → place < n → IsTooDeep bytes place → ⊥) → (IsTooDeep bytes n → ⊥) → (place : ℕ) → place < suc n → IsTooDeep bytes place → ⊥
    up_to f g place l d = elim (cases_lt place n) [
      | inl m ↦ f place m d
      | inr m ↦ (let e : place ≡ n = omega arith in g (subst (λ z. IsTooDeep bytes z) e d))
    ]

    next : ((place : ℕ) × IsDeepAt bytes place) ⊎ ((place : ℕ) → place < n → IsTooDeep bytes place → ⊥) → Decided (IsTooDeep bytes n)
        → ((place : ℕ) × IsDeepAt bytes place) ⊎ ((place : ℕ) → place < suc n → IsTooDeep bytes place → ⊥)
    next (inl d) g = inl d
    next (inr f) (inl d) = inl (n, record { deep = d; first = f })
    next (inr f) (inr g) = inr (up_to f g)

pub deep_somewhere : (bytes : List ℕ) → ((place : ℕ) × IsDeepAt bytes place) ⊎ IsNowhereDeep bytes
deep_somewhere bytes = elim (first_deep bytes (length bytes)) [ inl d ↦ inl d | inr f ↦ inr (λ place d. f place d.within d) ]

-- readings one after another
lexes_then : {total : ℕ} {bytes between stop : List ℕ} {one other : List Placed} → Lexes total bytes one between → Lexes total between other stop
    → Lexes total bytes (one ++ other) stop
lexes_then none_read q = q
lexes_then (gap_then e p) q = gap_then e (lexes_then p q)
lexes_then (single_then e p) q = single_then e (lexes_then p q)
lexes_then (text_then e i p) q = text_then e i (lexes_then p q)

exec_more : (s : State) (pre : List Placed) (token : Placed) → exec s (map token_of (pre ++ token ∷ [])) ≡ step (exec s (map token_of pre)) (token_of token)
exec_more s [] token = refl
exec_more s (t ∷ pre) token = exec_more (step s (token_of t)) pre token

-- a token after those before it
record Stands (bytes : List ℕ) (pre post : List Placed) : Type 0 where
  all : List Placed
  is : pre ++ post ≡ all
  control : Control
  leads : followed (at_entry false) (map token_of all) ≡ Some control

stands_more : {bytes : List ℕ} (pre : List Placed) (token : Placed) (post : List Placed) → Stands bytes pre (token ∷ post) → Stands bytes (pre ++ token ∷ []) post
stands_more pre token post s = record { all = s.all; is = append_assoc pre (token ∷ []) post ∙ s.is; control = s.control; leads = s.leads }

opening_below : (bytes stop rest : List ℕ) (pre post : List Placed) (token : Token) (span : Span) → IsNowhereDeep bytes → Lexes (length bytes) bytes pre stop
    → first stop ≡ Single token rest → Stands bytes pre (placed token span ∷ post) → is_opening token ≡ true → height (exec start (map token_of pre)) token < NESTING_LIMIT
opening_below bytes stop rest pre post token span nowhere l e s o = elim (cases_lt (height (exec start (map token_of pre)) token) NESTING_LIMIT) [
  | inl h ↦ h
  | inr h ↦ (
      let w = lexes_end l in
      let k : length rest < length stop = after_first (length stop) e (first_shrinks stop) in
      let g : length stop ≡ length bytes - w.0 = ap length w.1 ∙ length-drop w.0 bytes in
      let kinds : followed (at_entry false) ((map token_of pre ++ token ∷ []) ++ map token_of post) ≡ Some s.control =
      ap (followed (at_entry false)) (sym (kinds_put pre (placed token span) post) ∙ ap (map token_of) s.is) ∙ s.leads in
      let f = front_leads (map token_of pre ++ token ∷ []) (map token_of post) s.control kinds in
      let there : OpensTooDeep bytes w.0 = record {
        tokens = pre;
        token = token;
        rest = rest;
        control = f.control;
        within = omega arith;
        before = subst (λ z. Lexes (length bytes) bytes pre z) w.1 l;
        here = ap first (sym w.1) ∙ e;
        opening = o;
        follow = f.leads;
        nested = h;
      } in
      absurd (nowhere w.0 ((deep_places_are_told bytes w.0).1 there)))
]

below_from : (bytes : List ℕ) → IsNowhereDeep bytes → {stop : List ℕ} (pre post : List Placed) → Lexes (length bytes) bytes pre stop → AreTokens (length bytes) stop post
    → Stands bytes pre post → Within NESTING_LIMIT (exec start (map token_of pre)) → Below NESTING_LIMIT (exec start (map token_of pre)) post
below_from bytes nowhere pre post l (ends e) s w = tt
below_from bytes nowhere {stop} pre post l (gap {rest = rest} e p) s w =
    let on : Lexes (length bytes) bytes pre rest =
    subst (λ z. Lexes (length bytes) bytes z rest) (append-nil pre) (lexes_then l (gap_then e none_read)) in
    below_from bytes nowhere {stop = rest} pre post on p s w
below_from bytes nowhere {stop} pre post l (single {rest = rest} {token = token} {tokens = ts} e p) s w =
    let span = span_between (length bytes) stop rest in
    let next : Within NESTING_LIMIT (step (exec start (map token_of pre)) token) =
    within_step NESTING_LIMIT (exec start (map token_of pre)) token w (opening_below bytes stop rest pre ts token span nowhere l e s) in
    let more = exec_more start pre (placed token span) in (
      next.level,
      subst (λ z. Below NESTING_LIMIT z ts) more
          (below_from bytes nowhere (pre ++ placed token span ∷ []) ts (lexes_then l (single_then e none_read)) p (stands_more pre (placed token span) ts s)
          (subst (Within NESTING_LIMIT) (sym more) next)),
    )
below_from bytes nowhere {stop} pre post l (text {text = t} {rest = rest} {tokens = ts} e i p) s w =
    let span = span_between (length bytes) stop rest in
    let next : Within NESTING_LIMIT (step (exec start (map token_of pre)) (Text t)) =
    within_step NESTING_LIMIT (exec start (map token_of pre)) (Text t) w (λ o. absurd cc) in
    let more = exec_more start pre (placed (Text t) span) in (
      next.level,
      subst (λ z. Below NESTING_LIMIT z ts) more
          (below_from bytes nowhere (pre ++ placed (Text t) span ∷ []) ts (lexes_then l (text_then e i none_read)) p (stands_more pre (placed (Text t) span) ts s)
          (subst (Within NESTING_LIMIT) (sym more) next)),
    )

-- where no place is too deep, tokens that follow one another nest in no more than the limit
pub nowhere_below : (bytes : List ℕ) (tokens : List Placed) (d : Control) → IsNowhereDeep bytes → AreTokens (length bytes) bytes tokens
    → followed (at_entry false) (map token_of tokens) ≡ Some d → Below NESTING_LIMIT start tokens
nowhere_below bytes tokens d nowhere p e =
    below_from bytes nowhere [] tokens none_read p (record { all = tokens; is = refl; control = d; leads = e })
    (record { floor = omega arith; level = omega arith; kept = tt })
