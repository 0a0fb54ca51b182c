-- What bytes begin with, when more stands after them.
use Rattle.std.proofs.Common.{◌≡◌, ℕ, suc, ◌+◌, ◌<◌, Bool, true, false, not, List, [], ◌∷◌, ◌++◌, length, drop, refl, ap, sym, subst, ◌∙◌, arith, if◌then◌else◌, ◌⊎◌, inl, inr, append_assoc}
use Rattle.std.specs.Prelude.{◌==◌, ◌&&◌, ◌||◌, codes}
use Rattle.std.proofs.lemmas.Bool.{eqb-true, eq-eqb}
use Rattle.std.proofs.lemmas.List.{length-append, length-drop, append-nil}
use Rattle.std.specs.declared.option.Option.{Option}
use Rattle.std.specs.declared.option.Option.TheVariants.{None, Some}
use Rattle.syntax_trees.specs.declared.token.Token.{Token}
use Rattle.syntax_trees.specs.declared.token.Token.TheVariants.{Text, Colon, Update}
use Rattle.syntax_trees.specs.declared.tree.EnvOp.TheVariants.{Before, BeforeKeep}
use Rattle.syntax_trees.specs.Following.{TokenControl as Control, token_follows as follow, followed_after as followed_from, tokens_followed as followed}
use Rattle.syntax_trees.specs.Signs.{signs, sign_among, begins_with}
use Rattle.syntax_trees.specs.Texts.{closes}
use Rattle.syntax_trees.specs.Tokens.{First, End, Gap, Single, Quote, NoToken, first, is_blank, word_first, sign_first}
use Rattle.syntax_trees.specs.Words.{is_word_byte, begins_word, word_of, word_token}
use Rattle.syntax_trees.proofs.Shorter.{Shrinks, first_shrinks}
use Rattle.syntax_faults.specs.Endings.{IsEnding, no_ending, equals_ending, comment_ending, text_ending, no_escape, one_quote}
use Rattle.syntax_faults.proofs.TokenKinds.{AreKinds, no_kinds, single_kinds, FirstGives, QuoteGives, kinds_first}
use Rattle.syntax_faults.proofs.Splits.{Ends, CanEnd, Past, FirstSplit, gap_settled, single_settled, quote_settled, none_settled, loose, first_if, and_if, line_split, comment_split, sign_split, signs_split, Follows, follows_first, gives_single}
use Rattle.syntax_faults.proofs.WordSplits.{has_colon, WordSplit, word_settled, word_open, word_edge, word_split, word_cons, join_cons, word_stop}
use Rattle.syntax_faults.proofs.WordEnds.{word_gives, WordGoesOn, word_can_end}

-- a token, and what follows it
pub record FollowsOn (c d : Control) (token : Token) (more : List Token) : Type 0 where
  pub after : Control
  pub leads : follow c token ≡ Some after
  pub onward : followed after more ≡ Some d

pub follows_on : (c d : Control) (token : Token) (more : List Token) → followed c (token ∷ more) ≡ Some d → FollowsOn c d token more
follows_on c d token more e =
    let f = follows_first c d token more e in
    record { after = f.after; leads = f.leads; onward = ap (λ o. followed_from o more) (sym f.leads) ∙ e }

drop_front : (front rest : List ℕ) → drop (length front) (front ++ rest) ≡ rest
drop_front [] rest = refl
drop_front (b ∷ front) rest = drop_front front rest

-- a word that goes on to the end of the bytes
past_word : (bytes u x : List ℕ) (o : Option Token) → Past x (word_first o (drop (length (bytes ++ u)) (bytes ++ x)))
past_word bytes u x None = tt
past_word bytes u x (Some token) = inl (omega (arith, length-drop (length (bytes ++ u)) (bytes ++ x), length-append bytes u, length-append bytes x))

word_goes : (c d : Control) (bytes u x : List ℕ) (kinds : List Token) → WordGoesOn bytes → (o : Option Token) → word_token (bytes ++ u) ≡ o
    → FirstGives (word_first o (drop (length (bytes ++ u)) (bytes ++ x))) kinds → followed c kinds ≡ Some d
    → Ends c (λ y. word_gives (word_of true (bytes ++ y)) (bytes ++ y))
word_goes c d bytes u x kinds w None h g e = absurd g
word_goes c d bytes u x kinds w (Some token) h g e =
    word_can_end c bytes u token w h (gives_single c d token (drop (length (bytes ++ u)) (bytes ++ x)) kinds g e)

-- a word before a plus or a colon that does not join to it
record StartsWith (token : Token) (kinds : List Token) : Type 0 where
  later : List Token
  is : kinds ≡ token ∷ later

plus_starts : (x : List ℕ) (kinds : List Token) → FirstGives (first (43 ∷ x)) kinds → StartsWith (Update Before) kinds
plus_starts x kinds g = plus_if (begins_with (61 ∷ []) x) g
  where
    plus_if : (t : Bool) → FirstGives (sign_first (if t then Some (Update Before, drop 1 x) else None)) kinds → StartsWith (Update Before) kinds
    plus_if true g = record { later = g.more; is = g.is }
    plus_if false g = absurd g

colon_starts : (x : List ℕ) (kinds : List Token) → FirstGives (first (58 ∷ x)) kinds → StartsWith (Update BeforeKeep) kinds ⊎ StartsWith Colon kinds
colon_starts x kinds g = colon_if (begins_with (61 ∷ []) x) g
  where
    colon_if : (t : Bool) → FirstGives (sign_first (if t then Some (Update BeforeKeep, drop 1 x) else Some (Colon, x))) kinds
        → StartsWith (Update BeforeKeep) kinds ⊎ StartsWith Colon kinds
    colon_if true g = inl (record { later = g.more; is = g.is })
    colon_if false g = inr (record { later = g.more; is = g.is })

-- a word and a sign
two_left : (c : Control) (p : List ℕ → First) (ending rest : List ℕ) (token sign : Token) → IsEnding ending → p ending ≡ Single token rest → first rest ≡ Single sign []
    → (after : Control) → follow c token ≡ Some after → Follows after sign → Ends c p
two_left c p ending rest token sign i e f after l h =
    let now : FirstGives (Single token rest) (token ∷ sign ∷ []) = record { more = sign ∷ []; is = refl; later = single_kinds f (no_kinds refl) } in
    record {
      ending = ending;
      is = i;
      kinds = token ∷ sign ∷ [];
      spelled = subst (λ z. FirstGives z (token ∷ sign ∷ [])) (sym e) now;
      after = h.after;
      leads = ap (λ o. followed_from o (sign ∷ [])) l ∙ h.leads;
    }

starts_follows : (c d : Control) (token : Token) (kinds : List Token) → StartsWith token kinds → followed c kinds ≡ Some d → Follows c token
starts_follows c d token kinds s e = follows_first c d token s.later (ap (followed c) (sym s.is) ∙ e)

is_sign : (s : ℕ) → (s == 43 || s == 58) ≡ true → (s ≡ 43) ⊎ (s ≡ 58)
is_sign s h = cases (s == 43) refl h
  where
    cases : (t : Bool) → (s == 43) ≡ t → (t || s == 58) ≡ true → (s ≡ 43) ⊎ (s ≡ 58)
    cases true e f = inl (eqb-true s 43 e)
    cases false e f = inr (eqb-true s 58 f)

sign_after : (c d : Control) (p : List ℕ → First) (s : ℕ) (x : List ℕ) (token : Token) (more : List Token) → (s ≡ 43) ⊎ (s ≡ 58)
    → ((ending : List ℕ) → begins_word ending ≡ false → p ending ≡ Single token (s ∷ ending)) → AreKinds (s ∷ x) more → FollowsOn c d token more → Ends c p
sign_after c d p s x token more (inl i) q k f =
    let g : AreKinds (43 ∷ x) more = subst (λ z. AreKinds (z ∷ x) more) i k in
    let u = plus_starts x more (kinds_first (43 ∷ x) g) in
    two_left c p (61 ∷ []) (s ∷ 61 ∷ []) token (Update Before) equals_ending (q (61 ∷ []) refl) (ap (λ z. first (z ∷ 61 ∷ [])) i) f.after f.leads
    (starts_follows f.after d (Update Before) more u f.onward)
sign_after c d p s x token more (inr i) q k f =
    let g : AreKinds (58 ∷ x) more = subst (λ z. AreKinds (z ∷ x) more) i k in
    elim (colon_starts x more (kinds_first (58 ∷ x) g)) [
      | inl u ↦ two_left c p (61 ∷ []) (s ∷ 61 ∷ []) token (Update BeforeKeep) equals_ending (q (61 ∷ []) refl) (ap (λ z. first (z ∷ 61 ∷ [])) i) f.after f.leads
          (starts_follows f.after d (Update BeforeKeep) more u f.onward)
      | inr u ↦ two_left c p [] (s ∷ []) token Colon no_ending (q [] refl) (ap (λ z. first (z ∷ [])) i) f.after f.leads (starts_follows f.after d Colon more u f.onward)
    ]

colon_last : (v : List ℕ) (s : ℕ) → has_colon v ≡ false → has_colon (v ++ s ∷ []) ≡ (s == 58)
colon_last [] s h = or_false (s == 58)
  where
    or_false : (c : Bool) → (c || false) ≡ c
    or_false true = refl
    or_false false = refl
colon_last (b ∷ v) s h = cases (colon_last v s) (b == 58) h
  where
    cases : (has_colon v ≡ false → has_colon (v ++ s ∷ []) ≡ (s == 58)) → (c : Bool) → (c || has_colon v) ≡ false → (c || has_colon (v ++ s ∷ [])) ≡ (s == 58)
    cases g true e = absurd cc
    cases g false e = g e

-- a word with a sign behind it that may join to it
record Edge (bytes v : List ℕ) (s : ℕ) : Type 0 where
  sign : (s == 43 || s == 58) ≡ true
  other : is_word_byte s ≡ false
  is : bytes ≡ v ++ s ∷ []
  none : has_colon v ≡ false
  word : (x : List ℕ) → word_of true (bytes ++ x) ≡ v ++ word_of true (s ∷ x)

edge_bytes : (bytes v : List ℕ) (s : ℕ) → Edge bytes v s → (x : List ℕ) → bytes ++ x ≡ v ++ s ∷ x
edge_bytes bytes v s e x = ap (λ z. z ++ x) e.is ∙ append_assoc v (s ∷ []) x

edge_joins : (bytes v : List ℕ) (s : ℕ) → Edge bytes v s → (x : List ℕ) → begins_word x ≡ true → word_of true (bytes ++ x) ≡ bytes ++ word_of (not (s == 58)) x
edge_joins bytes v s e x h =
    e.word x ∙ ap (λ z. v ++ z) (join_cons s x (ap (λ z. z && begins_word x) e.sign ∙ h))
    ∙ sym (edge_bytes bytes v s e (word_of (not (s == 58)) x))

edge_goes : (bytes v : List ℕ) (s : ℕ) → Edge bytes v s → WordGoesOn bytes
edge_goes bytes v s e y h =
    edge_joins bytes v s e y h ∙ ap (λ z. bytes ++ word_of (not z) y) (sym (ap has_colon e.is ∙ colon_last v s e.none))

edge_stops : (bytes v : List ℕ) (s : ℕ) → Edge bytes v s → (x : List ℕ) → begins_word x ≡ false → word_of true (bytes ++ x) ≡ v
edge_stops bytes v s e x h =
    e.word x ∙ ap (λ z. v ++ z) (word_stop true s x e.other (ap (λ z. z && begins_word x) e.sign ∙ h)) ∙ append-nil v

edge_rest : (bytes v : List ℕ) (s : ℕ) → Edge bytes v s → (x : List ℕ) → begins_word x ≡ false
    → word_gives (word_of true (bytes ++ x)) (bytes ++ x) ≡ word_first (word_token v) (s ∷ x)
edge_rest bytes v s e x h =
    ap (λ z. word_gives z (bytes ++ x)) (edge_stops bytes v s e x h)
    ∙ ap (λ z. word_first (word_token v) (drop (length v) z)) (edge_bytes bytes v s e x)
    ∙ ap (λ z. word_first (word_token v) z) (drop_front v (s ∷ x))

edge_past : (bytes v : List ℕ) (s : ℕ) → Edge bytes v s → (x : List ℕ) → Past x (word_gives (word_of true (bytes ++ x)) (bytes ++ x))
edge_past bytes v s e x = past_if (begins_word x) refl
  where
    past_first : (o : Option Token) → Past x (word_first o (s ∷ x))
    past_first None = tt
    past_first (Some token) = inr (s, e.sign, refl)

    past_if : (c : Bool) → begins_word x ≡ c → Past x (word_gives (word_of true (bytes ++ x)) (bytes ++ x))
    past_if true h =
        let u = word_of (not (s == 58)) x in
        subst (λ z. Past x (word_gives z (bytes ++ x))) (sym (edge_joins bytes v s e x h)) (past_word bytes u x (word_token (bytes ++ u)))
    past_if false h = subst (Past x) (sym (edge_rest bytes v s e x h)) (past_first (word_token v))

edge_can : (bytes v : List ℕ) (s : ℕ) → Edge bytes v s → CanEnd (λ x. word_gives (word_of true (bytes ++ x)) (bytes ++ x))
edge_can bytes v s e x c d kinds g l = can_if (begins_word x) refl
  where
    sign_if : (o : Option Token) → word_token v ≡ o → FirstGives (word_first o (s ∷ x)) kinds → Ends c (λ y. word_gives (word_of true (bytes ++ y)) (bytes ++ y))
    sign_if None h g = absurd g
    sign_if (Some token) h g =
        sign_after c d (λ y. word_gives (word_of true (bytes ++ y)) (bytes ++ y)) s x token g.more (is_sign s e.sign)
        (λ y n. edge_rest bytes v s e y n ∙ ap (λ o. word_first o (s ∷ y)) h) g.later (follows_on c d token g.more (ap (followed c) (sym g.is) ∙ l))

    can_if : (t : Bool) → begins_word x ≡ t → Ends c (λ y. word_gives (word_of true (bytes ++ y)) (bytes ++ y))
    can_if true h =
        let u = word_of (not (s == 58)) x in
        word_goes c d bytes u x kinds (edge_goes bytes v s e) (word_token (bytes ++ u)) refl
        (subst (λ z. FirstGives (word_gives z (bytes ++ x)) kinds) (edge_joins bytes v s e x h) g) l
    can_if false h = sign_if (word_token v) refl (subst (λ z. FirstGives z kinds) (edge_rest bytes v s e x h) g)

-- bytes that begin with a word
word_part : (b : ℕ) (f : List ℕ) → is_word_byte b ≡ true → FirstSplit (suc (length f)) (λ x. word_gives (word_of true (b ∷ f ++ x)) (b ∷ f ++ x))
word_part b f w = by_split (word_split true (b ∷ f))
  where
    longer : (v g : List ℕ) → length v + length g ≡ length (b ∷ f) → v ≡ b ∷ word_of true (f ++ []) → length g < suc (length f)
    longer v g l e = let k = ap length e in omega arith

    token_if : (v g : List ℕ) (o : Option Token) → word_token v ≡ o → length v + length g ≡ length (b ∷ f) → ((x : List ℕ) → word_of true (b ∷ f ++ x) ≡ v)
        → ((x : List ℕ) → drop (length v) (b ∷ f ++ x) ≡ g ++ x) → FirstSplit (suc (length f)) (λ x. word_gives (word_of true (b ∷ f ++ x)) (b ∷ f ++ x))
    token_if v g None h l e k = none_settled (λ x. ap (λ z. word_gives z (b ∷ f ++ x)) (e x) ∙ ap (λ o. word_first o (drop (length v) (b ∷ f ++ x))) h)
    token_if v g (Some token) h l e k =
        single_settled token g (longer v g l (sym (e []) ∙ word_cons true b (f ++ []) w))
        (λ x. ap (λ z. word_gives z (b ∷ f ++ x)) (e x) ∙ ap (λ o. word_first o (drop (length v) (b ∷ f ++ x))) h ∙ ap (λ z. Single token z) (k x))

    by_split : WordSplit true (b ∷ f) → FirstSplit (suc (length f)) (λ x. word_gives (word_of true (b ∷ f ++ x)) (b ∷ f ++ x))
    by_split (word_settled v g l e k) = token_if v g (word_token v) refl l e k
    by_split (word_open e) =
        let bytes = b ∷ f in
        loose
        (λ x. let u = word_of (not (has_colon bytes)) x in subst (λ z. Past x (word_gives z (bytes ++ x))) (sym (e x)) (past_word bytes u x (word_token (bytes ++ u))))
        (λ x c d kinds g l.
        let u = word_of (not (has_colon bytes)) x in
        word_goes c d bytes u x kinds (λ y h. e y) (word_token (bytes ++ u)) refl (subst (λ z. FirstGives (word_gives z (bytes ++ x)) kinds) (e x) g) l)
    by_split (word_edge v s t i o n m e) =
        let edge : Edge (b ∷ f) v s = record { sign = i; other = o; is = n; none = m; word = e } in
        loose (edge_past (b ∷ f) v s edge) (edge_can (b ∷ f) v s edge)

-- one byte is past at once
past_shrunk : (x : List ℕ) (p : First) → Shrinks (suc (length x)) p → Past x p
past_shrunk x End h = tt
past_shrunk x (Gap rest) h = omega arith
past_shrunk x (Single token rest) h = inl (omega arith)
past_shrunk x (Quote long inside) h = omega arith
past_shrunk x NoToken h = tt

-- a bracket that may begin a comment
paren_split : FirstSplit 1 (λ x. first (40 ∷ x))
paren_split =
    loose (λ x. past_shrunk x (first (40 ∷ x)) (first_shrinks (40 ∷ x)))
    (λ x c d kinds g e. record { ending = codes "**)"; is = comment_ending; kinds = []; spelled = no_kinds refl; after = c; leads = refl })

-- quotes of which more may come
text_left : (c d : Control) (p : List ℕ → First) (ending inside : List ℕ) (long : Bool) (kinds : List Token) → IsEnding ending → p ending ≡ Quote false (34 ∷ [])
    → QuoteGives long inside kinds → followed c kinds ≡ Some d → Ends c p
text_left c d p ending inside long kinds i e g l =
    let f = follows_first c d (Text g.contents) g.more (ap (followed c) (sym g.is) ∙ l) in
    let now : FirstGives (Quote false (34 ∷ [])) (Text [] ∷ []) =
    record { contents = []; rest = []; more = []; is = refl; spelled = closes refl; later = no_kinds refl } in
    record {
      ending = ending;
      is = i;
      kinds = Text [] ∷ [];
      spelled = subst (λ z. FirstGives z (Text [] ∷ [])) (sym e) now;
      after = f.after;
      leads = f.leads;
    }

quote_given : (c d : Control) (p : List ℕ → First) (ending one other : List ℕ) (kinds : List Token) → IsEnding ending → p ending ≡ Quote false (34 ∷ [])
    → (t : Bool) → FirstGives (if t then Quote true one else Quote false other) kinds → followed c kinds ≡ Some d → Ends c p
quote_given c d p ending one other kinds i e true g l = text_left c d p ending one true kinds i e g l
quote_given c d p ending one other kinds i e false g l = text_left c d p ending other false kinds i e g l

one_quote_split : FirstSplit 1 (λ x. first (34 ∷ x))
one_quote_split =
    loose (λ x. past_shrunk x (first (34 ∷ x)) (first_shrinks (34 ∷ x)))
    (λ x c d kinds g e.
    quote_given c d (λ y. first (34 ∷ y)) (34 ∷ []) (drop 2 x) x kinds (text_ending no_escape one_quote) refl (begins_with (34 ∷ 34 ∷ []) x) g e)

two_quotes_split : FirstSplit 2 (λ x. first (34 ∷ 34 ∷ x))
two_quotes_split =
    loose (λ x. past x (begins_with (34 ∷ []) x))
    (λ x c d kinds g e. quote_given c d (λ y. first (34 ∷ 34 ∷ y)) [] (drop 1 x) (34 ∷ x) kinds no_ending refl (begins_with (34 ∷ []) x) g e)
  where
    past : (x : List ℕ) (t : Bool) → Past x (if t then Quote true (drop 1 x) else Quote false (34 ∷ x))
    past x true = omega (arith, length-drop 1 x)
    past x false = omega arith

no_such : {A : Type 0} (c : Bool) → c ≡ true → c ≡ false → A
no_such c e f = absurd (let g = sym e ∙ f in cc)

flipped : (a b : ℕ) → (a == b) ≡ false → (b == a) ≡ true → ⊥
flipped a b e f = no_such (a == b) (eq-eqb a b (sym (eqb-true b a f))) e

-- one byte that is no bracket and no quote
first_other : (b : ℕ) → (40 == b) ≡ false → (34 == b) ≡ false → FirstSplit 1 (λ x. first (b ∷ x))
first_other b h k =
    first_if (is_blank b) (λ e. gap_settled [] (omega arith) (λ x. refl)) (λ e.
    first_if (b == 35) (λ e. line_split 1 [] (omega arith)) (λ e.
    and_if _ _ (40 == b) (λ e. no_such (40 == b) e h) (λ e.
    and_if _ _ (34 == b) (λ e. no_such (34 == b) e k) (λ e.
    first_if (b == 34) (λ e. absurd (flipped 34 b k e)) (λ e.
    first_if (is_word_byte b) (λ e. word_part b [] e) (λ e. sign_split 1 b))))))

-- two bytes or more, and no two quotes alone
first_more : (b y : ℕ) (g : List ℕ) → ((34 == b) ≡ true → (34 == y) ≡ true → (z : ℕ) × (h : List ℕ) × (g ≡ z ∷ h)) → FirstSplit (suc (length (y ∷ g))) (λ x. first (b ∷ y ∷ g ++ x))
first_more b y g h =
    let n = suc (length (y ∷ g)) in
    first_if (is_blank b) (λ e. gap_settled (y ∷ g) (omega arith) (λ x. refl)) (λ e.
    first_if (b == 35) (λ e. line_split n (y ∷ g) (omega arith)) (λ e.
    first_if (40 == b && (42 == y && true)) (λ e. comment_split n g (omega arith)) (λ e.
    and_if _ _ (34 == b) (λ i. and_if _ _ (34 == y) (λ j. long_if i (h i j)) (λ j. short_part)) (λ i. short_part))))
  where
    short_part : FirstSplit (suc (length (y ∷ g))) (λ x. if b == 34 then Quote false (y ∷ g ++ x)
        else (if is_word_byte b then word_gives (word_of true (b ∷ y ∷ g ++ x)) (b ∷ y ∷ g ++ x) else sign_first (sign_among signs (b ∷ y ∷ g ++ x))))
    short_part =
        first_if (b == 34) (λ e. quote_settled false (y ∷ g) (omega arith) (λ x. refl)) (λ e.
        first_if (is_word_byte b) (λ e. word_part b (y ∷ g) e) (λ e. signs_split (suc (length (y ∷ g))) b y g signs (omega arith) refl))

    long_if : (34 == b) ≡ true → (z : ℕ) × (h : List ℕ) × (g ≡ z ∷ h)
        → FirstSplit (suc (length (y ∷ g))) (λ x. if begins_with (34 ∷ []) (g ++ x) then Quote true (drop 1 (g ++ x)) else (if b == 34 then Quote false (y ∷ g ++ x)
        else (if is_word_byte b then word_gives (word_of true (b ∷ y ∷ g ++ x)) (b ∷ y ∷ g ++ x) else sign_first (sign_among signs (b ∷ y ∷ g ++ x)))))
    long_if i (z, h, e) =
        subst (λ v. FirstSplit (suc (length (y ∷ g))) (λ x. if begins_with (34 ∷ []) (v ++ x) then Quote true (drop 1 (v ++ x)) else (if b == 34 then Quote false (y ∷ g ++ x)
        else (if is_word_byte b then word_gives (word_of true (b ∷ y ∷ g ++ x)) (b ∷ y ∷ g ++ x) else sign_first (sign_among signs (b ∷ y ∷ g ++ x)))))) (sym e)
        (first_if (34 == z && true) (λ j. quote_settled true h (let l = ap length e in omega arith) (λ x. refl)) (λ j. short_part))

-- what bytes begin with is settled, or there is an ending
pub first_split : (b : ℕ) (f : List ℕ) → FirstSplit (suc (length f)) (λ x. first (b ∷ f ++ x))
first_split b [] = paren_if (40 == b) refl
  where
    quote_if : (40 == b) ≡ false → (t : Bool) → (34 == b) ≡ t → FirstSplit 1 (λ x. first (b ∷ x))
    quote_if h true e = subst (λ z. FirstSplit 1 (λ x. first (z ∷ x))) (eqb-true 34 b e) one_quote_split
    quote_if h false e = first_other b h e

    paren_if : (t : Bool) → (40 == b) ≡ t → FirstSplit 1 (λ x. first (b ∷ x))
    paren_if true e = subst (λ z. FirstSplit 1 (λ x. first (z ∷ x))) (eqb-true 40 b e) paren_split
    paren_if false e = quote_if e (34 == b) refl
first_split b (y ∷ []) = one_if (34 == b) refl
  where
    other_if : (34 == b) ≡ true → (t : Bool) → (34 == y) ≡ t → FirstSplit 2 (λ x. first (b ∷ y ∷ x))
    other_if h true e =
        subst (λ z. FirstSplit 2 (λ x. first (z ∷ y ∷ x))) (eqb-true 34 b h) (subst (λ z. FirstSplit 2 (λ x. first (34 ∷ z ∷ x))) (eqb-true 34 y e) two_quotes_split)
    other_if h false e = first_more b y [] (λ i j. no_such (34 == y) j e)

    one_if : (t : Bool) → (34 == b) ≡ t → FirstSplit 2 (λ x. first (b ∷ y ∷ x))
    one_if true e = other_if e (34 == y) refl
    one_if false e = first_more b y [] (λ i j. no_such (34 == b) i e)
first_split b (y ∷ z ∷ h) = first_more b y (z ∷ h) (λ i j. (z, h, refl))
