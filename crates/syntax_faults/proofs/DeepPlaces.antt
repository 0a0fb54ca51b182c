-- A place is too deep exactly where the tokens before it, and an opening token at it, follow one another and nest it in 64 others.
use Rattle.std.proofs.Common.{◌≡◌, ℕ, ◌+◌, ◌-◌, ◌<◌, ◌≤◌, Bool, true, false, List, [], ◌∷◌, ◌++◌, length, take, drop, get_or, map, refl, ap, sym, subst, ◌∙◌, arith, append_assoc, if◌then◌else◌, inl, inr}
use Rattle.std.specs.Prelude.{◌==◌, ◌&&◌, ◌||◌}
use Rattle.std.specs.List.{list_any}
use Rattle.std.proofs.lemmas.Bool.{eqb-true, or_cases}
use Rattle.std.proofs.lemmas.List.{length-append, length-drop, take_more, take-append-drop}
use Rattle.std.proofs.Math.ListN.{length-take}
use Rattle.std.proofs.Math.Seq.{drop-append_seam}
use Rattle.std.specs.declared.option.Option.{Option}
use Rattle.std.specs.declared.option.Option.TheVariants.{None, Some}
use Rattle.opam_names.proofs.Bytes.{both_left, both_right}
use Rattle.syntax_trees.specs.declared.limits.TheConstants.{NESTING_LIMIT}
use Rattle.syntax_trees.specs.declared.token.Token.{Token}
use Rattle.syntax_trees.specs.declared.token.Token.TheVariants.{Text, OpenGroup, Relation, Not}
use Rattle.syntax_trees.specs.declared.tree.RelOp.TheVariants.{Ne}
use Rattle.syntax_trees.specs.Faults.{is_opening, opens_at, begins_longer, IsTooDeep}
use Rattle.syntax_trees.specs.Files.{Entry, AreEntries}
use Rattle.syntax_trees.specs.Following.{TokenControl as Control, at_entry, followed_after as followed_from, tokens_followed as followed, token_of}
use Rattle.syntax_trees.specs.Heights.{height_start as start, height_after as exec, token_height as height}
use Rattle.syntax_trees.specs.Lexes.{Lexes, none_read, gap_then, single_then, text_then}
use Rattle.syntax_trees.specs.Tokens.{Single, first, Placed, placed, span_between, AreTokens, ends, gap, single, text}
use Rattle.syntax_trees.proofs.Exact.{too_deep}
use Rattle.syntax_trees.proofs.Followed.{file_followed}
use Rattle.syntax_trees.proofs.HeightsTold.{nesting_told}
use Rattle.syntax_trees.proofs.Heights.{at_place, here}
use Rattle.syntax_trees.proofs.NowhereDeep.{Found, OpensWith, with_list, with_braces, with_group, with_not, with_defined, byte_of, opens_with, opening_first, at_token, in_order_all}
use Rattle.syntax_trees.proofs.Settled.{LexesToo, lexes_too, lexes_end, lexes_short, opens}
use Rattle.syntax_trees.proofs.Shorter.{first_shrinks, after_first}
use Rattle.syntax_trees.proofs.Suffixes.{EndsWith}
use Rattle.syntax_trees.specs.Signs.{begins_with}
use Rattle.syntax_trees.specs.Tokens.{Gap, after_comment, sign_first}
use Rattle.syntax_trees.proofs.WordsRead.{drop_step}
use Rattle.syntax_faults.specs.Laws.{OpensTooDeep, DeepPlacesAreTold}
use Rattle.syntax_faults.proofs.Relexed.{followed_append}

-- the opening token at a place
found : {total : ℕ} {bytes : List ℕ} {tokens : List Placed} → AreTokens total bytes tokens → (place : ℕ) → list_any (opens_at place) tokens ≡ true
    → Found total bytes tokens place
found (ends e) place h = absurd cc
found (gap e p) place h =
    let f = found p place h in record {
      pre = f.pre;
      post = f.post;
      token = f.token;
      stop = f.stop;
      rest = f.rest;
      lexes = gap_then e f.lexes;
      stands = f.stands;
      opening = f.opening;
      there = f.there;
      is = f.is;
    }
found {total} {bytes} (single {rest = rest} {token = token} {tokens = tokens} e p) place h =
    let span = span_between total bytes rest in
    elim (or_cases (is_opening token && span.start == place) (list_any (opens_at place) tokens) h) [
      | inl i ↦ (record {
        pre = [];
        post = tokens;
        token = token;
        stop = bytes;
        rest = rest;
        lexes = none_read;
        stands = e;
        opening = both_left (is_opening token) (span.start == place) i;
        there = eqb-true span.start place (both_right (is_opening token) (span.start == place) i);
        is = refl;
      })
      | inr i ↦ (
          let f = found p place i in record {
            pre = placed token span ∷ f.pre;
            post = f.post;
            token = f.token;
            stop = f.stop;
            rest = f.rest;
            lexes = single_then e f.lexes;
            stands = f.stands;
            opening = f.opening;
            there = f.there;
            is = ap (λ l. placed token span ∷ l) f.is;
          })
    ]
found {total} {bytes} (text {text = t} {rest = rest} {tokens = tokens} e i p) place h =
    let f = found p place h in record {
      pre = placed (Text t) (span_between total bytes rest) ∷ f.pre;
      post = f.post;
      token = f.token;
      stop = f.stop;
      rest = f.rest;
      lexes = text_then e i f.lexes;
      stands = f.stands;
      opening = f.opening;
      there = f.there;
      is = ap (λ l. placed (Text t) (span_between total bytes rest) ∷ l) f.is;
    }

stop_is : (bytes front rest stop : List ℕ) → bytes ≡ front ++ rest → EndsWith bytes stop → length stop ≡ length rest → 0 < length rest → stop ≡ rest
stop_is bytes front rest stop e (k, f) h l =
    let a : length bytes ≡ length front + length rest = ap length e ∙ length-append front rest in
    let b : length stop ≡ length bytes - k = ap length f ∙ length-drop k bytes in
    let c : k ≡ length front = omega arith in
    f ∙ ap (λ n. drop n bytes) c ∙ ap (drop (length front)) e ∙ drop-append_seam front rest

-- the front of tokens that follow one another
pub record Leads (kinds : List Token) : Type 0 where
  pub control : Control
  pub leads : followed (at_entry false) kinds ≡ Some control

pub front_leads : (kinds more : List Token) (d : Control) → followed (at_entry false) (kinds ++ more) ≡ Some d → Leads kinds
front_leads kinds more d e = some_if (followed (at_entry false) kinds) refl (sym (followed_append (Some (at_entry false)) kinds more) ∙ e)
  where
    none_leads : (more : List Token) → followed_from None more ≡ Some d → ⊥
    none_leads [] e = cc
    none_leads (token ∷ more) e = cc

    some_if : (o : Option Control) → followed (at_entry false) kinds ≡ o → followed_from (followed (at_entry false) kinds) more ≡ Some d → Leads kinds
    some_if None h e = absurd (none_leads more (ap (λ z. followed_from z more) (sym h) ∙ e))
    some_if (Some c) h e = record { control = c; leads = h }

pub kinds_put : (pre : List Placed) (token : Placed) (post : List Placed)
    → map token_of (pre ++ token ∷ post) ≡ (map token_of pre ++ token_of token ∷ []) ++ map token_of post
kinds_put [] token post = refl
kinds_put (t ∷ pre) token post = ap (λ z. token_of t ∷ z) (kinds_put pre token post)

-- the tokens before a place at which an opening one stands in some file that begins with the bytes up to it
record Before (front : List ℕ) (x limit : ℕ) : Type 0 where
  kinds : List Token
  token : Token
  byte : OpensWith x token
  opening : is_opening token ≡ true
  nested : limit ≤ height (exec start kinds) token
  leads : Leads (kinds ++ token ∷ [])
  again : (m : List ℕ) (total : ℕ) → LexesToo total (front ++ x ∷ m) (x ∷ m) kinds

before_place : (front : List ℕ) (x : ℕ) (m : List ℕ) (place : ℕ) (tokens : List Placed) (entries : List Entry) → length front ≡ place
    → AreTokens (length (front ++ x ∷ m)) (front ++ x ∷ m) tokens → AreEntries tokens entries → list_any (opens_at place) tokens ≡ true → (limit : ℕ)
    → limit ≤ at_place place start tokens → Before front x limit
before_place front x m place tokens entries e p q h limit l =
    let total = length (front ++ x ∷ m) in
    let f = found p place h in
    let a : total ≡ length front + length (x ∷ m) = length-append front (x ∷ m) in
    let b = lexes_short f.lexes in
    let c = f.there in
    let k : length f.rest < length f.stop = after_first (length f.stop) f.stands (first_shrinks f.stop) in
    let i : length f.stop ≡ length (x ∷ m) = omega arith in
    let s : f.stop ≡ x ∷ m = stop_is (front ++ x ∷ m) front (x ∷ m) f.stop refl (lexes_end f.lexes) i (omega arith) in
    let w : OpensWith x f.token = opens_with x m f.rest f.token (sym (ap first s) ∙ f.stands) f.opening in
    let span = span_between total f.stop f.rest in
    let t : at_place place start tokens ≡ height (exec start (map token_of f.pre)) f.token =
    ap (at_place place start) f.is
    ∙ at_token f.lexes place c start (placed f.token span ∷ f.post)
    ∙ here place (exec start (map token_of f.pre)) f.token (total - length f.stop) (total - length f.rest) f.post (omega arith) in
    let g = file_followed q in
    let all : followed (at_entry false) ((map token_of f.pre ++ f.token ∷ []) ++ map token_of f.post) ≡ followed (at_entry false) (map token_of tokens) =
    ap (followed (at_entry false)) (sym (ap (map token_of) f.is ∙ kinds_put f.pre (placed f.token span) f.post)) in
    record {
      kinds = map token_of f.pre;
      token = f.token;
      byte = w;
      opening = f.opening;
      nested = omega arith;
      leads = front_leads (map token_of f.pre ++ f.token ∷ []) (map token_of f.post) _ (all ∙ g.leads);
      again = λ m2 total2. lexes_too f.lexes x m m2 front total2 (opens (byte_of w)) refl i;
    }

opens_so : (bytes : List ℕ) (place : ℕ) → IsTooDeep bytes place → OpensTooDeep bytes place
opens_so bytes place d =
    let n = d.nests in
    let x = get_or bytes place 0 in
    let front = take place bytes in
    let m = drop (place + 1) bytes in
    let s : drop place bytes ≡ x ∷ m = drop_step bytes place d.within in
    let e : bytes ≡ front ++ x ∷ m = sym (take-append-drop place bytes) ∙ ap (λ z. front ++ z) s in
    let f : take (place + 1) bytes ++ n.more ≡ front ++ x ∷ n.more =
    ap (λ l. l ++ n.more) (take_more bytes place 0 d.within) ∙ append_assoc front (x ∷ []) n.more in
    let lexed : AreTokens (length (front ++ x ∷ n.more)) (front ++ x ∷ n.more) n.tokens = subst (λ l. AreTokens (length l) l n.tokens) f n.spelled in
    let told = nesting_told (length (front ++ x ∷ n.more)) place n.tokens n.entries (in_order_all lexed) n.derived in
    let k = n.nested in
    let i : length front ≡ place = omega (arith, length-take place bytes, d.within) in
    let b = before_place front x n.more place n.tokens n.entries i lexed n.derived n.opens NESTING_LIMIT (omega arith) in
    let longer : begins_longer (x ∷ m) ≡ false = sym (ap begins_longer s) ∙ d.whole in
    let l = b.again m (length bytes) in
    let there : Lexes (length bytes) bytes l.tokens (drop place bytes) =
    subst (λ z. Lexes (length bytes) bytes l.tokens z) (sym s) (subst (λ z. Lexes (length bytes) z l.tokens (x ∷ m)) (sym e) l.lexes) in
    let same : height (exec start (map token_of l.tokens)) b.token ≡ height (exec start b.kinds) b.token = ap (λ t. height (exec start t) b.token) l.same in
    let deep = b.nested in
    record {
      tokens = l.tokens;
      token = b.token;
      rest = m;
      control = b.leads.control;
      within = d.within;
      before = there;
      here = ap first s ∙ opening_first b.byte m longer;
      opening = b.opening;
      follow = ap (λ z. followed (at_entry false) (z ++ b.token ∷ [])) l.same ∙ b.leads.leads;
      nested = omega arith;
    }

-- an opening token is none that begins a longer one
comment_no_single : {token : Token} {rest : List ℕ} (bytes : List ℕ) → after_comment bytes ≡ Single token rest → ⊥
comment_no_single [] e = cc
comment_no_single {token} {rest} (b ∷ bytes) e = no_if (begins_with (42 ∷ 41 ∷ []) (b ∷ bytes)) (comment_no_single bytes) e
  where
    no_if : (c : Bool) → (after_comment bytes ≡ Single token rest → ⊥) → (if c then Gap (drop 1 bytes) else after_comment bytes) ≡ Single token rest → ⊥
    no_if true g e = cc
    no_if false g e = g e

whole_token : {x : ℕ} {token : Token} {rest : List ℕ} → OpensWith x token → (m : List ℕ) → first (x ∷ m) ≡ Single token rest → begins_longer (x ∷ m) ≡ false
whole_token with_list m e = refl
whole_token with_braces m e = refl
whole_token with_defined m e = refl
whole_token {rest = rest} with_group m e = group_if (begins_with (42 ∷ []) m) e
  where
    group_if : (c : Bool) → (if c then after_comment (drop 1 m) else Single OpenGroup m) ≡ Single OpenGroup rest → (c || false) ≡ false
    group_if true e = absurd (comment_no_single (drop 1 m) e)
    group_if false e = refl
whole_token {rest = rest} with_not m e = not_if (begins_with (61 ∷ []) m) e
  where
    not_if : (c : Bool) → sign_first (if c then Some (Relation Ne, drop 1 m) else Some (Not, m)) ≡ Single Not rest → c ≡ false
    not_if true e = absurd cc
    not_if false e = refl

deep_so : (bytes : List ℕ) (place : ℕ) → OpensTooDeep bytes place → IsTooDeep bytes place
deep_so bytes place o =
    let x = get_or bytes place 0 in
    let m = drop (place + 1) bytes in
    let s : drop place bytes ≡ x ∷ m = drop_step bytes place o.within in
    let w : OpensWith x o.token = opens_with x m o.rest o.token (sym (ap first s) ∙ o.here) o.opening in
    too_deep bytes place o.tokens o.token o.control o.within o.before w (ap begins_longer s ∙ whole_token w m (sym (ap first s) ∙ o.here)) o.follow o.nested

pub deep_places_are_told : DeepPlacesAreTold
deep_places_are_told bytes place = (opens_so bytes place, deep_so bytes place)
