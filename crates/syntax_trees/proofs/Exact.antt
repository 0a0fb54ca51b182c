-- A bracket or a prefix operator that the tokens before it nest in so many others is too deep, since what was read can be completed.
use Rattle.std.proofs.Common.{◌≡◌, ℕ, ◌+◌, ◌-◌, ◌<◌, ◌≤◌, Bool, true, false, List, [], ◌∷◌, ◌++◌, length, take, drop, get_or, refl, ap, sym, subst, ◌∙◌, arith, map, append_assoc}
use Rattle.std.specs.Prelude.{◌==◌, ◌&&◌, ◌||◌}
use Rattle.std.specs.List.{list_any}
use Rattle.std.proofs.lemmas.Bool.Decides.{nat_tests}
use Rattle.std.proofs.lemmas.List.{length-append, length-drop, take_more, take-append-drop}
use Rattle.std.proofs.Math.ListN.{length-take}
use Rattle.std.specs.declared.option.Option.TheVariants.{Some}
use Rattle.syntax_trees.specs.declared.limits.TheConstants.{NESTING_LIMIT}
use Rattle.syntax_trees.specs.declared.token.Token.{Token}
use Rattle.syntax_trees.specs.Heights.{height_step as step, token_height as height, NestsBelow as Below, height_start as start, height_after as exec}
use Rattle.syntax_trees.specs.Following.{TokenControl as Control, at_entry, tokens_followed as followed, token_of}
use Rattle.syntax_trees.specs.Tokens.{first, Single, Placed, placed, span_between, AreTokens, gap, single}
use Rattle.syntax_trees.specs.Files.{Entry, AreEntries}
use Rattle.syntax_trees.specs.Faults.{is_opening, opens_at, begins_longer, NestsAt, IsTooDeep, IsDeepAt}
use Rattle.syntax_trees.proofs.OneTokens.{gap_single, gap_quote, single_quote, gap_of, single_of, quote_of, quoted_too, same_single, same_text, same_inside}
use Rattle.syntax_trees.proofs.Settled.{lexes_short, LexesToo, lexes_too, opens}
use Rattle.syntax_trees.specs.Lexes.{Lexes, none_read, gap_then, single_then, text_then}
use Rattle.syntax_trees.proofs.Heights.{at_place, here, opening_height}
use Rattle.syntax_trees.proofs.HeightsTold.{nesting_exact, nesting_told}
use Rattle.syntax_trees.proofs.NowhereDeep.{deep_front, below_at, OpensWith, with_list, with_braces, with_group, with_not, with_defined, byte_of, opening_first, at_token, lexes_onto, in_order_all}
use Rattle.syntax_trees.proofs.WordsRead.{drop_step}
use Rattle.syntax_trees.proofs.Following.{completed}
use Rattle.syntax_trees.proofs.Spelled.{completion_spelled, spells}

byte_opens : {x : ℕ} {token : Token} → OpensWith x token → is_opening token ≡ true
byte_opens with_list = refl
byte_opens with_braces = refl
byte_opens with_group = refl
byte_opens with_not = refl
byte_opens with_defined = refl

-- before a blank
not_longer : {x : ℕ} {token : Token} → OpensWith x token → (m : List ℕ) → begins_longer (x ∷ 32 ∷ m) ≡ false
not_longer with_list m = refl
not_longer with_braces m = refl
not_longer with_group m = refl
not_longer with_not m = refl
not_longer with_defined m = refl

any_here : (test : Placed → Bool) (xs ys : List Placed) (y : Placed) → test y ≡ true → list_any test (xs ++ y ∷ ys) ≡ true
any_here test [] ys y h = or_left (test y) (list_any test ys) h
  where
    or_left : (a b : Bool) → a ≡ true → (a || b) ≡ true
    or_left true b h = refl
    or_left false b h = absurd cc
any_here test (x ∷ xs) ys y h = or_right (test x) (list_any test (xs ++ y ∷ ys)) (any_here test xs ys y h)
  where
    or_right : (a b : Bool) → b ≡ true → (a || b) ≡ true
    or_right true b h = refl
    or_right false b h = h

is_same : (m n : ℕ) → m ≡ n → (m == n) ≡ true
is_same m n e = grind (arith, nat_tests)

both_true : (a b : Bool) → a ≡ true → b ≡ true → (a && b) ≡ true
both_true true b h k = k
both_true false b h k = absurd cc

kinds_so : (tokens : List Placed) (token : Placed) → map token_of (tokens ++ token ∷ []) ≡ map token_of tokens ++ token_of token ∷ []
kinds_so [] token = refl
kinds_so (t ∷ tokens) token = ap (λ l. token_of t ∷ l) (kinds_so tokens token)

pub deep_nests : (front : List ℕ) (x : ℕ) (kinds : List Token) (token : Token) (d : Control) → OpensWith x token
    → ((m : List ℕ) (total : ℕ) → LexesToo total (front ++ x ∷ m) (x ∷ m) kinds) → followed (at_entry false) (kinds ++ token ∷ []) ≡ Some d
    → NESTING_LIMIT ≤ height (exec start kinds) token → NestsAt (front ++ x ∷ []) (length front)
deep_nests front x kinds token d w again e h =
    let s = completion_spelled d.expected d.frames d.section in
    let m = 32 ∷ s.bytes in
    let all = front ++ x ∷ m in
    let total = length all in
    let l = again m total in
    let a = spells total s.all in
    let span = span_between total (x ∷ m) m in
    let rest : AreTokens total (x ∷ m) (placed token span ∷ a.placed_so) = single (opening_first w m (not_longer w s.bytes)) (gap refl a.lexed) in
    let tokens = l.tokens ++ placed token span ∷ a.placed_so in
    let lexed : AreTokens total all tokens = lexes_onto l.lexes rest in
    let k : map token_of (l.tokens ++ placed token span ∷ []) ≡ kinds ++ token ∷ [] = kinds_so l.tokens (placed token span) ∙ ap (λ z. z ++ token ∷ []) l.same in
    let owed : (entries : List Entry) × AreEntries ((l.tokens ++ placed token span ∷ []) ++ a.placed_so) entries =
    completed (at_entry false) (l.tokens ++ placed token span ∷ []) a.placed_so d (ap (λ z. followed (at_entry false) z) k ∙ e) a.kinds in
    let derived : AreEntries tokens owed.0 = subst (λ z. AreEntries z owed.0) (append_assoc l.tokens (placed token span ∷ []) a.placed_so) owed.1 in
    let n : total ≡ length front + length (x ∷ m) = length-append front (x ∷ m) in
    let there : total - length (x ∷ m) ≡ length front = omega arith in
    let open_here : list_any (opens_at (length front)) tokens ≡ true =
    any_here (opens_at (length front)) l.tokens a.placed_so (placed token span)
    (both_true (is_opening token) (span.start == length front) (byte_opens w) (is_same span.start (length front) there)) in
    let g = nesting_exact total (length front) tokens owed.0 (in_order_all lexed) derived open_here in
    let p : at_place (length front) start tokens ≡ height (exec start (map token_of l.tokens)) token =
    at_token l.lexes (length front) there start (placed token span ∷ a.placed_so)
    ∙ here (length front) (exec start (map token_of l.tokens)) token (total - length (x ∷ m)) (total - length m) a.placed_so (omega arith) in
    let q : height (exec start (map token_of l.tokens)) token ≡ height (exec start kinds) token = ap (λ t. height (exec start t) token) l.same in
    let whole : (front ++ x ∷ []) ++ m ≡ all = append_assoc front (x ∷ []) m in
    record {
      more = m;
      tokens = tokens;
      entries = owed.0;
      spelled = subst (λ z. AreTokens (length z) z tokens) (sym whole) lexed;
      derived = derived;
      opens = open_here;
      nested = omega arith;
    }

-- a bracket or a prefix operator of a text is too deep where the tokens before it, and it, may follow one another, and nest it in 64 others
pub too_deep : (bytes : List ℕ) (place : ℕ) (pre : List Placed) (token : Token) (d : Control) → place < length bytes
    → Lexes (length bytes) bytes pre (drop place bytes) → OpensWith (get_or bytes place 0) token → begins_longer (drop place bytes) ≡ false
    → followed (at_entry false) (map token_of pre ++ token ∷ []) ≡ Some d → NESTING_LIMIT ≤ height (exec start (map token_of pre)) token → IsTooDeep bytes place
too_deep bytes place pre token d l p w longer e h =
    let x = get_or bytes place 0 in
    let front = take place bytes in
    let m = drop (place + 1) bytes in
    let s : drop place bytes ≡ x ∷ m = drop_step bytes place l in
    let q : Lexes (length bytes) bytes pre (x ∷ m) = subst (λ z. Lexes (length bytes) bytes pre z) s p in
    let i : length front ≡ place = omega (arith, length-take place bytes) in
    let f : bytes ≡ front ++ x ∷ m = sym (take-append-drop place bytes) ∙ ap (λ z. front ++ z) s in
    let again : (m2 : List ℕ) (total : ℕ) → LexesToo total (front ++ x ∷ m2) (x ∷ m2) (map token_of pre) =
    λ m2 total. lexes_too q x m m2 front total (opens (byte_of w)) f refl in
    let n : NestsAt (front ++ x ∷ []) (length front) = deep_nests front x (map token_of pre) token d w again e h in
    let t : take (place + 1) bytes ≡ front ++ x ∷ [] = take_more bytes place 0 l in
    record {
      within = l;
      nests = subst (λ z. NestsAt z place) (sym t) (subst (λ z. NestsAt (front ++ x ∷ []) z) i n);
      whole = longer;
    }

lexes_of : {total : ℕ} {a b stop : List ℕ} {tokens : List Placed} → a ≡ b → Lexes total b tokens stop → Lexes total a tokens stop
lexes_of {total} {stop = stop} {tokens = tokens} e p = subst (λ z. Lexes total z tokens stop) (sym e) p

too_long : {A : Type 0} {m n : ℕ} → m ≤ n → n < m → A
too_long l h = absurd (omega (arith, l, h))

-- where both are read of the same bytes, the shorter reading is the beginning of the longer
record Onward (total : ℕ) (from stop : List ℕ) (before all : List Placed) : Type 0 where
  more : List Placed
  is : all ≡ before ++ more
  lexes : Lexes total from more stop

onward : {total : ℕ} {bytes from stop : List ℕ} {before all : List Placed} → Lexes total bytes before from → Lexes total bytes all stop
    → length stop < length from → Onward total from stop before all
onward {all = all} none_read p l = record { more = all; is = refl; lexes = p }
onward (gap_then e q) none_read l = too_long (lexes_short (gap_then e q)) l
onward (gap_then e q) (gap_then f p) l =
    let o = onward q (lexes_of (gap_of e f) p) l in record { more = o.more; is = o.is; lexes = o.lexes }
onward (gap_then e q) (single_then f p) l = gap_single e f
onward (gap_then e q) (text_then f i p) l = gap_quote e f
onward (single_then e q) none_read l = too_long (lexes_short (single_then e q)) l
onward (single_then e q) (gap_then f p) l = gap_single f e
onward {total} {bytes} (single_then {rest = rest} {token = token} {tokens = ts} e q) (single_then {tokens = us} f p) l =
    let g = single_of e f in
    let o = onward q (lexes_of g.1 p) l in
    record { more = o.more; is = sym (same_single total bytes g (sym o.is)); lexes = o.lexes }
onward (single_then e q) (text_then f i p) l = single_quote e f
onward (text_then e i q) none_read l = too_long (lexes_short (text_then e i q)) l
onward (text_then e i q) (gap_then f p) l = gap_quote f e
onward (text_then e i q) (single_then f p) l = single_quote f e
onward {total} {bytes} (text_then e i q) (text_then f j p) l =
    let g = quote_of e f in
    let h = same_inside i (quoted_too g.0 g.1 j) in
    let o = onward q (lexes_of h.1 p) l in
    record { more = o.more; is = sym (same_text total bytes h (sym o.is)); lexes = o.lexes }

-- a reading that goes on from a token begins with it
begins_with_token : {total : ℕ} {bytes stop rest : List ℕ} {token : Token} {tokens : List Placed} → first bytes ≡ Single token rest → Lexes total bytes tokens stop
    → length stop < length bytes → (others : List Placed) × (tokens ≡ placed token (span_between total bytes rest) ∷ others)
begins_with_token e none_read l = too_long (omega arith) l
begins_with_token e (gap_then f p) l = gap_single f e
begins_with_token {total} {bytes} e (single_then {tokens = us} f p) l = (us, sym (same_single total bytes (single_of e f) refl))
begins_with_token e (text_then f i p) l = single_quote e f

-- no place before tokens that nest in no more than the limit is too deep
pub none_before : (bytes : List ℕ) (place : ℕ) (pre : List Placed) → place ≤ length bytes → Lexes (length bytes) bytes pre (drop place bytes)
    → Below NESTING_LIMIT start pre → (earlier : ℕ) → earlier < place → IsTooDeep bytes earlier → ⊥
none_before bytes place pre within p below q l d =
    let n = d.nests in
    let x = get_or bytes q 0 in
    let front = take q bytes in
    let m2 = drop (q + 1) bytes in
    let s : drop q bytes ≡ x ∷ m2 = drop_step bytes q d.within in
    let e : bytes ≡ front ++ x ∷ m2 = sym (take-append-drop q bytes) ∙ ap (λ z. front ++ z) s in
    let f : take (q + 1) bytes ++ n.more ≡ front ++ x ∷ n.more =
    ap (λ l. l ++ n.more) (take_more bytes q 0 d.within) ∙ append_assoc front (x ∷ []) n.more in
    let lexed : AreTokens (length (front ++ x ∷ n.more)) (front ++ x ∷ n.more) n.tokens = subst (λ l. AreTokens (length l) l n.tokens) f n.spelled in
    let told = nesting_told (length (front ++ x ∷ n.more)) q n.tokens n.entries (in_order_all lexed) n.derived in
    let k = n.nested in
    let i : length front ≡ q = omega (arith, length-take q bytes, d.within) in
    let deep = deep_front front x n.more q n.tokens i lexed n.opens NESTING_LIMIT (omega arith) in
    let longer : begins_longer (x ∷ m2) ≡ false = sym (ap begins_longer s) ∙ d.whole in
    let chain = deep.again m2 (length bytes) in
    let here_too : Lexes (length bytes) bytes chain.tokens (x ∷ m2) = lexes_of e chain.lexes in
    let a : length (drop place bytes) ≡ length bytes - place = length-drop place bytes in
    let b : length (x ∷ m2) ≡ length bytes - q = sym (ap length s) ∙ length-drop q bytes in
    let shorter : length (drop place bytes) < length (x ∷ m2) = omega (arith, a, b, l, within) in
    let on = onward here_too p shorter in
    let t = begins_with_token (opening_first deep.byte m2 longer) on.lexes shorter in
    let all : pre ≡ chain.tokens ++ placed deep.token (span_between (length bytes) (x ∷ m2) m2) ∷ t.0 = on.is ∙ ap (λ z. chain.tokens ++ z) t.1 in
    let c : Below NESTING_LIMIT start (chain.tokens ++ placed deep.token (span_between (length bytes) (x ∷ m2) m2) ∷ t.0) = subst (Below NESTING_LIMIT start) all below in
    let g = (below_at NESTING_LIMIT start chain.tokens (placed deep.token (span_between (length bytes) (x ∷ m2) m2) ∷ t.0) c).0 in
    let h : (step (exec start (map token_of chain.tokens)) deep.token).level ≡ height (exec start (map token_of chain.tokens)) deep.token + 1 =
    opening_height (exec start (map token_of chain.tokens)) deep.token deep.opening in
    let j : height (exec start (map token_of chain.tokens)) deep.token ≡ height (exec start deep.kinds) deep.token = ap (λ t. height (exec start t) deep.token) chain.same in
    let o = deep.nested in
    omega arith

-- the first bracket or prefix operator that nests in 64 others is the place that is too deep
pub deep_at : (bytes : List ℕ) (place : ℕ) (pre : List Placed) (token : Token) (d : Control) → place < length bytes
    → Lexes (length bytes) bytes pre (drop place bytes) → OpensWith (get_or bytes place 0) token → begins_longer (drop place bytes) ≡ false
    → followed (at_entry false) (map token_of pre ++ token ∷ []) ≡ Some d → NESTING_LIMIT ≤ height (exec start (map token_of pre)) token
    → Below NESTING_LIMIT start pre → IsDeepAt bytes place
deep_at bytes place pre token d l p w longer e h below = record {
  deep = too_deep bytes place pre token d l p w longer e h;
  first = none_before bytes place pre (omega arith) p below;
}
