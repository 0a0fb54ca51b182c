-- The text of a file is nowhere too deep, and has no fault at all.
use Rattle.std.proofs.Common.{◌≡◌, ℕ, ◌+◌, ◌-◌, ◌<◌, ◌≤◌, Bool, true, false, List, [], ◌∷◌, ◌++◌, length, take, drop, get_or, refl, ap, sym, subst, ◌∙◌, arith, map, if◌then◌else◌, append_assoc, ◌⊎◌, inl, inr}
use Rattle.std.specs.Prelude.{◌==◌, ◌&&◌, ◌||◌, codes, ⊤, ℤ, bytes_eq}
use Rattle.std.specs.List.{list_any}
use Rattle.std.proofs.lemmas.List.{length-append, length-drop, take-append-drop, take_more}
use Rattle.std.proofs.Math.ListN.{length-take}
use Rattle.std.proofs.Math.Seq.{drop-append_seam}
use Rattle.std.proofs.lemmas.Bool.Decides.{nat_tests}
use Rattle.std.specs.declared.option.Option.{Option}
use Rattle.std.specs.declared.option.Option.TheVariants.{None, Some}
use Rattle.opam_names.proofs.Bytes.{both_left, both_right}
use Rattle.syntax_trees.specs.declared.fault.SyntaxFault.TheVariants as syntax
use Rattle.syntax_trees.specs.declared.limits.TheConstants.{NESTING_LIMIT}
use Rattle.syntax_trees.specs.declared.token.Token.{Token}
use Rattle.syntax_trees.specs.declared.token.Token.TheVariants.{Text, OpenList, OpenBraces, OpenGroup, Not, Defined}
use Rattle.syntax_trees.specs.Words.{is_word_byte, word_of, word_token, int_of, identifier_of, int_or_identifier, is_plain, is_scoped}
use Rattle.syntax_trees.specs.Signs.{signs, sign_among, begins_with}
use Rattle.syntax_trees.specs.Heights.{HeightState as State, height_step as step, token_height as height, NestsBelow as Below, height_start as start, height_after as exec}
use Rattle.syntax_trees.specs.Following.{token_of}
use Rattle.syntax_trees.specs.Tokens.{First, End, Gap, Single, Quote, NoToken, first, is_blank, after_comment, word_first, sign_first, Placed, placed, span_between, AreTokens, ends, gap, single, text}
use Rattle.syntax_trees.specs.Files.{Entry, AreEntries}
use Rattle.syntax_trees.specs.Nesting.{AreShallow}
use Rattle.syntax_trees.specs.Faults.{is_opening, opens_at, begins_longer, IsNowhereDeep}
use Rattle.syntax_trees.specs.Laws.{FilesAreNowhereDeep, FilesAreFaultless}
use Rattle.syntax_trees.proofs.OneFault.{no_fault}
use Rattle.syntax_trees.proofs.OneTokens.{same_tokens, after_gap, after_single, after_text}
use Rattle.syntax_trees.proofs.WordsAgain.{skip}
use Rattle.syntax_trees.proofs.Shorter.{first_shrinks, after_first}
use Rattle.syntax_trees.proofs.Spanned.{InOrder, in_order}
use Rattle.syntax_trees.proofs.WordsRead.{drop_step}
use Rattle.syntax_trees.proofs.Suffixes.{EndsWith}
use Rattle.syntax_trees.proofs.Settled.{OpeningByte, list_byte, braces_byte, group_byte, not_byte, defined_byte, opens, lexes_end, lexes_short, LexesToo, lexes_too}
use Rattle.syntax_trees.specs.Lexes.{Lexes, none_read, gap_then, single_then, text_then}
use Rattle.syntax_trees.proofs.Heights.{at_place, here, later, opening_height}
use Rattle.syntax_trees.proofs.HeightsTold.{shallow_below, nesting_told}

-- what is read up to a place is read of all
lexes_left : {total : ℕ} {bytes stop : List ℕ} {pre us : List Placed} → Lexes total bytes pre stop → AreTokens total bytes us
    → (more : List Placed) × AreTokens total stop more
lexes_left {us = us} none_read p = (us, p)
lexes_left (gap_then e l) p = lexes_left l (after_gap e p)
lexes_left (single_then e l) p = lexes_left l (after_single e p).spelled
lexes_left (text_then e i l) p = lexes_left l (after_text e i p).1

pub lexes_onto : {total : ℕ} {bytes stop : List ℕ} {pre us : List Placed} → Lexes total bytes pre stop → AreTokens total stop us → AreTokens total bytes (pre ++ us)
lexes_onto none_read p = p
lexes_onto (gap_then e l) p = gap e (lexes_onto l p)
lexes_onto (single_then e l) p = single e (lexes_onto l p)
lexes_onto (text_then e i l) p = text e i (lexes_onto l p)

-- an opening token, and what was read before it
pub record Found (total : ℕ) (bytes : List ℕ) (tokens : List Placed) (place : ℕ) : Type 0 where
  pub pre : List Placed
  pub post : List Placed
  pub token : Token
  pub stop : List ℕ
  pub rest : List ℕ
  pub lexes : Lexes total bytes pre stop
  pub stands : first stop ≡ Single token rest
  pub opening : is_opening token ≡ true
  pub there : total - length stop ≡ place
  pub is : tokens ≡ pre ++ placed token (span_between total stop rest) ∷ post

either_true : (x y : Bool) → (x || y) ≡ true → (x ≡ true) ⊎ (y ≡ true)
either_true true y h = inl refl
either_true false y h = inr h

same_number : (m n : ℕ) → (m == n) ≡ true → m ≡ n
same_number m n h = grind (arith, nat_tests)

found : {total : ℕ} {bytes : List ℕ} {tokens : List Placed} → AreTokens total bytes tokens → (place : ℕ) → list_any (opens_at place) tokens ≡ true
    → Found total bytes tokens place
found (ends e) place h = absurd cc
found (gap e p) place h =
    let f = found p place h in record {
      pre = f.pre;
      post = f.post;
      token = f.token;
      stop = f.stop;
      rest = f.rest;
      lexes = gap_then e f.lexes;
      stands = f.stands;
      opening = f.opening;
      there = f.there;
      is = f.is;
    }
found {total} {bytes} (single {rest = rest} {token = token} {tokens = tokens} e p) place h =
    let span = span_between total bytes rest in
    elim (either_true (is_opening token && span.start == place) (list_any (opens_at place) tokens) h) [
      | inl i ↦ (record {
        pre = [];
        post = tokens;
        token = token;
        stop = bytes;
        rest = rest;
        lexes = none_read;
        stands = e;
        opening = both_left (is_opening token) (span.start == place) i;
        there = same_number span.start place (both_right (is_opening token) (span.start == place) i);
        is = refl;
      })
      | inr i ↦ (
          let f = found p place i in record {
            pre = placed token span ∷ f.pre;
            post = f.post;
            token = f.token;
            stop = f.stop;
            rest = f.rest;
            lexes = single_then e f.lexes;
            stands = f.stands;
            opening = f.opening;
            there = f.there;
            is = ap (λ l. placed token span ∷ l) f.is;
          })
    ]
found {total} {bytes} (text {text = t} {rest = rest} {tokens = tokens} e i p) place h =
    let f = found p place h in record {
      pre = placed (Text t) (span_between total bytes rest) ∷ f.pre;
      post = f.post;
      token = f.token;
      stop = f.stop;
      rest = f.rest;
      lexes = text_then e i f.lexes;
      stands = f.stands;
      opening = f.opening;
      there = f.there;
      is = ap (λ l. placed (Text t) (span_between total bytes rest) ∷ l) f.is;
    }

-- the bytes of opening tokens
pub data OpensWith : ℕ → Token → Type 0 where
  with_list : OpensWith 91 OpenList
  with_braces : OpensWith 123 OpenBraces
  with_group : OpensWith 40 OpenGroup
  with_not : OpensWith 33 Not
  with_defined : OpensWith 63 Defined

pub byte_of : {x : ℕ} {token : Token} → OpensWith x token → OpeningByte x
byte_of with_list = list_byte
byte_of with_braces = braces_byte
byte_of with_group = group_byte
byte_of with_not = not_byte
byte_of with_defined = defined_byte

abbrev Tells : ℕ → First → Type 0
Tells b End = ⊤
Tells b (Gap rest) = ⊤
Tells b (Single token rest) = is_opening token ≡ true → OpensWith b token
Tells b (Quote long rest) = ⊤
Tells b NoToken = ⊤

tells_if : (P : First → Type 0) (c : Bool) (x y : First) → P x → P y → P (if c then x else y)
tells_if P true x y p q = p
tells_if P false x y p q = q

tells_comment : (b : ℕ) (bytes : List ℕ) → Tells b (after_comment bytes)
tells_comment b [] = tt
tells_comment b (c ∷ bytes) = tells_if (Tells b) (begins_with (codes "*)") (c ∷ bytes)) (Gap (drop 1 bytes)) (after_comment bytes) tt (tells_comment b bytes)

-- no word opens
abbrev opens_not : Option Token → Bool
opens_not None = false
opens_not (Some token) = is_opening token

not_if : (c : Bool) (x y : Option Token) → opens_not x ≡ false → opens_not y ≡ false → opens_not (if c then x else y) ≡ false
not_if true x y p q = p
not_if false x y p q = q

no_identifier : (word : List ℕ) → opens_not (identifier_of word) ≡ false
no_identifier word = not_if (is_plain word) _ _ refl (not_if (is_scoped word) _ _ refl refl)

no_int : (n : Option ℤ) (word : List ℕ) → opens_not (int_or_identifier n word) ≡ false
no_int (Some n) word = refl
no_int None word = no_identifier word

no_word : (word : List ℕ) → opens_not (word_token word) ≡ false
no_word word = not_if (bytes_eq word (codes "true")) _ _ refl (not_if (bytes_eq word (codes "false")) _ _ refl (no_int (int_of word) word))

tells_word : (b : ℕ) (token : Option Token) (rest : List ℕ) → opens_not token ≡ false → Tells b (word_first token rest)
tells_word b None rest h = tt
tells_word b (Some token) rest h = λ e. absurd (let f = sym h ∙ e in cc)

abbrev TableTells : List (List ℕ × Token) → Type 0
TableTells [] = ⊤
TableTells (sign ∷ table) = ((b : ℕ) (bytes : List ℕ) → begins_with sign.0 (b ∷ bytes) ≡ true → is_opening sign.1 ≡ true → OpensWith b sign.1) × TableTells table

no_opening : {A : Type 0} → false ≡ true → A
no_opening e = absurd cc

one_byte : (c : ℕ) (token : Token) → OpensWith c token → (b : ℕ) → (c == b && true) ≡ true → OpensWith b token
one_byte c token o b e = subst (λ z. OpensWith z token) (same_number c b (both_left (c == b) true e)) o

signs_tell : TableTells signs
signs_tell = (
  (λ b bytes e h. no_opening h),
  (
    (λ b bytes e h. no_opening h),
    (
      (λ b bytes e h. no_opening h),
      (
        (λ b bytes e h. no_opening h),
        (
          (λ b bytes e h. no_opening h),
          (
            (λ b bytes e h. no_opening h),
            (
              (λ b bytes e h. no_opening h),
              (
                (λ b bytes e h. no_opening h),
                (
                  (λ b bytes e h. no_opening h),
                  (
                    (λ b bytes e h. no_opening h),
                    (
                      (λ b bytes e h. no_opening h),
                      (
                        (λ b bytes e h. one_byte 91 OpenList with_list b e),
                        (
                          (λ b bytes e h. no_opening h),
                          (
                            (λ b bytes e h. one_byte 123 OpenBraces with_braces b e),
                            (
                              (λ b bytes e h. no_opening h),
                              (
                                (λ b bytes e h. one_byte 40 OpenGroup with_group b e),
                                (
                                  (λ b bytes e h. no_opening h),
                                  (
                                    (λ b bytes e h. no_opening h),
                                    (
                                      (λ b bytes e h. no_opening h),
                                      ((λ b bytes e h. one_byte 33 Not with_not b e), ((λ b bytes e h. one_byte 63 Defined with_defined b e), tt)),
                                    ),
                                  ),
                                ),
                              ),
                            ),
                          ),
                        ),
                      ),
                    ),
                  ),
                ),
              ),
            ),
          ),
        ),
      ),
    ),
  ),
)

tells_sign : (b : ℕ) (bytes : List ℕ) (table : List (List ℕ × Token)) → TableTells table → Tells b (sign_first (sign_among table (b ∷ bytes)))
tells_sign b bytes [] h = tt
tells_sign b bytes (sign ∷ table) h =
    choose _ _ (begins_with sign.0 (b ∷ bytes)) (h.0 b bytes) (tells_sign b bytes table h.1)
  where
    choose : (o : Option (Token × List ℕ)) (r : List ℕ) (c : Bool) → (c ≡ true → is_opening sign.1 ≡ true → OpensWith b sign.1) → Tells b (sign_first o)
        → Tells b (sign_first (if c then Some (sign.1, r) else o))
    choose o r true f y = f refl
    choose o r false f y = y

tells_first : (b : ℕ) (bytes : List ℕ) → Tells b (first (b ∷ bytes))
tells_first b bytes =
    let all = b ∷ bytes in
    let w = word_of true all in
    let P : First → Type 0 = Tells b in
    tells_if P (is_blank b) _ _ tt
    (tells_if P (b == 35) _ _ tt
    (tells_if P (begins_with (codes "(*") all) _ _ (tells_comment b (drop 1 bytes))
    (tells_if P (begins_with (34 ∷ 34 ∷ 34 ∷ []) all) _ _ tt
    (tells_if P (b == 34) _ _ tt
    (tells_if P (is_word_byte b) _ _ (tells_word b (word_token w) (drop (length w) all) (no_word w))
    (tells_sign b bytes signs signs_tell))))))

pub opens_with : (x : ℕ) (m rest : List ℕ) (token : Token) → first (x ∷ m) ≡ Single token rest → is_opening token ≡ true → OpensWith x token
opens_with x m rest token e h = let f : Tells x (Single token rest) = subst (Tells x) e (tells_first x m) in f h

-- where no longer sign begins, the opening token stands first
right_false : (x y : Bool) → (x || y) ≡ false → y ≡ false
right_false false y h = h
right_false true y h = absurd cc

left_false : (x y : Bool) → (x || y) ≡ false → x ≡ false
left_false false y h = refl
left_false true y h = absurd cc

pub opening_first : {x : ℕ} {token : Token} → OpensWith x token → (m : List ℕ) → begins_longer (x ∷ m) ≡ false → first (x ∷ m) ≡ Single token m
opening_first with_list m h = refl
opening_first with_braces m h = refl
opening_first with_defined m h = refl
opening_first with_group m h = skip _ _ _ (left_false (begins_with (codes "*") m) false h)
opening_first with_not m h = ap sign_first (skip _ _ _ h)

pub below_at : (limit : ℕ) (s : State) (pre after : List Placed) → Below limit s (pre ++ after) → Below limit (exec s (map token_of pre)) after
below_at limit s [] after h = h
below_at limit s (placed token span ∷ pre) after h = below_at limit (step s token) pre after h.1

pub at_token : {total : ℕ} {bytes stop : List ℕ} {pre : List Placed} → Lexes total bytes pre stop → (place : ℕ) → total - length stop ≡ place → (s : State)
    → (after : List Placed) → at_place place s (pre ++ after) ≡ at_place place (exec s (map token_of pre)) after
at_token none_read place e s after = refl
at_token (gap_then f l) place e s after = at_token l place e s after
at_token {total} {bytes} {stop} (single_then {rest = rest} {token = token} {tokens = tokens} f l) place e s after =
    let k = lexes_short l in
    later place s token (total - length bytes) (total - length rest) (tokens ++ after) (omega arith) ∙ at_token l place e (step s token) after
at_token {total} {bytes} {stop} (text_then {text = t} {rest = rest} {tokens = tokens} f i l) place e s after =
    let k = lexes_short l in
    later place s (Text t) (total - length bytes) (total - length rest) (tokens ++ after) (omega arith) ∙ at_token l place e (step s (Text t)) after

stop_is : (bytes front rest stop : List ℕ) → bytes ≡ front ++ rest → EndsWith bytes stop → length stop ≡ length rest → 0 < length rest → stop ≡ rest
stop_is bytes front rest stop e (k, f) h l =
    let a : length bytes ≡ length front + length rest = ap length e ∙ length-append front rest in
    let b : length stop ≡ length bytes - k = ap length f ∙ length-drop k bytes in
    let c : k ≡ length front = omega arith in
    f ∙ ap (λ n. drop n bytes) c ∙ ap (drop (length front)) e ∙ drop-append_seam front rest

-- an opening token at the end of a front of bytes, nested in so much
pub record Deep (bytes front : List ℕ) (x : ℕ) (m : List ℕ) (place limit : ℕ) : Type 0 where
  pub kinds : List Token
  pub token : Token
  pub byte : OpensWith x token
  pub nested : limit ≤ height (exec start kinds) token
  pub opening : is_opening token ≡ true
  pub again : (m2 : List ℕ) (total : ℕ) → LexesToo total (front ++ x ∷ m2) (x ∷ m2) kinds

pub deep_front : (front : List ℕ) (x : ℕ) (m : List ℕ) (place : ℕ) (tokens : List Placed) → length front ≡ place
    → AreTokens (length (front ++ x ∷ m)) (front ++ x ∷ m) tokens → list_any (opens_at place) tokens ≡ true → (limit : ℕ) → limit ≤ at_place place start tokens
    → Deep (front ++ x ∷ m) front x m place limit
deep_front front x m place tokens e p h limit l =
    let total = length (front ++ x ∷ m) in
    let f = found p place h in
    let a : total ≡ length front + length (x ∷ m) = length-append front (x ∷ m) in
    let b = lexes_short f.lexes in
    let c = f.there in
    let k : length f.rest < length f.stop = after_first (length f.stop) f.stands (first_shrinks f.stop) in
    let i : length f.stop ≡ length (x ∷ m) = omega arith in
    let s : f.stop ≡ x ∷ m = stop_is (front ++ x ∷ m) front (x ∷ m) f.stop refl (lexes_end f.lexes) i (omega arith) in
    let w : OpensWith x f.token = opens_with x m f.rest f.token (sym (ap first s) ∙ f.stands) f.opening in
    let t : at_place place start tokens ≡ height (exec start (map token_of f.pre)) f.token =
    ap (at_place place start) f.is
    ∙ at_token f.lexes place c start (placed f.token (span_between total f.stop f.rest) ∷ f.post)
    ∙ here place (exec start (map token_of f.pre)) f.token (total - length f.stop) (total - length f.rest) f.post (omega arith) in
    record {
      kinds = map token_of f.pre;
      token = f.token;
      byte = w;
      nested = omega arith;
      opening = f.opening;
      again = λ m2 total2. lexes_too f.lexes x m m2 front total2 (opens (byte_of w)) refl i;
    }

-- where the tokens up to there are those of shallow entries, it is nested in no more
not_deep : (bytes front : List ℕ) (x : ℕ) (m m2 : List ℕ) (place : ℕ) (tokens : List Placed) → bytes ≡ front ++ x ∷ m2
    → AreTokens (length bytes) bytes tokens → Below NESTING_LIMIT start tokens → begins_longer (x ∷ m2) ≡ false → Deep (front ++ x ∷ m) front x m place NESTING_LIMIT → ⊥
not_deep bytes front x m m2 place tokens e p b h d =
    let q : AreTokens (length bytes) (front ++ x ∷ m2) tokens = subst (λ l. AreTokens (length bytes) l tokens) e p in
    let l = d.again m2 (length bytes) in
    let more = lexes_left l.lexes q in
    let a = after_single (opening_first d.byte m2 h) more.1 in
    let whole : tokens ≡ l.tokens ++ more.0 = same_tokens q (lexes_onto l.lexes more.1) in
    let opened : tokens ≡ l.tokens ++ placed d.token (span_between (length bytes) (x ∷ m2) m2) ∷ a.others = whole ∙ ap (λ t. l.tokens ++ t) a.is in
    let c : Below NESTING_LIMIT start (l.tokens ++ placed d.token (span_between (length bytes) (x ∷ m2) m2) ∷ a.others) = subst (Below NESTING_LIMIT start) opened b in
    let f = below_at NESTING_LIMIT start l.tokens (placed d.token (span_between (length bytes) (x ∷ m2) m2) ∷ a.others) c in
    let g = f.0 in
    let i : (step (exec start (map token_of l.tokens)) d.token).level ≡ height (exec start (map token_of l.tokens)) d.token + 1 =
    opening_height (exec start (map token_of l.tokens)) d.token d.opening in
    let j : height (exec start (map token_of l.tokens)) d.token ≡ height (exec start d.kinds) d.token = ap (λ t. height (exec start t) d.token) l.same in
    let k = d.nested in
    omega arith

pub in_order_all : {bytes : List ℕ} {tokens : List Placed} → AreTokens (length bytes) bytes tokens → InOrder (length bytes) 0 tokens
in_order_all {bytes} {tokens} p = subst (λ n. InOrder (length bytes) n tokens) (omega arith) (in_order p (omega arith))

pub derived_nowhere_deep : (bytes : List ℕ) (tokens : List Placed) (entries : List Entry) → AreTokens (length bytes) bytes tokens → AreEntries tokens entries
    → AreShallow entries → IsNowhereDeep bytes
derived_nowhere_deep bytes tokens entries spelled derived shallow place d =
    let n = d.nests in
    let x = get_or bytes place 0 in
    let front = take place bytes in
    let m2 = drop (place + 1) bytes in
    let e : bytes ≡ front ++ x ∷ m2 = sym (take-append-drop place bytes) ∙ ap (λ l. front ++ l) (drop_step bytes place d.within) in
    let f : take (place + 1) bytes ++ n.more ≡ front ++ x ∷ n.more =
    ap (λ l. l ++ n.more) (take_more bytes place 0 d.within) ∙ append_assoc front (x ∷ []) n.more in
    let p : AreTokens (length (front ++ x ∷ n.more)) (front ++ x ∷ n.more) n.tokens = subst (λ l. AreTokens (length l) l n.tokens) f n.spelled in
    let told = nesting_told (length (front ++ x ∷ n.more)) place n.tokens n.entries (in_order_all p) n.derived in
    let k = n.nested in
    let w = d.within in
    let i : length front ≡ place = omega (arith, length-take place bytes) in
    let deep = deep_front front x n.more place n.tokens i p n.opens NESTING_LIMIT (omega arith) in
    let longer : begins_longer (x ∷ m2) ≡ false = sym (ap begins_longer (drop_step bytes place d.within)) ∙ d.whole in
    not_deep bytes front x n.more m2 place tokens e spelled (shallow_below (length bytes) tokens entries (in_order_all spelled) derived shallow) longer deep

pub nowhere_deep : FilesAreNowhereDeep
nowhere_deep bytes file t = let s = t.1.derived in derived_nowhere_deep bytes s.0 t.0 s.1 s.2 t.1.shallow

pub faultless : FilesAreFaultless
faultless bytes file syntax.Memory t f = refl
faultless bytes file (syntax.Deep at) t f = absurd (nowhere_deep bytes file t at f.deep)
faultless bytes file (syntax.Stray at) t f = absurd ((no_fault bytes file at t).0 f.1)
faultless bytes file (syntax.Ended at) t f = absurd ((no_fault bytes file at t).1 f.1)
faultless bytes file (syntax.Doubled at) t f = absurd ((no_fault bytes file at t).2 f.1)
