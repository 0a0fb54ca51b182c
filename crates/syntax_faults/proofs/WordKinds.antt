-- Which tokens words are, and which they become when a letter, or a letter and a name, goes on with them.
use Rattle.std.proofs.Common.{◌≡◌, ℕ, ◌^◌, ℤ, Bool, true, false, List, [], ◌∷◌, ◌++◌, refl, ap, sym, subst, ◌∙◌, if◌then◌else◌, append_assoc}
use Rattle.std.specs.Prelude.{◌==◌, ◌&&◌, ◌||◌, codes, bytes_eq, nat_lt, nat_le}
use Rattle.std.specs.List.{list_all, list_any}
use Rattle.std.specs.declared.option.Option.{Option}
use Rattle.std.specs.declared.option.Option.TheVariants.{None, Some}
use Rattle.std.proofs.lemmas.Bool.{eqb-true, and_from}
use Rattle.opam_names.specs.Names.{is_letter, is_digit}
use Rattle.opam_names.specs.Orders.{number}
use Rattle.opam_names.specs.Paths.{onto_first}
use Rattle.opam_names.proofs.Bytes.{both_left, both_right}
use Rattle.opam_names.proofs.ByteOrders.{equal_bytes}
use Rattle.syntax_trees.specs.declared.token.Token.{Token}
use Rattle.syntax_trees.specs.declared.token.Token.TheVariants.{Flag, Int, Plain, Scoped}
use Rattle.syntax_trees.specs.Words.{is_word_byte, are_digits, natural_of, negative_of, int_of, before, after, scope_parts, is_scope_part, is_plain, is_scoped, identifier_of, int_or_identifier, word_token}
use Rattle.syntax_trees.proofs.WordsAgain.{skip, enter, other_byte}
use Rattle.syntax_faults.proofs.WordSplits.{has_colon}

-- which token a word is
pub data WordKind (word : List ℕ) : Token → Type 0 where
  flag_kind : (flag : Bool) → list_all is_word_byte word ≡ true → WordKind word (Flag flag)
  int_kind : (n : ℤ) → list_all is_word_byte word ≡ true → WordKind word (Int n)
  plain_kind : list_all is_word_byte word ≡ true → WordKind word (Plain word)
  scoped_kind : is_scoped word ≡ true → WordKind word (Scoped (before 58 word) (after 58 word))

-- a digit or a minus
abbrev is_int_byte : ℕ → Bool
is_int_byte b = is_digit b || b == 45

digit_int : (b : ℕ) → is_digit b ≡ true → is_int_byte b ≡ true
digit_int b h = ap (λ z. z || b == 45) h

or_left : (a b : Bool) → a ≡ true → (a || b) ≡ true
or_left true b e = refl
or_left false b e = absurd cc

or_right : (a b : Bool) → b ≡ true → (a || b) ≡ true
or_right true b e = refl
or_right false b e = e

int_word : (b : ℕ) → is_int_byte b ≡ true → is_word_byte b ≡ true
int_word b h = cases (is_digit b) (b == 45) refl refl h
  where
    cases : (d m : Bool) → is_digit b ≡ d → (b == 45) ≡ m → (d || m) ≡ true → is_word_byte b ≡ true
    cases true m e f g = ap (λ z. z || b == 95 || b == 45) (or_right (is_letter b) (is_digit b) e)
    cases false true e f g = or_right (is_letter b || is_digit b || b == 95) (b == 45) f
    cases false false e f g = absurd cc

all_more : (p q : ℕ → Bool) → ((b : ℕ) → p b ≡ true → q b ≡ true) → (w : List ℕ) → list_all p w ≡ true → list_all q w ≡ true
all_more p q f [] h = refl
all_more p q f (b ∷ w) h = and_from (q b) (list_all q w) (f b (both_left (p b) (list_all p w) h)) (all_more p q f w (both_right (p b) (list_all p w) h))

digits_are : (w : List ℕ) → are_digits w ≡ true → list_all is_digit w ≡ true
digits_are [] h = refl
digits_are (b ∷ w) h = h

if_some : {A : Type 0} {y : A} (c : Bool) (x : A) → (if c then Some x else None) ≡ Some y → c ≡ true
if_some true x e = refl
if_some false x e = absurd cc

int_bytes : (w : List ℕ) (n : ℤ) → int_of w ≡ Some n → list_all is_int_byte w ≡ true
int_bytes [] n e = absurd cc
int_bytes (b ∷ w) n e = cases (b == 45) refl e
  where
    cases : (c : Bool) → (b == 45) ≡ c → (if c then negative_of w else natural_of (b ∷ w)) ≡ Some n → list_all is_int_byte (b ∷ w) ≡ true
    cases true f g =
        let d = both_left (are_digits w) (nat_le (number w) (2 ^ 63)) (if_some _ _ g) in
        and_from (is_int_byte b) (list_all is_int_byte w) (or_right (is_digit b) (b == 45) f) (all_more is_digit is_int_byte digit_int w (digits_are w d))
    cases false f g =
        let d = both_left (are_digits (b ∷ w)) (nat_lt (number (b ∷ w)) (2 ^ 63)) (if_some _ _ g) in
        all_more is_digit is_int_byte digit_int (b ∷ w) (digits_are (b ∷ w) d)

same_token : {w : List ℕ} {t u : Token} → WordKind w t → Some t ≡ Some u → WordKind w u
same_token {w} k e = subst (WordKind w) (let f = e in cc) k

flag_word : (w : List ℕ) (text : List ℕ) → bytes_eq w text ≡ true → list_all is_word_byte text ≡ true → list_all is_word_byte w ≡ true
flag_word w text e h = subst (λ z. list_all is_word_byte z ≡ true) (sym (equal_bytes w text e)) h

identifier_kind : (w : List ℕ) (t : Token) → identifier_of w ≡ Some t → WordKind w t
identifier_kind w t e = plain_if (is_plain w) refl e
  where
    scoped_if : (c : Bool) → is_scoped w ≡ c → (if c then Some (Scoped (before 58 w) (after 58 w)) else None) ≡ Some t → WordKind w t
    scoped_if true h e = same_token (scoped_kind h) e
    scoped_if false h e = absurd cc

    plain_if : (c : Bool) → is_plain w ≡ c → (if c then Some (Plain w) else (if is_scoped w then Some (Scoped (before 58 w) (after 58 w)) else None)) ≡ Some t → WordKind w t
    plain_if true h e = same_token (plain_kind (both_left (list_all is_word_byte w) (list_any is_letter w) h)) e
    plain_if false h e = scoped_if (is_scoped w) refl e

pub word_kind : (w : List ℕ) (t : Token) → word_token w ≡ Some t → WordKind w t
word_kind w t e = true_if (bytes_eq w (codes "true")) refl e
  where
    int_if : (o : Option ℤ) → int_of w ≡ o → int_or_identifier o w ≡ Some t → WordKind w t
    int_if (Some n) h e = same_token (int_kind n (all_more is_int_byte is_word_byte int_word w (int_bytes w n h))) e
    int_if None h e = identifier_kind w t e

    false_if : (c : Bool) → bytes_eq w (codes "false") ≡ c → (if c then Some (Flag false) else int_or_identifier (int_of w) w) ≡ Some t → WordKind w t
    false_if true h e = same_token (flag_kind false (flag_word w (codes "false") h refl)) e
    false_if false h e = int_if (int_of w) refl e

    true_if : (c : Bool) → bytes_eq w (codes "true") ≡ c
        → (if c then Some (Flag true) else (if bytes_eq w (codes "false") then Some (Flag false) else int_or_identifier (int_of w) w)) ≡ Some t → WordKind w t
    true_if true h e = same_token (flag_kind true (flag_word w (codes "true") h refl)) e
    true_if false h e = false_if (bytes_eq w (codes "false")) refl e

-- a word with an `x` is no boolean and no integer
abbrev pub has_x : List ℕ → Bool
has_x w = list_any (λ b. b == 120) w

clash : {A : Type 0} → true ≡ false → A
clash e = absurd cc

not_true : (c : Bool) → (c ≡ true → ⊥) → c ≡ false
not_true true f = absurd (f refl)
not_true false f = refl

no_flag : (w text : List ℕ) → has_x w ≡ true → has_x text ≡ false → bytes_eq w text ≡ false
no_flag w text h k = not_true (bytes_eq w text) (λ e. clash (sym h ∙ ap has_x (equal_bytes w text e) ∙ k))

int_no_x : (w : List ℕ) → list_all is_int_byte w ≡ true → has_x w ≡ false
int_no_x [] h = refl
int_no_x (b ∷ w) h =
    ap (λ z. z || has_x w) (other_byte is_int_byte b 120 (both_left (is_int_byte b) (list_all is_int_byte w) h) refl)
    ∙ int_no_x w (both_right (is_int_byte b) (list_all is_int_byte w) h)

no_int : (w : List ℕ) → has_x w ≡ true → int_of w ≡ None
no_int w h = none_if (int_of w) refl
  where
    none_if : (o : Option ℤ) → int_of w ≡ o → int_of w ≡ None
    none_if None e = e
    none_if (Some n) e = clash (sym h ∙ int_no_x w (int_bytes w n e))

with_x : (w : List ℕ) → has_x w ≡ true → word_token w ≡ identifier_of w
with_x w h =
    skip _ _ _ (no_flag w (codes "true") h refl) ∙ skip _ _ _ (no_flag w (codes "false") h refl) ∙ ap (λ o. int_or_identifier o w) (no_int w h)

x_letter : (w : List ℕ) → has_x w ≡ true → list_any is_letter w ≡ true
x_letter [] h = absurd cc
x_letter (b ∷ w) h = cases (x_letter w) (b == 120) refl h
  where
    cases : (has_x w ≡ true → list_any is_letter w ≡ true) → (c : Bool) → (b == 120) ≡ c → (c || has_x w) ≡ true → list_any is_letter (b ∷ w) ≡ true
    cases g true e f = subst (λ z. list_any is_letter (z ∷ w) ≡ true) (sym (eqb-true b 120 e)) refl
    cases g false e f = or_right (is_letter b) (list_any is_letter w) (g f)

pub plain_token : (w : List ℕ) → has_x w ≡ true → list_all is_word_byte w ≡ true → word_token w ≡ Some (Plain w)
plain_token w h k = with_x w h ∙ enter _ _ _ (and_from (list_all is_word_byte w) (list_any is_letter w) k (x_letter w h))

pub plain_no_colon : (w : List ℕ) → list_all is_word_byte w ≡ true → has_colon w ≡ false
plain_no_colon [] e = refl
plain_no_colon (b ∷ w) e =
    ap (λ z. z || has_colon w) (other_byte is_word_byte b 58 (both_left (is_word_byte b) (list_all is_word_byte w) e) refl)
    ∙ plain_no_colon w (both_right (is_word_byte b) (list_all is_word_byte w) e)

colon_no_plain : (w : List ℕ) → has_colon w ≡ true → list_all is_word_byte w ≡ false
colon_no_plain w h = not_true (list_all is_word_byte w) (λ e. clash (sym h ∙ plain_no_colon w e))

pub scoped_token : (w : List ℕ) → has_x w ≡ true → is_scoped w ≡ true → word_token w ≡ Some (Scoped (before 58 w) (after 58 w))
scoped_token w h k =
    let c = both_left (has_colon w) (list_all is_scope_part (scope_parts (before 58 w)))
    (both_left (has_colon w && list_all is_scope_part (scope_parts (before 58 w))) (list_any is_letter (after 58 w)) k) in
    with_x w h ∙ skip _ _ _ (ap (λ z. z && list_any is_letter w) (colon_no_plain w c)) ∙ enter _ _ _ k

-- what the parts of a word tell of what goes on with it
pub any_after : (p : ℕ → Bool) (w v : List ℕ) → list_any p v ≡ true → list_any p (w ++ v) ≡ true
any_after p [] v h = h
any_after p (b ∷ w) v h = or_right (p b) (list_any p (w ++ v)) (any_after p w v h)

any_before : (p : ℕ → Bool) (w v : List ℕ) → list_any p w ≡ true → list_any p (w ++ v) ≡ true
any_before p [] v h = absurd cc
any_before p (b ∷ w) v h = cases (any_before p w v) (p b) h
  where
    cases : (list_any p w ≡ true → list_any p (w ++ v) ≡ true) → (c : Bool) → (c || list_any p w) ≡ true → (c || list_any p (w ++ v)) ≡ true
    cases g true e = refl
    cases g false e = g e

pub all_front : (p : ℕ → Bool) (w v : List ℕ) → list_all p (w ++ v) ≡ true → list_all p w ≡ true
all_front p [] v h = refl
all_front p (b ∷ w) v h =
    and_from (p b) (list_all p w) (both_left (p b) (list_all p (w ++ v)) h) (all_front p w v (both_right (p b) (list_all p (w ++ v)) h))

pub all_both : (p : ℕ → Bool) (w v : List ℕ) → list_all p w ≡ true → list_all p v ≡ true → list_all p (w ++ v) ≡ true
all_both p [] v h k = k
all_both p (b ∷ w) v h k =
    and_from (p b) (list_all p (w ++ v)) (both_left (p b) (list_all p w) h) (all_both p w v (both_right (p b) (list_all p w) h) k)

-- up to a colon, and after it
before_none : (w v : List ℕ) → has_colon w ≡ false → before 58 (w ++ v) ≡ w ++ before 58 v
before_none [] v h = refl
before_none (b ∷ w) v h = cases (before_none w v) (b == 58) h
  where
    cases : (has_colon w ≡ false → before 58 (w ++ v) ≡ w ++ before 58 v) → (c : Bool) → (c || has_colon w) ≡ false → (if c then [] else b ∷ before 58 (w ++ v)) ≡ b ∷ w ++ before 58 v
    cases g true e = absurd cc
    cases g false e = ap (λ z. b ∷ z) (g e)

after_none : (w v : List ℕ) → has_colon w ≡ false → after 58 (w ++ v) ≡ after 58 v
after_none [] v h = refl
after_none (b ∷ w) v h = cases (after_none w v) (b == 58) h
  where
    cases : (has_colon w ≡ false → after 58 (w ++ v) ≡ after 58 v) → (c : Bool) → (c || has_colon w) ≡ false → (if c then w ++ v else after 58 (w ++ v)) ≡ after 58 v
    cases g true e = absurd cc
    cases g false e = g e

before_some : (w v : List ℕ) → has_colon w ≡ true → before 58 (w ++ v) ≡ before 58 w
before_some [] v h = absurd cc
before_some (b ∷ w) v h = cases (before_some w v) (b == 58) h
  where
    cases : (has_colon w ≡ true → before 58 (w ++ v) ≡ before 58 w) → (c : Bool) → (c || has_colon w) ≡ true → (if c then [] else b ∷ before 58 (w ++ v)) ≡ (if c then [] else b ∷ before 58 w)
    cases g true e = refl
    cases g false e = ap (λ z. b ∷ z) (g e)

after_some : (w v : List ℕ) → has_colon w ≡ true → after 58 (w ++ v) ≡ after 58 w ++ v
after_some [] v h = absurd cc
after_some (b ∷ w) v h = cases (after_some w v) (b == 58) h
  where
    cases : (has_colon w ≡ true → after 58 (w ++ v) ≡ after 58 w ++ v) → (c : Bool) → (c || has_colon w) ≡ true → (if c then w ++ v else after 58 (w ++ v)) ≡ (if c then w else after 58 w) ++ v
    cases g true e = refl
    cases g false e = g e

-- parts, the first with something before it, are parts of a scope
abbrev fit : List ℕ → List (List ℕ) → Bool
fit p [] = is_scope_part p
fit p (part ∷ parts) = is_scope_part (p ++ part) && list_all is_scope_part parts

fit_onto : (p : List ℕ) (b : ℕ) (parts : List (List ℕ)) → fit p (onto_first b parts) ≡ true → fit (p ++ b ∷ []) parts ≡ true
fit_onto p b [] h = both_left (is_scope_part (p ++ b ∷ [])) true h
fit_onto p b (part ∷ parts) h = subst (λ z. (is_scope_part z && list_all is_scope_part parts) ≡ true) (sym (append_assoc p (b ∷ []) part)) h

onto_fit : (p : List ℕ) (b : ℕ) (parts : List (List ℕ)) → fit (p ++ b ∷ []) parts ≡ true → fit p (onto_first b parts) ≡ true
onto_fit p b [] h = and_from (is_scope_part (p ++ b ∷ [])) true h refl
onto_fit p b (part ∷ parts) h = subst (λ z. (is_scope_part z && list_all is_scope_part parts) ≡ true) (append_assoc p (b ∷ []) part) h

fit_all : (parts : List (List ℕ)) → fit [] parts ≡ true → list_all is_scope_part parts ≡ true
fit_all [] h = refl
fit_all (part ∷ parts) h = h

abbrev has_part : List (List ℕ) → Bool
has_part [] = false
has_part (part ∷ parts) = true

parts_there : (w : List ℕ) → has_part (scope_parts w) ≡ true
parts_there [] = refl
parts_there (b ∷ w) = cases (b == 43) (scope_parts w)
  where
    cases : (c : Bool) (parts : List (List ℕ)) → has_part (if c then [] ∷ parts else onto_first b parts) ≡ true
    cases true parts = refl
    cases false [] = refl
    cases false (part ∷ parts) = refl

all_fit_parts : (parts : List (List ℕ)) → has_part parts ≡ true → list_all is_scope_part parts ≡ true → fit [] parts ≡ true
all_fit_parts [] t h = absurd cc
all_fit_parts (part ∷ parts) t h = h

all_fit : (w : List ℕ) → list_all is_scope_part (scope_parts w) ≡ true → fit [] (scope_parts w) ≡ true
all_fit w h = all_fit_parts (scope_parts w) (parts_there w) h

-- a word that goes on with a letter has the same parts before its last, which has a letter then
parts_with_x : (p w u : List ℕ) → fit p (scope_parts (w ++ u)) ≡ true → fit p (scope_parts (w ++ 120 ∷ [])) ≡ true
parts_with_x p [] u h = and_from (is_scope_part (p ++ 120 ∷ [])) true (or_left _ _ (any_after is_letter p (120 ∷ []) refl)) refl
parts_with_x p (b ∷ w) u h = cases (λ q. parts_with_x q w u) (b == 43) h
  where
    cases : ((q : List ℕ) → fit q (scope_parts (w ++ u)) ≡ true → fit q (scope_parts (w ++ 120 ∷ [])) ≡ true) → (c : Bool)
        → fit p (if c then [] ∷ scope_parts (w ++ u) else onto_first b (scope_parts (w ++ u))) ≡ true
        → fit p (if c then [] ∷ scope_parts (w ++ 120 ∷ []) else onto_first b (scope_parts (w ++ 120 ∷ []))) ≡ true
    cases g true h =
        and_from (is_scope_part (p ++ [])) (list_all is_scope_part (scope_parts (w ++ 120 ∷ []))) (both_left (is_scope_part (p ++ [])) _ h)
        (fit_all (scope_parts (w ++ 120 ∷ [])) (g [] (all_fit (w ++ u) (both_right (is_scope_part (p ++ [])) _ h))))
    cases g false h = onto_fit p b (scope_parts (w ++ 120 ∷ [])) (g (p ++ b ∷ []) (fit_onto p b (scope_parts (w ++ u)) h))

word_parts_with_x : (p w : List ℕ) → list_all is_word_byte w ≡ true → fit p (scope_parts (w ++ 120 ∷ [])) ≡ true
word_parts_with_x p [] h = parts_with_x p [] (120 ∷ []) (and_from (is_scope_part (p ++ 120 ∷ [])) true (or_left _ _ (any_after is_letter p (120 ∷ []) refl)) refl)
word_parts_with_x p (b ∷ w) h =
    let no = other_byte is_word_byte b 43 (both_left (is_word_byte b) (list_all is_word_byte w) h) refl in
    subst (λ c. fit p (if c then [] ∷ scope_parts (w ++ 120 ∷ []) else onto_first b (scope_parts (w ++ 120 ∷ []))) ≡ true) (sym no)
    (onto_fit p b (scope_parts (w ++ 120 ∷ [])) (word_parts_with_x (p ++ b ∷ []) w (both_right (is_word_byte b) (list_all is_word_byte w) h)))

-- a plain name
pub name_token : (w : List ℕ) → list_all is_word_byte w ≡ true → word_token (w ++ 120 ∷ []) ≡ Some (Plain (w ++ 120 ∷ []))
name_token w h = plain_token (w ++ 120 ∷ []) (any_after (λ b. b == 120) w (120 ∷ []) refl) (all_both is_word_byte w (120 ∷ []) h refl)

-- a scope whose last part has a letter, a colon and a name
scope_made : (w : List ℕ) → has_colon w ≡ false → list_all is_scope_part (scope_parts (w ++ 120 ∷ [])) ≡ true → is_scoped (w ++ 120 ∷ 58 ∷ 120 ∷ []) ≡ true
scope_made w n h =
    and_from (has_colon (w ++ 120 ∷ 58 ∷ 120 ∷ []) && list_all is_scope_part (scope_parts (before 58 (w ++ 120 ∷ 58 ∷ 120 ∷ []))))
    (list_any is_letter (after 58 (w ++ 120 ∷ 58 ∷ 120 ∷ [])))
    (and_from (has_colon (w ++ 120 ∷ 58 ∷ 120 ∷ [])) (list_all is_scope_part (scope_parts (before 58 (w ++ 120 ∷ 58 ∷ 120 ∷ []))))
    (any_after (λ b. b == 58) w (120 ∷ 58 ∷ 120 ∷ []) refl)
    (ap (λ z. list_all is_scope_part (scope_parts z)) (before_none w (120 ∷ 58 ∷ 120 ∷ []) n) ∙ h))
    (ap (list_any is_letter) (after_none w (120 ∷ 58 ∷ 120 ∷ []) n))

scope_token : (w : List ℕ) → has_colon w ≡ false → list_all is_scope_part (scope_parts (w ++ 120 ∷ [])) ≡ true
    → (scope : List ℕ) × (name : List ℕ) × (word_token (w ++ 120 ∷ 58 ∷ 120 ∷ []) ≡ Some (Scoped scope name))
scope_token w n h =
    let word = w ++ 120 ∷ 58 ∷ 120 ∷ [] in
    (before 58 word, after 58 word, scoped_token word (any_after (λ b. b == 120) w (120 ∷ 58 ∷ 120 ∷ []) refl) (scope_made w n h))

-- of a word that may become a name, or one with a scope
pub scope_of_word : (w : List ℕ) → list_all is_word_byte w ≡ true
    → (scope : List ℕ) × (name : List ℕ) × (word_token (w ++ 120 ∷ 58 ∷ 120 ∷ []) ≡ Some (Scoped scope name))
scope_of_word w h = scope_token w (plain_no_colon w h) (fit_all (scope_parts (w ++ 120 ∷ [])) (word_parts_with_x [] w h))

-- of a word before its colon, where it may become one with a scope
pub scope_of_scoped : (w u : List ℕ) → has_colon w ≡ false → is_scoped (w ++ u) ≡ true
    → (scope : List ℕ) × (name : List ℕ) × (word_token (w ++ 120 ∷ 58 ∷ 120 ∷ []) ≡ Some (Scoped scope name))
scope_of_scoped w u n h =
    let parts = both_right (has_colon (w ++ u)) (list_all is_scope_part (scope_parts (before 58 (w ++ u))))
    (both_left (has_colon (w ++ u) && list_all is_scope_part (scope_parts (before 58 (w ++ u)))) (list_any is_letter (after 58 (w ++ u))) h) in
    let there : list_all is_scope_part (scope_parts (w ++ before 58 u)) ≡ true = subst (λ z. list_all is_scope_part (scope_parts z) ≡ true) (before_none w u n) parts in
    scope_token w n (fit_all (scope_parts (w ++ 120 ∷ [])) (parts_with_x [] w (before 58 u) (all_fit (w ++ before 58 u) there)))

-- of a word after its colon
pub name_of_scoped : (w u : List ℕ) → has_colon w ≡ true → is_scoped (w ++ u) ≡ true
    → (scope : List ℕ) × (name : List ℕ) × (word_token (w ++ 120 ∷ []) ≡ Some (Scoped scope name))
name_of_scoped w u c h =
    let word = w ++ 120 ∷ [] in
    let parts = both_right (has_colon (w ++ u)) (list_all is_scope_part (scope_parts (before 58 (w ++ u))))
    (both_left (has_colon (w ++ u) && list_all is_scope_part (scope_parts (before 58 (w ++ u)))) (list_any is_letter (after 58 (w ++ u))) h) in
    let same = before_some w u c ∙ sym (before_some w (120 ∷ []) c) in
    let there : list_all is_scope_part (scope_parts (before 58 word)) ≡ true = subst (λ z. list_all is_scope_part (scope_parts z) ≡ true) same parts in
    let made : is_scoped word ≡ true =
    and_from (has_colon word && list_all is_scope_part (scope_parts (before 58 word))) (list_any is_letter (after 58 word))
    (and_from (has_colon word) (list_all is_scope_part (scope_parts (before 58 word))) (any_before (λ b. b == 58) w (120 ∷ []) c) there)
    (ap (list_any is_letter) (after_some w (120 ∷ []) c) ∙ any_after is_letter (after 58 w) (120 ∷ []) refl) in
    (before 58 word, after 58 word, scoped_token word (any_after (λ b. b == 120) w (120 ∷ []) refl) made)
