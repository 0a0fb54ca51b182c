-- Which bytes begin paths.
use Rattle.std.proofs.Common.{◌≡◌, ℕ, zero, suc, ◌+◌, ◌-◌, ◌<◌, ◌≤◌, ◌&&◌, ◌||◌, ◌⊎◌, inl, inr, ⊎_elim, leb, Bool, true, false, cond, not, List, [], ◌∷◌, ◌++◌, length, take, drop, refl, sym, ap, ◌∙◌, subst, arith, append-nil, append_assoc, length-append, length-drop, None, Some, le_of_lt, get_or, le_of_suc-le-suc, suc-le-suc, zero-lt-suc, add-one}
use lib.Seq.{drop-append-le}
use Rattle.std.proofs.Math.Bool.{or-true}
use Rattle.std.proofs.Math.Seq.{take-add}
use Rattle.std.proofs.lemmas.Bool.{and_from}
use Rattle.std.proofs.lemmas.Bool.Decides.{nat_tests}
use Rattle.std.proofs.lemmas.List.{take_rest, take-append-le, take-append-drop, take-take, take_all, length-take-le}
use Rattle.std.proofs.lemmas.List.Quantifiers.{position-Some}
use Rattle.std.proofs.lemmas.List.Folds.{list_all-append, list_any-append}
use Rattle.std.proofs.lemmas.Str.{IsUtf8-append, IsUtf8-from_ascii, IsUtf8-drop, IsUtf8-nil, IsCharBoundary-from_take}
use Rattle.std.specs.List.{list_all, list_any, position, prefix_len}
use Rattle.std.specs.Str.{IsUtf8, IsValidUpTo}
use Rattle.std.specs.Prelude.{◌==◌, nat_lt}
use Rattle.opam_names.specs.Cut.{missing}
use Rattle.opam_names.specs.Faults.{Begins}
use Rattle.opam_names.specs.Paths.{parts, onto_first, is_part, is_slash, is_not_zero, IsPath}
use Rattle.opam_names.proofs.Bytes.{both_left, both_right, all_ascii}
use Rattle.opam_names.proofs.Missing.{is_high, completes, NoText, fails_none, fails_short}
use Rattle.opam_names.proofs.Ends.{all_front, nothing_more}
use Rattle.opam_names.proofs.Parts.{parts_joined}
use Rattle.opam_names.proofs.Runs.{run_passes}
use Rattle.opam_names.proofs.Characters.{order}

abbrev pub all_good : List ℕ → Bool
all_good xs = list_all is_part (parts xs)

abbrev pub no_slash : ℕ → Bool
no_slash b = not (b == 47)

abbrev pub no_dot : ℕ → Bool
no_dot b = not (b == 46)

whole_part : (xs : List ℕ) → list_all no_slash xs ≡ true → parts xs ≡ xs ∷ []
whole_part [] h = refl
whole_part (x ∷ xs) h =
    elim (x == 47) as (λ b. (not b && list_all no_slash xs) ≡ true → cond b ([] ∷ parts xs) (onto_first x (parts xs)) ≡ (x ∷ xs) ∷ []) [
      | true ↦ λ e. cc
      | false ↦ λ e. ap (onto_first x) (whole_part xs e)
    ] h

-- a part with another byte than dots is good
solid_part : (xs : List ℕ) → list_any no_dot xs ≡ true → is_part xs ≡ true
solid_part [] h = cc
solid_part (x ∷ []) h =
    elim (x == 46) as (λ b. (not b || false) ≡ true → (not (b && true) && not (b && false)) ≡ true) [ true ↦ λ e. cc | false ↦ λ e. refl ] h
solid_part (x ∷ y ∷ []) h =
    elim (x == 46) as (λ b. (not b || (not (y == 46) || false)) ≡ true → (not (b && false) && not (b && ((y == 46) && true))) ≡ true) [
      | true ↦ λ e. elim (y == 46) as (λ d. (not d || false) ≡ true → not (d && true) ≡ true) [ true ↦ λ f. cc | false ↦ λ f. refl ] e
      | false ↦ λ e. refl
    ] h
solid_part (x ∷ y ∷ z ∷ xs) h =
    elim (x == 46) as (λ b. (not (b && false) && not (b && ((y == 46) && false))) ≡ true) [
      | true ↦ elim (y == 46) as (λ d. not (d && false) ≡ true) [ true ↦ refl | false ↦ refl ]
      | false ↦ refl
    ]

free_good : (xs : List ℕ) → list_all no_slash xs ≡ true → list_any no_dot xs ≡ true → all_good xs ≡ true
free_good xs free solid = ap (list_all is_part) (whole_part xs free) ∙ and_from (is_part xs) true (solid_part xs solid) refl

record Last (xs : List ℕ) : Type 0 where
  pub before : List ℕ
  pub after : List ℕ
  pub is : xs ≡ before ++ 47 ∷ after
  pub free : list_all no_slash after ≡ true

one_slash : (x : ℕ) (xs : List ℕ) (b : Bool) → (x == 47) ≡ b → list_all no_slash xs ≡ true → (list_all no_slash (x ∷ xs) ≡ true) ⊎ Last (x ∷ xs)
one_slash x xs true e f = let h : x ≡ 47 = grind (arith, nat_tests) in inr (record { before = []; after = xs; is = ap (λ y. y ∷ xs) h; free = f })
one_slash x xs false e f = inl (ap (λ b. not b && list_all no_slash xs) e ∙ f)

last_slash : (xs : List ℕ) → (list_all no_slash xs ≡ true) ⊎ Last xs
last_slash [] = inl refl
last_slash (x ∷ xs) = elim (last_slash xs) [
  | inl f ↦ one_slash x xs (x == 47) refl f
  | inr l ↦ inr (record { before = x ∷ l.before; after = l.after; is = ap (λ m. x ∷ m) l.is; free = l.free })
]

-- where some end makes good parts, an end with no slash and more than dots does
good_ends : (xs ws ys : List ℕ) → list_all no_slash ys ≡ true → list_any no_dot ys ≡ true → all_good (xs ++ ws) ≡ true → (list_all no_slash xs ≡ true) ⊎ Last xs
    → all_good (xs ++ ys) ≡ true
good_ends xs ws ys free solid h (inl f) =
    free_good (xs ++ ys) (list_all-append no_slash xs ys ∙ and_from (list_all no_slash xs) (list_all no_slash ys) f free)
    (list_any-append no_dot xs ys ∙ ap (λ b. list_any no_dot xs || b) solid ∙ or-true (list_any no_dot xs))
good_ends xs ws ys free solid h (inr l) =
    let p = l.before in
    let q = l.after in
    let whole : (zs : List ℕ) → all_good (xs ++ zs) ≡ (all_good p && all_good (q ++ zs)) = λ zs.
    ap (λ m. all_good (m ++ zs)) l.is ∙ ap all_good (append_assoc p (47 ∷ q) zs) ∙ ap (list_all is_part) (parts_joined p (q ++ zs)) ∙ list_all-append is_part (parts p) (parts (q ++ zs)) in
    let first : all_good p ≡ true = both_left (all_good p) (all_good (q ++ ws)) (sym (whole ws) ∙ h) in
    let rest : all_good (q ++ ys) ≡ true = free_good (q ++ ys) (list_all-append no_slash q ys ∙ and_from (list_all no_slash q) (list_all no_slash ys) l.free free)
    (list_any-append no_dot q ys ∙ ap (λ b. list_any no_dot q || b) solid ∙ or-true (list_any no_dot q)) in
    whole ys ∙ and_from (all_good p) (all_good (q ++ ys)) first rest

pub ends : (xs ws ys : List ℕ) → list_all no_slash ys ≡ true → list_any no_dot ys ≡ true → all_good (xs ++ ws) ≡ true → all_good (xs ++ ys) ≡ true
ends xs ws ys free solid h = good_ends xs ws ys free solid h (last_slash xs)

high_no_slash : (b : ℕ) → is_high b ≡ true → no_slash b ≡ true
high_no_slash b h = grind (arith, nat_tests)

high_no_dot : (b : ℕ) → is_high b ≡ true → no_dot b ≡ true
high_no_dot b h = grind (arith, nat_tests)

high_no_zero : (b : ℕ) → is_high b ≡ true → is_not_zero b ≡ true
high_no_zero b h = grind (arith, nat_tests)

all_too : (p q : ℕ → Bool) → ((b : ℕ) → p b ≡ true → q b ≡ true) → (xs : List ℕ) → list_all p xs ≡ true → list_all q xs ≡ true
all_too p q f [] h = refl
all_too p q f (x ∷ xs) h = and_from (q x) (list_all q xs) (f x (both_left (p x) (list_all p xs) h)) (all_too p q f xs (both_right (p x) (list_all p xs) h))

some_no_dot : (xs : List ℕ) → 0 < length xs → list_all is_high xs ≡ true → list_any no_dot xs ≡ true
some_no_dot [] l h = absurd (omega arith)
some_no_dot (x ∷ xs) l h = ap (λ b. b || list_any no_dot xs) (high_no_dot x (both_left (is_high x) (list_all is_high xs) h))

pub need_zero : (front : List ℕ) → Begins IsPath front → list_all is_not_zero front ≡ true
need_zero front (more, p) = all_front is_not_zero front more p.1.no_zero

pub need_ends : (front : List ℕ) → Begins IsPath front → all_good (front ++ 97 ∷ []) ≡ true
need_ends front (more, p) = ends front more (97 ∷ []) refl refl p.1.good_parts

pub need_short : (front : List ℕ) → Begins IsPath front → length front ≤ 1024
need_short front (more, p) = let e = length-append front more in omega (arith, p.1.short)

letter_text : IsUtf8 (97 ∷ [])
letter_text = IsUtf8-from_ascii (97 ∷ []) (all_ascii (λ b. b == 97) (λ b h. grind (arith, nat_tests)) (97 ∷ []) refl)

pub text_goes_on : (front : List ℕ) → IsUtf8 front → list_all is_not_zero front ≡ true → all_good (front ++ 97 ∷ []) ≡ true → length front < 1024 → Begins IsPath front
text_goes_on front u zero_free good short =
    let e : length (front ++ 97 ∷ []) ≡ length front + 1 = length-append front (97 ∷ []) in (
      97 ∷ [],
      (
        IsUtf8-append front (97 ∷ []) u letter_text,
        record {
          no_zero = list_all-append is_not_zero front (97 ∷ []) ∙ and_from (list_all is_not_zero front) true zero_free refl;
          good_parts = good;
          short = omega arith;
        },
      ),
    )

pub text_full : (front : List ℕ) → IsUtf8 front → list_all is_not_zero front ≡ true → all_good front ≡ true → length front ≤ 1024 → Begins IsPath front
text_full front u zero_free good short =
    ([], subst IsPath (sym (append-nil front)) (u, record { no_zero = zero_free; good_parts = good; short = short }))

pub text_full_need : (front : List ℕ) → 1024 ≤ length front → Begins IsPath front → all_good front ≡ true
text_full_need front full (more, p) =
    let e = length-append front more in
    let end : front ++ more ≡ front = ap (λ l. front ++ l) (nothing_more more (omega (arith, p.1.short))) ∙ append-nil front in
    sym (ap all_good end) ∙ p.1.good_parts

tail_text : (front more : List ℕ) (v : ℕ) → IsValidUpTo front v → IsUtf8 (front ++ more) → IsUtf8 (drop v front ++ more)
tail_text front more v valid u =
    let l : v ≤ length front = le_of_lt valid.short in
    let size = length-append front more in
    let first : IsUtf8 (take v (front ++ more)) = subst IsUtf8 (sym (take-append-le v front more l)) valid.front in
    subst IsUtf8 (drop-append-le v front more l) (IsUtf8-drop (front ++ more) v u (IsCharBoundary-from_take (front ++ more) v u (omega arith) first))

tail_no_text : (front : List ℕ) (v : ℕ) → IsValidUpTo front v → NoText (drop v front)
tail_no_text front v valid = λ k some inside u.
    valid.longest (v + k) (omega arith) (subst IsUtf8 (sym (take-add v k front)) (IsUtf8-append (take v front) (take k (drop v front)) valid.front u))

abbrev pub tail_of : List ℕ → ℕ → List ℕ
tail_of front v = take (length front - v) (drop v front)

pub cut_none : (front : List ℕ) (v : ℕ) → IsValidUpTo front v → missing (tail_of front v) ≡ None → Begins IsPath front → ⊥
cut_none front v valid h (more, p) =
    let s = valid.short in
    let size = length-drop v front in
    fails_none (drop v front) more (omega arith) (tail_no_text front v valid) (ap missing (sym (take_rest front v)) ∙ h) (tail_text front more v valid p.0)

pub cut_need : (front : List ℕ) (v k : ℕ) → IsValidUpTo front v → missing (tail_of front v) ≡ Some k → Begins IsPath front → 1024 < length front + k → ⊥
cut_need front v k valid h (more, p) long =
    let e = length-append front more in
    let s = p.1.short in
    fails_short (drop v front) more k (ap missing (sym (take_rest front v)) ∙ h) (tail_text front more v valid p.0) (omega arith)

pub cut_goes_on : (front : List ℕ) (v k : ℕ) → IsValidUpTo front v → missing (tail_of front v) ≡ Some k → list_all is_not_zero front ≡ true
    → all_good (front ++ 97 ∷ []) ≡ true → length front + k ≤ 1024 → Begins IsPath front
cut_goes_on front v k valid h zero_free good short =
    let c = completes (drop v front) k (ap missing (sym (take_rest front v)) ∙ h) in
    let more : List ℕ = c.more in
    let high : list_all is_high more ≡ true = c.high in
    let some : 0 < length more = c.some in
    let e : length (front ++ more) ≡ length front + length more = length-append front more in
    let size = c.size in
    let whole : take v front ++ (drop v front ++ more) ≡ front ++ more = sym (append_assoc (take v front) (drop v front) more) ∙ ap (λ l. l ++ more) (take-append-drop v front) in (
      more,
      (
        subst IsUtf8 whole (IsUtf8-append (take v front) (drop v front ++ more) valid.front c.text),
        record {
          no_zero = list_all-append is_not_zero front more ∙ and_from (list_all is_not_zero front) (list_all is_not_zero more) zero_free (all_too is_high is_not_zero high_no_zero more high);
          good_parts = ends front (97 ∷ []) more (all_too is_high no_slash high_no_slash more high) (some_no_dot more some high) good;
          short = omega arith;
        },
      ),
    )

-- each front of one that begins a path does
pub shorter : (bytes : List ℕ) (m n : ℕ) → m ≤ n → Begins IsPath (take n bytes) → Begins IsPath (take m bytes)
shorter bytes m n l (more, p) =
    let front : take m (take n bytes) ≡ take m bytes = take-take m n bytes l in
    let rest : List ℕ = drop m (take n bytes) in
    let whole : take m bytes ++ (rest ++ more) ≡ take n bytes ++ more =
    ap (λ f. f ++ (rest ++ more)) (sym front) ∙ sym (append_assoc (take m (take n bytes)) rest more) ∙ ap (λ l. l ++ more) (take-append-drop m (take n bytes)) in
    (rest ++ more, subst IsPath (sym whole) p)

split_more : (k : ℕ) (xs zs : List ℕ) → k < length xs → is_slash (get_or xs k 0) ≡ true → ((i : ℕ) → i < k → is_slash (get_or xs i 0) ≡ false)
    → parts (xs ++ zs) ≡ take k xs ∷ parts (drop (suc k) xs ++ zs)
split_more zero [] zs l h none = absurd (omega arith)
split_more (suc k) [] zs l h none = absurd (omega arith)
split_more zero (x ∷ xs) zs l h none = ap (λ b. cond b ([] ∷ parts (xs ++ zs)) (onto_first x (parts (xs ++ zs)))) h
split_more (suc k) (x ∷ xs) zs l h none =
    let rest : parts (xs ++ zs) ≡ take k xs ∷ parts (drop (suc k) xs ++ zs) = split_more k xs zs (le_of_suc-le-suc l) h (λ i s. none (suc i) (suc-le-suc s)) in
    ap (λ b. cond b ([] ∷ parts (xs ++ zs)) (onto_first x (parts (xs ++ zs)))) (none zero (zero-lt-suc k)) ∙ ap (onto_first x) rest

front_splits : (xs : List ℕ) (n : ℕ) → position is_slash xs ≡ Some n → all_good (xs ++ 97 ∷ []) ≡ (is_part (take n xs) && all_good (drop (n + 1) xs ++ 97 ∷ []))
front_splits xs n h =
    let at = position-Some is_slash xs n 0 h in
    rw add-one (ap (list_all is_part) (split_more n xs (97 ∷ []) at.0 at.1 at.2))

pub ends_rest : (xs : List ℕ) (n : ℕ) (b : Bool) → position is_slash xs ≡ Some n → true ≡ is_part (take n xs) → all_good (xs ++ 97 ∷ []) ≡ b
    → all_good (take (length xs - (n + 1)) (drop (n + 1) xs) ++ 97 ∷ []) ≡ b
ends_rest xs n b h good all =
    rw take_rest (ap (λ v. v && all_good (drop (n + 1) xs ++ 97 ∷ [])) good ∙ sym (front_splits xs n h) ∙ all)

pub ends_bad : (xs : List ℕ) (n : ℕ) (b : Bool) → position is_slash xs ≡ Some n → false ≡ is_part (take n xs) → all_good (xs ++ 97 ∷ []) ≡ b → false ≡ b
ends_bad xs n b h bad all = ap (λ v. v && all_good (drop (n + 1) xs ++ 97 ∷ [])) bad ∙ sym (front_splits xs n h) ∙ all

no_place : (b : Bool) (e : ℕ) → cond b (Some e) None ≡ None → b ≡ false
no_place true e h = cc
no_place false e h = refl

pub ends_free : (xs : List ℕ) (b : Bool) → position is_slash xs ≡ None → all_good (xs ++ 97 ∷ []) ≡ b → true ≡ b
ends_free xs b h all =
    let none : nat_lt (prefix_len no_slash xs) (length xs) ≡ false = no_place (nat_lt (prefix_len no_slash xs) (length xs)) (prefix_len no_slash xs) h in
    let run : length xs ≤ prefix_len no_slash xs = grind (arith, nat_tests, none) in
    let free : list_all no_slash xs ≡ true = sym (ap (list_all no_slash) (take_all (length xs) xs (omega arith))) ∙ run_passes no_slash xs (length xs) run in
    sym (free_good (xs ++ 97 ∷ []) (list_all-append no_slash xs (97 ∷ []) ∙ and_from (list_all no_slash xs) true free refl)
    (list_any-append no_dot xs (97 ∷ []) ∙ or-true (list_any no_dot xs))) ∙ all

pub front_short : (bytes : List ℕ) (n : ℕ) → n ≤ length bytes → Begins IsPath (take n bytes) → n ≤ 1024
front_short bytes n l b = let size = length-take-le n bytes l in omega (arith, need_short (take n bytes) b)

pub empty_begins : (bytes : List ℕ) → Begins IsPath (take 0 bytes)
empty_begins bytes = text_goes_on [] (IsUtf8-nil) refl refl (omega arith)

leb_true : (m n : ℕ) → m ≤ n → leb m n ≡ true
leb_true m n h = grind (arith, nat_tests)

-- whether what a cut character lacks still fits
pub cut_fits : (front : List ℕ) (v k : ℕ) → IsValidUpTo front v → missing (tail_of front v) ≡ Some k → list_all is_not_zero front ≡ true
    → all_good (front ++ 97 ∷ []) ≡ true → length front ≤ 1024
    → (leb k (1024 - length front) ≡ true → Begins IsPath front) × (Begins IsPath front → leb k (1024 - length front) ≡ true)
cut_fits front v k valid h zero_free good short = (
  (λ t. let fits : k ≤ 1024 - length front = grind (arith, nat_tests) in cut_goes_on front v k valid h zero_free good (omega arith)),
  (λ b. ⊎_elim (λ l. absurd (cut_need front v k valid h b (omega arith))) (λ l. leb_true k (1024 - length front) l) (order (1024 - length front) k)),
)
