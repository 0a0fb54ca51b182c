-- Lists that grow at their ends, and lists of which a part is left.
use Rattle.std.proofs.Common.{◌≡◌, ℕ, zero, suc, ◌+◌, ◌<◌, ◌≤◌, List, [], ◌∷◌, ◌++◌, map, filter, drop, length, Bool, true, false, cond, Option, Some, None, refl, sym, ap, ◌∙◌, arith}
use Rattle.std.specs.Prelude.{◌&&◌, ◌||◌, bytes_eq, filter_map, is_some, slice_get}
use Rattle.std.specs.List.{AllByRecursion, IsDistinct, cons_option, list_all, list_any}
use Rattle.std.proofs.lemmas.Bool.{false≢true}
use Rattle.std.proofs.lemmas.Slice.Eq.{bytes_eq-Decides}

pub or_left : (a b : Bool) → (a || b) ≡ false → a ≡ false
or_left true b is = absurd (false≢true (sym is))
or_left false b is = refl

pub or_right : (a b : Bool) → (a || b) ≡ false → b ≡ false
or_right true b is = absurd (false≢true (sym is))
or_right false b is = is

pub neither : (a b : Bool) → a ≡ false → b ≡ false → (a || b) ≡ false
neither a b one two = rw (one, two) refl

pub both : (a b : Bool) → a ≡ true → b ≡ true → (a && b) ≡ true
both a b one two = rw (one, two) refl

pub and_left : (a b : Bool) → (a && b) ≡ true → a ≡ true
and_left true b is = refl
and_left false b is = absurd (false≢true is)

pub and_right : (a b : Bool) → (a && b) ≡ true → b ≡ true
and_right true b is = is
and_right false b is = absurd (false≢true is)

module _ {X : Type 0} where
  pub get_in : (xs : List X) (n : ℕ) → n < length xs → (x : X) × (slice_get xs n ≡ Some x)
  get_in [] n lt = absurd (omega arith)
  get_in (x ∷ xs) zero lt = (x, refl)
  get_in (x ∷ xs) (suc n) lt = get_in xs n (omega arith)

  pub get_past : (xs : List X) (n : ℕ) → length xs ≤ n → slice_get xs n ≡ None
  get_past [] n past = refl
  get_past (x ∷ xs) zero past = absurd (omega arith)
  get_past (x ∷ xs) (suc n) past = get_past xs n (omega arith)

  -- what is left after a front begins with what stands there
  pub head_left : (front left : List X) (x : X) → slice_get (front ++ left) (length front) ≡ Some x → (more : List X) × (left ≡ x ∷ more)
  head_left [] [] x is = absurd cc
  head_left [] (y ∷ left) x is = (left, (let e : y ≡ x = cc in ap (λ z. z ∷ left) e))
  head_left (y ∷ front) left x is = head_left front left x is

  pub get_front : (front : List X) (x : X) (more : List X) → slice_get (front ++ x ∷ more) (length front) ≡ Some x
  get_front [] x more = refl
  get_front (y ∷ front) x more = get_front front x more

  pub get_drop : (k n : ℕ) (xs : List X) → slice_get (drop k xs) n ≡ slice_get xs (k + n)
  get_drop zero n xs = (let e : n ≡ 0 + n = omega arith in ap (slice_get xs) e)
  get_drop (suc k) n [] = refl
  get_drop (suc k) n (x ∷ xs) = get_drop k n xs ∙ (let e : suc (k + n) ≡ suc k + n = omega arith in ap (slice_get (x ∷ xs)) e)

  pub any_front : (t : X → Bool) (xs ys : List X) → list_any t (xs ++ ys) ≡ false → list_any t xs ≡ false
  any_front t [] ys none = refl
  any_front t (x ∷ xs) ys none = neither (t x) (list_any t xs) (or_left (t x) (list_any t (xs ++ ys)) none) (any_front t xs ys (or_right (t x) (list_any t (xs ++ ys)) none))

  pub any_push : (t : X → Bool) (xs : List X) (x : X) → t x ≡ false → list_any t (xs ++ x ∷ []) ≡ list_any t xs
  any_push t [] x no_x = rw no_x refl
  any_push t (y ∷ xs) x no_x = ap (λ b. t y || b) (any_push t xs x no_x)

  pub count_push : (t : X → Bool) (xs : List X) (x : X) → t x ≡ true → length (filter t (xs ++ x ∷ [])) ≡ length (filter t xs) + 1
  count_push t [] x yes_x = rw yes_x refl
  count_push t (y ∷ xs) x yes_x = by (t y) (count_push t xs x yes_x)
    where
      by : (b : Bool) → length (filter t (xs ++ x ∷ [])) ≡ length (filter t xs) + 1 → length (cond b (y ∷ filter t (xs ++ x ∷ [])) (filter t (xs ++ x ∷ []))) ≡ length (cond b (y ∷ filter t xs) (filter t xs)) + 1
      by true later = omega (arith, later)
      by false later = later

  pub count_same : (t : X → Bool) (xs : List X) (x : X) → t x ≡ false → length (filter t (xs ++ x ∷ [])) ≡ length (filter t xs)
  count_same t [] x no_x = rw no_x refl
  count_same t (y ∷ xs) x no_x = by (t y) (count_same t xs x no_x)
    where
      by : (b : Bool) → length (filter t (xs ++ x ∷ [])) ≡ length (filter t xs) → length (cond b (y ∷ filter t (xs ++ x ∷ [])) (filter t (xs ++ x ∷ []))) ≡ length (cond b (y ∷ filter t xs) (filter t xs))
      by true later = omega (arith, later)
      by false later = later

  pub length_filter : (t : X → Bool) (xs : List X) → length (filter t xs) ≤ length xs
  length_filter t [] = omega arith
  length_filter t (x ∷ xs) = by (t x) (length_filter t xs)
    where
      by : (b : Bool) → length (filter t xs) ≤ length xs → length (cond b (x ∷ filter t xs) (filter t xs)) ≤ suc (length xs)
      by true later = omega (arith, later)
      by false later = omega (arith, later)

  pub all_push : (t : X → Bool) (xs : List X) (x : X) → list_all t (xs ++ x ∷ []) ≡ (t x && list_all t xs)
  all_push t [] x = refl
  all_push t (y ∷ xs) x = ap (λ b. t y && b) (all_push t xs x) ∙ swap (t y) (t x) (list_all t xs)
    where
      swap : (a b c : Bool) → (a && (b && c)) ≡ (b && (a && c))
      swap true b c = refl
      swap false true c = refl
      swap false false c = refl

  pub all_at : (t : X → Bool) (xs : List X) (n : ℕ) (x : X) → list_all t xs ≡ true → slice_get xs n ≡ Some x → t x ≡ true
  all_at t [] n x all is = absurd cc
  all_at t (y ∷ xs) zero x all is = (let e : y ≡ x = cc in ap t (sym e) ∙ and_left (t y) (list_all t xs) all)
  all_at t (y ∷ xs) (suc n) x all is = all_at t xs n x (and_right (t y) (list_all t xs) all) is

  -- two filters, one after the other
  pub filter_twice : (s t : X → Bool) (xs : List X) → filter s (filter t xs) ≡ filter (λ x. s x && t x) xs
  filter_twice s t [] = refl
  filter_twice s t (x ∷ xs) = by (t x) (s x) (filter_twice s t xs) refl
    where
      by : (b c : Bool) → filter s (filter t xs) ≡ filter (λ x. s x && t x) xs → s x ≡ c → filter s (cond b (x ∷ filter t xs) (filter t xs)) ≡ cond (c && b) (x ∷ filter (λ x. s x && t x) xs) (filter (λ x. s x && t x) xs)
      by true true later is = rw is (ap (λ zs. x ∷ zs) later)
      by true false later is = rw is later
      by false true later is = later
      by false false later is = later

  pub filter_same : (s t : X → Bool) (xs : List X) → ((x : X) → s x ≡ t x) → filter s xs ≡ filter t xs
  filter_same s t [] same = refl
  filter_same s t (x ∷ xs) same = ap (λ b. cond b (x ∷ filter s xs) (filter s xs)) (same x) ∙ ap (λ zs. cond (t x) (x ∷ zs) zs) (filter_same s t xs same)

  -- what is at a place of the ones that are kept
  pub any_filter : (t keep : X → Bool) (xs : List X) (n : ℕ) (x : X) → slice_get xs n ≡ Some x → keep x ≡ true → t x ≡ true → list_any t (filter keep xs) ≡ true
  any_filter t keep [] n x is kept yes_x = absurd cc
  any_filter t keep (y ∷ xs) zero x is kept yes_x = (let e : y ≡ x = cc in
      let here : keep y ≡ true = ap keep e ∙ kept in
      let holds : t y ≡ true = ap t e ∙ yes_x in rw (here, holds) refl)
  any_filter t keep (y ∷ xs) (suc n) x is kept yes_x = by (keep y) (any_filter t keep xs n x is kept yes_x)
    where
      by : (b : Bool) → list_any t (filter keep xs) ≡ true → list_any t (cond b (y ∷ filter keep xs) (filter keep xs)) ≡ true
      by true later = or_true (t y) (list_any t (filter keep xs)) later
        where
          or_true : (a c : Bool) → c ≡ true → (a || c) ≡ true
          or_true true c yes_c = refl
          or_true false c yes_c = yes_c
      by false later = later

no_some : {Y : Type 0} (o : Option Y) → is_some o ≡ true → o ≡ None → ⊥
no_some None is none = false≢true is
no_some (Some y) is none = cc

length_at : {Y : Type 0} (o : Option Y) (ys : List Y) (n : ℕ) → is_some o ≡ true → length ys ≡ n → length (cons_option o ys) ≡ suc n
length_at None ys n here later = absurd (false≢true here)
length_at (Some y) ys n here later = ap suc later

module _ {X Y : Type 0} where
  pub any_map : (f : X → Y) (t : Y → Bool) (xs : List X) → list_any t (map f xs) ≡ list_any (λ x. t (f x)) xs
  any_map f t [] = refl
  any_map f t (x ∷ xs) = ap (λ b. t (f x) || b) (any_map f t xs)

  -- where every element gives something, what stands at a place gives what stands there
  given_at : (f : X → Option Y) (z x : X) (y : Y) (xs : List X) (o : Option Y) → f z ≡ o → is_some (f z) ≡ true → (n : ℕ) → ((m : ℕ) → slice_get xs m ≡ Some x → slice_get (filter_map f xs) m ≡ Some y)
      → f x ≡ Some y → slice_get (z ∷ xs) n ≡ Some x → slice_get (cons_option o (filter_map f xs)) n ≡ Some y
  given_at f z x y xs None none here n later gives is = absurd (no_some (f z) here none)
  given_at f z x y xs (Some w) some here zero later gives is = (let e : z ≡ x = cc in sym some ∙ ap f e ∙ gives)
  given_at f z x y xs (Some w) some here (suc n) later gives is = later n is

  pub get_given : (f : X → Option Y) (xs : List X) (n : ℕ) (x : X) (y : Y) → list_all (λ z. is_some (f z)) xs ≡ true → slice_get xs n ≡ Some x → f x ≡ Some y → slice_get (filter_map f xs) n ≡ Some y
  get_given f [] n x y all is gives = absurd cc
  get_given f (z ∷ xs) n x y all is gives =
      given_at f z x y xs (f z) refl (and_left (is_some (f z)) (list_all (λ w. is_some (f w)) xs) all) n (λ m there. get_given f xs m x y (and_right (is_some (f z)) (list_all (λ w. is_some (f w)) xs) all) there gives) gives is

  pub length_given : (f : X → Option Y) (xs : List X) → list_all (λ z. is_some (f z)) xs ≡ true → length (filter_map f xs) ≡ length xs
  length_given f [] all = refl
  length_given f (z ∷ xs) all =
      length_at (f z) (filter_map f xs) (length xs) (and_left (is_some (f z)) (list_all (λ w. is_some (f w)) xs) all) (length_given f xs (and_right (is_some (f z)) (list_all (λ w. is_some (f w)) xs) all))

pub all_more : {X : Type 0} (s t : X → Bool) (xs : List X) → ((x : X) → s x ≡ true → t x ≡ true) → list_all s xs ≡ true → list_all t xs ≡ true
all_more s t [] more all = refl
all_more s t (x ∷ xs) more all = both (t x) (list_all t xs) (more x (and_left (s x) (list_all s xs) all)) (all_more s t xs more (and_right (s x) (list_all s xs) all))

-- ---- names that differ

pub distinct_at : (front : List (List ℕ)) (name : List ℕ) (more : List (List ℕ)) → IsDistinct bytes_eq (front ++ name ∷ more) → list_any (bytes_eq name) front ≡ false
unfolding IsDistinct
distinct_at [] name more apart = refl
distinct_at (x ∷ front) name more apart =
    neither (bytes_eq name x) (list_any (bytes_eq name) front) (back x name (there front apart.0)) (distinct_at front name more apart.1)
  where
    there : (ys : List (List ℕ)) → AllByRecursion (λ y. bytes_eq x y ≡ false) (ys ++ name ∷ more) → bytes_eq x name ≡ false
    there [] all = all.0
    there (y ∷ ys) all = there ys all.1

    back : (a b : List ℕ) → bytes_eq a b ≡ false → bytes_eq b a ≡ false
    back a b other = is_false (bytes_eq b a) (λ same. false≢true (sym other ∙ (bytes_eq-Decides a b).1 (sym ((bytes_eq-Decides b a).0 same))))
      where
        is_false : (c : Bool) → (c ≡ true → ⊥) → c ≡ false
        is_false true never = absurd (never refl)
        is_false false never = refl

pub distinct_drop : (k : ℕ) (names : List (List ℕ)) → IsDistinct bytes_eq names → IsDistinct bytes_eq (drop k names)
unfolding IsDistinct
distinct_drop zero names apart = apart
distinct_drop (suc k) [] apart = tt
distinct_drop (suc k) (x ∷ names) apart = distinct_drop k names apart.1
