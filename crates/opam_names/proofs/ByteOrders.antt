-- Lists in the byte order of a key.
use Rattle.std.proofs.Common.{◌≡◌, ℕ, zero, suc, ◌+◌, ◌<◌, ◌≤◌, List, [], ◌∷◌, ◌++◌, map, filter, fold, length, get_or, Bool, true, false, cond, not, ◌||◌, ◌⊎◌, inl, inr, ⊎_elim, refl, sym, ◌∙◌, ap, subst, arith, take, drop}
use Rattle.std.specs.Prelude.{bytes_eq, Contains, if◌then◌else◌}
use Rattle.std.specs.BTreeSet.{insert_key}
use Rattle.std.specs.List.{AllByRecursion, IsDistinct, dedup_from, insert, list_any}
use Rattle.std.specs.List.Sorted.{IsPermutation, IsStrictlySortedBy}
use Rattle.std.specs.Ordering.{is_eq, is_lt, match_ordering, ordering_reverse}
use Rattle.std.specs.declared.cmp.Ordering.{Ordering}
use Rattle.std.specs.declared.cmp.Ordering.TheVariants.{Less, Equal, Greater}
use Rattle.std.proofs.lemmas.Bool.{false≢true}
use Rattle.std.proofs.lemmas.Cmp.{nat_list_cmp_total}
use Rattle.std.proofs.lemmas.List.Sorted.{IsPermutation-cons, IsPermutation-insert, IsPermutation-map, IsPermutation-refl, IsPermutation-trans}
use Rattle.std.proofs.lemmas.Map.Keys.{IsDistinct-IsPermutation}
use Rattle.std.proofs.lemmas.Map.Lookups.{exact_bytes}
use Rattle.std.proofs.lemmas.Map.Text.{is_eq-slice_cmp}
use Rattle.opam_names.specs.ByteOrders.{NeverFallsBy, RisesBy, byte_order, each_once, first_of_each_by, has_key, in_order_by, precedes, put_by}

-- ---- the order of two texts

turned : (a b : List ℕ) → byte_order a b ≡ Greater → byte_order b a ≡ Less
turned a b is = nat_list_cmp_total.antisymm b a ∙ ap ordering_reverse is

pub less_of : (r : Ordering) → is_lt r ≡ true → r ≡ Less
less_of Less is = refl
less_of Equal is = absurd (false≢true is)
less_of Greater is = absurd (false≢true is)

own_reverse : (r : Ordering) → r ≡ ordering_reverse r → r ≡ Equal
own_reverse Less is = absurd cc
own_reverse Equal is = refl
own_reverse Greater is = absurd cc

same_order : (a : List ℕ) → byte_order a a ≡ Equal
same_order a = own_reverse (byte_order a a) (nat_list_cmp_total.antisymm a a)

pub same_bytes : (a : List ℕ) → bytes_eq a a ≡ true
same_bytes a = sym (is_eq-slice_cmp a a) ∙ ap is_eq (same_order a)

equal_by : (r : Ordering) (a b : List ℕ) → byte_order a b ≡ r → is_eq r ≡ true → a ≡ b
equal_by Less a b is eq = absurd (false≢true eq)
equal_by Equal a b is eq = exact_bytes a b is
equal_by Greater a b is eq = absurd (false≢true eq)

pub equal_bytes : (a b : List ℕ) → bytes_eq a b ≡ true → a ≡ b
equal_bytes a b is = equal_by (byte_order a b) a b refl (is_eq-slice_cmp a b ∙ is)

pub differ : (a b : List ℕ) → bytes_eq a b ≡ false → a ≡ b → ⊥
differ a b apart same = false≢true (sym apart ∙ (ap (bytes_eq a) (sym same) ∙ same_bytes a))

pub apart_of : (a b : List ℕ) → byte_order a b ≡ Less → bytes_eq b a ≡ false
apart_of a b less = sym (is_eq-slice_cmp b a) ∙ ap is_eq (nat_list_cmp_total.antisymm b a ∙ ap ordering_reverse less)

pub not_before_itself : (a b : List ℕ) → a ≡ b → precedes a b ≡ false
not_before_itself a b same = ap (λ c. is_lt (byte_order a c)) (sym same) ∙ ap is_lt (same_order a)

one_way : (a b : List ℕ) → precedes a b ≡ true → precedes b a ≡ false
one_way a b is = ap is_lt (nat_list_cmp_total.antisymm b a ∙ ap ordering_reverse (less_of (byte_order a b) is))

-- what stands before a text stands before one that does not precede it
before_by : (r : Ordering) (a b c : List ℕ) → byte_order c b ≡ r → byte_order a b ≡ Less → is_lt r ≡ false → byte_order a c ≡ Less
before_by Less a b c is less stays = absurd (false≢true (sym stays))
before_by Equal a b c is less stays = let P : List ℕ → Type 0 = λ d. byte_order a d ≡ Less in subst P (sym (exact_bytes c b is)) less
before_by Greater a b c is less stays = nat_list_cmp_total.trans a b c less (turned c b is)

pub before : (a b c : List ℕ) → byte_order a b ≡ Less → precedes c b ≡ false → byte_order a c ≡ Less
before a b c less stays = before_by (byte_order c b) a b c refl less stays

chain_by : (r : Ordering) (a b c : List ℕ) → byte_order c a ≡ r → precedes b a ≡ false → precedes c b ≡ false → is_lt r ≡ false
chain_by Less a b c is stays more = absurd (false≢true (sym more ∙ ap is_lt (before c a b is stays)))
chain_by Equal a b c is stays more = refl
chain_by Greater a b c is stays more = refl

-- where the second does not precede the first, nor the third the second, the third does not precede the first
pub chain : (a b c : List ℕ) → precedes b a ≡ false → precedes c b ≡ false → precedes c a ≡ false
chain a b c stays more = chain_by (byte_order c a) a b c refl stays more

next_by : (r : Ordering) (a b : List ℕ) → byte_order a b ≡ r → precedes b a ≡ false → (a ≡ b → ⊥) → r ≡ Less
next_by Less a b is stays apart = refl
next_by Equal a b is stays apart = absurd (apart (exact_bytes a b is))
next_by Greater a b is stays apart = absurd (false≢true (sym stays ∙ ap is_lt (turned a b is)))

-- of two texts that differ the one that the other does not precede is the first
pub next_of : (a b : List ℕ) → precedes b a ≡ false → (a ≡ b → ⊥) → byte_order a b ≡ Less
next_of a b stays apart = next_by (byte_order a b) a b refl stays apart

-- ---- lists that never fall

module _ {X : Type 0} (key : X → List ℕ) where
  all_put : (P : X → Type 0) (x : X) (ys : List X) → P x → AllByRecursion P ys → AllByRecursion P (put_by key x ys)
  all_put P x [] here all = (here, tt)
  all_put P x (y ∷ ys) here all = by (precedes (key y) (key x)) (all_put P x ys here all.1)
    where
      by : (b : Bool) → AllByRecursion P (put_by key x ys) → AllByRecursion P (if b then y ∷ put_by key x ys else x ∷ y ∷ ys)
      by true later = (all.0, later)
      by false later = let rest : AllByRecursion P (y ∷ ys) = all in (here, rest)

  not_below : (x y : X) (ys : List X) → precedes (key y) (key x) ≡ false → AllByRecursion (λ z. precedes (key z) (key y) ≡ false) ys
      → AllByRecursion (λ z. precedes (key z) (key x) ≡ false) ys
  not_below x y [] stays all = tt
  not_below x y (z ∷ ys) stays all = (chain (key x) (key y) (key z) stays all.0, not_below x y ys stays all.1)

  put_up : (x : X) (ys : List X) → NeverFallsBy key ys → NeverFallsBy key (put_by key x ys)
  put_up x [] up = (tt, tt)
  put_up x (y ∷ ys) up = by (precedes (key y) (key x)) refl (put_up x ys up.1)
    where
      by : (b : Bool) → precedes (key y) (key x) ≡ b → NeverFallsBy key (put_by key x ys) → NeverFallsBy key (if b then y ∷ put_by key x ys else x ∷ y ∷ ys)
      by true is later = (all_put (λ z. precedes (key z) (key y) ≡ false) x ys (one_way (key y) (key x) is) up.0, later)
      by false is later = let all : AllByRecursion (λ z. precedes (key z) (key x) ≡ false) (y ∷ ys) = (is, not_below x y ys is up.0) in (all, up)

  pub order_up : (xs : List X) → NeverFallsBy key (in_order_by key xs)
  order_up [] = tt
  order_up (x ∷ xs) = put_up x (in_order_by key xs) (order_up xs)

  -- ---- elements with one key stay as they stood

  swapped : (p q : Bool) (x y : X) (l : List X) → (p ≡ true → q ≡ true → ⊥) → cond q (y ∷ cond p (x ∷ l) l) (cond p (x ∷ l) l) ≡ cond p (x ∷ cond q (y ∷ l) l) (cond q (y ∷ l) l)
  swapped true true x y l apart = absurd (apart refl refl)
  swapped true false x y l apart = refl
  swapped false true x y l apart = refl
  swapped false false x y l apart = refl

  put_stable : (bytes : List ℕ) (x : X) (ys : List X) → filter (has_key key bytes) (put_by key x ys) ≡ filter (has_key key bytes) (x ∷ ys)
  put_stable bytes x [] = refl
  put_stable bytes x (y ∷ ys) = by (precedes (key y) (key x)) refl (put_stable bytes x ys)
    where
      by : (b : Bool) → precedes (key y) (key x) ≡ b → filter (has_key key bytes) (put_by key x ys) ≡ filter (has_key key bytes) (x ∷ ys)
          → filter (has_key key bytes) (if b then y ∷ put_by key x ys else x ∷ y ∷ ys) ≡ filter (has_key key bytes) (x ∷ y ∷ ys)
      by true is later =
          ap (λ l. cond (bytes_eq (key y) bytes) (y ∷ l) l) later
          ∙ swapped (bytes_eq (key x) bytes) (bytes_eq (key y) bytes) x y (filter (has_key key bytes) ys)
          (λ p q. false≢true (sym (not_before_itself (key y) (key x) (equal_bytes (key y) bytes q ∙ sym (equal_bytes (key x) bytes p))) ∙ is))
      by false is later = refl

  pub order_stable : (xs : List X) (bytes : List ℕ) → filter (has_key key bytes) (in_order_by key xs) ≡ filter (has_key key bytes) xs
  order_stable [] bytes = refl
  order_stable (x ∷ xs) bytes =
      put_stable bytes x (in_order_by key xs) ∙ ap (λ l. cond (bytes_eq (key x) bytes) (x ∷ l) l) (order_stable xs bytes)

  -- ---- a list that never falls is given by the elements of each key

  absent : (bytes : List ℕ) (xs : List X) → AllByRecursion (λ y. byte_order bytes (key y) ≡ Less) xs → filter (has_key key bytes) xs ≡ []
  absent bytes [] all = refl
  absent bytes (x ∷ xs) all =
      ap (λ b. cond b (x ∷ filter (has_key key bytes) xs) (filter (has_key key bytes) xs)) (apart_of bytes (key x) all.0) ∙ absent bytes xs all.1

  pub all_after : (a : List ℕ) (y : X) (ys : List X) → byte_order a (key y) ≡ Less → AllByRecursion (λ z. precedes (key z) (key y) ≡ false) ys → AllByRecursion (λ z. byte_order a (key z) ≡ Less) ys
  all_after a y [] less all = tt
  all_after a y (z ∷ ys) less all = (before a (key y) (key z) less all.0, all_after a y ys less all.1)

  present : (x : X) (bytes : List ℕ) (xs : List X) → key x ≡ bytes → filter (has_key key bytes) (x ∷ xs) ≡ x ∷ filter (has_key key bytes) xs
  present x bytes xs is =
      ap (λ b. cond b (x ∷ filter (has_key key bytes) xs) (filter (has_key key bytes) xs)) (ap (bytes_eq (key x)) (sym is) ∙ same_bytes (key x))

  none_is : (x : X) (bytes : List ℕ) (xs ys : List X) → key x ≡ bytes → filter (has_key key bytes) (x ∷ xs) ≡ filter (has_key key bytes) ys → AllByRecursion (λ y. byte_order bytes (key y) ≡ Less) ys → ⊥
  none_is x bytes xs ys is same all =
      let bad : x ∷ filter (has_key key bytes) xs ≡ [] = sym (present x bytes xs is) ∙ (same ∙ absent bytes ys all) in cc

  rest_is : (p q : Bool) (x y : X) (l m : List X) → p ≡ q → cond p (x ∷ l) l ≡ cond q (y ∷ m) m → l ≡ m
  rest_is true true x y l m is same = cc
  rest_is true false x y l m is same = absurd (false≢true (sym is))
  rest_is false true x y l m is same = absurd (false≢true is)
  rest_is false false x y l m is same = same

  pub one_order : (xs ys : List X) → NeverFallsBy key xs → NeverFallsBy key ys → ((bytes : List ℕ) → filter (has_key key bytes) xs ≡ filter (has_key key bytes) ys) → xs ≡ ys
  one_order [] [] up over same = refl
  one_order [] (y ∷ ys) up over same = absurd (none_is y (key y) ys [] refl (sym (same (key y))) tt)
  one_order (x ∷ xs) [] up over same = absurd (none_is x (key x) xs [] refl (same (key x)) tt)
  one_order (x ∷ xs) (y ∷ ys) up over same = by (byte_order (key x) (key y)) refl (one_order xs ys up.1 over.1)
    where
      by : (r : Ordering) → byte_order (key x) (key y) ≡ r → (((bytes : List ℕ) → filter (has_key key bytes) xs ≡ filter (has_key key bytes) ys) → xs ≡ ys) → x ∷ xs ≡ y ∷ ys
      by Less is later = absurd (none_is x (key x) xs (y ∷ ys) refl (same (key x)) (is, all_after (key x) y ys is over.0))
      by Equal is later =
          let one = exact_bytes (key x) (key y) is in
          let heads : x ∷ filter (has_key key (key x)) xs ≡ y ∷ filter (has_key key (key x)) ys = sym (present x (key x) xs refl) ∙ (same (key x) ∙ present y (key x) ys (sym one)) in
          let tails : xs ≡ ys = later (λ bytes. rest_is (bytes_eq (key x) bytes) (bytes_eq (key y) bytes) x y (filter (has_key key bytes) xs) (filter (has_key key bytes) ys) (ap (λ k. bytes_eq k bytes) one) (same bytes)) in cc
      by Greater is later =
          let less = turned (key x) (key y) is in
          absurd (none_is y (key y) ys (x ∷ xs) refl (sym (same (key y))) (less, all_after (key y) x xs less up.0))

  pub order_only : (xs ys : List X) → NeverFallsBy key ys → ((bytes : List ℕ) → filter (has_key key bytes) ys ≡ filter (has_key key bytes) xs) → ys ≡ in_order_by key xs
  order_only xs ys up same = one_order ys (in_order_by key xs) up (order_up xs) (λ bytes. same bytes ∙ sym (order_stable xs bytes))

  -- ---- the same elements

  put_permutes : (x : X) (ys : List X) → IsPermutation (x ∷ ys) (put_by key x ys)
  put_permutes x [] = IsPermutation-refl (x ∷ [])
  put_permutes x (y ∷ ys) = by (precedes (key y) (key x)) (put_permutes x ys)
    where
      by : (b : Bool) → IsPermutation (x ∷ ys) (put_by key x ys) → IsPermutation (x ∷ y ∷ ys) (if b then y ∷ put_by key x ys else x ∷ y ∷ ys)
      by true later =
          IsPermutation-trans (x ∷ y ∷ ys) (y ∷ x ∷ ys) (y ∷ put_by key x ys) (IsPermutation-insert (y ∷ ys) 1 x) (IsPermutation-cons y (x ∷ ys) (put_by key x ys) later)
      by false later = IsPermutation-refl (x ∷ y ∷ ys)

  pub order_permutes : (xs : List X) → IsPermutation xs (in_order_by key xs)
  order_permutes [] = IsPermutation-refl []
  order_permutes (x ∷ xs) =
      IsPermutation-trans (x ∷ xs) (x ∷ in_order_by key xs) (put_by key x (in_order_by key xs)) (IsPermutation-cons x xs (in_order_by key xs) (order_permutes xs)) (put_permutes x (in_order_by key xs))

  -- ---- keys that differ rise

  all_next : (x : X) (xs : List X) → AllByRecursion (λ y. precedes (key y) (key x) ≡ false) xs → AllByRecursion (λ y. bytes_eq (key x) y ≡ false) (map key xs) → AllByRecursion (λ y. byte_order (key x) y ≡ Less) (map key xs)
  all_next x [] up once = tt
  all_next x (y ∷ xs) up once = (next_of (key x) (key y) up.0 (differ (key x) (key y) once.0), all_next x xs up.1 once.1)

  once_rises : (xs : List X) → NeverFallsBy key xs → IsDistinct bytes_eq (map key xs) → RisesBy key xs
  unfolding IsStrictlySortedBy IsDistinct
  once_rises [] up once = tt
  once_rises (x ∷ xs) up once = (all_next x xs up.0 once.0, once_rises xs up.1 once.1)

  eq_turns : (a b : List ℕ) → bytes_eq a b ≡ bytes_eq b a
  eq_turns a b = by (bytes_eq a b) (bytes_eq b a) refl refl
    where
      by : (p q : Bool) → bytes_eq a b ≡ p → bytes_eq b a ≡ q → p ≡ q
      by true true is other = refl
      by true false is other = absurd (differ b a other (sym (equal_bytes a b is)))
      by false true is other = absurd (differ a b is (sym (equal_bytes b a other)))
      by false false is other = refl

  pub order_rises : (xs : List X) → IsDistinct bytes_eq (map key xs) → RisesBy key (in_order_by key xs)
  order_rises xs once =
      once_rises (in_order_by key xs) (order_up xs)
      (IsDistinct-IsPermutation bytes_eq eq_turns (map key xs) (map key (in_order_by key xs)) (IsPermutation-map key xs (in_order_by key xs) (order_permutes xs)) once)

  -- ---- the first of each key

  firsts_all : (P : List ℕ → Type 0) (k : X) (xs : List X) → P (key k) → AllByRecursion (λ x. P (key x)) xs → AllByRecursion P (map key (dedup_from (λ x y. bytes_eq (key x) (key y)) k xs))
  firsts_all P k [] here all = (here, tt)
  firsts_all P k (x ∷ xs) here all = by (bytes_eq (key x) (key k)) (firsts_all P k xs here all.1) (firsts_all P x xs all.0 all.1)
    where
      by : (b : Bool) → AllByRecursion P (map key (dedup_from (λ x y. bytes_eq (key x) (key y)) k xs)) → AllByRecursion P (map key (dedup_from (λ x y. bytes_eq (key x) (key y)) x xs))
          → AllByRecursion P (map key (cond b (dedup_from (λ x y. bytes_eq (key x) (key y)) k xs) (k ∷ dedup_from (λ x y. bytes_eq (key x) (key y)) x xs)))
      by true kept next = kept
      by false kept next = (here, next)

  firsts_rise : (k : X) (xs : List X) → NeverFallsBy key (k ∷ xs) → RisesBy key (dedup_from (λ x y. bytes_eq (key x) (key y)) k xs)
  unfolding IsStrictlySortedBy
  firsts_rise k [] up = (tt, tt)
  firsts_rise k (x ∷ xs) up = by (bytes_eq (key x) (key k)) refl (firsts_rise k xs (up.0.1, up.1.1)) (firsts_rise x xs up.1)
    where
      by : (b : Bool) → bytes_eq (key x) (key k) ≡ b → RisesBy key (dedup_from (λ x y. bytes_eq (key x) (key y)) k xs) → RisesBy key (dedup_from (λ x y. bytes_eq (key x) (key y)) x xs)
          → RisesBy key (cond b (dedup_from (λ x y. bytes_eq (key x) (key y)) k xs) (k ∷ dedup_from (λ x y. bytes_eq (key x) (key y)) x xs))
      by true is kept next = kept
      by false is kept next =
          let less = next_of (key k) (key x) up.0.0 (λ same. differ (key x) (key k) is (sym same)) in
          (firsts_all (λ y. byte_order (key k) y ≡ Less) x xs less (all_after (key k) x xs less up.1.0), next)

  pub first_of_each_rises : (xs : List X) → NeverFallsBy key xs → RisesBy key (first_of_each_by key xs)
  unfolding IsStrictlySortedBy
  first_of_each_rises [] up = tt
  first_of_each_rises (x ∷ xs) up = firsts_rise x xs up

  or_again : (p q r : Bool) → p ≡ q → (p || r) ≡ (p || (q || r))
  or_again true true r is = refl
  or_again true false r is = refl
  or_again false true r is = absurd (false≢true is)
  or_again false false r is = refl

  firsts_keys : (bytes : List ℕ) (k : X) (xs : List X) → list_any (has_key key bytes) (dedup_from (λ x y. bytes_eq (key x) (key y)) k xs) ≡ list_any (has_key key bytes) (k ∷ xs)
  firsts_keys bytes k [] = refl
  firsts_keys bytes k (x ∷ xs) = by (bytes_eq (key x) (key k)) refl (firsts_keys bytes k xs) (firsts_keys bytes x xs)
    where
      by : (b : Bool) → bytes_eq (key x) (key k) ≡ b
          → list_any (has_key key bytes) (dedup_from (λ x y. bytes_eq (key x) (key y)) k xs) ≡ list_any (has_key key bytes) (k ∷ xs)
          → list_any (has_key key bytes) (dedup_from (λ x y. bytes_eq (key x) (key y)) x xs) ≡ list_any (has_key key bytes) (x ∷ xs)
          → list_any (has_key key bytes) (cond b (dedup_from (λ x y. bytes_eq (key x) (key y)) k xs) (k ∷ dedup_from (λ x y. bytes_eq (key x) (key y)) x xs)) ≡ list_any (has_key key bytes) (k ∷ x ∷ xs)
      by true is kept next = kept ∙ or_again (bytes_eq (key k) bytes) (bytes_eq (key x) bytes) (list_any (has_key key bytes) xs) (ap (λ a. bytes_eq a bytes) (sym (equal_bytes (key x) (key k) is)))
      by false is kept next = ap (λ b. bytes_eq (key k) bytes || b) next

  pub first_of_each_keys : (xs : List X) (bytes : List ℕ) → list_any (has_key key bytes) (first_of_each_by key xs) ≡ list_any (has_key key bytes) xs
  first_of_each_keys [] bytes = refl
  first_of_each_keys (x ∷ xs) bytes = firsts_keys bytes x xs
