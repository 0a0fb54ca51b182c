-- Searches by halves in lists in the byte order of a key, and the test whether keys rise.
use Rattle.std.proofs.Common.{◌≡◌, ℕ, zero, suc, ◌+◌, ◌<◌, ◌≤◌, List, [], ◌∷◌, map, length, get_or, Bool, true, false, cond, not, ◌||◌, Option, Some, None, IsTrue, refl, sym, ◌∙◌, ap, subst, arith, lt-ltb, le-ltb}
use Rattle.std.specs.Prelude.{bytes_eq, nat_lt}
use Rattle.std.specs.List.{AllByRecursion, AllWithin, IsAllAdjacentAnswer, list_any, prefix_len}
use Rattle.std.specs.List.Sorted.{IsPartitionedBy, IsStrictlySortedBy}
use Rattle.std.specs.Option.{is_some}
use Rattle.std.specs.Ordering.{is_lt}
use Rattle.std.proofs.lemmas.Bool.Decides.{nat_tests}
use Rattle.std.proofs.lemmas.Bool.{false≢true}
use Rattle.std.proofs.lemmas.Cmp.{nat_list_cmp_total}
use Rattle.std.proofs.lemmas.List.{get_or-map, get_or_default, length-map}
use Rattle.std.proofs.lemmas.Map.Keys.{Less-from_sorted, sorted_from_all_adjacent}
use Rattle.std.specs.declared.cmp.Ordering.TheVariants.{Less}
use Rattle.opam_names.specs.ByteOrders.{NeverFallsBy, RisesBy, byte_order, count_before, has_key, place_of_key, precedes}
use Rattle.opam_names.proofs.ByteOrders.{all_after, apart_of, chain, differ, equal_bytes, less_of, next_of, not_before_itself, same_bytes}

-- the front of a list up to where a test first fails
pub front_is : {X : Type 0} (p : X → Bool) (xs : List X) (i : ℕ) → i ≤ length xs → AllWithin (λ y. p y ≡ true) xs 0 i → AllWithin (λ y. p y ≡ false) xs i (length xs) → i ≡ prefix_len p xs
front_is p [] i low passes stays = omega arith
front_is p (x ∷ xs) zero low passes stays = ap (λ b. cond b (1 + prefix_len p xs) 0) (sym (stays 0 x (omega arith) (omega arith)))
front_is p (x ∷ xs) (suc i) low passes stays =
    let later : i ≡ prefix_len p xs = front_is p xs i (omega arith) (λ k d a b. passes (suc k) d (omega arith) (omega arith)) (λ k d a b. stays (suc k) d (omega arith) (omega arith)) in
    let here : suc i ≡ 1 + prefix_len p xs = omega arith in
    here ∙ ap (λ b. cond b (1 + prefix_len p xs) 0) (sym (passes 0 x (omega arith) (omega arith)))

not_below_itself : (n : ℕ) → nat_lt n n ≡ false
not_below_itself n = le-ltb n n (omega arith)

one_more : (n m : ℕ) → nat_lt (1 + n) (suc m) ≡ nat_lt n m
one_more n m = grind (arith, nat_tests)

past : (n m : ℕ) → n ≡ m → n < m → ⊥
past n m same less = omega arith

module _ {X : Type 0} (key : X → List ℕ) where
  all_at_place : (P : X → Type 0) (xs : List X) (j : ℕ) (d : X) → AllByRecursion P xs → j < length xs → P (get_or xs j d)
  all_at_place P [] j d all low = absurd (omega arith)
  all_at_place P (x ∷ xs) zero d all low = all.0
  all_at_place P (x ∷ xs) (suc j) d all low = all_at_place P xs j d all.1 (omega arith)

  falls_at : (xs : List X) (i j : ℕ) (d : X) → NeverFallsBy key xs → i ≤ j → j < length xs → precedes (key (get_or xs j d)) (key (get_or xs i d)) ≡ false
  falls_at [] i j d up le low = absurd (omega arith)
  falls_at (x ∷ xs) zero zero d up le low = not_before_itself (key x) (key x) refl
  falls_at (x ∷ xs) zero (suc j) d up le low = all_at_place (λ y. precedes (key y) (key x) ≡ false) xs j d up.0 (omega arith)
  falls_at (x ∷ xs) (suc i) zero d up le low = absurd (omega arith)
  falls_at (x ∷ xs) (suc i) (suc j) d up le low = falls_at xs i j d up.1 (omega arith) (omega arith)

  parted_by : (a b : List ℕ) (bytes : List ℕ) (v : Bool) → precedes a bytes ≡ v → precedes b a ≡ false → precedes b bytes ≡ true → v ≡ true
  parted_by a b bytes true is stays passes = refl
  parted_by a b bytes false is stays passes = absurd (false≢true (sym (chain bytes a b is stays) ∙ passes))

  -- what a search by halves asks
  pub parted : (bytes : List ℕ) (xs : List X) → NeverFallsBy key xs → IsPartitionedBy (λ y. precedes (key y) bytes) xs
  parted bytes xs up i j d le low is =
      parted_by (key (get_or xs i d)) (key (get_or xs j d)) bytes (precedes (key (get_or xs i d)) bytes) refl (falls_at xs i j d up le low) is

  -- ---- the first element with a key

  abbrev other_than : List ℕ → X → Bool
  other_than bytes x = not (has_key key bytes x)

  abbrev earlier_than : List ℕ → X → Bool
  earlier_than bytes x = precedes (key x) bytes

  none_before : (bytes : List ℕ) (xs : List X) → AllByRecursion (λ y. byte_order bytes (key y) ≡ Less) xs → prefix_len (other_than bytes) xs ≡ length xs
  none_before bytes [] all = refl
  none_before bytes (x ∷ xs) all =
      let here = apart_of bytes (key x) all.0 in
      let later = none_before bytes xs all.1 in
      ap (λ b. cond (not b) (1 + prefix_len (other_than bytes) xs) 0) here ∙ (let one : 1 + prefix_len (other_than bytes) xs ≡ suc (length xs) = omega arith in one)

  -- a key that precedes is another
  other_of : (x : X) (bytes : List ℕ) → precedes (key x) bytes ≡ true → bytes_eq (key x) bytes ≡ false
  other_of x bytes is = by (bytes_eq (key x) bytes) refl
    where
      by : (b : Bool) → bytes_eq (key x) bytes ≡ b → b ≡ false
      by true same = absurd (false≢true (sym (not_before_itself (key x) bytes (equal_bytes (key x) bytes same)) ∙ is))
      by false same = refl

  -- where the key at the place is the one that is sought, that is the first place of it
  pub found_first : (bytes : List ℕ) (xs : List X) (d : X) → NeverFallsBy key xs → count_before key bytes xs < length xs → bytes_eq (key (get_or xs (count_before key bytes xs) d)) bytes ≡ true
      → prefix_len (other_than bytes) xs ≡ count_before key bytes xs
  found_first bytes [] d up low is = absurd (omega arith)
  found_first bytes (x ∷ xs) d up low is = by (precedes (key x) bytes) refl low is (found_first bytes xs d up.1)
    where
      by : (b : Bool) → precedes (key x) bytes ≡ b → cond b (1 + count_before key bytes xs) 0 < suc (length xs) → bytes_eq (key (get_or (x ∷ xs) (cond b (1 + count_before key bytes xs) 0) d)) bytes ≡ true
          → (count_before key bytes xs < length xs → bytes_eq (key (get_or xs (count_before key bytes xs) d)) bytes ≡ true → prefix_len (other_than bytes) xs ≡ count_before key bytes xs)
          → prefix_len (other_than bytes) (x ∷ xs) ≡ cond b (1 + count_before key bytes xs) 0
      by true h less same later =
          let step : 1 + count_before key bytes xs ≡ suc (count_before key bytes xs) = omega arith in
          let there = ap (λ n. bytes_eq (key (get_or (x ∷ xs) n d)) bytes) (sym step) ∙ same in
          ap (λ b. cond (not b) (1 + prefix_len (other_than bytes) xs) 0) (other_of x bytes h) ∙ ap (λ n. 1 + n) (later (omega arith) there)
      by false h less same later = ap (λ b. cond (not b) (1 + prefix_len (other_than bytes) xs) 0) same

  -- and where it is not, no element has it
  pub found_none : (bytes : List ℕ) (xs : List X) → NeverFallsBy key xs → ((d : X) → count_before key bytes xs < length xs → bytes_eq (key (get_or xs (count_before key bytes xs) d)) bytes ≡ false)
      → prefix_len (other_than bytes) xs ≡ length xs
  found_none bytes [] up stays = refl
  found_none bytes (x ∷ xs) up stays = by (precedes (key x) bytes) refl stays (found_none bytes xs up.1)
    where
      by : (b : Bool) → precedes (key x) bytes ≡ b → ((d : X) → cond b (1 + count_before key bytes xs) 0 < suc (length xs) → bytes_eq (key (get_or (x ∷ xs) (cond b (1 + count_before key bytes xs) 0) d)) bytes ≡ false)
          → (((d : X) → count_before key bytes xs < length xs → bytes_eq (key (get_or xs (count_before key bytes xs) d)) bytes ≡ false) → prefix_len (other_than bytes) xs ≡ length xs)
          → prefix_len (other_than bytes) (x ∷ xs) ≡ suc (length xs)
      by true h none later =
          let step : 1 + count_before key bytes xs ≡ suc (count_before key bytes xs) = omega arith in
          let rest : prefix_len (other_than bytes) xs ≡ length xs = later (λ d less. ap (λ n. bytes_eq (key (get_or (x ∷ xs) n d)) bytes) (sym step) ∙ none d (omega arith)) in
          let all : 1 + prefix_len (other_than bytes) xs ≡ suc (length xs) = omega arith in
          ap (λ b. cond (not b) (1 + prefix_len (other_than bytes) xs) 0) (other_of x bytes h) ∙ all
      by false h none later =
          let apart : bytes_eq (key x) bytes ≡ false = none x (omega arith) in
          let less = next_of bytes (key x) h (λ same. differ (key x) bytes apart (sym same)) in
          none_before bytes (x ∷ xs) (less, all_after key bytes x xs less up.0)

  pub place_found : (bytes : List ℕ) (xs : List X) (i : ℕ) → prefix_len (other_than bytes) xs ≡ i → i < length xs → place_of_key key bytes xs ≡ Some i
  place_found bytes xs i is low =
      ap (λ n. cond (nat_lt n (length xs)) (Some n) None) is ∙ ap (λ b. cond b (Some i) None) (lt-ltb i (length xs) low)

  pub place_missing : (bytes : List ℕ) (xs : List X) → prefix_len (other_than bytes) xs ≡ length xs → place_of_key key bytes xs ≡ None
  place_missing bytes xs is =
      ap (λ n. cond (nat_lt n (length xs)) (Some n) None) is ∙ ap (λ b. cond b (Some (length xs)) None) (not_below_itself (length xs))

  -- ---- whether keys rise

  at_places : (xs : List X) (d : X) (i j : ℕ) → i < length xs → j < length xs
      → byte_order (get_or (map key xs) i []) (get_or (map key xs) j []) ≡ byte_order (key (get_or xs i d)) (key (get_or xs j d))
  at_places xs d i j low high =
      ap (λ a. byte_order a (get_or (map key xs) j [])) (get_or-map key xs i d [] low)
      ∙ ap (λ b. byte_order (key (get_or xs i d)) b) (get_or-map key xs j d [] high)

  all_rise : (d : X) (xs : List X) → ((k : ℕ) → k + 1 < length xs → true ≡ precedes (key (get_or xs k d)) (key (get_or xs (k + 1) d))) → RisesBy key xs
  all_rise d xs all =
      sorted_from_all_adjacent nat_list_cmp_total (map key xs) []
      (λ k low. let high : k + 1 < length xs = subst (λ n. k + 1 < n) (length-map xs key) low in
      at_places xs d k (k + 1) (omega arith) high ∙ less_of _ (sym (all k high)))

  rises_true : (xs : List X) → ((k : ℕ) (d : X) → k + 1 < length xs → true ≡ precedes (key (get_or xs k d)) (key (get_or xs (k + 1) d))) → RisesBy key xs
  unfolding IsStrictlySortedBy
  rises_true [] all = tt
  rises_true (x ∷ xs) all = all_rise x (x ∷ xs) (λ k low. all k x low)

  rises_false : (d : X) (xs : List X) (k : ℕ) → k + 1 < length xs → false ≡ precedes (key (get_or xs k d)) (key (get_or xs (k + 1) d)) → RisesBy key xs → ⊥
  rises_false d xs k low is up =
      let high : k + 1 < length (map key xs) = subst (λ n. k + 1 < n) (sym (length-map xs key)) low in
      let less = sym (at_places xs d k (k + 1) (omega arith) low) ∙ Less-from_sorted byte_order (map key xs) k (k + 1) [] up (omega arith) high in
      false≢true (is ∙ ap is_lt less)

  some_one : (xs : List X) (k : ℕ) → k + 1 < length xs → X
  some_one [] k low = absurd (omega arith)
  some_one (x ∷ xs) k low = x

  -- what the test of std says
  pub rises_is : (xs : List X) (answer : Bool) → IsAllAdjacentAnswer (λ x y b. b ≡ precedes (key x) (key y)) xs answer → (IsTrue answer → RisesBy key xs) × (RisesBy key xs → IsTrue answer)
  rises_is xs true told = (λ _. rises_true xs told, λ _. refl)
  rises_is xs false told = (
    λ is. absurd (false≢true is),
    λ up. absurd (let d = some_one xs told.0 told.1 in rises_false d xs told.0 told.1 (told.2 d) up),
  )

  -- ---- what a search by halves finds

  pub find_found : (bytes : List ℕ) (xs : List X) (i : ℕ) (x : X) → NeverFallsBy key xs → i ≡ count_before key bytes xs → i < length xs → x ≡ get_or xs i x → bytes_eq (key x) bytes ≡ true
      → Some i ≡ place_of_key key bytes xs
  find_found bytes xs i x up at low is same =
      let here = ap (λ n. bytes_eq (key (get_or xs n x)) bytes) (sym at) ∙ (ap (λ y. bytes_eq (key y) bytes) (sym is) ∙ same) in
      sym (place_found bytes xs i (found_first bytes xs x up (subst (λ n. n < length xs) at low) here ∙ sym at) low)

  pub find_other : (bytes : List ℕ) (xs : List X) (i : ℕ) (x : X) → NeverFallsBy key xs → i ≡ count_before key bytes xs → i < length xs → x ≡ get_or xs i x → bytes_eq (key x) bytes ≡ false
      → None ≡ place_of_key key bytes xs
  find_other bytes xs i x up at low is apart =
      sym (place_missing bytes xs (found_none bytes xs up
      (λ d less. ap (λ n. bytes_eq (key (get_or xs n d)) bytes) (sym at) ∙ (ap (λ y. bytes_eq (key y) bytes) (sym (is ∙ get_or_default xs i x d low)) ∙ apart))))

  pub find_past : (bytes : List ℕ) (xs : List X) (i : ℕ) → NeverFallsBy key xs → i ≡ count_before key bytes xs → i ≡ length xs → None ≡ place_of_key key bytes xs
  find_past bytes xs i up at last = sym (place_missing bytes xs (found_none bytes xs up (λ d less. absurd (past (count_before key bytes xs) (length xs) (sym at ∙ last) less))))

  -- a list has a place with the key exactly where some element has it
  any_by : (bytes : List ℕ) (xs : List X) → nat_lt (prefix_len (other_than bytes) xs) (length xs) ≡ list_any (has_key key bytes) xs
  any_by bytes [] = refl
  any_by bytes (x ∷ xs) = by (bytes_eq (key x) bytes) (any_by bytes xs)
    where
      by : (b : Bool) → nat_lt (prefix_len (other_than bytes) xs) (length xs) ≡ list_any (has_key key bytes) xs
          → nat_lt (cond (not b) (1 + prefix_len (other_than bytes) xs) 0) (suc (length xs)) ≡ (b || list_any (has_key key bytes) xs)
      by true later = lt-ltb 0 (suc (length xs)) (omega arith)
      by false later = one_more (prefix_len (other_than bytes) xs) (length xs) ∙ later

  some_by : (b : Bool) (n : ℕ) → is_some (cond b (Some n) None) ≡ b
  some_by true n = refl
  some_by false n = refl

  pub place_says : (bytes : List ℕ) (xs : List X) → is_some (place_of_key key bytes xs) ≡ list_any (has_key key bytes) xs
  place_says bytes xs = some_by (nat_lt (prefix_len (other_than bytes) xs) (length xs)) (prefix_len (other_than bytes) xs) ∙ any_by bytes xs
