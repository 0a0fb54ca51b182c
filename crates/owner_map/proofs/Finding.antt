-- The first element of a list in byte order that passes a test.
use Rattle.std.proofs.Common.{◌≡◌, ℕ, zero, suc, ◌+◌, Bool, true, false, List, [], ◌∷◌, map, Option, Some, None, refl, sym, ◌∙◌, ap, subst, arith, cond, not, length, get_or, ◌<◌, ◌≤◌, Bor}
use Rattle.std.specs.Prelude.{MatchOption, slice_get}
use Rattle.std.specs.Option.{option_copied}
use Rattle.std.proofs.lemmas.Option.{slice_get_past}
use Rattle.std.specs.List.{AllByRecursion, find, prefix_len}
use Rattle.std.specs.List.Sorted.{IsStrictlySortedBy}
use Rattle.std.specs.declared.cmp.Ordering.TheVariants.{Less}
use Rattle.std.proofs.lemmas.Bool.{false≢true}
use Rattle.opam_names.specs.ByteOrders.{RisesBy, byte_order, precedes}
use Rattle.owner_map.proofs.Texts.{itself_not, turned}

pub some_is : {X : Type 0} (x y : X) → Some x ≡ Some y → x ≡ y
some_is x y is = cc

pub one_of : (b : Bool) → (b ≡ true → ⊥) → b ≡ false
one_of true apart = absurd (apart refl)
one_of false apart = refl

module _ {X : Type 0} where
  none_found_by : (p : X → Bool) (x : X) (xs : List X) (b : Bool) → p x ≡ b → cond b (Some x) (find p xs) ≡ None → (find p xs ≡ None → AllByRecursion (λ y. p y ≡ false) xs) → AllByRecursion (λ y. p y ≡ false) (x ∷ xs)
  none_found_by p x xs true is none later = absurd cc
  none_found_by p x xs false is none later = (is, later none)

  -- where none is found, none passes
  pub none_found : (p : X → Bool) (xs : List X) → find p xs ≡ None → AllByRecursion (λ y. p y ≡ false) xs
  none_found p [] none = tt
  none_found p (x ∷ xs) none = none_found_by p x xs (p x) refl none (none_found p xs)

  -- and the other way round
  pub none_passes : (p : X → Bool) (xs : List X) → AllByRecursion (λ y. p y ≡ false) xs → find p xs ≡ None
  none_passes p [] all = refl
  none_passes p (x ∷ xs) all = ap (λ b. cond b (Some x) (find p xs)) all.0 ∙ none_passes p xs all.1

  pub each : {P Q : X → Type 0} → ((y : X) → P y → Q y) → (xs : List X) → AllByRecursion P xs → AllByRecursion Q xs
  each h [] all = tt
  each h (x ∷ xs) all = (h x all.0, each h xs all.1)

  pub each_of_two : {P Q R : X → Type 0} → ((y : X) → P y → Q y → R y) → (xs : List X) → AllByRecursion P xs → AllByRecursion Q xs → AllByRecursion R xs
  each_of_two h [] all more = tt
  each_of_two h (x ∷ xs) all more = (h x all.0 more.0, each_of_two h xs all.1 more.1)

  pub always : {Q : X → Type 0} → ((y : X) → Q y) → (xs : List X) → AllByRecursion Q xs
  always h [] = tt
  always h (x ∷ xs) = (h x, always h xs)

  -- where each that passes the first passes the second, and none passes that
  pub none_in_none : (p q : X → Bool) (xs : List X) → ((y : X) → p y ≡ true → q y ≡ true) → find q xs ≡ None → find p xs ≡ None
  none_in_none p q xs part none =
      none_passes p xs (each (λ y stays. one_of (p y) (λ is. false≢true (sym stays ∙ part y is))) xs (none_found q xs none))

  found_passes_by : (q : X → Bool) (x y : X) (xs : List X) (b : Bool) → q y ≡ b → cond b (Some y) (find q xs) ≡ Some x → (find q xs ≡ Some x → q x ≡ true) → q x ≡ true
  found_passes_by q x y xs true is found later = let P : X → Type 0 = λ z. q z ≡ true in subst P (some_is y x found) is
  found_passes_by q x y xs false is found later = later found

  pub found_passes : (q : X → Bool) (xs : List X) (x : X) → find q xs ≡ Some x → q x ≡ true
  found_passes q [] x found = absurd cc
  found_passes q (y ∷ xs) x found = found_passes_by q x y xs (q y) refl found (found_passes q xs x)

  -- what is found is one of them
  found_all_by : (P : X → Type 0) (b : Bool) (x y : X) (xs : List X) (o : Option X) → cond b (Some y) o ≡ Some x → P y → (o ≡ Some x → P x) → P x
  found_all_by P true x y xs o found here later = subst P (some_is y x found) here
  found_all_by P false x y xs o found here later = later found

  pub found_all : (P : X → Type 0) (q : X → Bool) (xs : List X) (x : X) → AllByRecursion P xs → find q xs ≡ Some x → P x
  found_all P q [] x all found = absurd cc
  found_all P q (y ∷ xs) x all found = found_all_by P (q y) x y xs (find q xs) found all.0 (found_all P q xs x all.1)

  found_part_by : (p q : X → Bool) (b c : Bool) (x y : X) (xs : List X) → p y ≡ b → q y ≡ c → (b ≡ true → c ≡ true) → cond c (Some y) (find q xs) ≡ Some x → p x ≡ true
      → (find q xs ≡ Some x → find p xs ≡ Some x) → cond b (Some y) (find p xs) ≡ Some x
  found_part_by p q true true x y xs is other part found here later = found
  found_part_by p q true false x y xs is other part found here later = absurd (false≢true (part refl))
  found_part_by p q false true x y xs is other part found here later =
      let P : X → Type 0 = λ z. p z ≡ true in absurd (false≢true (sym is ∙ subst P (sym (some_is y x found)) here))
  found_part_by p q false false x y xs is other part found here later = later found

  -- the first that passes a wider test, and passes this one
  pub found_part : (p q : X → Bool) (xs : List X) (x : X) → ((y : X) → p y ≡ true → q y ≡ true) → find q xs ≡ Some x → p x ≡ true → find p xs ≡ Some x
  found_part p q [] x part found here = absurd cc
  found_part p q (y ∷ xs) x part found here = found_part_by p q (p y) (q y) x y xs refl refl (part y) found here (λ more. found_part p q xs x part more here)

  -- tests that agree on the list
  pub same_found : (p q : X → Bool) (xs : List X) → AllByRecursion (λ y. p y ≡ q y) xs → find p xs ≡ find q xs
  same_found p q [] all = refl
  same_found p q (x ∷ xs) all = ap (λ b. cond b (Some x) (find p xs)) all.0 ∙ ap (λ o. cond (q x) (Some x) o) (same_found p q xs all.1)

  -- after all that passes
  from_place_by : (p : X → Bool) (x : X) (xs : List X) (b : Bool) → slice_get xs (prefix_len p xs) ≡ find (λ y. not (p y)) xs
      → slice_get (x ∷ xs) (cond b (1 + prefix_len p xs) 0) ≡ cond (not b) (Some x) (find (λ y. not (p y)) xs)
  from_place_by p x xs true later = let one : 1 + prefix_len p xs ≡ suc (prefix_len p xs) = omega arith in ap (slice_get (x ∷ xs)) one ∙ later
  from_place_by p x xs false later = refl

  pub from_place : (p : X → Bool) (xs : List X) → slice_get xs (prefix_len p xs) ≡ find (λ y. not (p y)) xs
  from_place p [] = refl
  from_place p (x ∷ xs) = from_place_by p x xs (p x) (from_place p xs)

module _ {X : Type 0} (key : X → List ℕ) where
  pub all_of_map : (P : List ℕ → Type 0) (xs : List X) → AllByRecursion P (map key xs) → AllByRecursion (λ y. P (key y)) xs
  all_of_map P [] all = tt
  all_of_map P (x ∷ xs) all = (all.0, all_of_map P xs all.1)

  found_first_by : (p q : X → Bool) (b c : Bool) (x y : X) (xs : List X) → p y ≡ b → q y ≡ c → AllByRecursion (λ z. byte_order (key y) (key z) ≡ Less) xs
      → cond c (Some y) (find q xs) ≡ Some x → p x ≡ true → (p y ≡ true → q y ≡ false → byte_order (key y) (key x) ≡ Less → ⊥)
      → (find q xs ≡ Some x → find p xs ≡ Some x) → cond b (Some y) (find p xs) ≡ Some x
  found_first_by p q true true x y xs is other up found here apart later = found
  found_first_by p q true false x y xs is other up found here apart later =
      absurd (apart is other (found_all (λ z. byte_order (key y) (key z) ≡ Less) q xs x up found))
  found_first_by p q false true x y xs is other up found here apart later =
      let P : X → Type 0 = λ z. p z ≡ true in absurd (false≢true (sym is ∙ subst P (sym (some_is y x found)) here))
  found_first_by p q false false x y xs is other up found here apart later = later found

  -- the first that passes a test is the first that passes another, where nothing before it does
  pub found_first : (p q : X → Bool) (xs : List X) (x : X) → RisesBy key xs → find q xs ≡ Some x → p x ≡ true
      → AllByRecursion (λ y. p y ≡ true → q y ≡ false → byte_order (key y) (key x) ≡ Less → ⊥) xs → find p xs ≡ Some x
  unfolding IsStrictlySortedBy
  found_first p q [] x up found here all = absurd cc
  found_first p q (y ∷ xs) x up found here all =
      found_first_by p q (p y) (q y) x y xs refl refl (all_of_map (λ k. byte_order (key y) k ≡ Less) xs up.0) found here all.0
      (λ more. found_first p q xs x up.1 more here all.1)

  none_first_by : (p q : X → Bool) (c : Bool) (x y : X) (xs : List X) → q y ≡ c → (p y ≡ true → q y ≡ true) → AllByRecursion (λ z. byte_order (key y) (key z) ≡ Less) xs
      → cond c (Some y) (find q xs) ≡ Some x → ((z : X) → p z ≡ true → precedes (key z) (key x) ≡ false → ⊥)
      → (find q xs ≡ Some x → find p xs ≡ None) → find p (y ∷ xs) ≡ None
  none_first_by p q true x y xs other part up found apart later =
      let one = some_is y x found in
      let here : p y ≡ false = one_of (p y) (λ is. apart y is (itself_not (key y) (key x) (ap key one))) in
      let P : X → Type 0 = λ w. AllByRecursion (λ z. byte_order (key w) (key z) ≡ Less) xs in
      let rest : find p xs ≡ None = none_passes p xs (each (λ z less. one_of (p z) (λ is. apart z is (turned (key x) (key z) less))) xs (subst P one up)) in
      ap (λ b. cond b (Some y) (find p xs)) here ∙ rest
  none_first_by p q false x y xs other part up found apart later =
      let here : p y ≡ false = one_of (p y) (λ is. false≢true (sym other ∙ part is)) in
      ap (λ b. cond b (Some y) (find p xs)) here ∙ later found

  -- nothing passes where the first that passes a wider test is too late
  pub none_first : (p q : X → Bool) (xs : List X) (x : X) → RisesBy key xs → ((y : X) → p y ≡ true → q y ≡ true) → find q xs ≡ Some x
      → ((z : X) → p z ≡ true → precedes (key z) (key x) ≡ false → ⊥) → find p xs ≡ None
  unfolding IsStrictlySortedBy
  none_first p q [] x up part found apart = refl
  none_first p q (y ∷ xs) x up part found apart =
      none_first_by p q (q y) x y xs refl (part y) (all_of_map (λ k. byte_order (key y) k ≡ Less) xs up.0) found apart (λ more. none_first p q xs x up.1 part more apart)

-- ---- what std's `get` says

module _ {X : Type 0} where
  slice_get_at : (xs : List X) (i : ℕ) (d : X) → i < length xs → slice_get xs i ≡ Some (get_or xs i d)
  slice_get_at [] i d within = absurd (omega (arith, within))
  slice_get_at (x ∷ xs) zero d within = refl
  slice_get_at (x ∷ xs) (suc i) d within = slice_get_at xs i d (omega (arith, within))

  pub copied_is : (xs : List X) (i : ℕ) (r : Option (Bor X)) → MatchOption r (length xs ≤ i) (λ x. (i < length xs) × ((d : X) → x.now ≡ get_or xs i d)) → option_copied r ≡ slice_get xs i
  copied_is xs i None past = sym (slice_get_past xs i past)
  copied_is xs i (Some x) at = ap (λ y. Some y) (at.1 x.now) ∙ sym (slice_get_at xs i x.now at.0)
