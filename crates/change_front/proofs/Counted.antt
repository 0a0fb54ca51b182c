-- Names that rise and all stand in a list are no more than it has.
use Rattle.std.proofs.Common.{◌≡◌, ◌∙◌, ℕ, ◌+◌, ◌≤◌, List, [], ◌∷◌, ◌++◌, length, map, Bool, true, false, refl, sym, ap, subst, arith, ⊎_elim}
use Rattle.std.specs.Prelude.{◌||◌, bytes_eq, if◌then◌else◌, Contains}
use Rattle.std.specs.List.{AllByRecursion, list_any}
use Rattle.std.specs.List.Sorted.{IsStrictlySortedBy}
use Rattle.std.specs.declared.cmp.Ordering.TheVariants.{Less}
use Rattle.std.proofs.lemmas.Bool.{false≢true}
use Rattle.std.proofs.lemmas.Cmp.{nat_list_cmp_total, tied_itself}
use Rattle.std.proofs.lemmas.Slice.Eq.{bytes_eq-Decides}
use Rattle.opam_names.specs.ByteOrders.{RisesBy, byte_order, in_order_by, precedes, put_by}
use Rattle.lock_check.proofs.Members.{first_in, in_cases, later_in}

same_bytes : (a b : List ℕ) → bytes_eq a b ≡ true → a ≡ b
same_bytes a b is = (bytes_eq-Decides a b).0 is

bytes_self : (a : List ℕ) → bytes_eq a a ≡ true
bytes_self a = (bytes_eq-Decides a a).1 refl

-- a name is not before itself
not_itself : (a : List ℕ) → byte_order a a ≡ Less → ⊥
not_itself a less = let same = tied_itself nat_list_cmp_total a in cc

-- the names without the first that is this one
abbrev taken_by : Bool → List ℕ → List (List ℕ) → List (List ℕ) → List (List ℕ)
taken_by true x xs rest = xs
taken_by false x xs rest = x ∷ rest

abbrev taken : List ℕ → List (List ℕ) → List (List ℕ)
taken name [] = []
taken name (x ∷ xs) = taken_by (bytes_eq name x) x xs (taken name xs)

taken_len : (name : List ℕ) (xs : List (List ℕ)) → list_any (bytes_eq name) xs ≡ true → length (taken name xs) + 1 ≡ length xs
taken_len name [] is = absurd (false≢true is)
taken_len name (x ∷ xs) is = by (bytes_eq name x) is (taken_len name xs)
  where
    by : (b : Bool) → (b || list_any (bytes_eq name) xs) ≡ true → (list_any (bytes_eq name) xs ≡ true → length (taken name xs) + 1 ≡ length xs) → length (taken_by b x xs (taken name xs)) + 1 ≡ length (x ∷ xs)
    by true is later = omega arith
    by false is later = let rest = later is in omega (arith, rest)

taken_other : (name other : List ℕ) (xs : List (List ℕ)) → bytes_eq other name ≡ false → list_any (bytes_eq other) xs ≡ true → list_any (bytes_eq other) (taken name xs) ≡ true
taken_other name other [] apart is = is
taken_other name other (x ∷ xs) apart is = by (bytes_eq name x) refl is (taken_other name other xs apart)
  where
    none : bytes_eq name x ≡ true → bytes_eq other x ≡ false
    none same = ap (bytes_eq other) (sym (same_bytes name x same)) ∙ apart

    more : (c : Bool) → (c || list_any (bytes_eq other) xs) ≡ true → (list_any (bytes_eq other) xs ≡ true → list_any (bytes_eq other) (taken name xs) ≡ true) → (c || list_any (bytes_eq other) (taken name xs)) ≡ true
    more true is later = refl
    more false is later = later is

    by : (b : Bool) → bytes_eq name x ≡ b → (bytes_eq other x || list_any (bytes_eq other) xs) ≡ true → (list_any (bytes_eq other) xs ≡ true → list_any (bytes_eq other) (taken name xs) ≡ true) → list_any (bytes_eq other) (taken_by b x xs (taken name xs)) ≡ true
    by true same is later = sym (ap (λ c. c || list_any (bytes_eq other) xs) (none same)) ∙ is
    by false same is later = more (bytes_eq other x) is later

module _ {X : Type 0} (key : X → List ℕ) where
  -- the names of all stand in the list
  abbrev pub AreIn : List X → List (List ℕ) → Type 0
  AreIn xs names = (x : X) → Contains xs x → list_any (bytes_eq (key x)) names ≡ true

  apart_from : (name other : List ℕ) → byte_order name other ≡ Less → bytes_eq other name ≡ false
  apart_from name other less = by (bytes_eq other name) refl
    where
      by : (b : Bool) → bytes_eq other name ≡ b → b ≡ false
      by false is = refl
      by true is = absurd (not_itself name (ap (byte_order name) (sym (same_bytes other name is)) ∙ less))

  all_apart : (name : List ℕ) (xs : List X) → AllByRecursion (λ q. byte_order name q ≡ Less) (map key xs) → (x : X) → Contains xs x → byte_order name (key x) ≡ Less
  all_apart name [] all x at = grind arith
  all_apart name (y ∷ xs) all x at = ⊎_elim (λ same. let P : X → Type 0 = λ z. byte_order name (key z) ≡ Less in subst P same all.0) (λ there. all_apart name xs all.1 x there) (in_cases y xs x at)

  pub fits : (xs : List X) (names : List (List ℕ)) → RisesBy key xs → AreIn xs names → length xs ≤ length names
  unfolding IsStrictlySortedBy
  fits [] names rises are = omega arith
  fits (x ∷ xs) names rises are =
      let here = are x (first_in x xs) in
      let rest = fits xs (taken (key x) names) rises.1 (λ y at. taken_other (key x) (key y) names (apart_from (key x) (key y) (all_apart (key x) xs rises.0 y at)) (are y (later_in x xs y at))) in
      let len = taken_len (key x) names here in
      omega (arith, rest, len)

  put_len : (x : X) (ys : List X) → length (put_by key x ys) ≡ length ys + 1
  put_len x [] = omega arith
  put_len x (y ∷ ys) = by (precedes (key y) (key x)) (put_len x ys)
    where
      by : (b : Bool) → length (put_by key x ys) ≡ length ys + 1 → length (if b then y ∷ put_by key x ys else x ∷ y ∷ ys) ≡ length (y ∷ ys) + 1
      by true more = omega (arith, more)
      by false more = omega arith

  -- what is put into order has as many
  pub order_len : (xs : List X) → length (in_order_by key xs) ≡ length xs
  order_len [] = refl
  order_len (x ∷ xs) = let put = put_len x (in_order_by key xs) in let rest = order_len xs in omega (arith, put, rest)

  -- a name of one of them stands among all their names
  pub named_in : (xs : List X) (x : X) → Contains xs x → list_any (bytes_eq (key x)) (map key xs) ≡ true
  named_in [] x at = grind arith
  named_in (y ∷ xs) x at =
      ⊎_elim
      (λ same. ap (λ z. bytes_eq (key x) (key z) || list_any (bytes_eq (key x)) (map key xs)) same ∙ ap (λ b. b || list_any (bytes_eq (key x)) (map key xs)) (bytes_self (key x)))
      (λ there. or_true (bytes_eq (key x) (key y)) (list_any (bytes_eq (key x)) (map key xs)) (named_in xs x there)) (in_cases y xs x at)
    where
      or_true : (a b : Bool) → b ≡ true → (a || b) ≡ true
      or_true true b is = refl
      or_true false b is = is
