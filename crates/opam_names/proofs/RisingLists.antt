-- Lists whose keys rise.
use Rattle.std.proofs.Common.{◌≡◌, ℕ, zero, suc, ◌+◌, ◌<◌, ◌≤◌, List, [], ◌∷◌, ◌++◌, map, filter, fold, length, get_or, Bool, true, false, cond, ◌||◌, ◌⊎◌, inl, inr, ⊎_elim, refl, sym, ◌∙◌, ap, subst, arith}
use Rattle.std.specs.Prelude.{bytes_eq, Contains}
use Rattle.std.specs.BTreeSet.{insert_key}
use Rattle.std.specs.List.{AllByRecursion, list_any}
use Rattle.std.specs.List.Sorted.{IsStrictlySortedBy}
use Rattle.std.specs.Ordering.{match_ordering, ordering_reverse}
use Rattle.std.specs.declared.cmp.Ordering.{Ordering}
use Rattle.std.specs.declared.cmp.Ordering.TheVariants.{Less, Equal, Greater}
use Rattle.std.proofs.lemmas.Bool.{false≢true}
use Rattle.std.proofs.lemmas.Cmp.{nat_list_cmp_total}
use Rattle.std.proofs.lemmas.Map.Lookups.{exact_bytes}
use Rattle.opam_names.specs.ByteOrders.{RisesBy, byte_order, each_once}

module _ {X : Type 0} (key : X → List ℕ) where
  all_front : (P : List ℕ → Type 0) (xs back : List X) → AllByRecursion P (map key (xs ++ back)) → AllByRecursion P (map key xs)
  all_front P [] back all = tt
  all_front P (x ∷ xs) back all = (all.0, all_front P xs back all.1)

  front_rises : (xs back : List X) → RisesBy key (xs ++ back) → RisesBy key xs
  unfolding IsStrictlySortedBy
  front_rises [] back rises = tt
  front_rises (x ∷ xs) back rises = (all_front (λ y. byte_order (key x) y ≡ Less) xs back rises.0, front_rises xs back rises.1)

  back_rises : (front xs : List X) → RisesBy key (front ++ xs) → RisesBy key xs
  unfolding IsStrictlySortedBy
  back_rises [] xs rises = rises
  back_rises (x ∷ front) xs rises = back_rises front xs rises.1

  pub part_rises : (front xs back : List X) → RisesBy key (front ++ (xs ++ back)) → RisesBy key xs
  part_rises front xs back rises = front_rises xs back (back_rises front (xs ++ back) rises)

  all_chosen : (P : List ℕ → Type 0) (test : X → Bool) (xs : List X) → AllByRecursion P (map key xs) → AllByRecursion P (map key (filter test xs))
  all_chosen P test [] all = tt
  all_chosen P test (x ∷ xs) all = by (test x) (all_chosen P test xs all.1)
    where
      by : (b : Bool) → AllByRecursion P (map key (filter test xs)) → AllByRecursion P (map key (cond b (x ∷ filter test xs) (filter test xs)))
      by true later = (all.0, later)
      by false later = later

  pub chosen_rise : (test : X → Bool) (xs : List X) → RisesBy key xs → RisesBy key (filter test xs)
  unfolding IsStrictlySortedBy
  chosen_rise test [] rises = tt
  chosen_rise test (x ∷ xs) rises = by (test x) (chosen_rise test xs rises.1)
    where
      by : (b : Bool) → RisesBy key (filter test xs) → RisesBy key (cond b (x ∷ filter test xs) (filter test xs))
      by true later = (all_chosen (λ y. byte_order (key x) y ≡ Less) test xs rises.0, later)
      by false later = later

  all_at : (P : List ℕ → Type 0) (between back : List X) (other : X) → AllByRecursion P (map key (between ++ other ∷ back)) → P (key other)
  all_at P [] back other all = all.0
  all_at P (x ∷ between) back other all = all_at P between back other all.1

  pub earlier_precedes : (front between back : List X) (one other : X) → RisesBy key (front ++ one ∷ (between ++ other ∷ back)) → byte_order (key one) (key other) ≡ Less
  unfolding IsStrictlySortedBy
  earlier_precedes front between back one other rises =
      all_at (λ y. byte_order (key one) y ≡ Less) between back other (back_rises front (one ∷ (between ++ other ∷ back)) rises).0

  -- ---- a list that rises is given by its members

  abbrev Among : X → List X → Type 0
  Among x [] = ⊥
  Among x (y ∷ ys) = (y ≡ x) ⊎ Among x ys

  among_at : (x : X) (xs : List X) (k : ℕ) → k < length xs → get_or xs k x ≡ x → Among x xs
  among_at x [] k low is = absurd (omega arith)
  among_at x (y ∷ ys) zero low is = inl is
  among_at x (y ∷ ys) (suc k) low is = inr (among_at x ys k (omega arith) is)

  pub among : (x : X) (xs : List X) → Contains xs x → Among x xs
  among x xs has = among_at x xs has.0 has.1 has.2

  contained : (x : X) (xs : List X) → Among x xs → Contains xs x
  contained x [] is = absurd is
  contained x (y ∷ ys) (inl is) = (0, omega arith, is)
  contained x (y ∷ ys) (inr is) = let later = contained x ys is in (suc later.0, omega (arith, later.1), later.2)

  all_among : (P : List ℕ → Type 0) (x : X) (xs : List X) → AllByRecursion P (map key xs) → Among x xs → P (key x)
  all_among P x [] all is = absurd is
  all_among P x (y ∷ ys) all (inl is) = subst (λ (z : X). P (key z)) is all.0
  all_among P x (y ∷ ys) all (inr is) = all_among P x ys all.1 is

  never : (a b : List ℕ) → byte_order a b ≡ Less → byte_order b a ≡ Less → ⊥
  never a b less more =
      let bad : Less ≡ Greater = sym more ∙ (nat_list_cmp_total.antisymm b a ∙ ap ordering_reverse less) in cc

  only_by : (x y : X) (xs ys : List X) → AllByRecursion (λ z. byte_order (key x) z ≡ Less) (map key xs) → AllByRecursion (λ z. byte_order (key y) z ≡ Less) (map key ys)
      → Among x (y ∷ ys) → Among y (x ∷ xs) → y ≡ x
  only_by x y xs ys up over (inl is) other = is
  only_by x y xs ys up over (inr is) (inl other) = sym other
  only_by x y xs ys up over (inr is) (inr other) =
      absurd (never (key x) (key y) (all_among (λ z. byte_order (key x) z ≡ Less) y xs up other) (all_among (λ z. byte_order (key y) z ≡ Less) x ys over is))

  later_in : (x y z : X) (xs ys : List X) → AllByRecursion (λ w. byte_order (key x) w ≡ Less) (map key xs) → y ≡ x → Among z xs → Among z (y ∷ ys) → Among z ys
  later_in x y z xs ys up same is (inr more) = more
  later_in x y z xs ys up same is (inl more) =
      let less = all_among (λ w. byte_order (key x) w ≡ Less) z xs up is in
      let one : z ≡ x = sym more ∙ same in
      absurd (let own : byte_order (key x) (key x) ≡ Less = subst (λ (w : X). byte_order (key x) (key w) ≡ Less) one less in never (key x) (key x) own own)

  pub one_rising : (xs ys : List X) → RisesBy key xs → RisesBy key ys → ((x : X) → Among x xs → Among x ys) → ((x : X) → Among x ys → Among x xs) → xs ≡ ys
  unfolding IsStrictlySortedBy
  one_rising [] [] up over there back = refl
  one_rising [] (y ∷ ys) up over there back = absurd (back y (inl refl))
  one_rising (x ∷ xs) [] up over there back = absurd (there x (inl refl))
  one_rising (x ∷ xs) (y ∷ ys) up over there back =
      let same = only_by x y xs ys up.0 over.0 (there x (inl refl)) (back y (inl refl)) in
      let rest : xs ≡ ys = one_rising xs ys up.1 over.1 (λ z is. later_in x y z xs ys up.0 same is (there z (inr is))) (λ z is. later_in y x z ys xs over.0 (sym same) is (back z (inr is))) in cc

  pub members_give : (xs ys : List X) → RisesBy key xs → RisesBy key ys → ((x : X) → Contains xs x → Contains ys x) → ((x : X) → Contains ys x → Contains xs x) → xs ≡ ys
  members_give xs ys up over there back =
      one_rising xs ys up over (λ x is. among x ys (there x (contained x xs is))) (λ x is. among x xs (back x (contained x ys is)))

-- ---- texts of which each stands once

abbrev put : List (List ℕ) → List ℕ → List (List ℕ)
put texts text = insert_key byte_order texts text

abbrev own : List ℕ → List ℕ
own text = text

all_put : (P : List ℕ → Type 0) (k : List ℕ) (texts : List (List ℕ)) → P k → AllByRecursion P (map own texts) → AllByRecursion P (map own (put texts k))
all_put P k [] here all = (here, tt)
all_put P k (x ∷ texts) here all = by (byte_order k x) (all_put P k texts here all.1)
  where
    by : (r : Ordering) → AllByRecursion P (map own (put texts k)) → AllByRecursion P (map own (match_ordering r (k ∷ x ∷ texts) (x ∷ texts) (x ∷ put texts k)))
    by Less later = let rest : AllByRecursion P (map own (x ∷ texts)) = all in (here, rest)
    by Equal later = all
    by Greater later = (all.0, later)

all_further : (k x : List ℕ) (texts : List (List ℕ)) → byte_order k x ≡ Less → AllByRecursion (λ y. byte_order x y ≡ Less) (map own texts) → AllByRecursion (λ y. byte_order k y ≡ Less) (map own texts)
all_further k x [] less all = tt
all_further k x (y ∷ texts) less all = (nat_list_cmp_total.trans k x y less all.0, all_further k x texts less all.1)

put_rises : (k : List ℕ) (texts : List (List ℕ)) → RisesBy own texts → RisesBy own (put texts k)
unfolding IsStrictlySortedBy
put_rises k [] up = (tt, tt)
put_rises k (x ∷ texts) up = by (byte_order k x) refl (put_rises k texts up.1)
  where
    by : (r : Ordering) → byte_order k x ≡ r → RisesBy own (put texts k) → RisesBy own (match_ordering r (k ∷ x ∷ texts) (x ∷ texts) (x ∷ put texts k))
    by Less is later = let all : AllByRecursion (λ y. byte_order k y ≡ Less) (map own (x ∷ texts)) = (is, all_further k x texts is up.0) in (all, up)
    by Equal is later = up
    by Greater is later = (all_put (λ y. byte_order x y ≡ Less) k texts (nat_list_cmp_total.antisymm x k ∙ ap ordering_reverse is) up.0, later)

fold_rises : (given texts : List (List ℕ)) → RisesBy own texts → RisesBy own (fold (insert_key byte_order) texts given)
fold_rises [] texts up = up
fold_rises (k ∷ given) texts up = fold_rises given (put texts k) (put_rises k texts up)

pub each_once_rises : (texts : List (List ℕ)) → RisesBy own (each_once texts)
unfolding IsStrictlySortedBy
each_once_rises texts = fold_rises texts [] tt

or_swap : (x y z : Bool) → (x || (y || z)) ≡ ((x || y) || z)
or_swap true y z = refl
or_swap false y z = refl

or_turn : (x y : Bool) → (x || y) ≡ (y || x)
or_turn true true = refl
or_turn true false = refl
or_turn false true = refl
or_turn false false = refl

or_twice : (x y : Bool) → (x || y) ≡ ((x || y) || x)
or_twice true y = refl
or_twice false true = refl
or_twice false false = refl

put_those : (text k : List ℕ) (texts : List (List ℕ)) → list_any (bytes_eq text) (put texts k) ≡ (list_any (bytes_eq text) texts || bytes_eq text k)
put_those text k [] = or_turn (bytes_eq text k) false
put_those text k (x ∷ texts) = by (byte_order k x) refl (put_those text k texts)
  where
    by : (r : Ordering) → byte_order k x ≡ r → list_any (bytes_eq text) (put texts k) ≡ (list_any (bytes_eq text) texts || bytes_eq text k)
        → list_any (bytes_eq text) (match_ordering r (k ∷ x ∷ texts) (x ∷ texts) (x ∷ put texts k)) ≡ ((bytes_eq text x || list_any (bytes_eq text) texts) || bytes_eq text k)
    by Less is more = or_turn (bytes_eq text k) (bytes_eq text x || list_any (bytes_eq text) texts)
    by Equal is more =
        or_twice (bytes_eq text x) (list_any (bytes_eq text) texts)
        ∙ ap (λ y. (bytes_eq text x || list_any (bytes_eq text) texts) || bytes_eq text y) (sym (exact_bytes k x is))
    by Greater is more = ap (λ b. bytes_eq text x || b) more ∙ or_swap (bytes_eq text x) (list_any (bytes_eq text) texts) (bytes_eq text k)

fold_those : (text : List ℕ) (given texts : List (List ℕ)) → list_any (bytes_eq text) (fold (insert_key byte_order) texts given) ≡ (list_any (bytes_eq text) texts || list_any (bytes_eq text) given)
fold_those text [] texts = or_turn false (list_any (bytes_eq text) texts)
fold_those text (k ∷ given) texts =
    fold_those text given (put texts k) ∙ ap (λ b. b || list_any (bytes_eq text) given) (put_those text k texts)
    ∙ sym (or_swap (list_any (bytes_eq text) texts) (bytes_eq text k) (list_any (bytes_eq text) given))

pub each_once_members : (texts : List (List ℕ)) (text : List ℕ) → list_any (bytes_eq text) (each_once texts) ≡ list_any (bytes_eq text) texts
each_once_members texts text = fold_those text texts []
