-- What std's stable sort and its dropping of equals leave, for lists in the byte order of a key.
use Rattle.std.proofs.Common.{◌≡◌, ℕ, zero, suc, ◌<◌, ◌≤◌, List, [], ◌∷◌, filter, length, get_or, Bool, true, false, cond, not, ◌&&◌, refl, sym, ◌∙◌, ap, arith}
use Rattle.std.specs.Prelude.{bytes_eq}
use Rattle.std.specs.Borrow.{Bor}
use Rattle.std.specs.Cmp.{IsStrictWeakOrder}
use Rattle.std.specs.Fn.{Called, ComparesAs, Mut}
use Rattle.std.specs.List.{AllByRecursion}
use Rattle.std.specs.List.Sorted.{IsSortedBy, IsStableBy, ties}
use Rattle.std.specs.Ordering.{is_eq, is_lt, ordering_reverse}
use Rattle.std.specs.declared.cmp.Ordering.{Ordering}
use Rattle.std.specs.declared.cmp.Ordering.TheVariants.{Less, Equal, Greater}
use Rattle.std.proofs.lemmas.Bool.{false≢true}
use Rattle.std.proofs.lemmas.Cmp.{nat_list_cmp_total}
use Rattle.std.proofs.lemmas.Fn.{always_returns_same}
use Rattle.std.proofs.lemmas.List.Sorted.{ranks_by, sorted_far}
use Rattle.std.proofs.lemmas.Map.Text.{is_eq-slice_cmp}
use Rattle.opam_names.specs.ByteOrders.{NeverFallsBy, byte_order, has_key, in_order_by, precedes}
use Rattle.opam_names.proofs.ByteOrders.{equal_bytes, order_only}

-- two texts of which neither precedes the other are the same
ties_by : (r : Ordering) → (not (is_lt r) && not (is_lt (ordering_reverse r))) ≡ is_eq (ordering_reverse r)
ties_by Less = refl
ties_by Equal = refl
ties_by Greater = refl

tied : (a b : List ℕ) → (not (precedes a b) && not (precedes b a)) ≡ bytes_eq b a
tied a b =
    let back = nat_list_cmp_total.antisymm b a in
    ap (λ r. not (precedes a b) && not (is_lt r)) back ∙ (ties_by (byte_order a b) ∙ (sym (ap is_eq back) ∙ is_eq-slice_cmp b a))

same_filter : {X : Type 0} (p q : X → Bool) (xs : List X) → ((x : X) → p x ≡ q x) → filter p xs ≡ filter q xs
same_filter p q [] same = refl
same_filter p q (x ∷ xs) same = ap (λ b. cond b (x ∷ filter p xs) (filter p xs)) (same x) ∙ ap (λ l. cond (q x) (x ∷ l) l) (same_filter p q xs same)

head_by : {X : Type 0} (p : X → Bool) (b : Bool) (y x : X) (xs rest : List X) → p y ≡ b → cond b (y ∷ filter p xs) (filter p xs) ≡ x ∷ rest → (filter p xs ≡ x ∷ rest → p x ≡ true) → p x ≡ true
head_by p true y x xs rest passes is later = let one : y ≡ x = cc in sym (ap p one) ∙ passes
head_by p false y x xs rest passes is later = later is

-- what a filter keeps first passes its test
head_passes : {X : Type 0} (p : X → Bool) (xs : List X) (x : X) (rest : List X) → filter p xs ≡ x ∷ rest → p x ≡ true
head_passes p [] x rest is = absurd cc
head_passes p (y ∷ xs) x rest is = head_by p (p y) y x xs rest refl is (head_passes p xs x rest)

module _ {X : Type 0} (key : X → List ℕ) where
  all_from : (P : X → Type 0) (xs : List X) → ((k : ℕ) (d : X) → k < length xs → P (get_or xs k d)) → AllByRecursion P xs
  all_from P [] all = tt
  all_from P (x ∷ xs) all = (all 0 x (omega arith), all_from P xs (λ k d low. all (suc k) d (omega arith)))

  falls_from : (xs : List X) → ((i j : ℕ) (d : X) → i ≤ j → j < length xs → precedes (key (get_or xs j d)) (key (get_or xs i d)) ≡ false) → NeverFallsBy key xs
  falls_from [] all = tt
  falls_from (x ∷ xs) all = (
    all_from (λ y. precedes (key y) (key x) ≡ false) xs (λ k d low. all 0 (suc k) d (omega arith) (omega arith)),
    falls_from xs (λ i j d le low. all (suc i) (suc j) d (omega arith) (omega arith)),
  )

  -- elements with one key are those that tie with one of them
  of_one : (xs ys : List X) → IsStableBy (λ x y. precedes (key x) (key y)) xs ys → (bytes : List ℕ) (x : X) → has_key key bytes x ≡ true
      → filter (has_key key bytes) ys ≡ filter (has_key key bytes) xs
  of_one xs ys stable bytes x is =
      let test = λ (y : X). tied (key x) (key y) ∙ ap (bytes_eq (key y)) (equal_bytes (key x) bytes is) in
      sym (same_filter (ties (λ x y. precedes (key x) (key y)) x) (has_key key bytes) ys test) ∙ (stable x ∙ same_filter (ties (λ x y. precedes (key x) (key y)) x) (has_key key bytes) xs test)

  stable_by : (bytes : List ℕ) (xs ys kept others : List X) → filter (has_key key bytes) ys ≡ kept → filter (has_key key bytes) xs ≡ others
      → IsStableBy (λ x y. precedes (key x) (key y)) xs ys → kept ≡ others
  stable_by bytes xs ys [] [] is other stable = refl
  stable_by bytes xs ys (x ∷ kept) others is other stable =
      sym is ∙ (of_one xs ys stable bytes x (head_passes (has_key key bytes) ys x kept is) ∙ other)
  stable_by bytes xs ys [] (x ∷ others) is other stable =
      sym is ∙ (of_one xs ys stable bytes x (head_passes (has_key key bytes) xs x others other) ∙ other)

  -- what a stable sort leaves
  pub sorted_is : {F : Type 0} {g : Mut F (Bor X × (Bor X × Unit {0})) Ordering} {f : F} (xs ys : List X)
      → ((lt : X → X → Bool) → IsStrictWeakOrder lt → ComparesAs g lt f → IsSortedBy lt ys)
      → ((lt : X → X → Bool) → IsStrictWeakOrder lt → ComparesAs g lt f → IsStableBy lt xs ys)
      → ((a : Bor X × (Bor X × Unit {0})) (r : Ordering) (f' : F) → Called g f a r f' → (r ≡ byte_order (key a.0.now) (key a.1.0.now)) × (f' ≡ f)) → ys ≡ in_order_by key xs
  sorted_is {g = g} {f = f} xs ys up stable calls =
      let lt = λ (x : X). λ (y : X). precedes (key x) (key y) in
      let weak = ranks_by nat_list_cmp_total key in
      let answers = always_returns_same g (λ a r. is_lt r ≡ precedes (key a.0.now) (key a.1.0.now)) f (λ a r f' k. (ap is_lt (calls a r f' k).0, (calls a r f' k).1)) in
      order_only key xs ys (falls_from ys (λ i j d le low. sorted_far lt weak ys (up lt weak answers) i j d le low))
      (λ bytes. stable_by bytes xs ys (filter (has_key key bytes) ys) (filter (has_key key bytes) xs) refl refl (stable lt weak answers))
