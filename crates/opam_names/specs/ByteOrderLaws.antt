-- Laws of lists in the byte order of a key.
use Rattle.std.specs.Prelude.{◌≡◌, ℕ, List, [], ◌∷◌, ◌++◌, map, Bool, false, bytes_eq, filter, Contains}
use Rattle.std.specs.List.{AllByRecursion, IsDistinct, list_any}
use Rattle.std.specs.List.Sorted.{IsPermutation, IsStrictlySortedBy}
use Rattle.std.specs.Ordering.{is_lt, ordering_reverse}
use Rattle.std.specs.declared.cmp.Ordering.TheVariants.{Less}
use Rattle.std.proofs.Common.{ap, ◌∙◌}
use Rattle.std.proofs.lemmas.Cmp.{nat_list_cmp_total}
use Rattle.opam_names.specs.ByteOrders.{NeverFallsBy, RisesBy, precedes, byte_order, each_once, first_of_each_by, has_key, in_order_by}

turned : (a b : List ℕ) → byte_order a b ≡ Less → precedes b a ≡ false
turned a b is = ap is_lt (nat_list_cmp_total.antisymm b a ∙ ap ordering_reverse is)

all_turned : {X : Type 0} (key : X → List ℕ) (x : X) (xs : List X) → AllByRecursion (λ y. byte_order (key x) y ≡ Less) (map key xs) → AllByRecursion (λ y. precedes (key y) (key x) ≡ false) xs
all_turned key x [] all = tt
all_turned key x (y ∷ xs) all = (turned (key x) (key y) all.0, all_turned key x xs all.1)

-- keys that rise never fall
pub NeverFallsBy-from_rises : {X : Type 0} (key : X → List ℕ) (xs : List X) → RisesBy key xs → NeverFallsBy key xs
unfolding IsStrictlySortedBy
NeverFallsBy-from_rises key [] rises = tt
NeverFallsBy-from_rises key (x ∷ xs) rises = (all_turned key x xs rises.0, NeverFallsBy-from_rises key xs rises.1)

-- of lists that rise: a part rises, and so do the elements that pass a test; an earlier key precedes a later one; and a list
-- that rises is given by its members
pub record RisingIsKept {X : Type 0} (key : X → List ℕ) : Type 0 where
  pub part : (front xs back : List X) → RisesBy key (front ++ (xs ++ back)) → RisesBy key xs
  pub chosen : (test : X → Bool) (xs : List X) → RisesBy key xs → RisesBy key (filter test xs)
  pub earlier : (front between back : List X) (one other : X) → RisesBy key (front ++ one ∷ (between ++ other ∷ back)) → byte_order (key one) (key other) ≡ Less
  pub members : (xs ys : List X) → RisesBy key xs → RisesBy key ys → ((x : X) → Contains xs x → Contains ys x) → ((x : X) → Contains ys x → Contains xs x) → xs ≡ ys

-- of lists that are put into order: they have the same elements, and those with one key stay as they stood to one another; keys
-- never fall, and rise where no two are the same; and no other list is so
pub record OrderIsStable {X : Type 0} (key : X → List ℕ) : Type 0 where
  pub elements : (xs : List X) → IsPermutation xs (in_order_by key xs)
  pub stable : (xs : List X) (bytes : List ℕ) → filter (has_key key bytes) (in_order_by key xs) ≡ filter (has_key key bytes) xs
  pub ordered : (xs : List X) → NeverFallsBy key (in_order_by key xs)
  pub rising : (xs : List X) → IsDistinct bytes_eq (map key xs) → RisesBy key (in_order_by key xs)
  pub only : (xs ys : List X) → NeverFallsBy key ys → ((bytes : List ℕ) → filter (has_key key bytes) ys ≡ filter (has_key key bytes) xs) → ys ≡ in_order_by key xs

-- of lists in order from which later elements with one key are dropped: keys rise, and are the same keys
pub record FirstsRise {X : Type 0} (key : X → List ℕ) : Type 0 where
  pub rising : (xs : List X) → NeverFallsBy key xs → RisesBy key (first_of_each_by key xs)
  pub keys : (xs : List X) (bytes : List ℕ) → list_any (has_key key bytes) (first_of_each_by key xs) ≡ list_any (has_key key bytes) xs

-- of texts of which each stands once in byte order: they rise, and are the same texts
pub record TextsRise : Type 0 where
  pub rising : (texts : List (List ℕ)) → RisesBy (λ text. text) (each_once texts)
  pub members : (texts : List (List ℕ)) (text : List ℕ) → list_any (bytes_eq text) (each_once texts) ≡ list_any (bytes_eq text) texts
