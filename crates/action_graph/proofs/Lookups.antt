-- Where a key stands first in a list.
use Rattle.std.proofs.Common.{◌≡◌, ℕ, zero, suc, ◌+◌, ◌<◌, Bool, true, false, cond, not, ◌||◌, List, [], ◌∷◌, ◌++◌, length, get_or, map, filter, take, sym, ap, refl, ◌∙◌, arith, subst, lt-ltb, le-ltb}
use Rattle.std.specs.Prelude.{slice_get, bytes_eq, find, nat_lt, IfSome, ◌^◌}
use Rattle.std.specs.List.{AllByRecursion, IsDistinct, list_any, position, prefix_len}
use Rattle.std.specs.List.Sorted.{IsStrictlySortedBy}
use Rattle.std.specs.Ordering.{is_eq}
use Rattle.std.specs.Option.{option_map}
use Rattle.std.specs.declared.cmp.Ordering.TheVariants.{Less}
use Rattle.std.specs.declared.option.Option.{Option}
use Rattle.std.specs.declared.option.Option.TheVariants.{None, Some}
use Rattle.std.proofs.lemmas.Bool.{true≢false}
use Rattle.std.proofs.lemmas.List.{length-take-le, take_more}
use Rattle.std.proofs.lemmas.Option.{slice_get-get_or, slice_get_within}
use Rattle.std.proofs.lemmas.Bool.Decides.{nat_tests}
use Rattle.std.proofs.lemmas.Map.Text.{is_eq-slice_cmp}
use Rattle.opam_names.specs.ByteOrderLaws.{NeverFallsBy-from_rises}
use Rattle.opam_names.specs.ByteOrders.{NeverFallsBy, RisesBy, byte_order, has_key, place_of_key}
use Rattle.opam_names.proofs.ByteOrders.{equal_bytes, order_stable, order_up, same_bytes}
use Rattle.opam_package.specs.declared.package.Member.{Member}
use Rattle.action_graph.specs.declared.lookup.Spot.{Spot}
use Rattle.action_graph.specs.Leaving.{member_called, name_of}
use Rattle.action_graph.specs.Nodes.{AreInOrder, first_place, spot_name, spots_from, spots_in}

one_more : (n m : ℕ) → nat_lt (1 + n) (suc m) ≡ nat_lt n m
one_more n m = grind (arith, nat_tests)

not_below_itself : (n : ℕ) → nat_lt n n ≡ false
not_below_itself n = le-ltb n n (omega arith)

-- the search of std is that recursion
pub place_is : {X : Type 0} (test : X → Bool) (xs : List X) → position test xs ≡ first_place test xs
place_is test [] = ap (λ b. cond b (Some 0) None) (not_below_itself 0)
place_is test (x ∷ xs) = by (test x) (prefix_len (λ y. not (test y)) xs) (length xs) (first_place test xs) (place_is test xs)
  where
    mapped : (b : Bool) (n : ℕ) → cond b (Some (1 + n)) None ≡ option_map suc (cond b (Some n) None)
    mapped true n = ap Some (let e : 1 + n ≡ suc n = omega arith in e)
    mapped false n = refl

    by : (b : Bool) (n m : ℕ) (rest : Option ℕ) → cond (nat_lt n m) (Some n) None ≡ rest
        → cond (nat_lt (cond (not b) (1 + n) 0) (suc m)) (Some (cond (not b) (1 + n) 0)) None ≡ cond b (Some 0) (option_map suc rest)
    by true n m rest same = ap (λ b. cond b (Some 0) None) (lt-ltb 0 (suc m) (omega arith))
    by false n m rest same = ap (λ b. cond b (Some (1 + n)) None) (one_more n m) ∙ mapped (nat_lt n m) n ∙ ap (option_map suc) same

-- what stands at a place, where there is one
abbrev pub get_at : {X : Type 0} → List X → Option ℕ → Option X
get_at xs None = None
get_at xs (Some place) = slice_get xs place

get_later : {X : Type 0} (x : X) (xs : List X) (place : Option ℕ) → get_at (x ∷ xs) (option_map suc place) ≡ get_at xs place
get_later x xs None = refl
get_later x xs (Some place) = refl

-- the first one that passes stands at the first place
pub found_at : {X : Type 0} (test : X → Bool) (xs : List X) → find test xs ≡ get_at xs (first_place test xs)
found_at test [] = refl
found_at test (x ∷ xs) = by (test x) (first_place test xs) (found_at test xs)
  where
    by : (b : Bool) (place : Option ℕ) → find test xs ≡ get_at xs place → cond b (Some x) (find test xs) ≡ get_at (x ∷ xs) (cond b (Some 0) (option_map suc place))
    by true place same = refl
    by false place same = same ∙ sym (get_later x xs place)

suc_is : (place : Option ℕ) (i : ℕ) → option_map suc place ≡ Some i → (j : ℕ) × (place ≡ Some j) × (i ≡ suc j)
suc_is None i is = absurd cc
suc_is (Some j) i is = (j, refl, cc)

-- it passes
pub first_passes : {X : Type 0} (test : X → Bool) (xs : List X) (i : ℕ) → first_place test xs ≡ Some i → (x : X) × (slice_get xs i ≡ Some x) × (test x ≡ true)
first_passes test [] i is = absurd cc
first_passes test (x ∷ xs) i is = by (test x) refl (first_place test xs) (λ j. first_passes test xs j) is
  where
    by : (b : Bool) → test x ≡ b → (place : Option ℕ) → ((j : ℕ) → place ≡ Some j → (y : _) × (slice_get xs j ≡ Some y) × (test y ≡ true))
        → cond b (Some 0) (option_map suc place) ≡ Some i → (y : _) × (slice_get (x ∷ xs) i ≡ Some y) × (test y ≡ true)
    by true on place later same = (x, (let zero_is : 0 ≡ i = cc in ap (slice_get (x ∷ xs)) (sym zero_is)), on)
    by false off place later same =
        let at = suc_is place i same in
        let there = later at.0 at.1 in
        (there.0, ap (slice_get (x ∷ xs)) at.2 ∙ there.1, there.2)

-- where none passes there is none
pub first_none : {X : Type 0} (test : X → Bool) (xs : List X) → first_place test xs ≡ None → list_any test xs ≡ false
first_none test [] is = refl
first_none test (x ∷ xs) is = by (test x) (first_place test xs) (first_none test xs) is
  where
    by : (b : Bool) (place : Option ℕ) → (place ≡ None → list_any test xs ≡ false) → cond b (Some 0) (option_map suc place) ≡ None → (b || list_any test xs) ≡ false
    by true place later same = absurd cc
    by false None later same = later refl
    by false (Some j) later same = absurd cc

pub any_has : {X : Type 0} (test : X → Bool) (xs : List X) → list_any test xs ≡ true → (i : ℕ) × (first_place test xs ≡ Some i)
any_has test xs on = by (first_place test xs) refl
  where
    by : (place : Option ℕ) → first_place test xs ≡ place → (i : ℕ) × (place ≡ Some i)
    by None is = absurd (true≢false (sym on ∙ first_none test xs is))
    by (Some i) is = (i, refl)

pub has_at : {X : Type 0} (test : X → Bool) (xs : List X) (i : ℕ) (x : X) → slice_get xs i ≡ Some x → test x ≡ true → list_any test xs ≡ true
has_at test [] i x is on = absurd cc
has_at test (y ∷ ys) zero x is on = let same : y ≡ x = cc in ap (λ b. b || list_any test ys) (ap test same ∙ on)
has_at test (y ∷ ys) (suc i) x is on = by (test y) (has_at test ys i x is on)
  where
    by : (b : Bool) → list_any test ys ≡ true → (b || list_any test ys) ≡ true
    by true later = refl
    by false later = later

module _ {X : Type 0} (key : X → List ℕ) where
  apart_at : (name : List ℕ) (xs : List X) (i : ℕ) (x : X) → AllByRecursion (λ k. bytes_eq name k ≡ false) (map key xs) → slice_get xs i ≡ Some x → bytes_eq name (key x) ≡ false
  apart_at name [] i x all is = absurd cc
  apart_at name (y ∷ ys) zero x all is = let same : y ≡ x = cc in ap (λ z. bytes_eq name (key z)) (sym same) ∙ all.0
  apart_at name (y ∷ ys) (suc i) x all is = apart_at name ys i x all.1 is

  -- of elements whose keys differ each stands first with its own
  pub differ_first : (xs : List X) (i : ℕ) (x : X) → IsDistinct bytes_eq (map key xs) → slice_get xs i ≡ Some x → first_place (has_key key (key x)) xs ≡ Some i
  unfolding IsDistinct
  differ_first [] i x differ is = absurd cc
  differ_first (y ∷ ys) zero x differ is =
      let same : y ≡ x = cc in
      ap (λ b. cond b (Some 0) (option_map suc (first_place (has_key key (key x)) ys))) (ap (λ z. bytes_eq (key z) (key x)) same ∙ same_bytes (key x))
  differ_first (y ∷ ys) (suc i) x differ is =
      ap (λ b. cond b (Some 0) (option_map suc (first_place (has_key key (key x)) ys))) (apart_at (key y) ys i x differ.0 is)
      ∙ ap (option_map suc) (differ_first ys i x differ.1 is)

  all_apart : (name : List ℕ) (keys : List (List ℕ)) → AllByRecursion (λ k. byte_order name k ≡ Less) keys → AllByRecursion (λ k. bytes_eq name k ≡ false) keys
  all_apart name [] all = tt
  all_apart name (k ∷ keys) all = (sym (is_eq-slice_cmp name k) ∙ ap is_eq all.0, all_apart name keys all.1)

  -- keys that rise differ
  pub rises_differ : (xs : List X) → RisesBy key xs → IsDistinct bytes_eq (map key xs)
  unfolding IsDistinct IsStrictlySortedBy
  rises_differ [] rises = tt
  rises_differ (x ∷ xs) rises = (all_apart (key x) (map key xs) rises.0, rises_differ xs rises.1)

  -- the one that was found has the key
  pub key_found : (name : List ℕ) (xs : List X) (i : ℕ) (x : X) → first_place (has_key key name) xs ≡ Some i → slice_get xs i ≡ Some x → key x ≡ name
  key_found name xs i x is there =
      let found = first_passes (has_key key name) xs i is in
      let same : found.0 ≡ x = (let e : Some found.0 ≡ Some x = sym found.1 ∙ there in cc) in
      ap key (sym same) ∙ equal_bytes (key found.0) name found.2

-- ---- members

pub place_first : (name : List ℕ) (members : List Member) → place_of_key name_of name members ≡ first_place (has_key name_of name) members
place_first name members = place_is (has_key name_of name) members

pub called_is : (members : List Member) (name : List ℕ) (place : Option ℕ) → place ≡ place_of_key name_of name members → get_at members place ≡ member_called members name
called_is members name place is = ap (get_at members) (is ∙ place_first name members) ∙ sym (found_at (has_key name_of name) members)

pub called_none : (members : List Member) (name : List ℕ) (place : Option ℕ) → place ≡ place_of_key name_of name members → place ≡ None → None ≡ member_called members name
called_none members name place is none = ap (get_at members) (sym none) ∙ called_is members name place is

pub called_some : (members : List Member) (name : List ℕ) (place : Option ℕ) (at : ℕ) (d : Member) → place ≡ place_of_key name_of name members → place ≡ Some at
    → at < length members → d ≡ get_or members at d → Some d ≡ member_called members name
called_some members name place at d is found within here =
    ap Some here ∙ sym (slice_get-get_or members at d within) ∙ ap (get_at members) (sym found) ∙ called_is members name place is

pub place_within : (members : List Member) (name : List ℕ) (place : Option ℕ) → place ≡ place_of_key name_of name members → IfSome place (λ at. at < length members)
place_within members name None is = tt
place_within members name (Some at) is =
    let found = first_passes (has_key name_of name) members at (sym (is ∙ place_first name members)) in slice_get_within members at found.0 found.1

-- ---- names with their places

find_first : {X : Type 0} (test : X → Bool) (xs : List X) → find test xs ≡ slice_get (filter test xs) 0
find_first test [] = refl
find_first test (x ∷ xs) = by (test x) (find_first test xs)
  where
    by : (b : Bool) → find test xs ≡ slice_get (filter test xs) 0 → cond b (Some x) (find test xs) ≡ slice_get (cond b (x ∷ filter test xs) (filter test xs)) 0
    by true later = refl
    by false later = later

spot_of : (from : ℕ) (name : List ℕ) (members : List Member)
    → option_map (λ (spot : Spot). spot.place) (find (has_key spot_name name) (spots_from from members)) ≡ option_map (λ at. from + at) (first_place (has_key name_of name) members)
spot_of from name [] = refl
spot_of from name (member ∷ members) = by (bytes_eq (name_of member) name) (first_place (has_key name_of name) members) (spot_of (from + 1) name members)
  where
    shifted : (place : Option ℕ) → option_map (λ at. from + 1 + at) place ≡ option_map (λ at. from + at) (option_map suc place)
    shifted None = refl
    shifted (Some at) = ap Some (omega arith)

    by : (b : Bool) (place : Option ℕ)
        → option_map (λ (spot : Spot). spot.place) (find (has_key spot_name name) (spots_from (from + 1) members)) ≡ option_map (λ at. from + 1 + at) place
        → option_map (λ (spot : Spot). spot.place) (cond b (Some (record { name = name_of member; place = from })) (find (has_key spot_name name) (spots_from (from + 1) members)))
        ≡ option_map (λ at. from + at) (cond b (Some 0) (option_map suc place))
    by true place later = ap Some (let e : from ≡ from + 0 = omega arith in e)
    by false place later = later ∙ shifted place

none_added : (place : Option ℕ) → option_map (λ at. 0 + at) place ≡ place
none_added None = refl
none_added (Some at) = ap Some (omega arith)

index_finds : (members : List Member) (name : List ℕ) (spots : List Spot) → spots ≡ spots_in members
    → option_map (λ (spot : Spot). spot.place) (find (has_key spot_name name) spots) ≡ place_of_key name_of name members
index_finds members name spots are =
    ap (option_map (λ (spot : Spot). spot.place))
    (find_first (has_key spot_name name) spots ∙ ap (λ l. slice_get (filter (has_key spot_name name) l) 0) are
    ∙ ap (λ l. slice_get l 0) (order_stable spot_name (spots_from 0 members) name) ∙ sym (find_first (has_key spot_name name) (spots_from 0 members)))
    ∙ spot_of 0 name members ∙ none_added (first_place (has_key name_of name) members) ∙ sym (place_first name members)

pub index_up : (members : List Member) (spots : List Spot) → spots ≡ spots_in members → NeverFallsBy spot_name spots
index_up members spots are = let P : List Spot → Type 0 = NeverFallsBy spot_name in subst P (sym are) (order_up spot_name (spots_from 0 members))

pub index_none : (members : List Member) (name : List ℕ) (spots : List Spot) (place : Option ℕ) → spots ≡ spots_in members → place ≡ place_of_key spot_name name spots → place ≡ None
    → None ≡ place_of_key name_of name members
index_none members name spots place are is none =
    ap (λ o. option_map (λ (spot : Spot). spot.place) (get_at spots o)) (sym none ∙ is ∙ place_is (has_key spot_name name) spots)
    ∙ ap (option_map (λ (spot : Spot). spot.place)) (sym (found_at (has_key spot_name name) spots)) ∙ index_finds members name spots are

pub index_some : (members : List Member) (name : List ℕ) (spots : List Spot) (place : Option ℕ) (at : ℕ) (d : Spot) → spots ≡ spots_in members → place ≡ place_of_key spot_name name spots
    → place ≡ Some at → at < length spots → Some (get_or spots at d).place ≡ place_of_key name_of name members
index_some members name spots place at d are is found within =
    ap (option_map (λ (spot : Spot). spot.place)) (sym (slice_get-get_or spots at d within))
    ∙ ap (λ o. option_map (λ (spot : Spot). spot.place) (get_at spots o)) (sym found ∙ is ∙ place_is (has_key spot_name name) spots)
    ∙ ap (option_map (λ (spot : Spot). spot.place)) (sym (found_at (has_key spot_name name) spots)) ∙ index_finds members name spots are

-- one more
pub spots_more : (members : List Member) (at : ℕ) (member d : Member) (spots more : List Spot) → spots ≡ spots_from 0 (take at members) → at < length members → member ≡ get_or members at member
    → more ≡ spots ++ record { name = name_of member; place = at } ∷ [] → more ≡ spots_from 0 (take (at + 1) members)
spots_more members at member d spots more so_far below is pushed =
    pushed ∙ ap (λ l. l ++ record { name = name_of member; place = at } ∷ []) so_far
    ∙ ap (λ n. spots_from 0 (take at members) ++ record { name = name_of member; place = n } ∷ []) (let e : at ≡ 0 + length (take at members) = omega (arith, length-take-le at members (omega (arith, below))) in e)
    ∙ sym (spots_push 0 (take at members) member)
    ∙ ap (λ m. spots_from 0 (take at members ++ m ∷ [])) is ∙ ap (spots_from 0) (sym (take_more members at member below))
  where
    spots_push : (from : ℕ) (xs : List Member) (x : Member) → spots_from from (xs ++ x ∷ []) ≡ spots_from from xs ++ record { name = name_of x; place = from + length xs } ∷ []
    spots_push from [] x = ap (λ n. record { name = name_of x; place = n } ∷ []) (let e : from ≡ from + 0 = omega arith in e)
    spots_push from (y ∷ ys) x =
        ap (λ l. record { name = name_of y; place = from } ∷ l) (spots_push (from + 1) ys x)
        ∙ ap (λ n. record { name = name_of y; place = from } ∷ (spots_from (from + 1) ys ++ record { name = name_of x; place = n } ∷ [])) (let e : from + 1 + length ys ≡ from + suc (length ys) = omega arith in e)

pub set_made : (members seen : List Member) → length members < 2 ^ 32 → RisesBy name_of members → seen ≡ members → AreInOrder seen
set_made members seen small rises same = let P : List Member → Type 0 = AreInOrder in subst P (sym same) (record {
  small = small;
  order = NeverFallsBy-from_rises name_of members rises;
  differ = rises_differ name_of members rises;
})
