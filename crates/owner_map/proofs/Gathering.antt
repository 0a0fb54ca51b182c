-- The least of the paths that a path meets, and the earlier paths in byte order.
use Rattle.std.proofs.Common.{◌≡◌, ℕ, suc, ◌+◌, ◌<◌, Bool, true, false, List, [], ◌∷◌, ◌++◌, map, length, take, get_or, Some, None, refl, sym, ◌∙◌, ap, subst, cond, not, arith, lt-ltb, ◌⊎◌, inl, inr}
use Rattle.std.specs.Prelude.{bytes_eq, ◌&&◌, ◌||◌, if◌then◌else◌}
use Rattle.std.specs.List.{AllByRecursion, find, list_any}
use Rattle.std.specs.List.Sorted.{IsStrictlySortedBy}
use Rattle.std.specs.declared.cmp.Ordering.TheVariants.{Less}
use Rattle.std.specs.Ordering.{is_lt}
use Rattle.std.proofs.lemmas.Bool.{cases_order, false≢true}
use Rattle.std.proofs.lemmas.List.{get_or-take, length-take, take_more}
use Rattle.opam_names.specs.ByteOrders.{RisesBy, byte_order, count_before, precedes, put_by}
use Rattle.opam_names.proofs.ByteOrders.{equal_bytes}
use Rattle.path_order.specs.Apart.{meets}
use Rattle.owner_map.specs.Clashes.{IsFree, IsLeastMet, NoneClash, meets_before}
use Rattle.owner_map.specs.Owning.{path_of, paths_of}
use Rattle.owner_map.specs.Searching.{Gathers, StandsIn, meets_text, place_path}
use Rattle.owner_map.specs.declared.owned.OwnedPath.{OwnedPath}
use Rattle.owner_map.specs.declared.earlier.Place.{Place}
use Rattle.owner_map.specs.declared.clash.Other.TheVariants.{Earlier, Owned}
use Rattle.owner_map.proofs.Aparts.{all_free, all_put, put_rises}
use Rattle.owner_map.proofs.Finding.{all_of_map, each, found_all, found_passes, none_found, one_of, some_is}
use Rattle.owner_map.proofs.Texts.{chain, itself_not, less_is, never, turned}

-- ---- tests on lists of texts

pub any_none : (t : List ℕ → Bool) (ks : List (List ℕ)) → AllByRecursion (λ k. t k ≡ false) ks → list_any t ks ≡ false
any_none t [] all = refl
any_none t (k ∷ ks) all = ap (λ b. b || list_any t ks) all.0 ∙ any_none t ks all.1

none_any_by : (a b : Bool) → (a || b) ≡ false → (a ≡ false) × (b ≡ false)
none_any_by true b is = absurd (false≢true (sym is))
none_any_by false b is = (refl, is)

pub none_any : (t : List ℕ → Bool) (ks : List (List ℕ)) → list_any t ks ≡ false → AllByRecursion (λ k. t k ≡ false) ks
none_any t [] none = tt
none_any t (k ∷ ks) none = let both = none_any_by (t k) (list_any t ks) none in (both.0, none_any t ks both.1)

pub any_narrower : (s t : List ℕ → Bool) (ks : List (List ℕ)) → ((k : List ℕ) → s k ≡ true → t k ≡ true) → list_any t ks ≡ false → list_any s ks ≡ false
any_narrower s t ks part none = any_none s ks (each (λ k stays. one_of (s k) (λ is. false≢true (sym stays ∙ part k is))) ks (none_any t ks none))

-- a text that would pass is none of them
pub any_other : (t : List ℕ → Bool) (name : List ℕ) (ks : List (List ℕ)) → t name ≡ true → list_any t ks ≡ false → list_any (bytes_eq name) ks ≡ false
any_other t name ks passes none = any_narrower (bytes_eq name) t ks (λ k same. ap t (sym (equal_bytes name k same)) ∙ passes) none

and_first : (a b : Bool) → (a && b) ≡ true → a ≡ true
and_first true b is = refl
and_first false b is = absurd (false≢true is)

and_second : (a b : Bool) → (a && b) ≡ true → b ≡ true
and_second true b is = is
and_second false b is = absurd (false≢true is)

and_both : (a b : Bool) → a ≡ true → b ≡ true → (a && b) ≡ true
and_both true b is other = other
and_both false b is other = absurd (false≢true is)

-- none meets, so none meets and comes before
pub before_of_none : (text name : List ℕ) (ks : List (List ℕ)) → list_any (meets text) ks ≡ false → list_any (meets_before text name) ks ≡ false
before_of_none text name ks none = any_narrower (meets_before text name) (meets text) ks (λ k is. and_first (meets text k) (precedes k name) is) none

-- what comes before a text comes before one that does not precede it
pub before_of_later : (text name later : List ℕ) (ks : List (List ℕ)) → precedes later name ≡ false → list_any (meets_before text later) ks ≡ false → list_any (meets_before text name) ks ≡ false
before_of_later text name later ks late none = any_narrower (meets_before text name) (meets_before text later) ks
    (λ k is. and_both (meets text k) (precedes k later) (and_first (meets text k) (precedes k name) is) (further k (less_is (byte_order k name) (and_second (meets text k) (precedes k name) is)))) none
  where
    further_by : (k : List ℕ) (b : Bool) → precedes k later ≡ b → byte_order k name ≡ Less → b ≡ true
    further_by k true is less = refl
    further_by k false is less = absurd (never k name less (chain name later k late is))

    further : (k : List ℕ) → byte_order k name ≡ Less → precedes k later ≡ true
    further k less = further_by k (precedes k later) refl less

-- a text that meets is none of those that do not
pub met_first : (text name : List ℕ) (ks : List (List ℕ)) → meets text name ≡ true → list_any (meets text) ks ≡ false → list_any (bytes_eq name) ks ≡ false
met_first text name ks met none = any_other (meets text) name ks met none

pub met_earlier : (text name later : List ℕ) (ks : List (List ℕ)) → meets text name ≡ true → byte_order name later ≡ Less → list_any (meets_before text later) ks ≡ false → list_any (bytes_eq name) ks ≡ false
met_earlier text name later ks met less none = any_other (meets_before text later) name ks (and_both (meets text name) (precedes name later) met (ap is_lt less)) none

pub not_less : (a b : List ℕ) → (byte_order a b ≡ Less → ⊥) → precedes a b ≡ false
not_less a b apart = one_of (precedes a b) (λ is. apart (less_is (byte_order a b) is))

module _ {X : Type 0} (key : X → List ℕ) where
  keys_none : (t : List ℕ → Bool) (xs : List X) → AllByRecursion (λ y. t (key y) ≡ false) xs → list_any t (map key xs) ≡ false
  keys_none t [] all = refl
  keys_none t (x ∷ xs) all = ap (λ b. b || list_any t (map key xs)) all.0 ∙ keys_none t xs all.1

  pub none_met : (text : List ℕ) (xs : List X) → find (meets_text key text) xs ≡ None → list_any (meets text) (map key xs) ≡ false
  none_met text xs none = keys_none (meets text) xs (none_found (meets_text key text) xs none)

  pub some_met : (text : List ℕ) (xs : List X) (x : X) → find (meets_text key text) xs ≡ Some x → list_any (meets text) (map key xs) ≡ true
  some_met text [] x found = absurd cc
  some_met text (y ∷ xs) x found = by (meets text (key y)) found (some_met text xs x)
    where
      by : (b : Bool) → cond b (Some y) (find (meets_text key text) xs) ≡ Some x → (find (meets_text key text) xs ≡ Some x → list_any (meets text) (map key xs) ≡ true) → (b || list_any (meets text) (map key xs)) ≡ true
      by true is later = refl
      by false is later = later is

  and_false : (a b : Bool) → b ≡ false → (a && b) ≡ false
  and_false true b is = is
  and_false false b is = refl

  least_by : (text : List ℕ) (x y : X) (xs : List X) (b : Bool) → meets text (key y) ≡ b → AllByRecursion (λ z. byte_order (key y) (key z) ≡ Less) xs → cond b (Some y) (find (meets_text key text) xs) ≡ Some x
      → (find (meets_text key text) xs ≡ Some x → list_any (meets_before text (key x)) (map key xs) ≡ false) → list_any (meets_before text (key x)) (map key (y ∷ xs)) ≡ false
  least_by text x y xs true is up found later =
      let one = ap key (some_is y x found) in
      let P : List ℕ → Type 0 = λ k. AllByRecursion (λ z. byte_order k (key z) ≡ Less) xs in
      let rest = keys_none (meets_before text (key x)) xs (each (λ z less. and_false (meets text (key z)) (precedes (key z) (key x)) (turned (key x) (key z) less)) xs (subst P one up)) in
      ap (λ b. b || list_any (meets_before text (key x)) (map key xs)) (and_false (meets text (key y)) (precedes (key y) (key x)) (itself_not (key y) (key x) one)) ∙ rest
  least_by text x y xs false is up found later =
      ap (λ b. (b && precedes (key y) (key x)) || list_any (meets_before text (key x)) (map key xs)) is ∙ later found

  -- the first that meets a text is the least
  pub least_met : (text : List ℕ) (xs : List X) (x : X) → RisesBy key xs → find (meets_text key text) xs ≡ Some x → list_any (meets_before text (key x)) (map key xs) ≡ false
  unfolding IsStrictlySortedBy
  least_met text [] x up found = refl
  least_met text (y ∷ xs) x up found =
      least_by text x y xs (meets text (key y)) refl (all_of_map key (λ k. byte_order (key y) k ≡ Less) xs up.0) found (least_met text xs x up.1)

  -- the place of an element that was found
  pub record IsAt (xs : List X) (k : ℕ) (x : X) : Type 0 where
    pub within : k < length (map key xs)
    pub is : get_or (map key xs) k [] ≡ key x

  place_by : (x y : X) (xs : List X) (b : Bool) → precedes (key y) (key x) ≡ b → (b ≡ false → key y ≡ key x) → (b ≡ true → IsAt xs (count_before key (key x) xs) x)
      → IsAt (y ∷ xs) (cond b (1 + count_before key (key x) xs) 0) x
  place_by x y xs true is first later =
      let at = later refl in
      let one : 1 + count_before key (key x) xs ≡ suc (count_before key (key x) xs) = omega arith in
      record {
        within = omega (arith, at.within);
        is = ap (λ n. get_or (key y ∷ map key xs) n []) one ∙ at.is;
      }
  place_by x y xs false is first later = record { within = omega arith; is = first refl }

  pub place_found : (q : X → Bool) (xs : List X) (x : X) → RisesBy key xs → find q xs ≡ Some x → IsAt xs (count_before key (key x) xs) x
  unfolding IsStrictlySortedBy
  place_found q [] x up found = absurd cc
  place_found q (y ∷ xs) x up found = by (q y) found
      (λ more. place_found q xs x up.1 more)
    where
      by : (b : Bool) → cond b (Some y) (find q xs) ≡ Some x → (find q xs ≡ Some x → IsAt xs (count_before key (key x) xs) x) → IsAt (y ∷ xs) (count_before key (key x) (y ∷ xs)) x
      by true is later =
          let one = ap key (some_is y x is) in
          place_by x y xs (precedes (key y) (key x)) refl (λ _. one) (λ before. absurd (false≢true (sym (itself_not (key y) (key x) one) ∙ before)))
      by false is later =
          let less = found_all (λ z. byte_order (key y) (key z) ≡ Less) q xs x (all_of_map key (λ k. byte_order (key y) k ≡ Less) xs up.0) is in
          place_by x y xs (precedes (key y) (key x)) refl (λ stays. absurd (never (key y) (key x) less stays)) (λ _. later is)

  or_swap : (a b c : Bool) → (a || (b || c)) ≡ (b || (a || c))
  or_swap true true c = refl
  or_swap true false c = refl
  or_swap false b c = refl

  any_put_by : (t : List ℕ → Bool) (x y : X) (ys : List X) (b : Bool) → list_any t (map key (put_by key x ys)) ≡ (t (key x) || list_any t (map key ys))
      → list_any t (map key (if b then y ∷ put_by key x ys else x ∷ y ∷ ys)) ≡ (t (key x) || (t (key y) || list_any t (map key ys)))
  any_put_by t x y ys true later = ap (λ b. t (key y) || b) later ∙ or_swap (t (key y)) (t (key x)) (list_any t (map key ys))
  any_put_by t x y ys false later = refl

  pub any_put : (t : List ℕ → Bool) (x : X) (ys : List X) → list_any t (map key (put_by key x ys)) ≡ (t (key x) || list_any t (map key ys))
  any_put t x [] = refl
  any_put t x (y ∷ ys) = any_put_by t x y ys (precedes (key y) (key x)) (any_put t x ys)

-- ---- the earlier paths

pub gathers_none : (paths : List (List ℕ)) → Gathers paths 0 []
unfolding IsStrictlySortedBy
gathers_none paths = record { rises = tt; same = λ t. refl; stands = tt }

any_last : (t : List ℕ → Bool) (ks : List (List ℕ)) (k : List ℕ) → list_any t (ks ++ k ∷ []) ≡ (t k || list_any t ks)
any_last t [] k = refl
any_last t (x ∷ ks) k = ap (λ b. t x || b) (any_last t ks k) ∙ swap (t x) (t k) (list_any t ks)
  where
    swap : (a b c : Bool) → (a || (b || c)) ≡ (b || (a || c))
    swap true true c = refl
    swap true false c = refl
    swap false b c = refl

pub gathers_more : (paths : List (List ℕ)) (n : ℕ) (places : List Place) (place : Place) → n < length paths → Gathers paths n places → list_any (meets (get_or paths n [])) (take n paths) ≡ false
    → place.path ≡ get_or paths n [] → place.index ≡ n → Gathers paths (n + 1) (put_by place_path place places)
gathers_more paths n places place within given free path-is index-is =
    let none : list_any (meets place.path) (map place_path places) ≡ false = given.same (meets place.path) ∙ (ap (λ p. list_any (meets p) (take n paths)) path-is ∙ free) in
    let here : StandsIn paths (n + 1) place = (omega (arith, index-is), ap (λ k. get_or paths k []) index-is ∙ sym path-is) in
    record {
      rises = put_rises place_path place places (all_free place_path place.path places none) given.rises;
      same = λ t.
          any_put place_path t place places ∙ ap (λ b. t place.path || b) (given.same t) ∙ ap (λ p. t p || list_any t (take n paths)) path-is
          ∙ sym (any_last t (take n paths) (get_or paths n [])) ∙ ap (list_any t) (sym (take_more paths n [] within));
      stands = all_put place_path (StandsIn paths (n + 1)) place places here (each (λ p at. longer p at) places given.stands);
    }
  where
    longer : (p : Place) → StandsIn paths n p → StandsIn paths (n + 1) p
    longer p at = (omega (arith, at.0), at.1)

-- ---- the least that is met

pub least_owned : (owned : List OwnedPath) (places : List Place) (paths : List (List ℕ)) (n : ℕ) (text : List ℕ) (entry : OwnedPath) → RisesBy path_of owned → Gathers paths n places
    → find (meets_text path_of text) owned ≡ Some entry → list_any (meets_before text entry.path) (map place_path places) ≡ false
    → IsLeastMet (paths_of owned) (take n paths) text (Owned (count_before path_of entry.path owned))
least_owned owned places paths n text entry up given found least =
    let at = place_found path_of (meets_text path_of text) owned entry up found in
    let P : List ℕ → Type 0 = λ k. list_any (meets_before text k) (paths_of owned) ≡ false in
    let Q : List ℕ → Type 0 = λ k. list_any (meets_before text k) (take n paths) ≡ false in
    record {
      there = lt-ltb (count_before path_of entry.path owned) (length (paths_of owned)) at.within;
      met = ap (meets text) at.is ∙ found_passes (meets_text path_of text) owned entry found;
      least_owned = subst P (sym at.is) (least_met path_of text owned entry up found);
      least_earlier = subst Q (sym at.is) (sym (given.same (meets_before text entry.path)) ∙ least);
      owned_first = refl;
    }

pub least_earlier : (owned : List (List ℕ)) (places : List Place) (paths : List (List ℕ)) (n : ℕ) (text : List ℕ) (place : Place) → n < length paths → Gathers paths n places
    → find (meets_text place_path text) places ≡ Some place → list_any (meets_before text place.path) owned ≡ false → list_any (bytes_eq place.path) owned ≡ false
    → IsLeastMet owned (take n paths) text (Earlier place.index)
least_earlier owned places paths n text place within given found least other =
    let stands = found_all (StandsIn paths n) (meets_text place_path text) places place given.stands found in
    let at : get_or (take n paths) place.index [] ≡ place.path = get_or-take n paths place.index [] stands.0 ∙ stands.1 in
    let P : List ℕ → Type 0 = λ k. list_any (meets_before text k) owned ≡ false in
    let Q : List ℕ → Type 0 = λ k. list_any (meets_before text k) (take n paths) ≡ false in
    let R : List ℕ → Type 0 = λ k. list_any (bytes_eq k) owned ≡ false in
    record {
      there = lt-ltb place.index (length (take n paths)) (omega (arith, stands.0, length-take n paths, within));
      met = ap (meets text) at ∙ found_passes (meets_text place_path text) places place found;
      least_owned = subst P (sym at) least;
      least_earlier = subst Q (sym at) (sym (given.same (meets_before text place.path)) ∙ least_met place_path text places place given.rises found);
      owned_first = ap not (subst R (sym at) other);
    }

pub free_of_both : (owned : List OwnedPath) (places : List Place) (paths : List (List ℕ)) (n : ℕ) (text : List ℕ) → Gathers paths n places
    → find (meets_text path_of text) owned ≡ None → find (meets_text place_path text) places ≡ None → IsFree (paths_of owned) (take n paths) text
free_of_both owned places paths n text given none other = record {
  of_owned = none_met path_of text owned none;
  of_earlier = sym (given.same (meets text)) ∙ none_met place_path text places other;
}

-- ---- the paths up to one

pub none_more : (owned paths : List (List ℕ)) (n : ℕ) → NoneClash owned paths n → IsFree owned (take n paths) (get_or paths n []) → NoneClash owned paths (n + 1)
none_more owned paths n none free k under = by (cases_order k n)
  where
    by : (k ≡ n) ⊎ ((k < n) ⊎ (n < k)) → IsFree owned (take k paths) (get_or paths k [])
    by (inl same) = let P : ℕ → Type 0 = λ m. IsFree owned (take m paths) (get_or paths m []) in subst P (sym same) free
    by (inr (inl less)) = none k less
    by (inr (inr more)) = absurd (omega (arith, under, more))
