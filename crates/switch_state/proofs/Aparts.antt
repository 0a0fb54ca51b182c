-- Lists of paths stay apart where a path that meets none is put in, and where some are left out.
use Rattle.std.proofs.Common.{◌≡◌, ℕ, Bool, true, false, List, [], ◌∷◌, map, filter, fold, refl, subst, cond}
use Rattle.std.specs.Prelude.{bytes_eq, ◌||◌, if◌then◌else◌}
use Rattle.std.specs.List.{AllByRecursion, IsDistinct, list_any}
use Rattle.std.specs.List.Sorted.{IsStrictlySortedBy}
use Rattle.std.specs.declared.cmp.Ordering.TheVariants.{Less}
use Rattle.std.proofs.lemmas.Cmp.{nat_list_cmp_total}
use Rattle.opam_names.specs.ByteOrders.{RisesBy, byte_order, precedes, put_by}
use Rattle.opam_names.specs.Paths.{is_above}
use Rattle.opam_names.proofs.ByteOrders.{differ, less_of, next_of}
use Rattle.opam_names.proofs.RisingLists.{chosen_rise}
use Rattle.path_order.specs.Apart.{AreApart, meets}
use Rattle.owner_map.specs.Owning.{path_of}
use Rattle.owner_map.specs.Owning as owning
use Rattle.owner_map.specs.declared.owned.OwnedPath.{OwnedPath}
use Rattle.owner_map.specs.OwningLaws.{AdditionsAreMet}
use Rattle.journal_text.specs.Parts.{paths_of}
use Rattle.journal_text.specs.declared.record.Placed.{Placed}
use Rattle.opam_package.specs.declared.package.Member.{Member}
use Rattle.switch_journal.specs.Applying.{can_come, own}
use Rattle.switch_state.specs.Prepares.{CanAdd, and_owned, owned_files}
use Rattle.switch_state.specs.State.{SwitchState, contents_in}
use Rattle.switch_state.proofs.Adding.{can_add, folds}
use Rattle.switch_state.proofs.Readied.{free_of_come}
use Rattle.switch_state.proofs.SoundKept.{or_left, or_right}

-- two paths that do not meet
pub record AreFree (p q : List ℕ) : Type 0 where
  pub other : bytes_eq p q ≡ false
  pub above : is_above p q ≡ false
  pub below : is_above q p ≡ false

pub free_of : (p q : List ℕ) → meets p q ≡ false → AreFree p q
free_of p q is = record {
  other = or_left (bytes_eq p q) (is_above p q) (or_left (bytes_eq p q || is_above p q) (is_above q p) is);
  above = or_right (bytes_eq p q) (is_above p q) (or_left (bytes_eq p q || is_above p q) (is_above q p) is);
  below = or_right (bytes_eq p q || is_above p q) (is_above q p) is;
}

module _ {X : Type 0} (key : X → List ℕ) where
  -- none of the paths meets this one
  pub all_free : (path : List ℕ) (xs : List X) → list_any (meets path) (map key xs) ≡ false → AllByRecursion (λ y. AreFree path (key y)) xs
  all_free path [] none = tt
  all_free path (x ∷ xs) none =
      (free_of path (key x) (or_left (meets path (key x)) (list_any (meets path) (map key xs)) none), all_free path xs (or_right (meets path (key x)) (list_any (meets path) (map key xs)) none))

  all_put_by : (P : X → Type 0) (x y : X) (ys : List X) (b : Bool) → P x → AllByRecursion P (y ∷ ys) → AllByRecursion P (put_by key x ys) → AllByRecursion P (if b then y ∷ put_by key x ys else x ∷ y ∷ ys)
  all_put_by P x y ys true here all later = (all.0, later)
  all_put_by P x y ys false here all later = (here, all)

  pub all_put : (P : X → Type 0) (x : X) (ys : List X) → P x → AllByRecursion P ys → AllByRecursion P (put_by key x ys)
  all_put P x [] here all = (here, tt)
  all_put P x (y ∷ ys) here all = all_put_by P x y ys (precedes (key y) (key x)) here all (all_put P x ys here all.1)

  all_keys : (P : List ℕ → Type 0) (xs : List X) → AllByRecursion (λ y. P (key y)) xs → AllByRecursion P (map key xs)
  all_keys P [] all = tt
  all_keys P (x ∷ xs) all = (all.0, all_keys P xs all.1)

  keys_all : (P : List ℕ → Type 0) (xs : List X) → AllByRecursion P (map key xs) → AllByRecursion (λ y. P (key y)) xs
  keys_all P [] all = tt
  keys_all P (x ∷ xs) all = (all.0, keys_all P xs all.1)

  all_further : (a b : List ℕ) (ys : List X) → byte_order a b ≡ Less → AllByRecursion (λ z. byte_order b z ≡ Less) (map key ys) → AllByRecursion (λ z. byte_order a z ≡ Less) (map key ys)
  all_further a b [] less all = tt
  all_further a b (y ∷ ys) less all = (nat_list_cmp_total.trans a b (key y) less all.0, all_further a b ys less all.1)

  put_rises_by : (x y : X) (ys : List X) (b : Bool) → precedes (key y) (key x) ≡ b → bytes_eq (key x) (key y) ≡ false → RisesBy key (y ∷ ys) → RisesBy key (put_by key x ys) → RisesBy key (if b then y ∷ put_by key x ys else x ∷ y ∷ ys)
  unfolding IsStrictlySortedBy
  put_rises_by x y ys true is other up later =
      (all_keys (λ k. byte_order (key y) k ≡ Less) (put_by key x ys) (all_put (λ z. byte_order (key y) (key z) ≡ Less) x ys (less_of (byte_order (key y) (key x)) is) (keys_all (λ k. byte_order (key y) k ≡ Less) ys up.0)), later)
  put_rises_by x y ys false is other up later =
      let less = next_of (key x) (key y) is (differ (key x) (key y) other) in
      let all : AllByRecursion (λ k. byte_order (key x) k ≡ Less) (map key (y ∷ ys)) = (less, all_further (key x) (key y) ys less up.0) in
      (all, up)

  pub put_rises : (x : X) (ys : List X) → AllByRecursion (λ y. AreFree (key x) (key y)) ys → RisesBy key ys → RisesBy key (put_by key x ys)
  unfolding IsStrictlySortedBy
  put_rises x [] free up = (tt, tt)
  put_rises x (y ∷ ys) free up = put_rises_by x y ys (precedes (key y) (key x)) refl free.0.other up (put_rises x ys free.1 up.1)

  all_above : (x : X) (ys : List X) → AllByRecursion (λ y. AreFree (key x) (key y)) ys → AllByRecursion (λ y. is_above (key x) (key y) ≡ false) ys
  all_above x [] free = tt
  all_above x (y ∷ ys) free = (free.0.above, all_above x ys free.1)

  put_apart_by : (x y : X) (ys : List X) (b : Bool) → AllByRecursion (λ z. AreFree (key x) (key z)) (y ∷ ys) → IsDistinct is_above (map key (y ∷ ys)) → IsDistinct is_above (map key (put_by key x ys))
      → IsDistinct is_above (map key (if b then y ∷ put_by key x ys else x ∷ y ∷ ys))
  unfolding IsDistinct
  put_apart_by x y ys true free apart later =
      (all_keys (λ k. is_above (key y) k ≡ false) (put_by key x ys) (all_put (λ z. is_above (key y) (key z) ≡ false) x ys free.0.below (keys_all (λ k. is_above (key y) k ≡ false) ys apart.0)), later)
  put_apart_by x y ys false free apart later =
      let all : AllByRecursion (λ k. is_above (key x) k ≡ false) (map key (y ∷ ys)) = all_keys (λ k. is_above (key x) k ≡ false) (y ∷ ys) (all_above x (y ∷ ys) free) in
      (all, apart)

  put_distinct : (x : X) (ys : List X) → AllByRecursion (λ y. AreFree (key x) (key y)) ys → IsDistinct is_above (map key ys) → IsDistinct is_above (map key (put_by key x ys))
  unfolding IsDistinct
  put_distinct x [] free apart = (tt, tt)
  put_distinct x (y ∷ ys) free apart = put_apart_by x y ys (precedes (key y) (key x)) free apart (put_distinct x ys free.1 apart.1)

  -- one more path that meets none
  pub put_apart : (x : X) (ys : List X) → list_any (meets (key x)) (map key ys) ≡ false → AreApart (map key ys) → AreApart (map key (put_by key x ys))
  put_apart x ys free apart =
      let all = all_free (key x) ys free in
      record { rise = put_rises x ys all apart.rise; apart = put_distinct x ys all apart.apart }

  all_chosen : (P : List ℕ → Type 0) (test : X → Bool) (xs : List X) → AllByRecursion P (map key xs) → AllByRecursion P (map key (filter test xs))
  all_chosen P test [] all = tt
  all_chosen P test (x ∷ xs) all = by (test x) (all_chosen P test xs all.1)
    where
      by : (b : Bool) → AllByRecursion P (map key (filter test xs)) → AllByRecursion P (map key (cond b (x ∷ filter test xs) (filter test xs)))
      by true later = (all.0, later)
      by false later = later

  chosen_distinct : (test : X → Bool) (xs : List X) → IsDistinct is_above (map key xs) → IsDistinct is_above (map key (filter test xs))
  unfolding IsDistinct
  chosen_distinct test [] apart = tt
  chosen_distinct test (x ∷ xs) apart = by (test x) (chosen_distinct test xs apart.1)
    where
      by : (b : Bool) → IsDistinct is_above (map key (filter test xs)) → IsDistinct is_above (map key (cond b (x ∷ filter test xs) (filter test xs)))
      by true later = (all_chosen (λ q. is_above (key x) q ≡ false) test xs apart.0, later)
      by false later = later

  -- some of the paths
  pub chosen_apart : (test : X → Bool) (xs : List X) → AreApart (map key xs) → AreApart (map key (filter test xs))
  chosen_apart test xs apart = record { rise = chosen_rise key test xs apart.rise; apart = chosen_distinct test xs apart.apart }

-- paths that can be added stay apart
pub adds_apart : (entries owned : List OwnedPath) → CanAdd owned entries → AreApart (owning.paths_of owned) → AreApart (owning.paths_of (fold and_owned owned entries))
adds_apart [] owned can apart = apart
adds_apart (entry ∷ entries) owned can apart = adds_apart entries (and_owned owned entry) can.1 (put_apart path_of entry owned can.0 apart)

-- and so do those of a package that can come
pub comes_apart : AdditionsAreMet → (member : Member) (placed : List Placed) (state : SwitchState) → can_come member.package.pkg placed (contents_in state) ≡ true → AreApart (paths_of placed) → AreApart (owning.paths_of state.owned)
    → AreApart (owning.paths_of (fold (own member.package.pkg) state.owned (paths_of placed)))
comes_apart met member placed state can apart old =
    let pkg = member.package.pkg in
    subst (λ (os : List OwnedPath). AreApart (owning.paths_of os)) (folds pkg placed state.owned)
    (adds_apart (owned_files pkg placed) state.owned (can_add met pkg placed state.owned apart (free_of_come pkg placed (contents_in state) can)) old)
