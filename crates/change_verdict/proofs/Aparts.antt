-- Files of which none meets another stand apart once they are in byte order.
use Rattle.std.proofs.Common.{◌≡◌, inl, inr, ℕ, suc, ◌+◌, ◌≤◌, Bool, true, false, not, List, [], ◌∷◌, ◌++◌, map, length, refl, sym, ap, ◌∙◌, subst, arith}
use Rattle.std.specs.Prelude.{bytes_eq, nat_le, ◌||◌, if◌then◌else◌}
use Rattle.std.specs.List.{AllByRecursion, IsDistinct, list_any}
use Rattle.std.specs.List.Sorted.{IsStrictlySortedBy}
use Rattle.std.specs.declared.cmp.Ordering.TheVariants.{Less}
use Rattle.std.proofs.lemmas.Bool.{cases_Bool}
use Rattle.std.proofs.lemmas.Bool.Decides.{nat_tests}
use Rattle.std.proofs.lemmas.Cmp.{nat_list_cmp_total}
use Rattle.std.proofs.lemmas.List.{take_all}
use Rattle.std.proofs.lemmas.Slice.Eq.{bytes_eq-Decides}
use Rattle.opam_names.specs.ByteOrders.{RisesBy, byte_order, precedes, put_by}
use Rattle.opam_names.specs.Paths.{is_above}
use Rattle.opam_names.proofs.ByteOrders.{differ, less_of, next_of}
use Rattle.path_order.specs.Apart.{AreApart, meets}
use Rattle.journal_text.specs.Parts.{is_own, paths_of}
use Rattle.journal_text.specs.declared.record.Placed.{Placed}
use Rattle.owner_map.specs.Clashes.{NoneClash}
use Rattle.owner_map.specs.Owning as owning
use Rattle.owner_map.specs.declared.owned.OwnedPath.{OwnedPath}
use Rattle.switch_journal.specs.declared.request.TheConstants.{OWNED_LIMIT}
use Rattle.change_verdict.specs.Verdicts.{AreBrought, CanBePlaced, bytes_total, in_path_order, meets_owner}
use Rattle.change_verdict.proofs.Clashing.{AllFree, all_free}
use Rattle.change_verdict.proofs.Files.{any_split}
use Rattle.change_verdict.proofs.Keys.{left, right}
use Rattle.change_verdict.proofs.LeastMet.{any_of, itself}

or_left : (a b : Bool) → (a || b) ≡ false → a ≡ false
or_left true b h = absurd cc
or_left false b h = refl

or_right : (a b : Bool) → (a || b) ≡ false → b ≡ false
or_right true b h = absurd cc
or_right false b h = h

-- two paths that do not meet
pub record AreFree (p q : List ℕ) : Type 0 where
  pub other : bytes_eq p q ≡ false
  pub above : is_above p q ≡ false
  pub below : is_above q p ≡ false

pub free_of : (p q : List ℕ) → meets p q ≡ false → AreFree p q
free_of p q is = record {
  other = or_left (bytes_eq p q) (is_above p q) (or_left (bytes_eq p q || is_above p q) (is_above q p) is);
  above = or_right (bytes_eq p q) (is_above p q) (or_left (bytes_eq p q || is_above p q) (is_above q p) is);
  below = or_right (bytes_eq p q || is_above p q) (is_above q p) is;
}

module _ {X : Type 0} (key : X → List ℕ) where
  -- none of the paths meets this one
  pub each_free : (path : List ℕ) (xs : List X) → list_any (meets path) (map key xs) ≡ false → AllByRecursion (λ y. AreFree path (key y)) xs
  each_free path [] none = tt
  each_free path (x ∷ xs) none =
      (free_of path (key x) (or_left (meets path (key x)) (list_any (meets path) (map key xs)) none), each_free path xs (or_right (meets path (key x)) (list_any (meets path) (map key xs)) none))

  all_put_by : (P : X → Type 0) (x y : X) (ys : List X) (b : Bool) → P x → AllByRecursion P (y ∷ ys) → AllByRecursion P (put_by key x ys) → AllByRecursion P (if b then y ∷ put_by key x ys else x ∷ y ∷ ys)
  all_put_by P x y ys true here all later = (all.0, later)
  all_put_by P x y ys false here all later = (here, all)

  pub all_put : (P : X → Type 0) (x : X) (ys : List X) → P x → AllByRecursion P ys → AllByRecursion P (put_by key x ys)
  all_put P x [] here all = (here, tt)
  all_put P x (y ∷ ys) here all = all_put_by P x y ys (precedes (key y) (key x)) here all (all_put P x ys here all.1)

  all_keys : (P : List ℕ → Type 0) (xs : List X) → AllByRecursion (λ y. P (key y)) xs → AllByRecursion P (map key xs)
  all_keys P [] all = tt
  all_keys P (x ∷ xs) all = (all.0, all_keys P xs all.1)

  keys_all : (P : List ℕ → Type 0) (xs : List X) → AllByRecursion P (map key xs) → AllByRecursion (λ y. P (key y)) xs
  keys_all P [] all = tt
  keys_all P (x ∷ xs) all = (all.0, keys_all P xs all.1)

  all_further : (a b : List ℕ) (ys : List X) → byte_order a b ≡ Less → AllByRecursion (λ z. byte_order b z ≡ Less) (map key ys) → AllByRecursion (λ z. byte_order a z ≡ Less) (map key ys)
  all_further a b [] less all = tt
  all_further a b (y ∷ ys) less all = (nat_list_cmp_total.trans a b (key y) less all.0, all_further a b ys less all.1)

  put_rises_by : (x y : X) (ys : List X) (b : Bool) → precedes (key y) (key x) ≡ b → bytes_eq (key x) (key y) ≡ false → RisesBy key (y ∷ ys) → RisesBy key (put_by key x ys) → RisesBy key (if b then y ∷ put_by key x ys else x ∷ y ∷ ys)
  unfolding IsStrictlySortedBy
  put_rises_by x y ys true is other up later =
      (all_keys (λ k. byte_order (key y) k ≡ Less) (put_by key x ys) (all_put (λ z. byte_order (key y) (key z) ≡ Less) x ys (less_of (byte_order (key y) (key x)) is) (keys_all (λ k. byte_order (key y) k ≡ Less) ys up.0)), later)
  put_rises_by x y ys false is other up later =
      let less = next_of (key x) (key y) is (differ (key x) (key y) other) in
      let all : AllByRecursion (λ k. byte_order (key x) k ≡ Less) (map key (y ∷ ys)) = (less, all_further (key x) (key y) ys less up.0) in
      (all, up)

  pub put_rises : (x : X) (ys : List X) → AllByRecursion (λ y. AreFree (key x) (key y)) ys → RisesBy key ys → RisesBy key (put_by key x ys)
  unfolding IsStrictlySortedBy
  put_rises x [] free up = (tt, tt)
  put_rises x (y ∷ ys) free up = put_rises_by x y ys (precedes (key y) (key x)) refl free.0.other up (put_rises x ys free.1 up.1)

  all_above : (x : X) (ys : List X) → AllByRecursion (λ y. AreFree (key x) (key y)) ys → AllByRecursion (λ y. is_above (key x) (key y) ≡ false) ys
  all_above x [] free = tt
  all_above x (y ∷ ys) free = (free.0.above, all_above x ys free.1)

  put_apart_by : (x y : X) (ys : List X) (b : Bool) → AllByRecursion (λ z. AreFree (key x) (key z)) (y ∷ ys) → IsDistinct is_above (map key (y ∷ ys)) → IsDistinct is_above (map key (put_by key x ys))
      → IsDistinct is_above (map key (if b then y ∷ put_by key x ys else x ∷ y ∷ ys))
  unfolding IsDistinct
  put_apart_by x y ys true free apart later =
      (all_keys (λ k. is_above (key y) k ≡ false) (put_by key x ys) (all_put (λ z. is_above (key y) (key z) ≡ false) x ys free.0.below (keys_all (λ k. is_above (key y) k ≡ false) ys apart.0)), later)
  put_apart_by x y ys false free apart later =
      let all : AllByRecursion (λ k. is_above (key x) k ≡ false) (map key (y ∷ ys)) = all_keys (λ k. is_above (key x) k ≡ false) (y ∷ ys) (all_above x (y ∷ ys) free) in
      (all, apart)

  put_distinct : (x : X) (ys : List X) → AllByRecursion (λ y. AreFree (key x) (key y)) ys → IsDistinct is_above (map key ys) → IsDistinct is_above (map key (put_by key x ys))
  unfolding IsDistinct
  put_distinct x [] free apart = (tt, tt)
  put_distinct x (y ∷ ys) free apart = put_apart_by x y ys (precedes (key y) (key x)) free apart (put_distinct x ys free.1 apart.1)

  -- one more path that meets none
  pub put_apart : (x : X) (ys : List X) → list_any (meets (key x)) (map key ys) ≡ false → AreApart (map key ys) → AreApart (map key (put_by key x ys))
  put_apart x ys free apart =
      let all = each_free (key x) ys free in
      record { rise = put_rises x ys all apart.rise; apart = put_distinct x ys all apart.apart }

-- ---- in byte order

abbrev at : Placed → List ℕ
at file = file.path

swap : (a b c : Bool) → (a || (b || c)) ≡ (b || (a || c))
swap true true c = refl
swap true false c = refl
swap false b c = refl

any_put : (test : List ℕ → Bool) (file : Placed) (files : List Placed) → list_any test (paths_of (put_by at file files)) ≡ (test file.path || list_any test (paths_of files))
any_put test file [] = refl
any_put test file (first ∷ files) = by (precedes first.path file.path) (any_put test file files)
  where
    by : (b : Bool) → list_any test (paths_of (put_by at file files)) ≡ (test file.path || list_any test (paths_of files))
        → list_any test (paths_of (if b then first ∷ put_by at file files else file ∷ first ∷ files)) ≡ (test file.path || (test first.path || list_any test (paths_of files)))
    by true later = ap (λ x. test first.path || x) later ∙ swap (test first.path) (test file.path) (list_any test (paths_of files))
    by false later = refl

pub any_ordered : (test : List ℕ → Bool) (files : List Placed) → list_any test (paths_of (in_path_order files)) ≡ list_any test (paths_of files)
any_ordered test [] = refl
any_ordered test (file ∷ files) = any_put test file (in_path_order files) ∙ ap (λ x. test file.path || x) (any_ordered test files)

length_put : (file : Placed) (files : List Placed) → length (put_by at file files) ≡ suc (length files)
length_put file [] = refl
length_put file (first ∷ files) = by (precedes first.path file.path) (length_put file files)
  where
    by : (b : Bool) → length (put_by at file files) ≡ suc (length files) → length (if b then first ∷ put_by at file files else file ∷ first ∷ files) ≡ suc (suc (length files))
    by true later = ap suc later
    by false later = refl

length_ordered : (files : List Placed) → length (in_path_order files) ≡ length files
length_ordered [] = refl
length_ordered (file ∷ files) = length_put file (in_path_order files) ∙ ap suc (length_ordered files)

total_put : (file : Placed) (files : List Placed) → bytes_total (put_by at file files) ≡ length file.bytes + bytes_total files
total_put file [] = refl
total_put file (first ∷ files) = by (precedes first.path file.path) (total_put file files)
  where
    by : (b : Bool) → bytes_total (put_by at file files) ≡ length file.bytes + bytes_total files
        → bytes_total (if b then first ∷ put_by at file files else file ∷ first ∷ files) ≡ length file.bytes + (length first.bytes + bytes_total files)
    by true later = omega (arith, later)
    by false later = refl

total_ordered : (files : List Placed) → bytes_total (in_path_order files) ≡ bytes_total files
total_ordered [] = refl
total_ordered (file ∷ files) = total_put file (in_path_order files) ∙ ap (λ n. length file.bytes + n) (total_ordered files)

-- ---- that none meets another

eq_sym : (p q : List ℕ) → bytes_eq p q ≡ bytes_eq q p
eq_sym p q =
    elim (cases_Bool (bytes_eq p q)) [
      | inl is ↦ is ∙ sym ((bytes_eq-Decides q p).1 (sym ((bytes_eq-Decides p q).0 is)))
      | inr is ↦ is ∙ sym (other (bytes_eq q p) refl is)
    ]
  where
    other : (b : Bool) → bytes_eq q p ≡ b → bytes_eq p q ≡ false → b ≡ false
    other true same is = let e : bytes_eq p q ≡ true = (bytes_eq-Decides p q).1 (sym ((bytes_eq-Decides q p).0 same)) in absurd cc
    other false same is = refl

or_swap : (a b c : Bool) → ((a || b) || c) ≡ ((a || c) || b)
or_swap true b c = refl
or_swap false true true = refl
or_swap false true false = refl
or_swap false false true = refl
or_swap false false false = refl

meets_sym : (p q : List ℕ) → meets p q ≡ meets q p
meets_sym p q = or_swap (bytes_eq p q) (is_above p q) (is_above q p) ∙ ap (λ b. (b || is_above q p) || is_above p q) (eq_sym p q)

neither : (a b : Bool) → a ≡ false → b ≡ false → (a || b) ≡ false
neither a b p q = rw (p, q) refl

-- one of those before meets none of these
later_free : (owned before paths : List (List ℕ)) (p : List ℕ) → AllFree owned before paths → list_any (bytes_eq p) before ≡ true → list_any (meets p) paths ≡ false
later_free owned before [] p free there = refl
later_free owned before (path ∷ paths) p free there =
    neither (meets p path) (list_any (meets p) paths) (meets_sym p path ∙ not_met (meets path p) refl)
    (later_free owned (before ++ path ∷ []) paths p free.1 (any_split (bytes_eq p) before (path ∷ []) ∙ left (list_any (bytes_eq p) before) (list_any (bytes_eq p) (path ∷ [])) there))
  where
    not_met : (m : Bool) → meets path p ≡ m → m ≡ false
    not_met true meet = let e : list_any (meets path) before ≡ true = any_of (meets path) p before meet there in let none = free.0.of_earlier in absurd cc
    not_met false meet = refl

ordered_apart : (owned before : List (List ℕ)) (files : List Placed) → AllFree owned before (paths_of files) → AreApart (paths_of (in_path_order files))
unfolding IsDistinct IsStrictlySortedBy
ordered_apart owned before [] free = record { rise = tt; apart = tt }
ordered_apart owned before (file ∷ files) free =
    let here : list_any (bytes_eq file.path) (before ++ file.path ∷ []) ≡ true =
    any_split (bytes_eq file.path) before (file.path ∷ []) ∙ right (list_any (bytes_eq file.path) before) (list_any (bytes_eq file.path) (file.path ∷ [])) (left (bytes_eq file.path file.path) false (itself file.path)) in
    put_apart at file (in_path_order files) (any_ordered (meets file.path) files ∙ later_free owned (before ++ file.path ∷ []) (paths_of files) file.path free.1 here)
    (ordered_apart owned (before ++ file.path ∷ []) files free.1)

none_owned : (owned : List OwnedPath) (before paths : List (List ℕ)) → AllFree (owning.paths_of owned) before paths → list_any (meets_owner owned) paths ≡ false
none_owned owned before [] free = refl
none_owned owned before (path ∷ paths) free = neither (meets_owner owned path) (list_any (meets_owner owned) paths) free.0.of_owned (none_owned owned (before ++ path ∷ []) paths free.1)

length_paths : (files : List Placed) → length (paths_of files) ≡ length files
length_paths [] = refl
length_paths (file ∷ files) = ap suc (length_paths files)

enough : (n m : ℕ) → not (nat_le n m) ≡ false → n ≤ m
enough n m is = grind (arith, nat_tests)

-- files that meet none and for which there is room can be placed
pub can_be_placed : (owned : List OwnedPath) (files order : List Placed) → order ≡ in_path_order files → AreBrought files → NoneClash (owning.paths_of owned) (paths_of files) (length files)
    → not (nat_le (length owned + length files) OWNED_LIMIT) ≡ false → CanBePlaced owned order
can_be_placed owned files order is brought none room =
    let size = length_paths files in
    let all : AllFree (owning.paths_of owned) [] (paths_of files) =
    subst (AllFree (owning.paths_of owned) []) (take_all (length files) (paths_of files) (omega (arith, size))) (all_free (owning.paths_of owned) (paths_of files) (length files) none (omega (arith, size))) in
    let few = enough (length owned + length files) OWNED_LIMIT room in
    let many = length_ordered files in
    let bytes = total_ordered files in
    let count = brought.few in
    let short = brought.short in
    subst (CanBePlaced owned) (sym is) (record {
      brought = record { few = omega (arith, many, count); short = omega (arith, bytes, short); free = any_ordered is_own files ∙ brought.free };
      ordered = record { apart = ordered_apart (owning.paths_of owned) [] files all; free = any_ordered is_own files ∙ brought.free };
      unmet = any_ordered (meets_owner owned) files ∙ none_owned owned [] (paths_of files) all;
      roomy = omega (arith, many, few);
    })
