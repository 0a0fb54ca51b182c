-- Packages in the order of their names.
use Rattle.std.proofs.Common.{◌≡◌, ℕ, suc, ◌+◌, ◌≤◌, List, [], ◌∷◌, ◌++◌, take, drop, length, Bool, true, false, Option, Some, None, refl, sym, ◌∙◌, ap, subst, add-one, arith}
use Rattle.std.specs.Prelude.{IfSome, bytes_eq, nat_le, ◌&&◌, if◌then◌else◌}
use Rattle.std.specs.List.{AllByRecursion, IsDistinct, insert}
use Rattle.std.specs.List.Sorted.{IsPermutation, IsStrictlySortedBy}
use Rattle.std.specs.Ordering.{is_eq, is_lt, nat_cmp, ordering_reverse}
use Rattle.std.specs.Cmp.Lexicographic.{slice_cmp}
use Rattle.std.specs.declared.cmp.Ordering.{Ordering}
use Rattle.std.specs.declared.cmp.Ordering.TheVariants.{Less, Equal, Greater}
use Rattle.std.proofs.lemmas.Cmp.{nat_list_cmp_total}
use Rattle.std.proofs.lemmas.List.Sorted.{IsPermutation-cons, IsPermutation-insert, IsPermutation-refl, IsPermutation-trans}
use Rattle.std.proofs.lemmas.Map.Text.{is_eq-slice_cmp}
use Rattle.std.proofs.lemmas.Bool.Decides.{nat_tests}
use Rattle.opam_names.specs.declared.packages.Pkg.{Pkg}
use Rattle.opam_top.proofs.Tests.{both_left}
use Rattle.opam_top.specs.Locks.{are_bound, are_named_once, bound_as_spelled, in_name_order, is_named_before, lock_text, place_of_pkg, put_pkg, put_pkgs, read_lock, read_pkgs}
use Rattle.opam_top.specs.Readings.{NamesAreInOrder, names_of}
use Rattle.opam_top.specs.Spellings.{is_spelled, quoted}

-- the last of those left is put in first
put_last : (left order : List Pkg) (pkg : Pkg) → put_pkgs (left ++ pkg ∷ []) order ≡ put_pkgs left (put_pkg pkg order)
put_last [] order pkg = refl
put_last (first ∷ left) order pkg = ap (put_pkg first) (put_last left order pkg)

put_by : (before : Bool) (pkg other : Pkg) (pkgs : List Pkg) → put_pkg pkg pkgs ≡ take (place_of_pkg pkg pkgs) pkgs ++ pkg ∷ drop (place_of_pkg pkg pkgs) pkgs
    → (if before then other ∷ put_pkg pkg pkgs else pkg ∷ other ∷ pkgs) ≡ take (if before then place_of_pkg pkg pkgs + 1 else 0) (other ∷ pkgs) ++ pkg ∷ drop (if before then place_of_pkg pkg pkgs + 1 else 0) (other ∷ pkgs)
put_by true pkg other pkgs later = rw (add-one) (ap (λ (l : List Pkg). other ∷ l) later)
put_by false pkg other pkgs later = refl

-- a package is put in at its place
put_at_place : (pkg : Pkg) (pkgs : List Pkg) → put_pkg pkg pkgs ≡ insert pkgs (place_of_pkg pkg pkgs) pkg
put_at_place pkg [] = refl
put_at_place pkg (other ∷ pkgs) = put_by (is_named_before other pkg) pkg other pkgs (put_at_place pkg pkgs)

-- one more package
pub order_more : (left before order grown all : List Pkg) (pkg : Pkg) (place : ℕ) → before ≡ left ++ pkg ∷ [] → place ≡ place_of_pkg pkg order → grown ≡ insert order place pkg
    → put_pkgs before order ≡ all → put_pkgs left grown ≡ all
order_more left before order grown all pkg place last at is so_far =
    ap (put_pkgs left) (is ∙ ap (λ n. insert order n pkg) at ∙ sym (put_at_place pkg order))
    ∙ sym (put_last left order pkg) ∙ ap (λ (l : List Pkg). put_pkgs l order) (sym last) ∙ so_far

longer_by : (before : Bool) (pkg other : Pkg) (pkgs : List Pkg) → length (put_pkg pkg pkgs) ≡ suc (length pkgs)
    → length (if before then other ∷ put_pkg pkg pkgs else pkg ∷ other ∷ pkgs) ≡ suc (suc (length pkgs))
longer_by true pkg other pkgs later = ap suc later
longer_by false pkg other pkgs later = refl

put_longer : (pkg : Pkg) (pkgs : List Pkg) → length (put_pkg pkg pkgs) ≡ suc (length pkgs)
put_longer pkg [] = refl
put_longer pkg (other ∷ pkgs) = longer_by (is_named_before other pkg) pkg other pkgs (put_longer pkg pkgs)

pub order_length : (pkgs : List Pkg) → length (in_name_order pkgs) ≡ length pkgs
order_length [] = refl
order_length (pkg ∷ pkgs) = put_longer pkg (in_name_order pkgs) ∙ ap suc (order_length pkgs)

-- at most 64 are bound
few_by : (fits : Bool) (pkgs : List Pkg) → (fits ≡ true → length pkgs ≤ 64) → IfSome (if fits then Some pkgs else None) (λ bound. length bound ≤ 64)
few_by true pkgs few = few refl
few_by false pkgs few = tt

few_enough : (n : ℕ) → nat_le n 64 ≡ true → n ≤ 64
few_enough n is = grind (arith, nat_tests)

few_of : (bytes : List ℕ) (pkgs : Option (List Pkg)) → IfSome (bound_as_spelled bytes pkgs) (λ bound. length bound ≤ 64)
few_of bytes None = tt
few_of bytes (Some pkgs) =
    few_by (are_bound pkgs && is_spelled bytes (lock_text pkgs)) (in_name_order pkgs)
    (λ is. let few = few_enough (length pkgs) (both_left (nat_le (length pkgs) 64) (are_named_once pkgs) (both_left (are_bound pkgs) (is_spelled bytes (lock_text pkgs)) is)) in omega (arith, few, order_length pkgs))

pub few_are_bound : (bytes : List ℕ) → IfSome (read_lock bytes) (λ bound. length bound ≤ 64)
few_are_bound [] = omega arith
few_are_bound (b ∷ bytes) = few_of (b ∷ bytes) (read_pkgs (quoted (b ∷ bytes)))

-- the order has the same packages
pub order_permutes : (pkgs : List Pkg) → IsPermutation pkgs (in_name_order pkgs)
order_permutes [] = IsPermutation-refl []
order_permutes (pkg ∷ pkgs) =
    let order = in_name_order pkgs in
    let of = λ (l : List Pkg). IsPermutation (pkg ∷ order) l in
    IsPermutation-trans (pkg ∷ pkgs) (pkg ∷ order) (put_pkg pkg order) (IsPermutation-cons pkg pkgs order (order_permutes pkgs))
    (subst of (sym (put_at_place pkg order)) (IsPermutation-insert order (place_of_pkg pkg order) pkg))

-- what holds of all names holds of them in order
put_all_by : (before : Bool) (P : List ℕ → Type 0) (pkg other : Pkg) (pkgs : List Pkg) → P pkg.name → P other.name → AllByRecursion P (names_of pkgs) → AllByRecursion P (names_of (put_pkg pkg pkgs))
    → AllByRecursion P (names_of (if before then other ∷ put_pkg pkg pkgs else pkg ∷ other ∷ pkgs))
put_all_by true P pkg other pkgs here next all later = (next, later)
put_all_by false P pkg other pkgs here next all later = let rest : AllByRecursion P (names_of (other ∷ pkgs)) = (next, all) in (here, rest)

put_all : (P : List ℕ → Type 0) (pkg : Pkg) (pkgs : List Pkg) → P pkg.name → AllByRecursion P (names_of pkgs) → AllByRecursion P (names_of (put_pkg pkg pkgs))
put_all P pkg [] here all = (here, tt)
put_all P pkg (other ∷ pkgs) here all = put_all_by (is_named_before other pkg) P pkg other pkgs here all.0 all.1 (put_all P pkg pkgs here all.1)

order_all : (P : List ℕ → Type 0) (pkgs : List Pkg) → AllByRecursion P (names_of pkgs) → AllByRecursion P (names_of (in_name_order pkgs))
order_all P [] all = tt
order_all P (pkg ∷ pkgs) all = put_all P pkg (in_name_order pkgs) all.0 (order_all P pkgs all.1)

abbrev by_bytes : List ℕ → List ℕ → Ordering
by_bytes = slice_cmp nat_cmp

less_of : (r : Ordering) → is_lt r ≡ true → r ≡ Less
less_of Less is = refl
less_of Equal is = absurd (cc)
less_of Greater is = absurd (cc)

rises_by : (r : Ordering) (a b : List ℕ) → by_bytes a b ≡ r → is_lt r ≡ false → bytes_eq b a ≡ false → by_bytes b a ≡ Less
rises_by Less a b is before apart = absurd (cc)
rises_by Equal a b is before apart =
    let same : bytes_eq b a ≡ true = sym (is_eq-slice_cmp b a) ∙ ap is_eq (nat_list_cmp_total.antisymm b a ∙ ap ordering_reverse is) in absurd (let bad : true ≡ false = sym same ∙ apart in cc)
rises_by Greater a b is before apart = nat_list_cmp_total.antisymm b a ∙ ap ordering_reverse is

rises : (a b : List ℕ) → is_lt (by_bytes a b) ≡ false → bytes_eq b a ≡ false → by_bytes b a ≡ Less
rises a b before apart = rises_by (by_bytes a b) a b refl before apart

below_all : (a b : List ℕ) (names : List (List ℕ)) → by_bytes a b ≡ Less → AllByRecursion (λ y. by_bytes b y ≡ Less) names → AllByRecursion (λ y. by_bytes a y ≡ Less) names
below_all a b [] less all = tt
below_all a b (name ∷ names) less all = (nat_list_cmp_total.trans a b name less all.0, below_all a b names less all.1)

put_rises_by : (before : Bool) (pkg other : Pkg) (pkgs : List Pkg) → is_named_before other pkg ≡ before → bytes_eq pkg.name other.name ≡ false → IsStrictlySortedBy by_bytes (names_of (other ∷ pkgs))
    → IsStrictlySortedBy by_bytes (names_of (put_pkg pkg pkgs)) → IsStrictlySortedBy by_bytes (names_of (if before then other ∷ put_pkg pkg pkgs else pkg ∷ other ∷ pkgs))
unfolding IsStrictlySortedBy
put_rises_by true pkg other pkgs is apart all later =
    (put_all (λ y. by_bytes other.name y ≡ Less) pkg pkgs (less_of (by_bytes other.name pkg.name) is) all.0, later)
put_rises_by false pkg other pkgs is apart all later =
    let less = rises other.name pkg.name is apart in
    let above : AllByRecursion (λ y. by_bytes pkg.name y ≡ Less) (names_of (other ∷ pkgs)) = (less, below_all pkg.name other.name (names_of pkgs) less all.0) in (above, all)

put_rises : (pkg : Pkg) (pkgs : List Pkg) → AllByRecursion (λ y. bytes_eq pkg.name y ≡ false) (names_of pkgs) → IsStrictlySortedBy by_bytes (names_of pkgs) → IsStrictlySortedBy by_bytes (names_of (put_pkg pkg pkgs))
unfolding IsStrictlySortedBy
put_rises pkg [] apart all = (tt, tt)
put_rises pkg (other ∷ pkgs) apart all = put_rises_by (is_named_before other pkg) pkg other pkgs refl apart.0 all (put_rises pkg pkgs apart.1 all.1)

order_rises : (pkgs : List Pkg) → IsDistinct bytes_eq (names_of pkgs) → IsStrictlySortedBy by_bytes (names_of (in_name_order pkgs))
unfolding IsStrictlySortedBy IsDistinct
order_rises [] once = tt
order_rises (pkg ∷ pkgs) once = put_rises pkg (in_name_order pkgs) (order_all (λ y. bytes_eq pkg.name y ≡ false) pkgs once.0) (order_rises pkgs once.1)

pub names_in_order : NamesAreInOrder
names_in_order pkgs = (order_permutes pkgs, order_rises pkgs)
