-- Items without a fault bind each name once.
use Rattle.std.proofs.Common.{◌≡◌, ℕ, ◌+◌, ◌<◌, List, [], ◌∷◌, ◌++◌, map, length, get_or, drop, Bool, true, false, ◌&&◌, if◌then◌else◌, refl, sym, ◌∙◌, ap, subst}
use Rattle.std.specs.Prelude.{bytes_eq}
use Rattle.std.specs.List.{AllByRecursion, IsDistinct, flat_map, list_all, list_any}
use Rattle.std.specs.declared.option.Option.{Option}
use Rattle.std.specs.declared.option.Option.TheVariants.{None, Some}
use Rattle.std.proofs.lemmas.List.{drop_more}
use Rattle.std.proofs.lemmas.Slice.Eq.{bytes_eq-Decides}
use Rattle.opam_names.specs.ByteOrders.{in_order_by}
use Rattle.opam_names.specs.declared.packages.Pkg.{Pkg}
use Rattle.syntax_trees.specs.declared.tree.Node.{Node}
use Rattle.opam_filter.specs.NameSets.{with_name}
use Rattle.opam_filter.specs.Sets.{Rises}
use Rattle.opam_filter.specs.Variables.{Values}
use Rattle.lock_check.specs.declared.lock_fault.LockFault.{LockFault}
use Rattle.lock_check.specs.LockItems.{bound_in, bound_pkgs, faults_behind, faults_of_pkg, further_faults, is_binding, item_pkg, names_with}
use Rattle.lock_check.proofs.Names.{neither_first, neither_second, put_those}

-- both of two empty lists
pub empty_left : {X : Type 0} (one other : List X) → one ++ other ≡ [] → one ≡ []
empty_left [] other is = refl
empty_left (x ∷ one) other is = absurd cc

pub empty_right : {X : Type 0} (one other : List X) → one ++ other ≡ [] → other ≡ []
empty_right [] other is = is
empty_right (x ∷ one) other is = absurd cc

-- an item without a fault has no faults of filters
chosen_sound : (b : Bool) (fault : LockFault) (more : List LockFault) → (if b then fault ∷ more else more) ≡ [] → more ≡ []
chosen_sound true fault more is = absurd cc
chosen_sound false fault more is = is

pub item_sound : (names : List (List ℕ)) (item : Node) (pkg : Option Pkg) → faults_of_pkg names item pkg ≡ [] → further_faults item ≡ []
item_sound names item None is = absurd cc
item_sound names item (Some pkg) is = chosen_sound (list_any (bytes_eq pkg.name) names) _ (further_faults item) is

both_empty : {X : Type 0} (one other : List X) → one ≡ [] → other ≡ [] → one ++ other ≡ []
both_empty [] other is more = more
both_empty (x ∷ one) other is more = absurd cc

-- nor have items without a fault
pub items_sound : (names : List (List ℕ)) (items : List Node) → faults_behind names items ≡ [] → flat_map further_faults items ≡ []
items_sound names [] is = refl
items_sound names (item ∷ items) is =
    let here = empty_left (faults_of_pkg names item (item_pkg item)) (faults_behind (names_with names (item_pkg item)) items) is in
    let there = empty_right (faults_of_pkg names item (item_pkg item)) (faults_behind (names_with names (item_pkg item)) items) is in
    both_empty (further_faults item) (flat_map further_faults items) (item_sound names item (item_pkg item) here) (items_sound (names_with names (item_pkg item)) items there)

-- ---- each name once

abbrev names_of : List Pkg → List (List ℕ)
names_of pkgs = map (λ (pkg : Pkg). pkg.name) pkgs

abbrev Misses : List (List ℕ) → List ℕ → Type 0
Misses names name = list_any (bytes_eq name) names ≡ false

-- what is not among more names is not among them
fewer : (names : List (List ℕ)) (k : List ℕ) (found : List (List ℕ)) → AllByRecursion (Misses (with_name names k)) found → AllByRecursion (Misses names) found
fewer names k [] all = tt
fewer names k (name ∷ found) all = (neither_first (list_any (bytes_eq name) names) (bytes_eq name k) (sym (put_those name k names) ∙ all.0), fewer names k found all.1)

-- nor is it the one more
turned_apart : (one other : List ℕ) (b : Bool) → bytes_eq one other ≡ b → bytes_eq other one ≡ false → b ≡ false
turned_apart one other false is apart = refl
turned_apart one other true is apart = sym ((bytes_eq-Decides other one).1 (sym ((bytes_eq-Decides one other).0 is))) ∙ apart

apart_all : (names : List (List ℕ)) (k : List ℕ) (found : List (List ℕ)) → AllByRecursion (Misses (with_name names k)) found → AllByRecursion (λ y. bytes_eq k y ≡ false) found
apart_all names k [] all = tt
apart_all names k (name ∷ found) all =
    (turned_apart k name (bytes_eq k name) refl (neither_second (list_any (bytes_eq name) names) (bytes_eq name k) (sym (put_those name k names) ∙ all.0)), apart_all names k found all.1)

record Apart (names : List (List ℕ)) (pkgs : List Pkg) : Type 0 where
  distinct : IsDistinct bytes_eq (names_of pkgs)
  missed : AllByRecursion (Misses names) (names_of pkgs)

not_twice : (b : Bool) (fault : LockFault) (more : List LockFault) → (if b then fault ∷ more else more) ≡ [] → b ≡ false
not_twice true fault more is = absurd cc
not_twice false fault more is = refl

-- one item more
one_more : (names : List (List ℕ)) (item : Node) (pkg : Option Pkg) (binds : Bool) (rest : List Pkg) → faults_of_pkg names item pkg ≡ []
    → Apart (names_with names pkg) rest → Apart names (bound_pkgs binds pkg ++ rest)
unfolding IsDistinct
one_more names item None binds rest is there = absurd cc
one_more names item (Some pkg) false rest is there = record { distinct = there.distinct; missed = fewer names pkg.name (names_of rest) there.missed }
one_more names item (Some pkg) true rest is there = record {
  distinct = (apart_all names pkg.name (names_of rest) there.missed, there.distinct);
  missed = (not_twice (list_any (bytes_eq pkg.name) names) _ (further_faults item) is, fewer names pkg.name (names_of rest) there.missed);
}

all_apart : (values : Values) (names : List (List ℕ)) (items : List Node) → faults_behind names items ≡ [] → Apart names (bound_in values items)
unfolding IsDistinct
all_apart values names [] is = record { distinct = tt; missed = tt }
all_apart values names (item ∷ items) is =
    one_more names item (item_pkg item) (is_binding values item) (bound_in values items)
    (empty_left (faults_of_pkg names item (item_pkg item)) (faults_behind (names_with names (item_pkg item)) items) is)
    (all_apart values (names_with names (item_pkg item)) items
    (empty_right (faults_of_pkg names item (item_pkg item)) (faults_behind (names_with names (item_pkg item)) items) is))

pub bound_once : (values : Values) (items : List Node) → faults_behind [] items ≡ [] → IsDistinct bytes_eq (map (λ (pkg : Pkg). pkg.name) (bound_in values items))
bound_once values items is = (all_apart values [] items is).distinct

-- of several values without a fault the next has none
pub next_sound : {X : Type 0} (faults : X → List LockFault) (xs : List X) (i : ℕ) (x : X) → i < length xs → x ≡ get_or xs i x
    → flat_map faults (drop i xs) ≡ [] → faults x ≡ []
next_sound faults xs i x within is none =
    ap faults is ∙ empty_left (faults (get_or xs i x)) (flat_map faults (drop (i + 1) xs)) (sym (ap (flat_map faults) (drop_more xs i x within)) ∙ none)

-- nor have those after it
pub rest_sound : {X : Type 0} (faults : X → List LockFault) (xs : List X) (i : ℕ) (x : X) → i < length xs → x ≡ get_or xs i x
    → flat_map faults (drop i xs) ≡ [] → flat_map faults (drop (i + 1) xs) ≡ []
rest_sound faults xs i x within is none =
    empty_right (faults (get_or xs i x)) (flat_map faults (drop (i + 1) xs)) (sym (ap (flat_map faults) (drop_more xs i x within)) ∙ none)

-- so what they bind rises once it is in order
pub bound_rises : ((xs : List Pkg) → IsDistinct bytes_eq (map (λ (pkg : Pkg). pkg.name) xs) → Rises (in_order_by (λ (pkg : Pkg). pkg.name) xs))
    → (values : Values) (items : List Node) (bound sorted : List Pkg) → bound ≡ bound_in values items → sorted ≡ in_order_by (λ (pkg : Pkg). pkg.name) bound
    → faults_behind [] items ≡ [] → Rises sorted
bound_rises rising values items bound sorted is order none =
    let P : List Pkg → Type 0 = λ pkgs. Rises pkgs in
    subst P (sym (order ∙ ap (in_order_by (λ (pkg : Pkg). pkg.name)) is)) (rising (bound_in values items) (bound_once values items none))

-- all pass where all answers are so
pub all_passed : {X : Type 0} (test : X → Bool) (xs : List X) → list_all (λ flag. flag) (map test xs) ≡ list_all test xs
all_passed test [] = refl
all_passed test (x ∷ xs) = ap (λ b. test x && b) (all_passed test xs)
