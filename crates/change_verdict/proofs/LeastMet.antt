-- The least path that meets another: by the place that the owners of paths name.
use Rattle.std.proofs.Common.{◌≡◌, inl, inr, ℕ, zero, suc, ◌<◌, Bool, true, false, not, cond, List, [], ◌∷◌, ◌++◌, map, length, get_or, Some, None, take, refl, sym, ap, ◌∙◌, subst, arith}
use Rattle.std.specs.Prelude.{◌&&◌, ◌||◌, bytes_eq, slice_get, nat_lt, Result, Ok, Err, IfOk}
use Rattle.std.specs.List.{find, list_any}
use Rattle.std.specs.Option.{option_map, option_or}
use Rattle.std.specs.Ordering.{is_lt}
use Rattle.std.specs.declared.cmp.Ordering.TheVariants.{Less}
use Rattle.std.proofs.lemmas.Bool.{cases_Bool}
use Rattle.std.proofs.lemmas.Bool.Decides.{nat_tests}
use Rattle.std.proofs.lemmas.Slice.Eq.{bytes_eq-Decides}
use Rattle.opam_names.specs.ByteOrders.{byte_order, has_key, precedes}
use Rattle.opam_names.specs.declared.fault.OutOfMemory.{OutOfMemory}
use Rattle.opam_names.specs.declared.packages.Pkg.{Pkg}
use Rattle.path_order.specs.Apart.{meets}
use Rattle.path_order.proofs.Fronts.{three}
use Rattle.owner_map.specs.Clashes.{IsClash, IsLeastMet, meets_before, named}
use Rattle.owner_map.specs.Owning.{owned_by, owner_at, owner_of, path_of, paths_of}
use Rattle.owner_map.specs.declared.clash.Clash.{Clash}
use Rattle.owner_map.specs.declared.clash.Other.{Other}
use Rattle.owner_map.specs.declared.clash.Other.TheVariants.{Earlier, Owned}
use Rattle.owner_map.specs.declared.owned.OwnedPath.{OwnedPath}
use Rattle.change_verdict.specs.Clash.{is_least_met, least_met, met_reason, with_own}
use Rattle.change_verdict.specs.declared.reason.Reason.{Reason}
use Rattle.change_verdict.proofs.Files.{any_split}
use Rattle.change_verdict.proofs.Keys.{left, right}
use Rattle.change_verdict.proofs.Tests.{both}

pub left_false : (a b : Bool) → (a || b) ≡ false → a ≡ false
left_false true b h = absurd cc
left_false false b h = refl

pub right_false : (a b : Bool) → (a || b) ≡ false → b ≡ false
right_false true b h = absurd cc
right_false false b h = h

and_false : (a b : Bool) → (a && b) ≡ false → b ≡ true → a ≡ false
and_false true b h is = absurd cc
and_false false b h is = refl

same_bytes : (a b : List ℕ) → bytes_eq a b ≡ true → a ≡ b
same_bytes a b is = (bytes_eq-Decides a b).0 is

pub itself : (a : List ℕ) → bytes_eq a a ≡ true
itself a = (bytes_eq-Decides a a).1 refl

-- a text of the list passes
pub any_of : (test : List ℕ → Bool) (name : List ℕ) (xs : List (List ℕ)) → test name ≡ true → list_any (bytes_eq name) xs ≡ true → list_any test xs ≡ true
any_of test name [] is there = absurd cc
any_of test name (x ∷ xs) is there = by (bytes_eq name x) refl there (any_of test name xs is)
  where
    by : (b : Bool) → bytes_eq name x ≡ b → (b || list_any (bytes_eq name) xs) ≡ true → (list_any (bytes_eq name) xs ≡ true → list_any test xs ≡ true) → (test x || list_any test xs) ≡ true
    by true same there later = left (test x) (list_any test xs) (ap test (sym (same_bytes name x same)) ∙ is)
    by false same there later = right (test x) (list_any test xs) (later there)

pub any_at : (name : List ℕ) (xs : List (List ℕ)) (k : ℕ) → k < length xs → get_or xs k [] ≡ name → list_any (bytes_eq name) xs ≡ true
any_at name [] k lt is = absurd (omega arith)
any_at name (x ∷ xs) zero lt is = left (bytes_eq name x) (list_any (bytes_eq name) xs) (ap (bytes_eq name) is ∙ itself name)
any_at name (x ∷ xs) (suc k) lt is = right (bytes_eq name x) (list_any (bytes_eq name) xs) (any_at name xs k (omega arith) is)

module _ (all : List OwnedPath) (p name : List ℕ) (met : meets p name ≡ true) (there : list_any (bytes_eq name) (paths_of all) ≡ true) (least : list_any (meets_before p name) (paths_of all) ≡ false) where
  least_is : (one : OwnedPath) → one.path ≡ name → is_least_met all p one ≡ true
  least_is one is =
      both (meets p one.path) (not (list_any (meets_before p one.path) (paths_of all))) (ap (meets p) is ∙ met) (ap (λ (n : List ℕ). not (list_any (meets_before p n) (paths_of all))) is ∙ ap not least)

  not_both : (a b : Bool) → (a ≡ true → b ≡ false) → (a && b) ≡ false
  not_both true b later = later refl
  not_both false b later = refl

  -- a path that meets and stands after the name is not the least
  after_not : (one : OwnedPath) → byte_order name one.path ≡ Less → is_least_met all p one ≡ false
  after_not one less =
      not_both (meets p one.path) (not (list_any (meets_before p one.path) (paths_of all)))
      (λ _. ap not (any_of (meets_before p one.path) name (paths_of all) (both (meets p name) (precedes name one.path) met (ap is_lt less)) there))

  before_not : (one : OwnedPath) → meets_before p name one.path ≡ false → byte_order one.path name ≡ Less → is_least_met all p one ≡ false
  before_not one none less = ap (λ b. b && not (list_any (meets_before p one.path) (paths_of all))) (and_false (meets p one.path) (precedes one.path name) none (ap is_lt less))

  another : (one : OwnedPath) → meets_before p name one.path ≡ false → bytes_eq one.path name ≡ false → is_least_met all p one ≡ false
  another one none other =
      elim (three name one.path) [
        | inl less ↦ after_not one less
        | inr (inl same) ↦ let is : bytes_eq one.path name ≡ true = ap (λ n. bytes_eq n name) (sym same) ∙ itself name in absurd cc
        | inr (inr less) ↦ before_not one none less
      ]

  same_test : (one : OwnedPath) → meets_before p name one.path ≡ false → is_least_met all p one ≡ has_key path_of name one
  same_test one none =
      elim (cases_Bool (bytes_eq one.path name)) [
        | inl is ↦ least_is one (same_bytes one.path name is) ∙ sym is
        | inr is ↦ another one none is ∙ sym is
      ]

  same_find : (xs : List OwnedPath) → list_any (meets_before p name) (paths_of xs) ≡ false → find (is_least_met all p) xs ≡ find (has_key path_of name) xs
  same_find [] none = refl
  same_find (one ∷ xs) none =
      ap (λ b. cond b (Some one) (find (is_least_met all p) xs)) (same_test one (left_false (meets_before p name one.path) (list_any (meets_before p name) (paths_of xs)) none))
      ∙ ap (λ found. cond (has_key path_of name one) (Some one) found) (same_find xs (right_false (meets_before p name one.path) (list_any (meets_before p name) (paths_of xs)) none))

-- ---- with the earlier ones

paths_join : (owned : List OwnedPath) (pkg : Pkg) (before : List (List ℕ)) → paths_of (with_own owned pkg before) ≡ paths_of owned ++ before
paths_join [] pkg [] = refl
paths_join [] pkg (path ∷ before) = ap (λ l. path ∷ l) (paths_join [] pkg before)
paths_join (one ∷ owned) pkg before = ap (λ l. one.path ∷ l) (paths_join owned pkg before)

find_join : (test : OwnedPath → Bool) (xs ys : List OwnedPath) → find test (xs ++ ys) ≡ option_or (find test xs) (find test ys)
find_join test [] ys = refl
find_join test (x ∷ xs) ys = by (test x) (find_join test xs ys)
  where
    by : (b : Bool) → find test (xs ++ ys) ≡ option_or (find test xs) (find test ys) → cond b (Some x) (find test (xs ++ ys)) ≡ option_or (cond b (Some x) (find test xs)) (find test ys)
    by true later = refl
    by false later = later

pub any_join : (test : List ℕ → Bool) (owned : List OwnedPath) (pkg : Pkg) (before : List (List ℕ)) → list_any test (paths_of (with_own owned pkg before)) ≡ (list_any test (paths_of owned) || list_any test before)
any_join test owned pkg before = ap (list_any test) (paths_join owned pkg before) ∙ any_split test (paths_of owned) before

neither : (a b : Bool) → a ≡ false → b ≡ false → (a || b) ≡ false
neither a b p q = rw (p, q) refl

-- the least that is met is the first with the least name
pub least_by_name : (owned : List OwnedPath) (pkg : Pkg) (before : List (List ℕ)) (p : List ℕ) (other : Other) → IsLeastMet (paths_of owned) before p other
    → (list_any (bytes_eq (named (paths_of owned) before other)) (paths_of owned) || list_any (bytes_eq (named (paths_of owned) before other)) before) ≡ true
    → least_met (with_own owned pkg before) p ≡ find (has_key path_of (named (paths_of owned) before other)) (with_own owned pkg before)
least_by_name owned pkg before p other is there =
    let name = named (paths_of owned) before other in
    let all = with_own owned pkg before in
    let none : list_any (meets_before p name) (paths_of all) ≡ false = any_join (meets_before p name) owned pkg before ∙ neither (list_any (meets_before p name) (paths_of owned)) (list_any (meets_before p name) before) is.least_owned is.least_earlier in
    same_find all p name is.met (any_join (bytes_eq name) owned pkg before ∙ there) none all none

none_with : (name : List ℕ) (owned : List OwnedPath) → list_any (bytes_eq name) (paths_of owned) ≡ false → find (has_key path_of name) owned ≡ None
none_with name [] none = refl
none_with name (one ∷ owned) none =
    ap (λ b. cond b (Some one) (find (has_key path_of name) owned)) (turned one.path (left_false (bytes_eq name one.path) (list_any (bytes_eq name) (paths_of owned)) none))
    ∙ none_with name owned (right_false (bytes_eq name one.path) (list_any (bytes_eq name) (paths_of owned)) none)
  where
    turned : (path : List ℕ) → bytes_eq name path ≡ false → bytes_eq path name ≡ false
    turned path not_is =
        elim (cases_Bool (bytes_eq path name)) [
          | inl is ↦ let e : bytes_eq name path ≡ true = ap (bytes_eq name) (same_bytes path name is) ∙ itself name in absurd cc
          | inr is ↦ is
        ]

own_with : (name : List ℕ) (pkg : Pkg) (before : List (List ℕ)) → list_any (bytes_eq name) before ≡ true → find (has_key path_of name) (map (λ path. owned_by path pkg) before) ≡ Some (owned_by name pkg)
own_with name pkg [] there = absurd cc
own_with name pkg (path ∷ before) there = by (bytes_eq path name) refl (own_with name pkg before)
  where
    by : (b : Bool) → bytes_eq path name ≡ b → (list_any (bytes_eq name) before ≡ true → find (has_key path_of name) (map (λ q. owned_by q pkg) before) ≡ Some (owned_by name pkg))
        → cond b (Some (owned_by path pkg)) (find (has_key path_of name) (map (λ q. owned_by q pkg) before)) ≡ Some (owned_by name pkg)
    by true same later = ap (λ q. Some (owned_by q pkg)) (same_bytes path name same)
    by false other later = later (not_first (bytes_eq name path) refl there)
      where
        not_first : (b : Bool) → bytes_eq name path ≡ b → (b || list_any (bytes_eq name) before) ≡ true → list_any (bytes_eq name) before ≡ true
        not_first true same there = let e : bytes_eq path name ≡ true = ap (λ q. bytes_eq q name) (sym (same_bytes name path same)) ∙ itself name in absurd cc
        not_first false same there = there

less_is : (a b : ℕ) → nat_lt a b ≡ true → a < b
less_is a b is = grind (arith, nat_tests)

-- an earlier path is named: it counts as the package's own
pub met_earlier : (owned : List OwnedPath) (pkg : Pkg) (before : List (List ℕ)) (p : List ℕ) (k : ℕ) → IsLeastMet (paths_of owned) before p (Earlier k)
    → least_met (with_own owned pkg before) p ≡ Some (owned_by (get_or before k []) pkg)
met_earlier owned pkg before p k is =
    let name = get_or before k [] in
    let here = any_at name before k (less_is k (length before) is.there) refl in
    let none = not_true (list_any (bytes_eq name) (paths_of owned)) is.owned_first in
    least_by_name owned pkg before p (Earlier k) is (right (list_any (bytes_eq name) (paths_of owned)) (list_any (bytes_eq name) before) here)
    ∙ find_join (has_key path_of name) owned (map (λ path. owned_by path pkg) before)
    ∙ ap (λ found. option_or found (find (has_key path_of name) (map (λ path. owned_by path pkg) before))) (none_with name owned none)
    ∙ own_with name pkg before here
  where
    not_true : (b : Bool) → not b ≡ true → b ≡ false
    not_true true is = absurd cc
    not_true false is = refl

-- an owned path is named, with the first that owns it
found_named : (name : List ℕ) (owned : List OwnedPath) (owner : Pkg) → owner_of name owned ≡ Some owner → find (has_key path_of name) owned ≡ Some (owned_by name owner)
found_named name [] owner is = absurd cc
found_named name (one ∷ owned) owner is = by (bytes_eq one.path name) refl is (found_named name owned owner)
  where
    by : (b : Bool) → bytes_eq one.path name ≡ b → option_map owner_at (cond b (Some one) (find (has_key path_of name) owned)) ≡ Some owner
        → (owner_of name owned ≡ Some owner → find (has_key path_of name) owned ≡ Some (owned_by name owner))
        → cond b (Some one) (find (has_key path_of name) owned) ≡ Some (owned_by name owner)
    by true same is later =
        let whose : one.owner ≡ owner = cc in
        ap (λ (q : List ℕ). Some (owned_by q one.owner)) (same_bytes one.path name same) ∙ ap (λ (o : Pkg). Some (owned_by name o)) whose
    by false same is later = later is

pub met_owned : (owned : List OwnedPath) (pkg owner : Pkg) (before : List (List ℕ)) (p : List ℕ) (k : ℕ) → IsLeastMet (paths_of owned) before p (Owned k)
    → owner_of (get_or (paths_of owned) k []) owned ≡ Some owner
    → least_met (with_own owned pkg before) p ≡ Some (owned_by (get_or (paths_of owned) k []) owner)
met_owned owned pkg owner before p k is whose =
    let name = get_or (paths_of owned) k [] in
    let here = any_at name (paths_of owned) k (less_is k (length (paths_of owned)) is.there) refl in
    least_by_name owned pkg before p (Owned k) is (left (list_any (bytes_eq name) (paths_of owned)) (list_any (bytes_eq name) before) here)
    ∙ find_join (has_key path_of name) owned (map (λ path. owned_by path pkg) before)
    ∙ ap (λ found. option_or found (find (has_key path_of name) (map (λ path. owned_by path pkg) before))) (found_named name owned owner whose)

-- it is owned
pub owned_there : (owned : List OwnedPath) (k : ℕ) (path : List ℕ) (owner : Pkg) → slice_get owned k ≡ Some (owned_by path owner) → get_or (paths_of owned) k [] ≡ path
owned_there [] k path owner is = absurd cc
owned_there (one ∷ owned) zero path owner is = let e : one ≡ owned_by path owner = cc in ap path_of e
owned_there (one ∷ owned) (suc k) path owner is = owned_there owned k path owner is

pub never_unowned : (owned : List OwnedPath) (before : List (List ℕ)) (p : List ℕ) (k : ℕ) → IsLeastMet (paths_of owned) before p (Owned k) → owner_of (get_or (paths_of owned) k []) owned ≡ None → ⊥
never_unowned owned before p k is none =
    let name = get_or (paths_of owned) k [] in
    found_not owned name (any_at name (paths_of owned) k (less_is k (length (paths_of owned)) is.there) refl) none
  where
    found_not : (xs : List OwnedPath) (name : List ℕ) → list_any (bytes_eq name) (paths_of xs) ≡ true → owner_of name xs ≡ None → ⊥
    found_not [] name there none = cc
    found_not (one ∷ xs) name there none = by (bytes_eq one.path name) refl none (found_not xs name)
      where
        by : (b : Bool) → bytes_eq one.path name ≡ b → option_map owner_at (cond b (Some one) (find (has_key path_of name) xs)) ≡ None → (list_any (bytes_eq name) (paths_of xs) ≡ true → owner_of name xs ≡ None → ⊥) → ⊥
        by true same none later = cc
        by false other none later = later (not_first (bytes_eq name one.path) refl there) none
          where
            not_first : (b : Bool) → bytes_eq name one.path ≡ b → (b || list_any (bytes_eq name) (paths_of xs)) ≡ true → list_any (bytes_eq name) (paths_of xs) ≡ true
            not_first true same there = let e : bytes_eq one.path name ≡ true = ap (λ q. bytes_eq q name) (sym (same_bytes name one.path same)) ∙ itself name in absurd cc
            not_first false same there = there

-- ---- the reasons

pub at_default : (xs : List (List ℕ)) (k : ℕ) (a b : List ℕ) → k < length xs → get_or xs k a ≡ get_or xs k b
at_default [] k a b lt = absurd (omega arith)
at_default (x ∷ xs) zero a b lt = refl
at_default (x ∷ xs) (suc k) a b lt = at_default xs k a b (omega arith)

at_front : (n : ℕ) (xs : List (List ℕ)) (k : ℕ) (d : List ℕ) → k < length (take n xs) → get_or (take n xs) k d ≡ get_or xs k d
at_front zero xs k d lt = absurd (omega arith)
at_front (suc n) [] k d lt = absurd (omega arith)
at_front (suc n) (x ∷ xs) zero d lt = refl
at_front (suc n) (x ∷ xs) (suc k) d lt = at_front n xs k d (omega arith)

front_within : (n : ℕ) (xs : List (List ℕ)) (k : ℕ) → k < length (take n xs) → k < length xs
front_within zero xs k lt = absurd (omega arith)
front_within (suc n) [] k lt = absurd (omega arith)
front_within (suc n) (x ∷ xs) zero lt = omega arith
front_within (suc n) (x ∷ xs) (suc k) lt = let later = front_within n xs k (omega arith) in omega (arith, later)

-- what is said of a path, and what the definition says
told_reason : (all : List OwnedPath) (whole path name : List ℕ) (owner : Pkg) (result : Result Reason OutOfMemory) → whole ≡ path → least_met all whole ≡ Some (owned_by name owner)
    → IfOk result (λ reason. reason ≡ met_reason path (owned_by name owner)) → IfOk result (λ reason. Some reason ≡ option_map (met_reason whole) (least_met all whole))
told_reason all whole path name owner (Ok reason) same least is =
    ap (λ (r : Reason). Some r) (is ∙ ap (λ (q : List ℕ). met_reason q (owned_by name owner)) (sym same)) ∙ sym (ap (option_map (met_reason whole)) least)
told_reason all whole path name owner (Err fault) same least is = tt

abbrev ReasonIs : List OwnedPath → Pkg → List (List ℕ) → ℕ → Result Reason OutOfMemory → Type 0
ReasonIs owned pkg paths index result =
    IfOk result (λ reason. Some reason ≡ option_map (met_reason (get_or paths index [])) (least_met (with_own owned pkg (take index paths)) (get_or paths index [])))

pub earlier_reason : (owned : List OwnedPath) (pkg : Pkg) (paths : List (List ℕ)) (clash : Clash) (place : ℕ) (path other : List ℕ) (result : Result Reason OutOfMemory)
    → IsClash (paths_of owned) paths clash → clash.other ≡ Earlier place → path ≡ get_or paths clash.index path → other ≡ get_or paths place other
    → IfOk result (λ reason. reason ≡ met_reason path (owned_by other pkg)) → ReasonIs owned pkg paths clash.index result
earlier_reason owned pkg paths clash place path other result is named here there reason =
    let before = take clash.index paths in
    let whole = get_or paths clash.index [] in
    let least : IsLeastMet (paths_of owned) before whole (Earlier place) = subst (IsLeastMet (paths_of owned) before whole) named is.least in
    let within = less_is place (length before) least.there in
    let name = at_front clash.index paths place [] within ∙ at_default paths place [] other (front_within clash.index paths place within) ∙ sym there in
    told_reason (with_own owned pkg before) whole path other pkg result (at_default paths clash.index [] path is.within ∙ sym here)
    (met_earlier owned pkg before whole place least ∙ ap (λ (q : List ℕ). Some (owned_by q pkg)) name) reason

pub owned_reason : (owned : List OwnedPath) (pkg owner given : Pkg) (paths : List (List ℕ)) (clash : Clash) (place : ℕ) (path other : List ℕ) (result : Result Reason OutOfMemory)
    → IsClash (paths_of owned) paths clash → clash.other ≡ Owned place → path ≡ get_or paths clash.index path → slice_get owned place ≡ Some (owned_by other given) → owner_of other owned ≡ Some owner
    → IfOk result (λ reason. reason ≡ met_reason path (owned_by other owner)) → ReasonIs owned pkg paths clash.index result
owned_reason owned pkg owner given paths clash place path other result is named here there whose reason =
    let before = take clash.index paths in
    let whole = get_or paths clash.index [] in
    let least : IsLeastMet (paths_of owned) before whole (Owned place) = subst (IsLeastMet (paths_of owned) before whole) named is.least in
    let name = owned_there owned place other given there in
    told_reason (with_own owned pkg before) whole path other owner result (at_default paths clash.index [] path is.within ∙ sym here)
    (met_owned owned pkg owner before whole place least (ap (λ (q : List ℕ). owner_of q owned) name ∙ whose) ∙ ap (λ (q : List ℕ). Some (owned_by q owner)) name) reason

pub owner_there : (owned : List OwnedPath) (given : Pkg) (paths : List (List ℕ)) (clash : Clash) (place : ℕ) (other : List ℕ) → IsClash (paths_of owned) paths clash → clash.other ≡ Owned place
    → slice_get owned place ≡ Some (owned_by other given) → owner_of other owned ≡ None → ⊥
owner_there owned given paths clash place other is named there none =
    never_unowned owned (take clash.index paths) (get_or paths clash.index []) place (subst (IsLeastMet (paths_of owned) (take clash.index paths) (get_or paths clash.index [])) named is.least)
    (ap (λ (q : List ℕ). owner_of q owned) (owned_there owned place other given there) ∙ none)
