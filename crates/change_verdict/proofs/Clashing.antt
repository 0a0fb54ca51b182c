-- The first clash of paths, by those that are free of owners and by files of the disk.
use Rattle.std.proofs.Common.{◌≡◌, inl, inr, ℕ, zero, suc, ◌+◌, ◌<◌, ◌≤◌, Bool, true, false, not, cond, List, [], ◌∷◌, ◌++◌, length, get_or, take, drop, append_assoc, Option, Some, None, refl, sym, ap, ◌∙◌, subst, arith}
use Rattle.std.specs.Prelude.{◌&&◌, ◌||◌, bytes_eq, Result, Ok, Err, IfOk, IfSome, IfNone}
use Rattle.std.specs.FinMap.{keys}
use Rattle.std.specs.List.{find, list_any}
use Rattle.std.specs.Option.{option_map, option_or}
use Rattle.std.proofs.lemmas.Bool.{cases_Bool}
use Rattle.std.proofs.lemmas.List.{append-nil, drop_all, drop_more, take-append-drop, take_all, take_more}
use Rattle.crash_disk.specs.Disks.{Tree}
use Rattle.opam_names.specs.declared.packages.Pkg.{Pkg}
use Rattle.path_order.specs.Apart.{meets}
use Rattle.owner_map.specs.Clashes.{IsClash, IsFree, NoneClash, meets_before}
use Rattle.owner_map.specs.Owning.{paths_of}
use Rattle.owner_map.specs.declared.clash.Clash.{Clash}
use Rattle.owner_map.specs.declared.owned.OwnedPath.{OwnedPath}
use Rattle.switch_journal.specs.Places.{is_inside}
use Rattle.change_verdict.specs.Clash.{clash_after, clash_at, first_clash_of, is_foreign_file, is_least_met, least_met, meets_foreign_file, met_reason, reason_at, with_own}
use Rattle.change_verdict.specs.Near.{first_foreign_of, meets_outside}
use Rattle.crash_disk.specs.declared.disk.DiskFault.{DiskFault}
use Rattle.change_verdict.specs.declared.reason.Reason.{Reason}
use Rattle.change_verdict.specs.declared.reason.Reason.TheVariants.{Foreign}
use Rattle.change_verdict.proofs.LeastMet.{any_join, any_of, left_false, right_false}
use Rattle.change_verdict.proofs.OwnFolder.{same_any}

neither : (a b : Bool) → a ≡ false → b ≡ false → (a || b) ≡ false
neither a b p q = rw (p, q) refl

-- ---- a path that meets none

none_met : (all : List OwnedPath) (p : List ℕ) (xs : List OwnedPath) → list_any (meets p) (paths_of xs) ≡ false → find (is_least_met all p) xs ≡ None
none_met all p [] none = refl
none_met all p (one ∷ xs) none =
    ap (λ b. cond (b && not (list_any (meets_before p one.path) (paths_of all))) (Some one) (find (is_least_met all p) xs)) (left_false (meets p one.path) (list_any (meets p) (paths_of xs)) none)
    ∙ none_met all p xs (right_false (meets p one.path) (list_any (meets p) (paths_of xs)) none)

free_least : (owned : List OwnedPath) (pkg : Pkg) (before : List (List ℕ)) (p : List ℕ) → IsFree (paths_of owned) before p → least_met (with_own owned pkg before) p ≡ None
free_least owned pkg before p free =
    none_met (with_own owned pkg before) p (with_own owned pkg before) (any_join (meets p) owned pkg before ∙ neither (list_any (meets p) (paths_of owned)) (list_any (meets p) before) free.of_owned free.of_earlier)

-- of a path that meets no owned one all files that it meets outside are foreign
foreign_one : (owned : List OwnedPath) (p q : List ℕ) → list_any (meets p) (paths_of owned) ≡ false → (is_foreign_file owned q && meets p q) ≡ (not (is_inside q) && meets p q)
foreign_one owned p q none =
    elim (cases_Bool (list_any (bytes_eq q) (paths_of owned))) [
      | inr not_owned ↦ by (not (is_inside q)) (list_any (bytes_eq q) (paths_of owned)) (meets p q) not_owned
      | inl is ↦ away (not (is_inside q)) (not (list_any (bytes_eq q) (paths_of owned))) (meets p q) (not_met (meets p q) refl is)
    ]
  where
    by : (a b m : Bool) → b ≡ false → ((a && not b) && m) ≡ (a && m)
    by true b m is = ap (λ c. not c && m) is
    by false b m is = refl

    away : (a b m : Bool) → m ≡ false → ((a && b) && m) ≡ (a && m)
    away true true m is = refl
    away true false m is = sym is
    away false b m is = refl

    not_met : (m : Bool) → meets p q ≡ m → list_any (bytes_eq q) (paths_of owned) ≡ true → m ≡ false
    not_met true meet is = let e : list_any (meets p) (paths_of owned) ≡ true = any_of (meets p) q (paths_of owned) meet is in absurd cc
    not_met false meet is = refl

pub foreign_outside : (tree : Tree) (owned : List OwnedPath) (p : List ℕ) → list_any (meets p) (paths_of owned) ≡ false → meets_foreign_file tree owned p ≡ meets_outside tree p
foreign_outside tree owned p none = same_any (λ file. is_foreign_file owned file && meets p file) (λ file. not (is_inside file) && meets p file) (keys tree) (λ q. foreign_one owned p q none)

free_clash : (tree : Tree) (owned : List OwnedPath) (pkg : Pkg) (before : List (List ℕ)) (p : List ℕ) → IsFree (paths_of owned) before p → clash_at tree owned pkg before p ≡ reason_at p None (meets_outside tree p)
free_clash tree owned pkg before p free =
    ap (λ o. reason_at p o (meets_foreign_file tree owned p)) (free_least owned pkg before p free)
    ∙ ap (λ b. reason_at p None b) (foreign_outside tree owned p free.of_owned)

-- ---- a list of them

abbrev pub AllFree : List (List ℕ) → List (List ℕ) → List (List ℕ) → Type 0
AllFree owned before [] = Unit {0}
AllFree owned before (path ∷ paths) = IsFree owned before path × AllFree owned (before ++ path ∷ []) paths

pub free_front : (tree : Tree) (owned : List OwnedPath) (pkg : Pkg) (before front rest : List (List ℕ)) → AllFree (paths_of owned) before front
    → clash_after tree owned pkg before (front ++ rest) ≡ option_or (first_foreign_of tree front) (clash_after tree owned pkg (before ++ front) rest)
free_front tree owned pkg before [] rest free = ap (λ l. clash_after tree owned pkg l rest) (sym (append-nil before))
free_front tree owned pkg before (path ∷ front) rest free =
    ap (λ o. option_or o (clash_after tree owned pkg (before ++ path ∷ []) (front ++ rest))) (free_clash tree owned pkg before path free.0)
    ∙ by (meets_outside tree path) (free_front tree owned pkg (before ++ path ∷ []) front rest free.1 ∙ ap (λ l. option_or (first_foreign_of tree front) (clash_after tree owned pkg l rest)) (append_assoc before (path ∷ []) front))
  where
    by : (b : Bool) → clash_after tree owned pkg (before ++ path ∷ []) (front ++ rest) ≡ option_or (first_foreign_of tree front) (clash_after tree owned pkg (before ++ path ∷ front) rest)
        → option_or (reason_at path None b) (clash_after tree owned pkg (before ++ path ∷ []) (front ++ rest))
        ≡ option_or (cond b (Some (Foreign path)) (first_foreign_of tree front)) (clash_after tree owned pkg (before ++ path ∷ front) rest)
    by true later = refl
    by false later = later

-- those at places from j on are free
free_from : (owned paths : List (List ℕ)) (n j m : ℕ) → NoneClash owned paths n → j + m ≡ n → n ≤ length paths → AllFree owned (take j paths) (take m (drop j paths))
free_from owned paths n j zero none is le = tt
free_from owned paths n j (suc m) none is le =
    let within : j < length paths = omega arith in
    let next = drop_more paths j [] within in
    subst (λ l. AllFree owned (take j paths) (take (suc m) l)) (sym next)
    (none j (omega arith), subst (λ l. AllFree owned l (take m (drop (j + 1) paths))) (take_more paths j [] within) (free_from owned paths n (j + 1) m none (omega arith) le))

pub all_free : (owned paths : List (List ℕ)) (n : ℕ) → NoneClash owned paths n → n ≤ length paths → AllFree owned [] (take n paths)
all_free owned paths n none le = free_from owned paths n 0 n none (omega arith) le

pub clash_split : (tree : Tree) (owned : List OwnedPath) (pkg : Pkg) (paths : List (List ℕ)) (n : ℕ) → NoneClash (paths_of owned) paths n → n ≤ length paths
    → first_clash_of tree owned pkg paths ≡ option_or (first_foreign_of tree (take n paths)) (clash_after tree owned pkg (take n paths) (drop n paths))
clash_split tree owned pkg paths n none le =
    ap (first_clash_of tree owned pkg) (sym (take-append-drop n paths)) ∙ free_front tree owned pkg [] (take n paths) (drop n paths) (all_free (paths_of owned) paths n none le)

or_none : {X : Type 0} (o : Option X) → option_or o None ≡ o
or_none None = refl
or_none (Some x) = refl

-- ---- the answers

-- owners bar none
pub no_owner : (tree : Tree) (owned : List OwnedPath) (pkg : Pkg) (paths : List (List ℕ)) → NoneClash (paths_of owned) paths (length paths) → first_foreign_of tree paths ≡ first_clash_of tree owned pkg paths
no_owner tree owned pkg paths none =
    sym (clash_split tree owned pkg paths (length paths) none (omega arith)
    ∙ ap (λ l. option_or (first_foreign_of tree l) (clash_after tree owned pkg (take (length paths) paths) (drop (length paths) paths))) (take_all (length paths) paths (omega arith))
    ∙ ap (λ l. option_or (first_foreign_of tree paths) (clash_after tree owned pkg (take (length paths) paths) l)) (drop_all (length paths) paths (omega arith))
    ∙ or_none (first_foreign_of tree paths))

-- a file bars one before the first that owners bar
pub foreign_first : (tree : Tree) (owned : List OwnedPath) (pkg : Pkg) (paths : List (List ℕ)) (clash : Clash) (reason : Reason) → IsClash (paths_of owned) paths clash
    → Some reason ≡ first_foreign_of tree (take clash.index paths) → Some reason ≡ first_clash_of tree owned pkg paths
foreign_first tree owned pkg paths clash reason is found =
    sym (clash_split tree owned pkg paths clash.index is.first (let lt = is.within in omega (arith, lt)) ∙ ap (λ o. option_or o (clash_after tree owned pkg (take clash.index paths) (drop clash.index paths))) (sym found))

-- none does, and owners bar that one
pub owner_first : (tree : Tree) (owned : List OwnedPath) (pkg : Pkg) (paths : List (List ℕ)) (clash : Clash) (reason : Reason) → IsClash (paths_of owned) paths clash
    → None ≡ first_foreign_of tree (take clash.index paths)
    → Some reason ≡ option_map (met_reason (get_or paths clash.index [])) (least_met (with_own owned pkg (take clash.index paths)) (get_or paths clash.index []))
    → Some reason ≡ first_clash_of tree owned pkg paths
owner_first tree owned pkg paths clash reason is none said =
    let before = take clash.index paths in
    let path = get_or paths clash.index [] in
    let rest = drop (clash.index + 1) paths in
    sym (clash_split tree owned pkg paths clash.index is.first (let lt = is.within in omega (arith, lt))
    ∙ ap (λ o. option_or o (clash_after tree owned pkg before (drop clash.index paths))) (sym none)
    ∙ ap (clash_after tree owned pkg before) (drop_more paths clash.index [] is.within)
    ∙ ap (λ o. option_or o (clash_after tree owned pkg (before ++ path ∷ []) rest)) (by (least_met (with_own owned pkg before) path) said))
  where
    by : (o : Option OwnedPath) → Some reason ≡ option_map (met_reason (get_or paths clash.index [])) o
        → reason_at (get_or paths clash.index []) o (meets_foreign_file tree owned (get_or paths clash.index [])) ≡ Some reason
    by None said = absurd cc
    by (Some one) said = sym said

-- ---- the loop over files of the disk

pub foreign_next : (tree : Tree) (paths : List (List ℕ)) (i : ℕ) (path : List ℕ) → path ≡ get_or paths i path → i < length paths → meets_outside tree path ≡ false
    → first_foreign_of tree (drop (i + 1) paths) ≡ first_foreign_of tree (drop i paths)
foreign_next tree paths i path here within none =
    sym (ap (first_foreign_of tree) (drop_more paths i path within ∙ ap (λ p. p ∷ drop (i + 1) paths) (sym here)) ∙ ap (λ b. cond b (Some (Foreign path)) (first_foreign_of tree (drop (i + 1) paths))) none)

pub foreign_here : (tree : Tree) (paths : List (List ℕ)) (i : ℕ) (path : List ℕ) → path ≡ get_or paths i path → i < length paths → meets_outside tree path ≡ true
    → Some (Foreign path) ≡ first_foreign_of tree (drop i paths)
foreign_here tree paths i path here within is =
    sym (ap (first_foreign_of tree) (drop_more paths i path within ∙ ap (λ p. p ∷ drop (i + 1) paths) (sym here)) ∙ ap (λ b. cond b (Some (Foreign path)) (first_foreign_of tree (drop (i + 1) paths))) is)

-- ---- the same, as the code has it

abbrev Texts : Type 0
Texts = List (List ℕ)

some_clash : (owned paths seen : Texts) (found : Option Clash) (clash : Clash) → seen ≡ paths → found ≡ Some clash → IfSome found (IsClash owned seen) → IsClash owned paths clash
some_clash owned paths seen None clash same is said = absurd cc
some_clash owned paths seen (Some other) clash same is said =
    let e : other ≡ clash = cc in subst (λ l. IsClash owned l clash) same (subst (IsClash owned seen) e said)

none_clash : (owned paths seen : Texts) (found : Option Clash) → seen ≡ paths → found ≡ None → IfNone found (NoneClash owned seen (length seen)) → NoneClash owned paths (length paths)
none_clash owned paths seen None same is said = subst (λ l. NoneClash owned l (length l)) same said
none_clash owned paths seen (Some clash) same is said = absurd cc

pub told_none : (tree : Tree) (owned : List OwnedPath) (pkg : Pkg) (paths seen looked : Texts) (found : Option Clash) (result : Result (Option Reason) DiskFault) → seen ≡ paths → looked ≡ paths → found ≡ None
    → IfNone found (NoneClash (paths_of owned) seen (length seen)) → IfOk result (λ first. first ≡ first_foreign_of tree looked) → IfOk result (λ first. first ≡ first_clash_of tree owned pkg paths)
told_none tree owned pkg paths seen looked found (Ok first) same also is said told =
    told ∙ ap (first_foreign_of tree) also ∙ no_owner tree owned pkg paths (none_clash (paths_of owned) paths seen found same is said)
told_none tree owned pkg paths seen looked found (Err fault) same also is said told = tt

pub told_foreign : (tree : Tree) (owned : List OwnedPath) (pkg : Pkg) (paths seen looked front : Texts) (found : Option Clash) (clash : Clash) (first : Option Reason) (reason : Reason) → seen ≡ paths → looked ≡ paths
    → front ≡ take clash.index looked → found ≡ Some clash → IfSome found (IsClash (paths_of owned) seen) → first ≡ first_foreign_of tree front → first ≡ Some reason → Some reason ≡ first_clash_of tree owned pkg paths
told_foreign tree owned pkg paths seen looked front found clash first reason same also cut is said told one =
    foreign_first tree owned pkg paths clash reason (some_clash (paths_of owned) paths seen found clash same is said)
    (sym one ∙ told ∙ ap (first_foreign_of tree) (cut ∙ ap (take clash.index) also))

pub told_owner : (tree : Tree) (owned : List OwnedPath) (pkg : Pkg) (paths seen looked front asked : Texts) (found : Option Clash) (clash : Clash) (first : Option Reason) (reason : Reason) → seen ≡ paths → looked ≡ paths
    → front ≡ take clash.index looked → asked ≡ paths → found ≡ Some clash → IfSome found (IsClash (paths_of owned) seen) → first ≡ first_foreign_of tree front → first ≡ None
    → Some reason ≡ option_map (met_reason (get_or asked clash.index [])) (least_met (with_own owned pkg (take clash.index asked)) (get_or asked clash.index []))
    → Some reason ≡ first_clash_of tree owned pkg paths
told_owner tree owned pkg paths seen looked front asked found clash first reason same also cut third is said told none reasoned =
    owner_first tree owned pkg paths clash reason (some_clash (paths_of owned) paths seen found clash same is said)
    (sym none ∙ told ∙ ap (first_foreign_of tree) (cut ∙ ap (take clash.index) also))
    (subst (λ (l : Texts). Some reason ≡ option_map (met_reason (get_or l clash.index [])) (least_met (with_own owned pkg (take clash.index l)) (get_or l clash.index []))) third reasoned)
