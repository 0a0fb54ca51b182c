-- Files that come meet no file of nobody, and a package that comes back meets nothing of what is installed.
use Rattle.std.proofs.Common.{◌≡◌, ◌∙◌, ℕ, List, [], ◌∷◌, ◌++◌, Bool, true, false, not, cond, filter, suc, zero, Option, Some, None, refl, sym, ap}
use Rattle.std.specs.Prelude.{◌&&◌, ◌||◌, IsFalse, IsSome, bytes_eq, find, slice_get, if◌then◌else◌}
use Rattle.std.specs.FinMap.{get}
use Rattle.std.specs.List.{list_any}
use Rattle.std.specs.Option.{option_and_then, option_map, option_or}
use Rattle.std.proofs.lemmas.Bool.{false≢true}
use Rattle.std.proofs.lemmas.Slice.Eq.{bytes_eq-Decides}
use Rattle.opam_names.specs.ByteOrders.{in_order_by, precedes, put_by}
use Rattle.opam_names.specs.Paths.{is_above}
use Rattle.opam_names.specs.declared.packages.Pkg.{Pkg}
use Rattle.opam_package.specs.Dependencies.{is_forbidden, is_other}
use Rattle.opam_package.specs.declared.package.Member.{Member}
use Rattle.opam_package.specs.declared.package.Package.{Package}
use Rattle.path_order.specs.Apart.{meets}
use Rattle.owner_map.specs.Owning as owning
use Rattle.owner_map.specs.declared.owned.OwnedPath.{OwnedPath}
use Rattle.journal_text.specs.Parts.{paths_of}
use Rattle.journal_text.specs.declared.record.Placed.{Placed}
use Rattle.crash_disk.specs.Disks.{Tree}
use Rattle.switch_journal.specs.Places.{is_inside}
use Rattle.switch_state.specs.Sound.{IsForeign, is_against, member_pkg, name_of, share_class}
use Rattle.switch_state.specs.SoundLaws.{Suits}
use Rattle.switch_state.specs.State.{SwitchState}
use Rattle.switch_state.proofs.SoundKept.{bytes_back, bytes_self, is_false, neither, or_left, or_right}
use Rattle.change_verdict.specs.Clash.{clash_after, clash_at, first_clash_of, is_foreign_file, least_met, meets_foreign_file, reason_at, with_own}
use Rattle.change_verdict.specs.Verdicts.{in_path_order, install_verdict, unless_clash, unless_full, would_be_full}
use Rattle.change_verdict.specs.declared.reason.Reason.{Reason}
use Rattle.change_verdict.specs.declared.reason.Reason.TheVariants.{SwitchFull}
use Rattle.change_verdict.specs.declared.verdict.Sources.{Sources}
use Rattle.change_verdict.specs.declared.verdict.Sources.TheVariants.{Found, Refused}
use Rattle.change_verdict.specs.declared.verdict.Verdict.TheVariants.{Places, Fails}
use Rattle.back_verdict.specs.Backs.{class_with, conflicts, first_shared, is_met, is_needed_by, least_named, shares, why_away, why_clash, why_class, why_conflict, why_full, why_late, why_unfit, why_unmet}
use Rattle.back_verdict.specs.declared.why.Why.TheVariants.{Clash, Class, Conflict, Late, Unmet}
use Rattle.change_outcome.proofs.Lists.{both}
use Rattle.change_outcome.proofs.Ordered.{any_ordered, some_key}
use Rattle.change_outcome.proofs.Returning.{or_second}

first_none : {X : Type 0} (one other : Option X) → option_or one other ≡ None → one ≡ None
first_none None other is = refl
first_none (Some x) other is = absurd cc

second_none : {X : Type 0} (one other : Option X) → option_or one other ≡ None → other ≡ None
second_none None other is = is
second_none (Some x) other is = absurd cc

mapped_none : {X Y : Type 0} (f : X → Y) (o : Option X) → option_map f o ≡ None → o ≡ None
mapped_none f None is = refl
mapped_none f (Some x) is = absurd cc

-- ---- where no clash is told, no path meets a foreign file

no_foreign : (path : List ℕ) (one : Option OwnedPath) (foreign : Bool) → reason_at path one foreign ≡ None → foreign ≡ false
no_foreign path (Some one) foreign is = absurd cc
no_foreign path None true is = absurd cc
no_foreign path None false is = refl

none_foreign : (tree : Tree) (owned : List OwnedPath) (pkg : Pkg) (before paths : List (List ℕ)) → clash_after tree owned pkg before paths ≡ None → list_any (meets_foreign_file tree owned) paths ≡ false
none_foreign tree owned pkg before [] none = refl
none_foreign tree owned pkg before (path ∷ paths) none =
    let here = first_none (clash_at tree owned pkg before path) (clash_after tree owned pkg (before ++ path ∷ []) paths) none in
    neither (meets_foreign_file tree owned path) (list_any (meets_foreign_file tree owned) paths)
    (no_foreign path (least_met (with_own owned pkg before) path) (meets_foreign_file tree owned path) here)
    (none_foreign tree owned pkg (before ++ path ∷ []) paths (second_none (clash_at tree owned pkg before path) (clash_after tree owned pkg (before ++ path ∷ []) paths) none))

eq_back : (p q : List ℕ) → bytes_eq p q ≡ bytes_eq q p
eq_back p q = by (bytes_eq p q) refl
  where
    by : (b : Bool) → bytes_eq p q ≡ b → b ≡ bytes_eq q p
    by true is = sym ((bytes_eq-Decides q p).1 (sym ((bytes_eq-Decides p q).0 is)))
    by false is = sym (bytes_back p q is)

pub meets_back : (p q : List ℕ) → meets p q ≡ meets q p
meets_back p q = swap (bytes_eq p q) (is_above p q) (is_above q p) ∙ ap (λ b. (b || is_above q p) || is_above p q) (eq_back p q)
  where
    or_nothing : (c : Bool) → c ≡ (c || false)
    or_nothing true = refl
    or_nothing false = refl

    swap : (a b c : Bool) → ((a || b) || c) ≡ ((a || c) || b)
    swap true b c = refl
    swap false true true = refl
    swap false true false = refl
    swap false false c = or_nothing c

none_meets : (tree : Tree) (owned : List OwnedPath) (paths : List (List ℕ)) (path : List ℕ) → list_any (meets_foreign_file tree owned) paths ≡ false → IsSome (get tree path) → is_foreign_file owned path ≡ true → list_any (meets path) paths ≡ false
none_meets tree owned [] path none there foreign = refl
none_meets tree owned (p ∷ paths) path none there foreign =
    neither (meets path p) (list_any (meets path) paths)
    (is_false (meets path p) (λ met.
    false≢true (sym (or_left (meets_foreign_file tree owned p) (list_any (meets_foreign_file tree owned) paths) none)
    ∙ some_key tree (λ file. is_foreign_file owned file && meets p file) path there (both (is_foreign_file owned path) (meets p path) foreign (meets_back p path ∙ met)))))
    (none_meets tree owned paths path (or_right (meets_foreign_file tree owned p) (list_any (meets_foreign_file tree owned) paths) none) there foreign)

apart_from : (state : SwitchState) (tree : Tree) (paths : List (List ℕ)) → list_any (meets_foreign_file tree state.owned) paths ≡ false → (path : List ℕ) → IsForeign state tree path → IsFalse (list_any (meets path) paths)
apart_from state tree paths none path foreign =
    none_meets tree state.owned paths path none foreign.1
    (both (not (is_inside path)) (not (list_any (bytes_eq path) (owning.paths_of state.owned))) (ap not foreign.0) (ap not foreign.2))

placed_foreign : (tree : Tree) (owned : List OwnedPath) (pkg : Pkg) (brings : Sources) (files : List Placed) → install_verdict tree owned pkg brings ≡ Places files → list_any (meets_foreign_file tree owned) (paths_of files) ≡ false
placed_foreign tree owned pkg (Refused reason) files is = absurd cc
placed_foreign tree owned pkg (Found found) files is = by (first_clash_of tree owned pkg (paths_of found)) refl is
  where
    full : (b : Bool) → (if b then Fails SwitchFull else Places (in_path_order found)) ≡ Places files → files ≡ in_path_order found
    full true is = absurd cc
    full false is = cc

    by : (clash : Option Reason) → first_clash_of tree owned pkg (paths_of found) ≡ clash → unless_clash clash (unless_full owned found) ≡ Places files → list_any (meets_foreign_file tree owned) (paths_of files) ≡ false
    by (Some reason) clash is = absurd cc
    by None clash is =
        (let order = full (would_be_full owned found) is in
        ap (λ fs. list_any (meets_foreign_file tree owned) (paths_of fs)) order ∙ any_ordered (meets_foreign_file tree owned) found ∙ none_foreign tree owned pkg [] (paths_of found) clash)

-- the files of a verdict that places them
pub placed_apart : (state : SwitchState) (tree : Tree) (pkg : Pkg) (brings : Sources) (files : List Placed) → install_verdict tree state.owned pkg brings ≡ Places files
    → (path : List ℕ) → IsForeign state tree path → IsFalse (list_any (meets path) (paths_of files))
placed_apart state tree pkg brings files is = apart_from state tree (paths_of files) (placed_foreign tree state.owned pkg brings files is)

-- ---- a package against which nothing is told suits what is installed

some_put : {X : Type 0} (key : X → List ℕ) (x : X) (xs : List X) → slice_get (put_by key x xs) 0 ≡ None → ⊥
some_put key x [] is = absurd cc
some_put key x (y ∷ xs) is = by (precedes (key y) (key x)) is
  where
    by : (b : Bool) → slice_get (if b then y ∷ put_by key x xs else x ∷ y ∷ xs) 0 ≡ None → ⊥
    by true is = absurd cc
    by false is = absurd cc

least_none : (members : List Member) → least_named members ≡ None → members ≡ []
least_none [] is = refl
least_none (m ∷ members) is = absurd (some_put name_of m (in_order_by name_of members) is)

filter_none : (t : Member → Bool) (members : List Member) → filter t members ≡ [] → list_any t members ≡ false
filter_none t [] is = refl
filter_none t (m ∷ members) is = by (t m) refl is (filter_none t members)
  where
    by : (b : Bool) → t m ≡ b → cond b (m ∷ filter t members) (filter t members) ≡ [] → (filter t members ≡ [] → list_any t members ≡ false) → (t m || list_any t members) ≡ false
    by true here is later = absurd cc
    by false here is later = neither (t m) (list_any t members) here (later is)

-- two packages share a class where the second shares one with the first
has_class : (class : List ℕ) (classes : List (List ℕ)) → list_any (bytes_eq class) classes ≡ true → (t : List ℕ → Bool) → t class ≡ true → list_any t classes ≡ true
has_class class [] is t here = absurd (false≢true is)
has_class class (c ∷ classes) is t here = by (bytes_eq class c) refl is (λ later. has_class class classes later t here)
  where
    by : (b : Bool) → bytes_eq class c ≡ b → (b || list_any (bytes_eq class) classes) ≡ true → (list_any (bytes_eq class) classes ≡ true → list_any t classes ≡ true) → (t c || list_any t classes) ≡ true
    by true same is later = (let e = ap t (sym ((bytes_eq-Decides class c).0 same)) ∙ here in rw e refl)
    by false other is later = or_second (t c) (list_any t classes) (later is)

share_wider : (c : List ℕ) (classes xs : List (List ℕ)) → list_any (λ class. list_any (bytes_eq class) classes) xs ≡ true → list_any (λ class. list_any (bytes_eq class) (c ∷ classes)) xs ≡ true
share_wider c classes [] is = absurd (false≢true is)
share_wider c classes (x ∷ xs) is = by (list_any (bytes_eq x) classes) refl is (share_wider c classes xs)
  where
    by : (b : Bool) → list_any (bytes_eq x) classes ≡ b → (b || list_any (λ class. list_any (bytes_eq class) classes) xs) ≡ true
        → (list_any (λ class. list_any (bytes_eq class) classes) xs ≡ true → list_any (λ class. list_any (bytes_eq class) (c ∷ classes)) xs ≡ true)
        → (list_any (bytes_eq x) (c ∷ classes) || list_any (λ class. list_any (bytes_eq class) (c ∷ classes)) xs) ≡ true
    by true here is later = (let e = or_second (bytes_eq x c) (list_any (bytes_eq x) classes) here in rw e refl)
    by false here is later = or_second (list_any (bytes_eq x) (c ∷ classes)) (list_any (λ class. list_any (bytes_eq class) (c ∷ classes)) xs) (later is)

share_turned : (others classes : List (List ℕ)) → list_any (λ class. list_any (bytes_eq class) others) classes ≡ true → list_any (λ class. list_any (bytes_eq class) classes) others ≡ true
share_turned others [] is = absurd (false≢true is)
share_turned others (c ∷ classes) is = by (list_any (bytes_eq c) others) refl is (share_turned others classes)
  where
    by : (b : Bool) → list_any (bytes_eq c) others ≡ b → (b || list_any (λ class. list_any (bytes_eq class) others) classes) ≡ true
        → (list_any (λ class. list_any (bytes_eq class) others) classes ≡ true → list_any (λ class. list_any (bytes_eq class) classes) others ≡ true)
        → list_any (λ class. list_any (bytes_eq class) (c ∷ classes)) others ≡ true
    by true here is later = has_class c others here (λ class. list_any (bytes_eq class) (c ∷ classes)) (let e = bytes_self c in rw e refl)
    by false here is later = share_wider c classes others (later is)

shares_back : (one other : Package) → share_class one other ≡ true → share_class other one ≡ true
shares_back one other is = share_turned other.classes one.classes is

-- a test that one of two tests meets
none_of : (f g h : Member → Bool) (members : List Member) → ((m : Member) → f m ≡ false → g m ≡ false → h m ≡ false) → list_any f members ≡ false → list_any g members ≡ false → list_any h members ≡ false
none_of f g h [] less one two = refl
none_of f g h (m ∷ members) less one two =
    neither (h m) (list_any h members) (less m (or_left (f m) (list_any f members) one) (or_left (g m) (list_any g members) two))
    (none_of f g h members less (or_right (f m) (list_any f members) one) (or_right (g m) (list_any g members) two))

nothing_against : (other forbidden shared : Bool) → forbidden ≡ false → shared ≡ false → (other && (forbidden || shared)) ≡ false
nothing_against true forbidden shared one two = neither forbidden shared one two
nothing_against false forbidden shared one two = refl

class_found : (class : List ℕ → Bool) (classes : List (List ℕ)) → list_any class classes ≡ true → find class classes ≡ None → ⊥
class_found class [] is none = false≢true is
class_found class (c ∷ classes) is none = by (class c) is none (class_found class classes)
  where
    by : (b : Bool) → (b || list_any class classes) ≡ true → (if b then Some c else find class classes) ≡ None → (list_any class classes ≡ true → find class classes ≡ None → ⊥) → ⊥
    by true is none later = absurd cc
    by false is none later = later is none

-- each passes
abbrev AllAre : (Member → Bool) → List Member → Type 0
AllAre t members = (n : ℕ) (m : Member) → slice_get members n ≡ Some m → t m ≡ true

none_are : (t : Member → Bool) → AllAre t []
none_are t n m is = absurd cc

one_are : (t : Member → Bool) (x : Member) (members : List Member) → t x ≡ true → AllAre t members → AllAre t (x ∷ members)
one_are t x members here all zero m is = (let e : x ≡ m = cc in ap t (sym e) ∙ here)
one_are t x members here all (suc n) m is = all n m is

kept_are : (t : Member → Bool) (members : List Member) → AllAre t (filter t members)
kept_are t [] = none_are t
kept_are t (x ∷ members) = by (t x) refl (kept_are t members)
  where
    by : (b : Bool) → t x ≡ b → AllAre t (filter t members) → AllAre t (cond b (x ∷ filter t members) (filter t members))
    by true here later = one_are t x (filter t members) here later
    by false here later = later

put_are : (t : Member → Bool) (x : Member) (members : List Member) → t x ≡ true → AllAre t members → AllAre t (put_by name_of x members)
put_are t x [] here all = one_are t x [] here all
put_are t x (y ∷ members) here all = by (precedes (name_of y) (name_of x)) (all 0 y refl) (put_are t x members here (λ n m is. all (suc n) m is))
  where
    by : (b : Bool) → t y ≡ true → AllAre t (put_by name_of x members) → AllAre t (if b then y ∷ put_by name_of x members else x ∷ y ∷ members)
    by true first later = one_are t y (put_by name_of x members) first later
    by false first later = one_are t x (y ∷ members) here all

ordered_are : (t : Member → Bool) (members : List Member) → AllAre t members → AllAre t (in_order_by name_of members)
ordered_are t [] all = none_are t
ordered_are t (x ∷ members) all = put_are t x (in_order_by name_of members) (all 0 x refl) (ordered_are t members (λ n m is. all (suc n) m is))

-- none shares a class where none is told
none_share : (entries : List Member) (old : Member) → why_class entries old ≡ None → list_any (shares old) entries ≡ false
none_share entries old none = filter_none (shares old) entries (least_none (filter (shares old) entries) (by (least_named (filter (shares old) entries)) refl none))
  where
    by : (least : Option Member) → least_named (filter (shares old) entries) ≡ least → option_and_then (class_with old) least ≡ None → least_named (filter (shares old) entries) ≡ None
    by None is none = is
    by (Some m) is none =
        absurd (class_found (λ class. list_any (bytes_eq class) m.package.classes) old.package.classes (ordered_are (shares old) (filter (shares old) entries) (kept_are (shares old) entries) 0 m is)
        (mapped_none (λ class. Class class (member_pkg m)) (first_shared old m) none))

pub back_suits : (state : SwitchState) (tree : Tree) (old : Member) (files : List Placed) → why_away tree state.owned state.members old files ≡ None → Suits state tree old files
back_suits state tree old files none =
    let entries = state.members in
    let unfit = first_none (why_unfit entries old) (option_or (why_full state.owned entries old files) (why_clash tree state.owned old files)) none in
    let other = second_none (why_unfit entries old) (option_or (why_full state.owned entries old files) (why_clash tree state.owned old files)) none in
    let clash = mapped_none Clash (first_clash_of tree state.owned (member_pkg old) (paths_of files)) (second_none (why_full state.owned entries old files) (why_clash tree state.owned old files) other) in
    let unmet = first_none (why_unmet entries old) (option_or (why_conflict entries old) (option_or (why_class entries old) (why_late entries old))) unfit in
    let rest = second_none (why_unmet entries old) (option_or (why_conflict entries old) (option_or (why_class entries old) (why_late entries old))) unfit in
    let conflict = first_none (why_conflict entries old) (option_or (why_class entries old) (why_late entries old)) rest in
    let last = second_none (why_conflict entries old) (option_or (why_class entries old) (why_late entries old)) rest in
    let shared = none_share entries old (first_none (why_class entries old) (why_late entries old) last) in
    let late = second_none (why_class entries old) (why_late entries old) last in
    let conflicting = filter_none (conflicts old) entries (least_none (filter (conflicts old) entries) (mapped_none (λ entry. Conflict (member_pkg entry)) (least_named (filter (conflicts old) entries)) conflict)) in
    record {
      runs = met (is_met entries old) unmet;
      last = filter_none (is_needed_by old) entries (least_none (filter (is_needed_by old) entries) (mapped_none (λ entry. Late (member_pkg entry)) (least_named (filter (is_needed_by old) entries)) late));
      agreed =
          none_of (conflicts old) (shares old) (λ (m : Member). is_against m.package old.package) entries
          (λ m one two. nothing_against (is_other m.package (member_pkg old)) (is_forbidden m.package (member_pkg old)) (share_class m.package old.package)
          (or_right (is_forbidden old.package (member_pkg m)) (is_forbidden m.package (member_pkg old)) one)
          (is_false (share_class m.package old.package) (λ is. false≢true (sym two ∙ shares_back m.package old.package is))))
          conflicting shared;
      agrees =
          none_of (conflicts old) (shares old) (λ (m : Member). is_against old.package m.package) entries
          (λ m one two. nothing_against (is_other old.package (member_pkg m)) (is_forbidden old.package (member_pkg m)) (share_class old.package m.package)
          (or_left (is_forbidden old.package (member_pkg m)) (is_forbidden m.package (member_pkg old)) one) two)
          conflicting shared;
      foreign = apart_from state tree (paths_of files) (none_foreign tree state.owned (member_pkg old) [] (paths_of files) clash);
    }
  where
    met : (b : Bool) → (if b then None else Some Unmet) ≡ None → b ≡ true
    met true is = refl
    met false is = absurd cc
