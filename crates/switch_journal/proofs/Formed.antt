-- What a journal says is well formed, record by record.
use Rattle.std.proofs.Common.{◌≡◌, ◌∙◌, ℕ, zero, suc, List, [], ◌∷◌, ◌++◌, map, filter, fold, Bool, true, false, not, cond, refl, sym, ap, subst, Option, Some, None}
use Rattle.std.specs.Prelude.{◌&&◌, ◌||◌, bytes_eq, is_some, slice_get, if◌then◌else◌}
use Rattle.std.specs.List.{AllByRecursion, IsDistinct, cons_option, filter_map, list_all, list_any}
use Rattle.std.specs.List.Sorted.{IsStrictlySortedBy}
use Rattle.std.specs.Option.{option_map}
use Rattle.std.specs.declared.cmp.Ordering.TheVariants.{Less}
use Rattle.std.proofs.lemmas.Bool.{false≢true}
use Rattle.std.proofs.lemmas.Slice.Eq.{bytes_eq-Decides}
use Rattle.std.proofs.lemmas.List.{map-append}
use Rattle.opam_names.specs.ByteOrders.{RisesBy, byte_order, precedes, put_by}
use Rattle.opam_names.specs.declared.packages.Pkg.{Pkg}
use Rattle.opam_names.proofs.ByteOrders.{apart_of}
use Rattle.owner_map.specs.Owning.{is_of_another, is_same_pkg, owned_by, path_of}
use Rattle.owner_map.specs.Owning as owning
use Rattle.owner_map.specs.declared.owned.OwnedPath.{OwnedPath}
use Rattle.journal_text.specs.Parts.{is_own, own_name, paths_of}
use Rattle.journal_text.specs.Records.{IsInOrder}
use Rattle.journal_text.specs.Slots.{IsSlotInOrder, entry_names, is_among, owned_paths}
use Rattle.journal_text.specs.declared.record.Entry.{Entry}
use Rattle.journal_text.specs.declared.record.KeptFiles.{KeptFiles}
use Rattle.journal_text.specs.declared.record.Placed.{Placed}
use Rattle.journal_text.specs.declared.record.Rec.{Rec}
use Rattle.journal_text.specs.declared.record.Rec.TheVariants.{Begin, End, Install, PutBack, Remove}
use Rattle.journal_text.specs.declared.slot.Owned.{Owned}
use Rattle.journal_text.specs.declared.slot.Snapshot.{Snapshot}
use Rattle.switch_journal.specs.Applying.{are_removed, begun, can_come, ended, has_name, installed, is_another, is_before_all_back, is_kept_removal, is_named, is_of, is_put_back, is_same_entry, only_if, own, put_back, removed, with_done, with_package, without_package}
use Rattle.switch_journal.specs.Contents.{Contents, entry_of}
use Rattle.switch_journal.specs.Formed.{AreRootsFormed, IsFormed, IsFormedIn, IsInstalledFormed}
use Rattle.switch_journal.specs.Journal.{said_by}
use Rattle.switch_journal.specs.Places.{record_path}
use Rattle.switch_journal.specs.Reading.{after_record, empty_contents, name_of_standing, owned_with, slot_contents, standing_of}
use Rattle.switch_journal.specs.declared.request.Done.{Done}
use Rattle.switch_journal.specs.declared.request.Done.TheVariants as done
use Rattle.switch_journal.specs.declared.request.Open.{Open}
use Rattle.switch_journal.specs.declared.standing.Standing.{Standing}
use Rattle.switch_journal.proofs.Applied.{begun_is, ended_is, installed_is, old_installed_is, old_removed_is, put_back_is, removed_is}

or_left : (a b : Bool) → (a || b) ≡ false → a ≡ false
or_left true b is = absurd (false≢true (sym is))
or_left false b is = refl

or_right : (a b : Bool) → (a || b) ≡ false → b ≡ false
or_right true b is = absurd (false≢true (sym is))
or_right false b is = is

neither : (a b : Bool) → a ≡ false → b ≡ false → (a || b) ≡ false
neither a b one two = rw (one, two) refl

and_left : (a b : Bool) → (a && b) ≡ true → a ≡ true
and_left true b is = refl
and_left false b is = absurd (false≢true is)

and_right : (a b : Bool) → (a && b) ≡ true → b ≡ true
and_right true b is = is
and_right false b is = absurd (false≢true is)

both_true : (a b : Bool) → a ≡ true → b ≡ true → (a && b) ≡ true
both_true a b one two = rw (one, two) refl

not_true : (b : Bool) → not b ≡ true → b ≡ false
not_true true is = absurd (false≢true is)
not_true false is = refl

is_false : (b : Bool) → (b ≡ true → ⊥) → b ≡ false
is_false true never = absurd (never refl)
is_false false never = refl

bytes_back : (a b : List ℕ) → bytes_eq a b ≡ false → bytes_eq b a ≡ false
bytes_back a b other = is_false (bytes_eq b a) (λ same. false≢true (sym other ∙ (bytes_eq-Decides a b).1 (sym ((bytes_eq-Decides b a).0 same))))

bytes_self : (a : List ℕ) → bytes_eq a a ≡ true
bytes_self a = (bytes_eq-Decides a a).1 refl

pkg_self : (pkg : Pkg) → is_same_pkg pkg pkg ≡ true
pkg_self pkg = both_true (bytes_eq pkg.name pkg.name) (bytes_eq pkg.version pkg.version) (bytes_self pkg.name) (bytes_self pkg.version)

-- ---- names

distinct_last : (names : List (List ℕ)) (name : List ℕ) → list_any (bytes_eq name) names ≡ false → IsDistinct bytes_eq names → IsDistinct bytes_eq (names ++ name ∷ [])
unfolding IsDistinct
distinct_last [] name none apart = (tt, tt)
distinct_last (x ∷ names) name none apart =
    (all_last names apart.0, distinct_last names name (or_right (bytes_eq name x) (list_any (bytes_eq name) names) none) apart.1)
  where
    all_last : (ys : List (List ℕ)) → AllByRecursion (λ y. bytes_eq x y ≡ false) ys → AllByRecursion (λ y. bytes_eq x y ≡ false) (ys ++ name ∷ [])
    all_last [] all = (bytes_back name x (or_left (bytes_eq name x) (list_any (bytes_eq name) names) none), tt)
    all_last (y ∷ ys) all = (all.0, all_last ys all.1)

module _ {X : Type 0} (keep : X → Bool) (key : X → List ℕ) where
  all_left : (P : List ℕ → Type 0) (xs : List X) → AllByRecursion P (map key xs) → AllByRecursion P (map key (filter keep xs))
  all_left P [] all = tt
  all_left P (x ∷ xs) all = by (keep x) (all_left P xs all.1)
    where
      by : (b : Bool) → AllByRecursion P (map key (filter keep xs)) → AllByRecursion P (map key (cond b (x ∷ filter keep xs) (filter keep xs)))
      by true later = (all.0, later)
      by false later = later

  distinct_left : (xs : List X) → IsDistinct bytes_eq (map key xs) → IsDistinct bytes_eq (map key (filter keep xs))
  unfolding IsDistinct
  distinct_left [] apart = tt
  distinct_left (x ∷ xs) apart = by (keep x) (distinct_left xs apart.1)
    where
      by : (b : Bool) → IsDistinct bytes_eq (map key (filter keep xs)) → IsDistinct bytes_eq (map key (cond b (x ∷ filter keep xs) (filter keep xs)))
      by true later = (all_left (λ y. bytes_eq (key x) y ≡ false) xs apart.0, later)
      by false later = later

map_own : (names : List (List ℕ)) → map own_name names ≡ names
map_own [] = refl
map_own (name ∷ names) = ap (λ (ns : List (List ℕ)). name ∷ ns) (map_own names)

roots_left : (keep : List ℕ → Bool) (names : List (List ℕ)) → IsDistinct bytes_eq names → IsDistinct bytes_eq (filter keep names)
roots_left keep names apart = subst (IsDistinct bytes_eq) (map_own (filter keep names)) (distinct_left keep own_name names (subst (IsDistinct bytes_eq) (sym (map_own names)) apart))

-- names that rise differ
later_differ : (x : List ℕ) (ys : List (List ℕ)) → AllByRecursion (λ y. byte_order x y ≡ Less) ys → AllByRecursion (λ y. bytes_eq x y ≡ false) ys
later_differ x [] all = tt
later_differ x (y ∷ ys) all = (bytes_back y x (apart_of x y all.0), later_differ x ys all.1)

sorted_differ : (names : List (List ℕ)) → IsStrictlySortedBy byte_order names → IsDistinct bytes_eq names
unfolding IsStrictlySortedBy IsDistinct
sorted_differ [] rise = tt
sorted_differ (x ∷ names) rise = (later_differ x names rise.0, sorted_differ names rise.1)

risen_differ : (names : List (List ℕ)) → RisesBy own_name names → IsDistinct bytes_eq names
risen_differ names rise = sorted_differ names (subst (IsStrictlySortedBy byte_order) (map_own names) rise)

-- ---- what is installed

abbrev names : List Standing → List (List ℕ)
names standing = map name_of_standing standing

abbrev stands : List Standing → Pkg → Bool
stands standing pkg = list_any (is_of pkg) (map entry_of standing)

named_is : (name : List ℕ) (standing : List Standing) → list_any (is_named name) (map entry_of standing) ≡ list_any (bytes_eq name) (names standing)
named_is name [] = refl
named_is name (s ∷ standing) = ap (λ b. bytes_eq name s.entry.pkg.name || b) (named_is name standing)

names_last : (standing : List Standing) (s : Standing) → list_any (is_named s.entry.pkg.name) (map entry_of standing) ≡ false → IsDistinct bytes_eq (names standing) → IsDistinct bytes_eq (names (standing ++ s ∷ []))
names_last standing s none differ =
    subst (IsDistinct bytes_eq) (sym (map-append name_of_standing standing (s ∷ []))) (distinct_last (names standing) s.entry.pkg.name (sym (named_is s.entry.pkg.name standing) ∙ none) differ)

stands_front : (pkg : Pkg) (standing : List Standing) (s : Standing) → stands standing pkg ≡ true → stands (standing ++ s ∷ []) pkg ≡ true
stands_front pkg [] s is = absurd (false≢true is)
stands_front pkg (x ∷ standing) s is = by (is_of pkg x.entry) is (stands_front pkg standing s)
  where
    by : (b : Bool) → (b || stands standing pkg) ≡ true → (stands standing pkg ≡ true → stands (standing ++ s ∷ []) pkg ≡ true) → (b || stands (standing ++ s ∷ []) pkg) ≡ true
    by true is later = refl
    by false is later = later is

stands_last : (pkg : Pkg) (standing : List Standing) (s : Standing) → is_of pkg s.entry ≡ true → stands (standing ++ s ∷ []) pkg ≡ true
stands_last pkg [] s is = ap (λ b. b || false) is
stands_last pkg (x ∷ standing) s is = or_true (is_of pkg x.entry) (stands (standing ++ s ∷ []) pkg) (stands_last pkg standing s is)
  where
    or_true : (a b : Bool) → b ≡ true → (a || b) ≡ true
    or_true true b is = refl
    or_true false b is = is

-- ---- whose the paths are

module _ (t : OwnedPath → Bool) where
  all_put_by : (x y : OwnedPath) (ys : List OwnedPath) (b : Bool) → t x ≡ true → list_all t (y ∷ ys) ≡ true → list_all t (put_by path_of x ys) ≡ true → list_all t (if b then y ∷ put_by path_of x ys else x ∷ y ∷ ys) ≡ true
  all_put_by x y ys true here all later = both_true (t y) (list_all t (put_by path_of x ys)) (and_left (t y) (list_all t ys) all) later
  all_put_by x y ys false here all later = both_true (t x) (list_all t (y ∷ ys)) here all

  all_put : (x : OwnedPath) (ys : List OwnedPath) → t x ≡ true → list_all t ys ≡ true → list_all t (put_by path_of x ys) ≡ true
  all_put x [] here all = both_true (t x) true here refl
  all_put x (y ∷ ys) here all = all_put_by x y ys (precedes y.path x.path) here all (all_put x ys here (and_right (t y) (list_all t ys) all))

  all_fold : (pkg : Pkg) (paths : List (List ℕ)) (owned : List OwnedPath) → ((path : List ℕ) → t (owned_by path pkg) ≡ true) → list_all t owned ≡ true → list_all t (fold (own pkg) owned paths) ≡ true
  all_fold pkg [] owned here all = all
  all_fold pkg (path ∷ paths) owned here all = all_fold pkg paths (own pkg owned path) here (all_put (owned_by path pkg) owned (here path) all)

all_more : (s t : OwnedPath → Bool) (owned : List OwnedPath) → ((o : OwnedPath) → s o ≡ true → t o ≡ true) → list_all s owned ≡ true → list_all t owned ≡ true
all_more s t [] more all = refl
all_more s t (o ∷ owned) more all = both_true (t o) (list_all t owned) (more o (and_left (s o) (list_all s owned) all)) (all_more s t owned more (and_right (s o) (list_all s owned) all))

abbrev is_owned : List Standing → OwnedPath → Bool
is_owned standing o = stands standing o.owner

owners_last : (standing : List Standing) (s : Standing) (paths : List (List ℕ)) (owned : List OwnedPath) → list_all (is_owned standing) owned ≡ true → list_all (is_owned (standing ++ s ∷ [])) (fold (own s.entry.pkg) owned paths) ≡ true
owners_last standing s paths owned all =
    all_fold (is_owned (standing ++ s ∷ [])) s.entry.pkg paths owned (λ path. stands_last s.entry.pkg standing s (pkg_self s.entry.pkg))
    (all_more (is_owned standing) (is_owned (standing ++ s ∷ [])) owned (λ o is. stands_front o.owner standing s is) all)

module _ (pkg : Pkg) where
  same_then : (a b c : Pkg) → is_same_pkg a b ≡ true → is_same_pkg a c ≡ true → is_same_pkg b c ≡ true
  same_then a b c one two =
      let name = (bytes_eq-Decides a.name b.name).0 (and_left (bytes_eq a.name b.name) (bytes_eq a.version b.version) one) in
      let version = (bytes_eq-Decides a.version b.version).0 (and_right (bytes_eq a.name b.name) (bytes_eq a.version b.version) one) in
      (λ i. bytes_eq (sym name i) c.name && bytes_eq (sym version i) c.version) ∙ two

  clash : (a b : Bool) → not a ≡ false → not b ≡ true → (a ≡ true → b ≡ true) → ⊥
  clash true true one two more = false≢true two
  clash true false one two more = false≢true (more refl)
  clash false b one two more = false≢true (sym one)

  entry_left : (standing : List Standing) (o : OwnedPath) → is_of_another pkg o ≡ true → is_owned standing o ≡ true → is_owned (filter (is_another pkg) standing) o ≡ true
  entry_left [] o other is = is
  entry_left (s ∷ standing) o other is = by (is_of o.owner s.entry) (is_another pkg s) refl refl is (entry_left standing o other)
    where
      by : (a b : Bool) → is_of o.owner s.entry ≡ a → is_another pkg s ≡ b → (a || is_owned standing o) ≡ true → (is_owned standing o ≡ true → is_owned (filter (is_another pkg) standing) o ≡ true)
          → is_owned (cond b (s ∷ filter (is_another pkg) standing) (filter (is_another pkg) standing)) o ≡ true
      by true true here kept any more = ap (λ b. b || is_owned (filter (is_another pkg) standing) o) here
      by true false here kept any more = absurd (clash (is_same_pkg s.entry.pkg pkg) (is_same_pkg o.owner pkg) kept other (same_then s.entry.pkg o.owner pkg here))
      by false true here kept any more = ap (λ b. b || is_owned (filter (is_another pkg) standing) o) here ∙ more any
      by false false here kept any more = more any

  owners_left : (standing : List Standing) (owned : List OwnedPath) → list_all (is_owned standing) owned ≡ true → list_all (is_owned (filter (is_another pkg) standing)) (filter (is_of_another pkg) owned) ≡ true
  owners_left standing [] all = refl
  owners_left standing (o ∷ owned) all = by (is_of_another pkg o) refl (owners_left standing owned (and_right (is_owned standing o) (list_all (is_owned standing) owned) all))
    where
      left : List OwnedPath
      left = filter (is_of_another pkg) owned

      by : (b : Bool) → is_of_another pkg o ≡ b → list_all (is_owned (filter (is_another pkg) standing)) (filter (is_of_another pkg) owned) ≡ true
          → list_all (is_owned (filter (is_another pkg) standing)) (cond b (o ∷ filter (is_of_another pkg) owned) (filter (is_of_another pkg) owned)) ≡ true
      by true other later =
          both_true (is_owned (filter (is_another pkg) standing) o) (list_all (is_owned (filter (is_another pkg) standing)) (filter (is_of_another pkg) owned))
          (entry_left standing o other (and_left (is_owned standing o) (list_all (is_owned standing) owned) all)) later
      by false other later = later

  paths_left : (t : List ℕ → Bool) (owned : List OwnedPath) → list_any t (owning.paths_of owned) ≡ false → list_any t (owning.paths_of (filter (is_of_another pkg) owned)) ≡ false
  paths_left t [] none = refl
  paths_left t (o ∷ owned) none = by (is_of_another pkg o) (paths_left t owned (or_right (t o.path) (list_any t (owning.paths_of owned)) none))
    where
      by : (b : Bool) → list_any t (owning.paths_of (filter (is_of_another pkg) owned)) ≡ false → list_any t (owning.paths_of (cond b (o ∷ filter (is_of_another pkg) owned) (filter (is_of_another pkg) owned))) ≡ false
      by true later = neither (t o.path) (list_any t (owning.paths_of (filter (is_of_another pkg) owned))) (or_left (t o.path) (list_any t (owning.paths_of owned)) none) later
      by false later = later

-- ---- the paths themselves

module _ (t : List ℕ → Bool) where
  none_put_by : (x y : OwnedPath) (ys : List OwnedPath) (b : Bool) → t x.path ≡ false → (t y.path || list_any t (owning.paths_of ys)) ≡ false → list_any t (owning.paths_of (put_by path_of x ys)) ≡ false
      → list_any t (owning.paths_of (if b then y ∷ put_by path_of x ys else x ∷ y ∷ ys)) ≡ false
  none_put_by x y ys true here none later = neither (t y.path) (list_any t (owning.paths_of (put_by path_of x ys))) (or_left (t y.path) (list_any t (owning.paths_of ys)) none) later
  none_put_by x y ys false here none later = neither (t x.path) (t y.path || list_any t (owning.paths_of ys)) here none

  none_put : (x : OwnedPath) (ys : List OwnedPath) → t x.path ≡ false → list_any t (owning.paths_of ys) ≡ false → list_any t (owning.paths_of (put_by path_of x ys)) ≡ false
  none_put x [] here none = neither (t x.path) false here refl
  none_put x (y ∷ ys) here none = none_put_by x y ys (precedes y.path x.path) here none (none_put x ys here (or_right (t y.path) (list_any t (owning.paths_of ys)) none))

  fold_none : (pkg : Pkg) (paths : List (List ℕ)) (owned : List OwnedPath) → list_any t paths ≡ false → list_any t (owning.paths_of owned) ≡ false → list_any t (owning.paths_of (fold (own pkg) owned paths)) ≡ false
  fold_none pkg [] owned new old = old
  fold_none pkg (path ∷ paths) owned new old =
      fold_none pkg paths (own pkg owned path) (or_right (t path) (list_any t paths) new) (none_put (owned_by path pkg) owned (or_left (t path) (list_any t paths) new) old)

-- ---- packages come and go

comes_formed : (from : List ℕ) (pkg : Pkg) (opam : List ℕ) (files : List Placed) (c : Contents) → can_come pkg files c ≡ true → list_any is_own (paths_of files) ≡ false → IsInstalledFormed c → IsInstalledFormed (with_package from pkg opam files c)
comes_formed from pkg opam files c can own_free formed =
    let s : Standing = record { entry = record { pkg = pkg; opam = opam }; from = from } in
    record {
      names = names_last c.standing s (not_true (has_name pkg.name c) (and_left (not (has_name pkg.name c)) _ can)) formed.names;
      free = fold_none is_own pkg (paths_of files) c.owned own_free formed.free;
      owners = owners_last c.standing s (paths_of files) c.owned formed.owners;
    }

goes_formed : (pkg : Pkg) (c : Contents) → IsInstalledFormed c → IsInstalledFormed (without_package pkg c)
goes_formed pkg c formed = record {
  names = distinct_left (is_another pkg) name_of_standing c.standing formed.names;
  free = paths_left pkg is_own c.owned formed.free;
  owners = owners_left pkg c.standing c.owned formed.owners;
}

-- ---- records

said_can : (can : Bool) (x after : Contents) → only_if can x ≡ Some after → can ≡ true
said_can true x after is = refl
said_can false x after is = absurd (cc)

-- all that is said but roots and request
same_installed : (what : Done) (request : Open) (c after : Contents) → with_done what request c ≡ after → IsInstalledFormed c → IsInstalledFormed after
same_installed what request c after is formed = subst IsInstalledFormed is (record { names = formed.names; free = formed.free; owners = formed.owners })

same_roots : (what : Done) (request : Open) (c before after : Contents) → c.roots ≡ before.roots → with_done what request c ≡ after → AreRootsFormed before → AreRootsFormed after
same_roots what request c before after roots is formed = subst AreRootsFormed is (record { differ = subst (IsDistinct bytes_eq) (sym roots) formed.differ; asked = λ none. absurd (cc) })

install_can : (from : List ℕ) (pkg : Pkg) (opam : List ℕ) (files : List Placed) (c : Contents) (request : Open) (after : Contents) → installed from pkg opam files c (Some request) ≡ Some after → can_come pkg files c ≡ true
install_can from pkg opam files c request after is =
    and_right (are_removed request && not (list_any is_put_back request.done) && list_any (is_same_entry (record { pkg = pkg; opam = opam })) request.target) (can_come pkg files c)
    (said_can (are_removed request && not (list_any is_put_back request.done) && list_any (is_same_entry (record { pkg = pkg; opam = opam })) request.target && can_come pkg files c)
    (with_done (done.Installed pkg) request (with_package from pkg opam files c)) after is)

back_can : (from : List ℕ) (pkg : Pkg) (opam : List ℕ) (files : List Placed) (c : Contents) (request : Open) (after : Contents) → put_back from pkg opam files c (Some request) ≡ Some after → can_come pkg files c ≡ true
back_can from pkg opam files c request after is =
    and_right (are_removed request && list_any (is_kept_removal pkg) request.done && list_any (is_named pkg.name) request.target && is_before_all_back pkg request) (can_come pkg files c)
    (said_can (are_removed request && list_any (is_kept_removal pkg) request.done && list_any (is_named pkg.name) request.target && is_before_all_back pkg request && can_come pkg files c)
    (with_done (done.PutBack pkg) request (with_package from pkg opam files c)) after is)

-- names that are installed are left
all_filtered : (t : List ℕ → Bool) (xs : List (List ℕ)) → list_all t (filter t xs) ≡ true
all_filtered t [] = refl
all_filtered t (x ∷ xs) = by (t x) refl (all_filtered t xs)
  where
    by : (b : Bool) → t x ≡ b → list_all t (filter t xs) ≡ true → list_all t (cond b (x ∷ filter t xs) (filter t xs)) ≡ true
    by true is later = both_true (t x) (list_all t (filter t xs)) is later
    by false is later = later

install_formed : (from : List ℕ) (pkg : Pkg) (opam : List ℕ) (files : List Placed) (c : Contents) (request : Option Open) (after : Contents) → list_any is_own (paths_of files) ≡ false → installed from pkg opam files c request ≡ Some after → IsFormed c
    → IsFormed after
install_formed from pkg opam files c None after own_free is formed = absurd (cc)
install_formed from pkg opam files c (Some request) after own_free is formed =
    let came = with_package from pkg opam files c in
    let same = (installed_is from pkg opam files c request after is).same in
    record {
      installed = same_installed (done.Installed pkg) request came after same (comes_formed from pkg opam files c (install_can from pkg opam files c request after is) own_free formed.installed);
      roots = same_roots (done.Installed pkg) request came c after refl same formed.roots;
    }

back_formed : (from : List ℕ) (pkg : Pkg) (opam : List ℕ) (files : List Placed) (c : Contents) (request : Option Open) (after : Contents) → list_any is_own (paths_of files) ≡ false → put_back from pkg opam files c request ≡ Some after → IsFormed c
    → IsFormed after
back_formed from pkg opam files c None after own_free is formed = absurd (cc)
back_formed from pkg opam files c (Some request) after own_free is formed =
    let came = with_package from pkg opam files c in
    let same = (put_back_is from pkg opam files c request after is).same in
    record {
      installed = same_installed (done.PutBack pkg) request came after same (comes_formed from pkg opam files c (back_can from pkg opam files c request after is) own_free formed.installed);
      roots = same_roots (done.PutBack pkg) request came c after refl same formed.roots;
    }

removal_formed : (number : ℕ) (pkg : Pkg) (kept : Option KeptFiles) (c : Contents) (request : Option Open) (after : Contents) → removed number pkg kept c request ≡ Some after → IsFormed c → IsFormed after
removal_formed number pkg kept c None after is formed = absurd (cc)
removal_formed number pkg kept c (Some request) after is formed =
    let left = without_package pkg c in
    let same = (removed_is number pkg kept c request after is).same in
    record {
      installed = same_installed (done.Removed pkg number (is_some kept)) request left after same (goes_formed pkg c formed.installed);
      roots = same_roots (done.Removed pkg number (is_some kept)) request left c after refl same formed.roots;
    }

begin_formed : (from : List ℕ) (roots : List (List ℕ)) (target : List Entry) (removals : List Pkg) (c : Contents) (request : Option Open) (after : Contents) → RisesBy own_name roots → begun from roots target removals c request ≡ Some after → IsFormed c
    → IsFormed after
begin_formed from roots target removals c (Some request) after rise is formed = absurd (cc)
begin_formed from roots target removals c None after rise is formed =
    subst IsFormed (begun_is from roots target removals c after is).same
    (record {
      installed = record { names = formed.installed.names; free = formed.installed.free; owners = formed.installed.owners };
      roots = record { differ = risen_differ roots rise; asked = λ none. absurd (cc) };
    })

end_formed : (c : Contents) (request : Option Open) (after : Contents) → ended c request ≡ Some after → IsFormed c → IsFormed after
end_formed c None after is formed = absurd (cc)
end_formed c (Some request) after is formed =
    subst IsFormed (ended_is c request after is).same
    (record {
      installed = record { names = formed.installed.names; free = formed.installed.free; owners = formed.installed.owners };
      roots = record { differ = roots_left (λ name. has_name name c) c.roots formed.roots.differ; asked = λ none. all_filtered (λ name. has_name name c) c.roots };
    })

new_formed : (k : ℕ) (entry : Rec) (c after : Contents) → IsInOrder entry → after_record false k entry c ≡ Some after → IsFormed c → IsFormed after
new_formed k (Install pkg opam files) c after ordered is formed = install_formed (record_path k) pkg opam files c c.request after ordered.free is formed
new_formed k (PutBack pkg opam files) c after ordered is formed = back_formed (record_path k) pkg opam files c c.request after ordered.free is formed
new_formed k (Remove pkg kept) c after ordered is formed = removal_formed k pkg kept c c.request after is formed
new_formed k (Begin roots target removals) c after ordered is formed = begin_formed (record_path k) roots target removals c c.request after ordered.roots_rise is formed
new_formed k End c after ordered is formed = end_formed c c.request after is formed

old_formed : (k : ℕ) (entry : Rec) (c after : Contents) → IsInOrder entry → after_record true k entry c ≡ Some after → IsInstalledFormed c → IsInstalledFormed after
old_formed k (Install pkg opam files) c after ordered is formed =
    subst IsInstalledFormed (old_installed_is (record_path k) pkg opam files c after is).same
    (comes_formed (record_path k) pkg opam files c (said_can (can_come pkg files c) (with_package (record_path k) pkg opam files c) after is) ordered.free formed)
old_formed k (Remove pkg kept) c after ordered is formed = subst IsInstalledFormed (old_removed_is pkg c after is).same (goes_formed pkg c formed)
old_formed k (PutBack pkg opam files) c after ordered is formed = absurd (cc)
old_formed k (Begin roots target removals) c after ordered is formed = absurd (cc)
old_formed k End c after ordered is formed = absurd (cc)

pub record_formed : (old : Bool) (k : ℕ) (entry : Rec) (c after : Contents) → IsInOrder entry → after_record old k entry c ≡ Some after → IsFormedIn old c → IsFormedIn old after
record_formed true k entry c after ordered is formed = record { installed = old_formed k entry c after ordered is formed.installed; roots = λ new. absurd (cc) }
record_formed false k entry c after ordered is formed =
    let all = new_formed k entry c after ordered is (record { installed = formed.installed; roots = formed.roots refl }) in
    record { installed = all.installed; roots = λ new. all.roots }

-- ---- where it begins and ends

pub empty_formed : (old : Bool) → IsFormedIn old empty_contents
unfolding IsDistinct
empty_formed old = record {
  installed = record { names = tt; free = refl; owners = refl };
  roots = λ new. record { differ = tt; asked = λ none. refl };
}

-- a name is that of an entry, or of one of those after it
any_more : (a b : Bool) → b ≡ true → (a || b) ≡ true
any_more true b is = refl
any_more false b is = is

all_names : (s t : List ℕ → Bool) (xs : List (List ℕ)) → ((x : List ℕ) → s x ≡ true → t x ≡ true) → list_all s xs ≡ true → list_all t xs ≡ true
all_names s t [] more all = refl
all_names s t (x ∷ xs) more all = both_true (t x) (list_all t xs) (more x (and_left (s x) (list_all s xs) all)) (all_names s t xs more (and_right (s x) (list_all s xs) all))

abbrev is_there : List Standing → List ℕ → Bool
is_there standing name = list_any (is_named name) (map entry_of standing)

names_there : (standing : List Standing) → list_all (is_there standing) (names standing) ≡ true
names_there [] = refl
names_there (s ∷ standing) =
    both_true (is_there (s ∷ standing) s.entry.pkg.name) (list_all (is_there (s ∷ standing)) (names standing))
    (ap (λ b. b || is_there standing s.entry.pkg.name) (bytes_self s.entry.pkg.name))
    (all_names (is_there standing) (is_there (s ∷ standing)) (names standing) (λ name is. any_more (is_named name s.entry) (is_there standing name) is) (names_there standing))

pub said_formed : (old : Bool) (c : Contents) → IsFormedIn old c → IsFormed (said_by old c)
said_formed true c formed = record {
  installed = record { names = formed.installed.names; free = formed.installed.free; owners = formed.installed.owners };
  roots = record { differ = formed.installed.names; asked = λ none. names_there c.standing };
}
said_formed false c formed = record { installed = formed.installed; roots = formed.roots refl }

-- ---- slots

module _ (from : List ℕ) where
  slot_names : (entries : List Entry) → names (map (standing_of from) entries) ≡ entry_names entries
  slot_names [] = refl
  slot_names (entry ∷ entries) = ap (λ (ns : List (List ℕ)). entry.pkg.name ∷ ns) (slot_names entries)

  entry_stands : (entries : List Entry) (at : ℕ) (entry : Entry) → slice_get entries at ≡ Some entry → stands (map (standing_of from) entries) entry.pkg ≡ true
  entry_stands [] at entry is = absurd (cc)
  entry_stands (e ∷ entries) zero entry is =
      let same : e ≡ entry = cc in
      ap (λ (x : Entry). is_of entry.pkg x || stands (map (standing_of from) entries) entry.pkg) same ∙ ap (λ b. b || stands (map (standing_of from) entries) entry.pkg) (pkg_self entry.pkg)
  entry_stands (e ∷ entries) (suc at) entry is = any_more (is_of entry.pkg e) (stands (map (standing_of from) entries) entry.pkg) (entry_stands entries at entry is)

  slot_owners : (entries : List Entry) (owned : List Owned) → list_all (is_owned (map (standing_of from) entries)) (filter_map (owned_with entries) owned) ≡ true
  slot_owners entries [] = refl
  slot_owners entries (o ∷ owned) = by (slice_get entries o.owner) refl (slot_owners entries owned)
    where
      by : (found : Option Entry) → slice_get entries o.owner ≡ found → list_all (is_owned (map (standing_of from) entries)) (filter_map (owned_with entries) owned) ≡ true
          → list_all (is_owned (map (standing_of from) entries)) (cons_option (option_map (λ (entry : Entry). owned_by o.path entry.pkg) found) (filter_map (owned_with entries) owned)) ≡ true
      by None is later = later
      by (Some entry) is later =
          both_true (is_owned (map (standing_of from) entries) (owned_by o.path entry.pkg)) (list_all (is_owned (map (standing_of from) entries)) (filter_map (owned_with entries) owned)) (entry_stands entries o.owner entry is) later

  slot_free : (t : List ℕ → Bool) (entries : List Entry) (owned : List Owned) → list_any t (owned_paths owned) ≡ false → list_any t (owning.paths_of (filter_map (owned_with entries) owned)) ≡ false
  slot_free t entries [] none = refl
  slot_free t entries (o ∷ owned) none = by (slice_get entries o.owner) (slot_free t entries owned (or_right (t o.path) (list_any t (owned_paths owned)) none))
    where
      by : (found : Option Entry) → list_any t (owning.paths_of (filter_map (owned_with entries) owned)) ≡ false
          → list_any t (owning.paths_of (cons_option (option_map (λ (entry : Entry). owned_by o.path entry.pkg) found) (filter_map (owned_with entries) owned))) ≡ false
      by None later = later
      by (Some entry) later = neither (t o.path) (list_any t (owning.paths_of (filter_map (owned_with entries) owned))) (or_left (t o.path) (list_any t (owned_paths owned)) none) later

  root_there : (entries : List Entry) (name : List ℕ) → is_among (entry_names entries) name ≡ true → is_there (map (standing_of from) entries) name ≡ true
  root_there [] name is = is
  root_there (entry ∷ entries) name is = by (bytes_eq entry.pkg.name name) refl is (root_there entries name)
    where
      by : (b : Bool) → bytes_eq entry.pkg.name name ≡ b → (b || is_among (entry_names entries) name) ≡ true → (is_among (entry_names entries) name ≡ true → is_there (map (standing_of from) entries) name ≡ true)
          → (bytes_eq name entry.pkg.name || is_there (map (standing_of from) entries) name) ≡ true
      by true same any more = ap (λ b. b || is_there (map (standing_of from) entries) name) ((bytes_eq-Decides name entry.pkg.name).1 (sym ((bytes_eq-Decides entry.pkg.name name).0 same)))
      by false apart any more = any_more (bytes_eq name entry.pkg.name) (is_there (map (standing_of from) entries) name) (more any)

slot_says : (from : List ℕ) (slot : Snapshot) → IsSlotInOrder slot → IsFormed (slot_contents from slot)
slot_says from slot ordered = record {
  installed = record {
    names = subst (IsDistinct bytes_eq) (sym (slot_names from slot.entries)) ordered.names_in_order.entries_differ;
    free = slot_free from is_own slot.entries slot.owned ordered.paths_free.free;
    owners = slot_owners from slot.entries slot.owned;
  };
  roots = record {
    differ = risen_differ slot.roots ordered.names_in_order.roots_rise;
    asked = λ none. all_names (is_among (entry_names slot.entries)) (is_there (map (standing_of from) slot.entries)) slot.roots (root_there from slot.entries) ordered.names_in_order.roots_are_among;
  };
}

pub slot_formed : (old : Bool) (from : List ℕ) (slot : Snapshot) (c : Contents) → c ≡ slot_contents from slot → IsSlotInOrder slot → IsFormedIn old c
slot_formed old from slot c is ordered =
    let says = slot_says from slot ordered in
    subst (IsFormedIn old) (sym is) (record { installed = says.installed; roots = λ new. says.roots })
