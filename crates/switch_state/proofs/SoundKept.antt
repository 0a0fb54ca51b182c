-- What is installed stays sound where a package comes that suits it.
use Rattle.std.proofs.Common.{◌≡◌, ◌∙◌, ℕ, List, [], ◌∷◌, ◌++◌, map, fold, Bool, true, false, not, refl, sym, ap, subst}
use Rattle.std.specs.Prelude.{◌&&◌, ◌||◌, IsFalse, IsTrue, bytes_eq, is_some, if◌then◌else◌}
use Rattle.std.specs.List.{AllByRecursion, IsDistinct, list_all, list_any}
use Rattle.std.proofs.lemmas.Bool.{false≢true}
use Rattle.std.proofs.lemmas.Slice.Eq.{bytes_eq-Decides}
use Rattle.std.proofs.lemmas.List.{map-append}
use Rattle.opam_names.specs.ByteOrders.{precedes, put_by}
use Rattle.opam_names.specs.declared.packages.Pkg.{Pkg}
use Rattle.opam_package.specs.Dependencies.{is_edge, is_forbidden}
use Rattle.opam_package.specs.declared.package.Member.{Member}
use Rattle.path_order.specs.Apart.{AreApart, meets}
use Rattle.path_order.proofs.Lists.{apart_none}
use Rattle.owner_map.specs.Owning.{is_same_pkg, owned_by, path_of}
use Rattle.owner_map.specs.Owning as owning
use Rattle.owner_map.specs.declared.owned.OwnedPath.{OwnedPath}
use Rattle.journal_text.specs.Parts.{paths_of}
use Rattle.journal_text.specs.declared.record.Placed.{Placed}
use Rattle.crash_disk.specs.Disks.{Tree}
use Rattle.crash_disk.specs.Writes as writes
use Rattle.crash_disk.specs.Writes.{with_writes}
use Rattle.crash_disk.proofs.Trees.{get_off}
use Rattle.switch_journal.specs.Applying.{can_come, has_name, is_named, own}
use Rattle.switch_journal.specs.Journal.{put_of}
use Rattle.switch_state.specs.Sound.{Agree, EdgesPointBefore, IsForeign, NamesDiffer, OwnersAreEntries, PathsAreApart, RunOnEarlier, Splits, name_of, is_against, member_pkg, member_pkgs, runs_on, share_class}
use Rattle.switch_state.specs.Sound.{InstalledIsSound}
use Rattle.switch_state.specs.SoundLaws.{Suits, empty_state}
use Rattle.switch_state.specs.Sound as sound
use Rattle.switch_state.specs.State.{SwitchState, contents_in, member_entry}
use Rattle.switch_state.proofs.Acting.{entries_said}

pub or_left : (a b : Bool) → (a || b) ≡ false → a ≡ false
or_left true b is = absurd (false≢true (sym is))
or_left false b is = refl

pub or_right : (a b : Bool) → (a || b) ≡ false → b ≡ false
or_right true b is = absurd (false≢true (sym is))
or_right false b is = is

pub neither : (a b : Bool) → a ≡ false → b ≡ false → (a || b) ≡ false
neither a b one two = rw (one, two) refl

pub is_false : (b : Bool) → (b ≡ true → ⊥) → b ≡ false
is_false true never = absurd (never refl)
is_false false never = refl

pub bytes_back : (a b : List ℕ) → bytes_eq a b ≡ false → bytes_eq b a ≡ false
bytes_back a b other = is_false (bytes_eq b a) (λ same. false≢true (sym other ∙ (bytes_eq-Decides a b).1 (sym ((bytes_eq-Decides b a).0 same))))

pub bytes_self : (a : List ℕ) → bytes_eq a a ≡ true
bytes_self a = (bytes_eq-Decides a a).1 refl

-- ---- lists with one element more

module _ {X : Type 0} where
  any_last : (t : X → Bool) (xs : List X) (x : X) → list_any t xs ≡ false → t x ≡ false → list_any t (xs ++ x ∷ []) ≡ false
  any_last t [] x none here = neither (t x) false here refl
  any_last t (y ∷ xs) x none here = neither (t y) (list_any t (xs ++ x ∷ [])) (or_left (t y) (list_any t xs) none) (any_last t xs x (or_right (t y) (list_any t xs) none) here)

  pub any_at : (t : X → Bool) (before : List X) (x : X) (after : List X) → list_any t (before ++ x ∷ after) ≡ false → t x ≡ false
  any_at t [] x after none = or_left (t x) (list_any t after) none
  any_at t (y ∷ before) x after none = any_at t before x after (or_right (t y) (list_any t (before ++ x ∷ after)) none)

  any_both : (f : X → X → Bool) (xs all : List X) (x : X) → list_any (λ one. list_any (f one) all) xs ≡ false → list_any (λ one. f one x) xs ≡ false → list_any (λ one. list_any (f one) (all ++ x ∷ [])) xs ≡ false
  any_both f [] all x old new = refl
  any_both f (y ∷ xs) all x old new =
      neither (list_any (f y) (all ++ x ∷ [])) (list_any (λ one. list_any (f one) (all ++ x ∷ [])) xs)
      (any_last (f y) all x (or_left (list_any (f y) all) (list_any (λ one. list_any (f one) all) xs) old) (or_left (f y x) (list_any (λ one. f one x) xs) new))
      (any_both f xs all x (or_right (list_any (f y) all) (list_any (λ one. list_any (f one) all) xs) old) (or_right (f y x) (list_any (λ one. f one x) xs) new))

  -- where a list with one element more is split
  data SplitsAt (xs : List X) (x : X) (before : List X) (m : X) (after : List X) : Type 0 where
    at_end : after ≡ [] → xs ≡ before → x ≡ m → SplitsAt xs x before m after
    inside : (more : List X) → after ≡ more ++ x ∷ [] → xs ≡ before ++ m ∷ more → SplitsAt xs x before m after

  pub head_is : (a b : X) (xs ys : List X) → a ∷ xs ≡ b ∷ ys → a ≡ b
  head_is a b xs ys is = cc

  pub tail_is : (a b : X) (xs ys : List X) → a ∷ xs ≡ b ∷ ys → xs ≡ ys
  tail_is a b xs ys is = cc

  pub nothing : (before : List X) (m : X) (after : List X) → [] ≡ before ++ m ∷ after → ⊥
  nothing [] m after is = absurd (cc)
  nothing (y ∷ before) m after is = absurd (cc)

  more_at : (y e : X) (xs before : List X) (x m : X) (after : List X) → y ≡ e → SplitsAt xs x before m after → SplitsAt (y ∷ xs) x (e ∷ before) m after
  more_at y e xs before x m after same (at_end none front is) = at_end none (λ i. same i ∷ front i) is
  more_at y e xs before x m after same (inside more back front) = inside more back (λ i. same i ∷ front i)

  split_at : (xs : List X) (x : X) (before : List X) (m : X) (after : List X) → xs ++ x ∷ [] ≡ before ++ m ∷ after → SplitsAt xs x before m after
  split_at [] x [] m after is = at_end (sym (tail_is x m [] after is)) refl (head_is x m [] after is)
  split_at [] x (e ∷ before) m after is = absurd (nothing before m after (tail_is x e [] (before ++ m ∷ after) is))
  split_at (y ∷ xs) x [] m after is = inside xs (sym (tail_is y m (xs ++ x ∷ []) after is)) (ap (λ (k : X). k ∷ xs) (head_is y m (xs ++ x ∷ []) after is))
  split_at (y ∷ xs) x (e ∷ before) m after is = more_at y e xs before x m after (head_is y e (xs ++ x ∷ []) (before ++ m ∷ after) is) (split_at xs x before m after (tail_is y e (xs ++ x ∷ []) (before ++ m ∷ after) is))

-- ---- what is installed

distinct_last : (names : List (List ℕ)) (name : List ℕ) → list_any (bytes_eq name) names ≡ false → IsDistinct bytes_eq names → IsDistinct bytes_eq (names ++ name ∷ [])
unfolding IsDistinct
distinct_last [] name none apart = (tt, tt)
distinct_last (x ∷ names) name none apart =
    (all_last names apart.0, distinct_last names name (or_right (bytes_eq name x) (list_any (bytes_eq name) names) none) apart.1)
  where
    all_last : (ys : List (List ℕ)) → AllByRecursion (λ y. bytes_eq x y ≡ false) ys → AllByRecursion (λ y. bytes_eq x y ≡ false) (ys ++ name ∷ [])
    all_last [] all = (bytes_back name x (or_left (bytes_eq name x) (list_any (bytes_eq name) names) none), tt)
    all_last (y ∷ ys) all = (all.0, all_last ys all.1)

named_is : (name : List ℕ) (members : List Member) → list_any (is_named name) (map member_entry members) ≡ list_any (bytes_eq name) (map name_of members)
named_is name [] = refl
named_is name (m ∷ members) = ap (λ b. bytes_eq name m.package.pkg.name || b) (named_is name members)

pub names_kept : (members : List Member) (member : Member) → list_any (is_named member.package.pkg.name) (map member_entry members) ≡ false → NamesDiffer members → NamesDiffer (members ++ member ∷ [])
names_kept members member none differ =
    subst (IsDistinct bytes_eq) (sym (map-append name_of members (member ∷ []))) (distinct_last (map name_of members) (name_of member) (sym (named_is member.package.pkg.name members) ∙ none) differ)

module _ (members : List Member) (member : Member) where
  pub run_kept : IsTrue (runs_on (member_pkgs (members ++ member ∷ [])) member.package) → RunOnEarlier members → RunOnEarlier (members ++ member ∷ [])
  run_kept runs run = λ earlier later m splits. by earlier later m (split_at members member earlier m later splits)
    where
      by : (earlier later : List Member) (m : Member) → SplitsAt members member earlier m later → IsTrue (runs_on (member_pkgs (earlier ++ m ∷ [])) m.package)
      by earlier later m (at_end none front is) = subst (λ (k : Member). IsTrue (runs_on (member_pkgs (earlier ++ k ∷ [])) k.package)) is (subst (λ (ms : List Member). IsTrue (runs_on (member_pkgs (ms ++ member ∷ [])) member.package)) front runs)
      by earlier later m (inside more back front) = run earlier more m front

  pub edges_kept : IsFalse (list_any (λ (m : Member). is_edge m.package (member_pkg member)) members) → EdgesPointBefore members → EdgesPointBefore (members ++ member ∷ [])
  edges_kept last edges = λ earlier later m splits. by earlier later m (split_at members member earlier m later splits)
    where
      by : (earlier later : List Member) (m : Member) → SplitsAt members member earlier m later → IsFalse (list_any (λ (k : Member). is_edge m.package (member_pkg k)) later)
      by earlier later m (at_end none front is) = subst (λ (ks : List Member). IsFalse (list_any (λ (k : Member). is_edge m.package (member_pkg k)) ks)) (sym none) refl
      by earlier later m (inside more back front) =
          subst (λ (ks : List Member). IsFalse (list_any (λ (k : Member). is_edge m.package (member_pkg k)) ks)) (sym back)
          (any_last (λ (k : Member). is_edge m.package (member_pkg k)) more member (edges earlier more m front) (any_at (λ (k : Member). is_edge k.package (member_pkg member)) earlier m more (subst (λ (ms : List Member). IsFalse (list_any (λ (k : Member). is_edge k.package (member_pkg member)) ms)) front last)))

  not_itself : is_against member.package member.package ≡ false
  not_itself = ap (λ b. not b && (is_forbidden member.package member.package.pkg || share_class member.package member.package)) (bytes_self member.package.pkg.name)

  pub agree_kept : IsFalse (list_any (λ (m : Member). is_against m.package member.package) members) → IsFalse (list_any (λ (m : Member). is_against member.package m.package) members) → Agree members → Agree (members ++ member ∷ [])
  agree_kept agreed agrees agree =
      any_last (λ (one : Member). list_any (λ (other : Member). is_against one.package other.package) (members ++ member ∷ [])) members member
      (any_both (λ (one other : Member). is_against one.package other.package) members members member agree agreed)
      (any_last (λ (other : Member). is_against member.package other.package) members member agrees not_itself)

-- ---- whose the paths are

all_front : {X : Type 0} (f : X → Bool) (xs : List X) (x : X) → list_any f xs ≡ true → list_any f (xs ++ x ∷ []) ≡ true
all_front f [] x is = absurd (false≢true is)
all_front f (y ∷ xs) x is = by (f y) is (all_front f xs x)
  where
    by : (b : Bool) → (b || list_any f xs) ≡ true → (list_any f xs ≡ true → list_any f (xs ++ x ∷ []) ≡ true) → (b || list_any f (xs ++ x ∷ [])) ≡ true
    by true is later = refl
    by false is later = later is

pub any_end : {X : Type 0} (f : X → Bool) (xs : List X) (x : X) → f x ≡ true → list_any f (xs ++ x ∷ []) ≡ true
any_end f [] x is = ap (λ b. b || false) is
any_end f (y ∷ xs) x is = or_true (f y) (list_any f (xs ++ x ∷ [])) (any_end f xs x is)
  where
    or_true : (a b : Bool) → b ≡ true → (a || b) ≡ true
    or_true true b is = refl
    or_true false b is = is

pub both_true : (a b : Bool) → a ≡ true → b ≡ true → (a && b) ≡ true
both_true a b one two = rw (one, two) refl

pub and_left : (a b : Bool) → (a && b) ≡ true → a ≡ true
and_left true b is = refl
and_left false b is = absurd (false≢true is)

pub and_right : (a b : Bool) → (a && b) ≡ true → b ≡ true
and_right true b is = is
and_right false b is = absurd (false≢true is)

module _ (t : OwnedPath → Bool) where
  all_put_by : (x y : OwnedPath) (ys : List OwnedPath) (b : Bool) → t x ≡ true → list_all t (y ∷ ys) ≡ true → list_all t (put_by path_of x ys) ≡ true → list_all t (if b then y ∷ put_by path_of x ys else x ∷ y ∷ ys) ≡ true
  all_put_by x y ys true here all later = both_true (t y) (list_all t (put_by path_of x ys)) (and_left (t y) (list_all t ys) all) later
  all_put_by x y ys false here all later = both_true (t x) (list_all t (y ∷ ys)) here all

  all_put : (x : OwnedPath) (ys : List OwnedPath) → t x ≡ true → list_all t ys ≡ true → list_all t (put_by path_of x ys) ≡ true
  all_put x [] here all = both_true (t x) true here refl
  all_put x (y ∷ ys) here all = all_put_by x y ys (precedes y.path x.path) here all (all_put x ys here (and_right (t y) (list_all t ys) all))

  all_fold : (pkg : Pkg) (paths : List (List ℕ)) (owned : List OwnedPath) → ((path : List ℕ) → t (owned_by path pkg) ≡ true) → list_all t owned ≡ true → list_all t (fold (own pkg) owned paths) ≡ true
  all_fold pkg [] owned here all = all
  all_fold pkg (path ∷ paths) owned here all = all_fold pkg paths (own pkg owned path) here (all_put (owned_by path pkg) owned (here path) all)

pub all_more : (s t : OwnedPath → Bool) (owned : List OwnedPath) → ((o : OwnedPath) → s o ≡ true → t o ≡ true) → list_all s owned ≡ true → list_all t owned ≡ true
all_more s t [] more all = refl
all_more s t (o ∷ owned) more all = both_true (t o) (list_all t owned) (more o (and_left (s o) (list_all s owned) all)) (all_more s t owned more (and_right (s o) (list_all s owned) all))

pub pkg_self : (pkg : Pkg) → is_same_pkg pkg pkg ≡ true
pkg_self pkg = both_true (bytes_eq pkg.name pkg.name) (bytes_eq pkg.version pkg.version) (bytes_self pkg.name) (bytes_self pkg.version)

abbrev is_entry : List Member → OwnedPath → Bool
is_entry members o = list_any (λ (m : Member). is_same_pkg (member_pkg m) o.owner) members

pub owners_kept : (members : List Member) (member : Member) (paths : List (List ℕ)) (owned : List OwnedPath) → list_all (is_entry members) owned ≡ true → list_all (is_entry (members ++ member ∷ [])) (fold (own member.package.pkg) owned paths) ≡ true
owners_kept members member paths owned all =
    all_fold (is_entry (members ++ member ∷ [])) member.package.pkg paths owned
    (λ path. any_end (λ (m : Member). is_same_pkg (member_pkg m) member.package.pkg) members member (pkg_self member.package.pkg))
    (all_more (is_entry members) (is_entry (members ++ member ∷ [])) owned (λ o is. all_front (λ (m : Member). is_same_pkg (member_pkg m) o.owner) members member is) all)

-- ---- the paths themselves

module _ (t : List ℕ → Bool) where
  or_swap : (a b c : Bool) → (a || (b || c)) ≡ (b || (a || c))
  or_swap true true c = refl
  or_swap true false c = refl
  or_swap false b c = refl

  any_put_by : (x y : OwnedPath) (ys : List OwnedPath) (b : Bool) → list_any t (owning.paths_of (put_by path_of x ys)) ≡ (t x.path || list_any t (owning.paths_of ys))
      → list_any t (owning.paths_of (if b then y ∷ put_by path_of x ys else x ∷ y ∷ ys)) ≡ (t x.path || (t y.path || list_any t (owning.paths_of ys)))
  any_put_by x y ys true later = ap (λ b. t y.path || b) later ∙ or_swap (t y.path) (t x.path) (list_any t (owning.paths_of ys))
  any_put_by x y ys false later = refl

  any_put : (x : OwnedPath) (ys : List OwnedPath) → list_any t (owning.paths_of (put_by path_of x ys)) ≡ (t x.path || list_any t (owning.paths_of ys))
  any_put x [] = refl
  any_put x (y ∷ ys) = any_put_by x y ys (precedes y.path x.path) (any_put x ys)

  none_fold : (pkg : Pkg) (paths : List (List ℕ)) (owned : List OwnedPath) → list_any t (owning.paths_of (fold (own pkg) owned paths)) ≡ false → (list_any t paths ≡ false) × (list_any t (owning.paths_of owned) ≡ false)
  none_fold pkg [] owned none = (refl, none)
  none_fold pkg (path ∷ paths) owned none =
      let later = none_fold pkg paths (own pkg owned path) none in
      let here = sym (any_put (owned_by path pkg) owned) ∙ later.1 in
      (neither (t path) (list_any t paths) (or_left (t path) (list_any t (owning.paths_of owned)) here) later.0, or_right (t path) (list_any t (owning.paths_of owned)) here)

  pub fold_none : (pkg : Pkg) (paths : List (List ℕ)) (owned : List OwnedPath) → list_any t paths ≡ false → list_any t (owning.paths_of owned) ≡ false → list_any t (owning.paths_of (fold (own pkg) owned paths)) ≡ false
  fold_none pkg [] owned new old = old
  fold_none pkg (path ∷ paths) owned new old =
      fold_none pkg paths (own pkg owned path) (or_right (t path) (list_any t paths) new)
      (any_put (owned_by path pkg) owned ∙ neither (t path) (list_any t (owning.paths_of owned)) (or_left (t path) (list_any t paths) new) old)

puts_at : (files : List Placed) → writes.paths_of (map put_of files) ≡ paths_of files
puts_at [] = refl
puts_at (file ∷ files) = ap (λ (ps : List (List ℕ)). file.path ∷ ps) (puts_at files)

pub foreign_kept : (member : Member) (placed : List Placed) (state after : SwitchState) (files : Tree) → after.owned ≡ fold (own member.package.pkg) state.owned (paths_of placed) → PathsAreApart state files
    → ((path : List ℕ) → IsForeign state files path → IsFalse (list_any (meets path) (paths_of placed))) → AreApart (owning.paths_of after.owned) → PathsAreApart after (with_writes (map put_of placed) files)
foreign_kept member placed state after files owned paths foreign apart = record {
  owned = apart;
  foreign = λ path is.
      let pkg = member.package.pkg in
      let none = none_fold (bytes_eq path) pkg (paths_of placed) state.owned (subst (λ (os : List OwnedPath). IsFalse (list_any (bytes_eq path) (owning.paths_of os))) owned is.2) in
      let there = get_off files (map put_of placed) path (ap (list_any (bytes_eq path)) (puts_at placed) ∙ none.0) in
      let old : IsForeign state files path = (is.0, sym (ap is_some there) ∙ is.1, none.1) in
      subst (λ (os : List OwnedPath). IsFalse (list_any (meets path) (owning.paths_of os))) (sym owned) (fold_none (meets path) pkg (paths_of placed) state.owned (foreign path old) (paths.foreign path old));
}

-- ---- the whole

pub absent : (member : Member) (placed : List Placed) (state : SwitchState) → can_come member.package.pkg placed (contents_in state) ≡ true → list_any (is_named member.package.pkg.name) (map member_entry state.members) ≡ false
absent member placed state can =
    ap (list_any (is_named member.package.pkg.name)) (sym (entries_said state))
    ∙ not_true (has_name member.package.pkg.name (contents_in state)) (and_left (not (has_name member.package.pkg.name (contents_in state))) _ can)
  where
    not_true : (b : Bool) → not b ≡ true → b ≡ false
    not_true true is = absurd (false≢true is)
    not_true false is = refl

pub comes_sound : (member : Member) (placed : List Placed) (state after : SwitchState) (files : Tree) → after.members ≡ state.members ++ member ∷ [] → after.owned ≡ fold (own member.package.pkg) state.owned (paths_of placed)
    → can_come member.package.pkg placed (contents_in state) ≡ true → Suits state files member placed → AreApart (owning.paths_of after.owned) → InstalledIsSound state files → InstalledIsSound after (with_writes (map put_of placed) files)
comes_sound member placed state after files members owned can suits apart sound = record {
  names = subst NamesDiffer (sym members) (names_kept state.members member (absent member placed state can) sound.names);
  run = subst RunOnEarlier (sym members) (run_kept state.members member suits.runs sound.run);
  edges = subst EdgesPointBefore (sym members) (edges_kept state.members member suits.last sound.edges);
  agree = subst Agree (sym members) (agree_kept state.members member suits.agreed suits.agrees sound.agree);
  owners = (λ i. list_all (is_entry (members i)) (owned i)) ∙ owners_kept state.members member (paths_of placed) state.owned sound.owners;
  paths = foreign_kept member placed state after files owned sound.paths suits.foreign apart;
}

-- ---- nothing is installed

empty_splits : (earlier later : List Member) (m : Member) {P : Type 0} → [] ≡ earlier ++ m ∷ later → P
empty_splits earlier later m is = absurd (nothing earlier m later is)

pub none_differ : NamesDiffer []
unfolding IsDistinct
none_differ = tt

pub empty_sound : (files : Tree) → sound.Sound empty_state files
empty_sound files = record {
  installed = record {
    names = none_differ;
    run = λ earlier later m is. empty_splits earlier later m is;
    edges = λ earlier later m is. empty_splits earlier later m is;
    agree = refl;
    owners = refl;
    paths = record { owned = apart_none; foreign = λ path is. refl };
  };
  request = tt;
}
