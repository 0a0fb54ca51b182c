-- What is installed stays sound where a package goes that no other entry needs.
use Rattle.std.proofs.Common.{◌≡◌, ◌∙◌, ℕ, List, [], ◌∷◌, ◌++◌, map, filter, Bool, true, false, not, cond, refl, sym, ap, subst, None}
use Rattle.std.specs.Prelude.{◌&&◌, ◌||◌, IsFalse, IsTrue, bytes_eq, is_some}
use Rattle.std.specs.FinMap.{get}
use Rattle.std.specs.List.{AllByRecursion, IsDistinct, flat_map, list_all, list_any}
use Rattle.std.proofs.lemmas.Bool.{false≢true}
use Rattle.std.proofs.lemmas.Slice.Eq.{bytes_eq-Decides}
use Rattle.std.proofs.lemmas.List.Folds.{list_any-append}
use Rattle.opam_names.specs.declared.packages.Pkg.{Pkg}
use Rattle.opam_filter.specs.Sets.{holds, is_met_by, kept_names, layer_kept}
use Rattle.opam_filter.specs.Reductions.{is_met}
use Rattle.opam_filter.specs.declared.formula.Reduced.{Reduced, roll-Reduced}
use Rattle.opam_filter.specs.declared.formula.Reduced.TheOpen.{Reduced-F}
use Rattle.opam_filter.specs.declared.formula.Reduced.TheFolds.{fold-roll-Reduced, ind-Reduced, map-Reduced}
use Rattle.opam_filter.specs.declared.formula.Test.{Test}
use Rattle.opam_filter.proofs.ReducedLaws.{holds_at}
use Rattle.opam_package.specs.Dependencies.{is_edge, is_run_with, names_it}
use Rattle.opam_package.specs.declared.package.Member.{Member}
use Rattle.opam_package.specs.declared.package.Need.{Need}
use Rattle.path_order.specs.Apart.{AreApart, meets}
use Rattle.owner_map.specs.Owning.{is_of_another, is_owned_by, is_same_pkg}
use Rattle.owner_map.specs.Owning as owning
use Rattle.owner_map.specs.declared.owned.OwnedPath.{OwnedPath}
use Rattle.crash_disk.specs.Disks.{Tree}
use Rattle.crash_disk.specs.Writes as writes
use Rattle.crash_disk.specs.Writes.{with_writes}
use Rattle.crash_disk.specs.Effects.{without}
use Rattle.crash_disk.proofs.Trees.{get_here, get_off}
use Rattle.switch_journal.specs.Journal.{removal_of}
use Rattle.switch_state.specs.Actions.{is_other_member}
use Rattle.switch_state.specs.Sound.{Agree, EdgesPointBefore, InstalledIsSound, IsForeign, NamesDiffer, PathsAreApart, RunOnEarlier, is_against, member_pkg, member_pkgs, name_of, runs_on}
use Rattle.switch_state.specs.SoundLaws.{IsUnneeded}
use Rattle.switch_state.specs.State.{SwitchState}
use Rattle.switch_state.proofs.SoundKept.{and_left, and_right, any_at, both_true, head_is, is_false, neither, nothing, or_left, or_right, tail_is}

-- ---- formulas do not see packages that they do not name

kept_at : (layer : Reduced-F Reduced) → kept_names (roll-Reduced layer) ≡ layer_kept (map-Reduced Reduced (List (List ℕ)) kept_names layer)
kept_at = fold-roll-Reduced (List (List ℕ)) layer_kept

module _ (gone : List ℕ) (set rest : List Pkg) (same : (name : List ℕ) (test : Test) → bytes_eq gone name ≡ false → list_any (is_met_by name test) set ≡ list_any (is_met_by name test) rest) where
  abbrev Keeps : Reduced → Type 0
  Keeps part = list_any (bytes_eq gone) (kept_names part) ≡ false → holds part set ≡ holds part rest

  -- parts, each with a proof beside it
  abbrev bare : List ((part : Reduced) × Keeps part) → List Reduced
  bare parts = map (λ e. e.0) parts

  each_keeps : (parts : List ((part : Reduced) × Keeps part)) → list_any (bytes_eq gone) (flat_map (λ names. names) (map kept_names (bare parts))) ≡ false → map (λ part. holds part set) (bare parts) ≡ map (λ part. holds part rest) (bare parts)
  each_keeps [] none = refl
  each_keeps (e ∷ parts) none =
      let both = sym (list_any-append (bytes_eq gone) (kept_names e.0) (flat_map (λ names. names) (map kept_names (bare parts)))) ∙ none in
      let here = e.1 (or_left (list_any (bytes_eq gone) (kept_names e.0)) (list_any (bytes_eq gone) (flat_map (λ names. names) (map kept_names (bare parts)))) both) in
      let more = each_keeps parts (or_right (list_any (bytes_eq gone) (kept_names e.0)) (list_any (bytes_eq gone) (flat_map (λ names. names) (map kept_names (bare parts)))) both) in
      λ i. here i ∷ more i

  named : (layer : Reduced-F Reduced) → list_any (bytes_eq gone) (kept_names (roll-Reduced layer)) ≡ false → list_any (bytes_eq gone) (layer_kept (map-Reduced Reduced (List (List ℕ)) kept_names layer)) ≡ false
  named layer none = sym (ap (list_any (bytes_eq gone)) (kept_at layer)) ∙ none

  keeps_layer : (layer : Reduced-F ((part : Reduced) × Keeps part)) → Keeps (roll-Reduced (map-Reduced ((part : Reduced) × Keeps part) Reduced (λ e. e.0) layer))
  keeps_layer Reduced-F.Dropped none = holds_at set Reduced-F.Dropped ∙ sym (holds_at rest Reduced-F.Dropped)
  keeps_layer (Reduced-F.And parts) none = holds_at set (Reduced-F.And (bare parts)) ∙ ap (list_all (λ part. part)) (each_keeps parts (named (Reduced-F.And (bare parts)) none)) ∙ sym (holds_at rest (Reduced-F.And (bare parts)))
  keeps_layer (Reduced-F.Or parts) none = holds_at set (Reduced-F.Or (bare parts)) ∙ ap (list_any (λ part. part)) (each_keeps parts (named (Reduced-F.Or (bare parts)) none)) ∙ sym (holds_at rest (Reduced-F.Or (bare parts)))
  keeps_layer (Reduced-F.Atom name test) none =
      holds_at set (Reduced-F.Atom name test) ∙ same name test (or_left (bytes_eq gone name) false (named (Reduced-F.Atom name test) none)) ∙ sym (holds_at rest (Reduced-F.Atom name test))

  keeps : (part : Reduced) → Keeps part
  keeps = ind-Reduced Keeps (λ x y is. subst (λ layer. Keeps (roll-Reduced layer)) is (keeps_layer y))

  runs_same : (needs : List Need) → is_run_with needs gone ≡ false → list_all (λ (need : Need). holds need.runtime set) needs ≡ list_all (λ (need : Need). holds need.runtime rest) needs
  runs_same [] none = refl
  runs_same (need ∷ needs) none =
      let here = keeps need.runtime (or_left (names_it gone need.runtime) (is_run_with needs gone) none) in
      let more = runs_same needs (or_right (names_it gone need.runtime) (is_run_with needs gone) none) in
      λ i. here i && more i

-- ---- what is left

module _ {X : Type 0} (keep : X → Bool) where
  -- where what is kept is split
  record SplitsFrom (xs before : List X) (m : X) (after : List X) : Type 0 where
    front : List X
    back : List X
    stands : xs ≡ front ++ m ∷ back
    before_is : before ≡ filter keep front
    after_is : after ≡ filter keep back
    kept : keep m ≡ true

  split_by : (x : X) (xs before : List X) (m : X) (after : List X) (b : Bool) → keep x ≡ b → cond b (x ∷ filter keep xs) (filter keep xs) ≡ before ++ m ∷ after
      → ((before : List X) (m : X) (after : List X) → filter keep xs ≡ before ++ m ∷ after → SplitsFrom xs before m after) → SplitsFrom (x ∷ xs) before m after
  split_by x xs [] m after true kept is more = record {
    front = [];
    back = xs;
    stands = ap (λ (k : X). k ∷ xs) (head_is x m (filter keep xs) after is);
    before_is = refl;
    after_is = sym (tail_is x m (filter keep xs) after is);
    kept = ap keep (sym (head_is x m (filter keep xs) after is)) ∙ kept;
  }
  split_by x xs (e ∷ before) m after true kept is more =
      let later = more before m after (tail_is x e (filter keep xs) (before ++ m ∷ after) is) in
      record {
        front = x ∷ later.front;
        back = later.back;
        stands = ap (λ (ks : List X). x ∷ ks) later.stands;
        before_is = (λ i. sym (head_is x e (filter keep xs) (before ++ m ∷ after) is) i ∷ later.before_is i) ∙ sym (ap (λ (b : Bool). cond b (x ∷ filter keep later.front) (filter keep later.front)) kept);
        after_is = later.after_is;
        kept = later.kept;
      }
  split_by x xs before m after false kept is more =
      let later = more before m after is in
      record {
        front = x ∷ later.front;
        back = later.back;
        stands = ap (λ (ks : List X). x ∷ ks) later.stands;
        before_is = later.before_is ∙ sym (ap (λ (b : Bool). cond b (x ∷ filter keep later.front) (filter keep later.front)) kept);
        after_is = later.after_is;
        kept = later.kept;
      }

  filter_split : (xs before : List X) (m : X) (after : List X) → filter keep xs ≡ before ++ m ∷ after → SplitsFrom xs before m after
  filter_split [] before m after is = absurd (nothing before m after is)
  filter_split (x ∷ xs) before m after is = split_by x xs before m after (keep x) refl is (filter_split xs)

  pub any_left : (t : X → Bool) (xs : List X) → list_any t xs ≡ false → list_any t (filter keep xs) ≡ false
  any_left t [] none = refl
  any_left t (x ∷ xs) none = by (keep x) (any_left t xs (or_right (t x) (list_any t xs) none))
    where
      by : (b : Bool) → list_any t (filter keep xs) ≡ false → list_any t (cond b (x ∷ filter keep xs) (filter keep xs)) ≡ false
      by true later = neither (t x) (list_any t (filter keep xs)) (or_left (t x) (list_any t xs) none) later
      by false later = later

  any_narrow : (s t : X → Bool) (xs : List X) → ((x : X) → t x ≡ false → s x ≡ false) → list_any t xs ≡ false → list_any s xs ≡ false
  any_narrow s t [] less none = refl
  any_narrow s t (x ∷ xs) less none = neither (s x) (list_any s xs) (less x (or_left (t x) (list_any t xs) none)) (any_narrow s t xs less (or_right (t x) (list_any t xs) none))

  all_left : (P : List ℕ → Type 0) (key : X → List ℕ) (xs : List X) → AllByRecursion P (map key xs) → AllByRecursion P (map key (filter keep xs))
  all_left P key [] all = tt
  all_left P key (x ∷ xs) all = by (keep x) (all_left P key xs all.1)
    where
      by : (b : Bool) → AllByRecursion P (map key (filter keep xs)) → AllByRecursion P (map key (cond b (x ∷ filter keep xs) (filter keep xs)))
      by true later = (all.0, later)
      by false later = later

  pub distinct_left : (key : X → List ℕ) (xs : List X) → IsDistinct bytes_eq (map key xs) → IsDistinct bytes_eq (map key (filter keep xs))
  unfolding IsDistinct
  distinct_left key [] apart = tt
  distinct_left key (x ∷ xs) apart = by (keep x) (distinct_left key xs apart.1)
    where
      by : (b : Bool) → IsDistinct bytes_eq (map key (filter keep xs)) → IsDistinct bytes_eq (map key (cond b (x ∷ filter keep xs) (filter keep xs)))
      by true later = (all_left (λ y. bytes_eq (key x) y ≡ false) key xs apart.0, later)
      by false later = later

module _ (pkg : Pkg) where
  abbrev keep : Member → Bool
  keep = is_other_member pkg

  -- a member that goes has the package's name
  gone_name : (x : Member) → keep x ≡ false → x.package.pkg.name ≡ pkg.name
  gone_name x gone = (bytes_eq-Decides x.package.pkg.name pkg.name).0 (and_left (bytes_eq x.package.pkg.name pkg.name) (bytes_eq x.package.pkg.version pkg.version) (is_same (is_same_pkg x.package.pkg pkg) gone))
    where
      is_same : (b : Bool) → not b ≡ false → b ≡ true
      is_same true is = refl
      is_same false is = absurd (false≢true (sym is))

  apart_name : (x : Member) (name : List ℕ) → keep x ≡ false → bytes_eq pkg.name name ≡ false → bytes_eq x.package.pkg.name name ≡ false
  apart_name x name gone other = ap (λ (n : List ℕ). bytes_eq n name) (gone_name x gone) ∙ other

  -- a test of another name is met by the same ones
  met_same : (name : List ℕ) (test : Test) → bytes_eq pkg.name name ≡ false → (ms : List Member) (m : Member) → list_any (is_met_by name test) (member_pkgs (ms ++ m ∷ [])) ≡ list_any (is_met_by name test) (member_pkgs (filter keep ms ++ m ∷ []))
  met_same name test other [] m = refl
  met_same name test other (x ∷ ms) m = by (keep x) refl (met_same name test other ms m)
    where
      by : (b : Bool) → keep x ≡ b → list_any (is_met_by name test) (member_pkgs (ms ++ m ∷ [])) ≡ list_any (is_met_by name test) (member_pkgs (filter keep ms ++ m ∷ []))
          → (is_met_by name test (member_pkg x) || list_any (is_met_by name test) (member_pkgs (ms ++ m ∷ []))) ≡ list_any (is_met_by name test) (member_pkgs (cond b (x ∷ filter keep ms) (filter keep ms) ++ m ∷ []))
      by true is later = ap (λ b. is_met_by name test (member_pkg x) || b) later
      by false is later = ap (λ b. (b && is_met test x.package.pkg.version) || list_any (is_met_by name test) (member_pkgs (ms ++ m ∷ []))) (apart_name x name is other) ∙ later

  runs_left : (before : List Member) (m : Member) → is_run_with m.package.items pkg.name ≡ false → IsTrue (runs_on (member_pkgs (before ++ m ∷ [])) m.package) → IsTrue (runs_on (member_pkgs (filter keep before ++ m ∷ [])) m.package)
  runs_left before m none runs =
      sym (runs_same pkg.name (member_pkgs (before ++ m ∷ [])) (member_pkgs (filter keep before ++ m ∷ [])) (λ name test other. met_same name test other before m) m.package.items none) ∙ runs

  module _ (members : List Member) where
    unneeded_at : (before : List Member) (m : Member) (after : List Member) → members ≡ before ++ m ∷ after → keep m ≡ true → list_any (λ (k : Member). keep k && is_run_with k.package.items pkg.name) members ≡ false → is_run_with m.package.items pkg.name ≡ false
    unneeded_at before m after stands kept none =
        let here = any_at (λ (k : Member). keep k && is_run_with k.package.items pkg.name) before m after (subst (λ (ms : List Member). list_any (λ (k : Member). keep k && is_run_with k.package.items pkg.name) ms ≡ false) stands none) in
        sym (ap (λ b. b && is_run_with m.package.items pkg.name) kept) ∙ here

    run_left : list_any (λ (k : Member). keep k && is_run_with k.package.items pkg.name) members ≡ false → RunOnEarlier members → RunOnEarlier (filter keep members)
    run_left none run = λ earlier later m splits.
        let at = filter_split keep members earlier m later splits in
        subst (λ (ms : List Member). IsTrue (runs_on (member_pkgs (ms ++ m ∷ [])) m.package)) (sym at.before_is)
        (runs_left at.front m (unneeded_at at.front m at.back at.stands at.kept none) (run at.front at.back m at.stands))

    edges_left : EdgesPointBefore members → EdgesPointBefore (filter keep members)
    edges_left edges = λ earlier later m splits.
        let at = filter_split keep members earlier m later splits in
        subst (λ (ms : List Member). IsFalse (list_any (λ (k : Member). is_edge m.package (member_pkg k)) ms)) (sym at.after_is)
        (any_left keep (λ (k : Member). is_edge m.package (member_pkg k)) at.back (edges at.front at.back m at.stands))

    agree_left : Agree members → Agree (filter keep members)
    agree_left agree =
        any_left keep (λ (one : Member). list_any (λ (other : Member). is_against one.package other.package) (filter keep members)) members
        (any_narrow keep (λ (one : Member). list_any (λ (other : Member). is_against one.package other.package) (filter keep members)) (λ (one : Member). list_any (λ (other : Member). is_against one.package other.package) members) members
        (λ one none. any_left keep (λ (other : Member). is_against one.package other.package) members none) agree)

  -- ---- whose the paths are

  abbrev is_entry : List Member → OwnedPath → Bool
  is_entry ms o = list_any (λ (m : Member). is_same_pkg (member_pkg m) o.owner) ms

  same_then : (a b c : Pkg) → is_same_pkg a b ≡ true → is_same_pkg a c ≡ true → is_same_pkg b c ≡ true
  same_then a b c one two =
      let name = (bytes_eq-Decides a.name b.name).0 (and_left (bytes_eq a.name b.name) (bytes_eq a.version b.version) one) in
      let version = (bytes_eq-Decides a.version b.version).0 (and_right (bytes_eq a.name b.name) (bytes_eq a.version b.version) one) in
      (λ i. bytes_eq (sym name i) c.name && bytes_eq (sym version i) c.version) ∙ two

  clash : (a b : Bool) → not a ≡ false → not b ≡ true → (a ≡ true → b ≡ true) → ⊥
  clash true true one two more = false≢true two
  clash true false one two more = false≢true (more refl)
  clash false b one two more = false≢true (sym one)

  entry_left : (ms : List Member) (o : OwnedPath) → is_of_another pkg o ≡ true → is_entry ms o ≡ true → is_entry (filter keep ms) o ≡ true
  entry_left [] o other is = is
  entry_left (m ∷ ms) o other is = by (is_same_pkg (member_pkg m) o.owner) (keep m) refl refl is (entry_left ms o other)
    where
      by : (a b : Bool) → is_same_pkg (member_pkg m) o.owner ≡ a → keep m ≡ b → (a || is_entry ms o) ≡ true → (is_entry ms o ≡ true → is_entry (filter keep ms) o ≡ true) → is_entry (cond b (m ∷ filter keep ms) (filter keep ms)) o ≡ true
      by true true here kept any more = ap (λ b. b || is_entry (filter keep ms) o) here
      by true false here kept any more = absurd (clash (is_same_pkg (member_pkg m) pkg) (is_same_pkg o.owner pkg) kept other (same_then (member_pkg m) o.owner pkg here))
      by false true here kept any more = ap (λ b. b || is_entry (filter keep ms) o) here ∙ more any
      by false false here kept any more = more any

  pub owners_left : (ms : List Member) (owned : List OwnedPath) → list_all (is_entry ms) owned ≡ true → list_all (is_entry (filter keep ms)) (filter (is_of_another pkg) owned) ≡ true
  owners_left ms [] all = refl
  owners_left ms (o ∷ owned) all = by (is_of_another pkg o) refl (owners_left ms owned (and_right (is_entry ms o) (list_all (is_entry ms) owned) all))
    where
      by : (b : Bool) → is_of_another pkg o ≡ b → list_all (is_entry (filter keep ms)) (filter (is_of_another pkg) owned) ≡ true → list_all (is_entry (filter keep ms)) (cond b (o ∷ filter (is_of_another pkg) owned) (filter (is_of_another pkg) owned)) ≡ true
      by true other later = both_true (is_entry (filter keep ms) o) (list_all (is_entry (filter keep ms)) (filter (is_of_another pkg) owned)) (entry_left ms o other (and_left (is_entry ms o) (list_all (is_entry ms) owned) all)) later
      by false other later = later

  -- ---- the paths themselves

  abbrev takes : List OwnedPath → List (List ℕ)
  takes owned = owning.paths_of (filter (is_owned_by pkg) owned)

  -- an owned path goes or is left
  none_owned : (t : List ℕ → Bool) (owned : List OwnedPath) → list_any t (takes owned) ≡ false → list_any t (owning.paths_of (filter (is_of_another pkg) owned)) ≡ false → list_any t (owning.paths_of owned) ≡ false
  none_owned t [] gone left = refl
  none_owned t (o ∷ owned) gone left = by (is_same_pkg o.owner pkg) gone left (none_owned t owned)
    where
      by : (b : Bool) → list_any t (owning.paths_of (cond b (o ∷ filter (is_owned_by pkg) owned) (filter (is_owned_by pkg) owned))) ≡ false → list_any t (owning.paths_of (cond (not b) (o ∷ filter (is_of_another pkg) owned) (filter (is_of_another pkg) owned))) ≡ false
          → (list_any t (takes owned) ≡ false → list_any t (owning.paths_of (filter (is_of_another pkg) owned)) ≡ false → list_any t (owning.paths_of owned) ≡ false) → (t o.path || list_any t (owning.paths_of owned)) ≡ false
      by true here there more = neither (t o.path) (list_any t (owning.paths_of owned)) (or_left (t o.path) (list_any t (takes owned)) here) (more (or_right (t o.path) (list_any t (takes owned)) here) there)
      by false here there more = neither (t o.path) (list_any t (owning.paths_of owned)) (or_left (t o.path) (list_any t (owning.paths_of (filter (is_of_another pkg) owned))) there) (more here (or_right (t o.path) (list_any t (owning.paths_of (filter (is_of_another pkg) owned))) there))

  pub paths_left : (t : List ℕ → Bool) (owned : List OwnedPath) → list_any t (owning.paths_of owned) ≡ false → list_any t (owning.paths_of (filter (is_of_another pkg) owned)) ≡ false
  paths_left t [] none = refl
  paths_left t (o ∷ owned) none = by (is_of_another pkg o) (paths_left t owned (or_right (t o.path) (list_any t (owning.paths_of owned)) none))
    where
      by : (b : Bool) → list_any t (owning.paths_of (filter (is_of_another pkg) owned)) ≡ false → list_any t (owning.paths_of (cond b (o ∷ filter (is_of_another pkg) owned) (filter (is_of_another pkg) owned))) ≡ false
      by true later = neither (t o.path) (list_any t (owning.paths_of (filter (is_of_another pkg) owned))) (or_left (t o.path) (list_any t (owning.paths_of owned)) none) later
      by false later = later

removed_at : (paths : List (List ℕ)) → writes.paths_of (map removal_of paths) ≡ paths
removed_at [] = refl
removed_at (p ∷ paths) = ap (λ (ps : List (List ℕ)). p ∷ ps) (removed_at paths)

-- nothing stands at a path that was removed
removed_none : (paths : List (List ℕ)) (tree : Tree) (q : List ℕ) → list_any (bytes_eq q) paths ≡ true → get (with_writes (map removal_of paths) tree) q ≡ None
removed_none [] tree q is = absurd (false≢true is)
removed_none (p ∷ paths) tree q is = by (list_any (bytes_eq q) paths) refl (removed_none paths (without p tree) q)
  where
    first : (a b : Bool) → b ≡ false → (a || b) ≡ true → a ≡ true
    first true b none any = refl
    first false b none any = absurd (false≢true (sym none ∙ any))

    by : (b : Bool) → list_any (bytes_eq q) paths ≡ b → (list_any (bytes_eq q) paths ≡ true → get (with_writes (map removal_of paths) (without p tree)) q ≡ None) → get (with_writes (map removal_of paths) (without p tree)) q ≡ None
    by true here more = more here
    by false none more =
        let same : q ≡ p = (bytes_eq-Decides q p).0 (first (bytes_eq q p) (list_any (bytes_eq q) paths) none is) in
        get_off (without p tree) (map removal_of paths) q (ap (list_any (bytes_eq q)) (removed_at paths) ∙ none) ∙ ap (get (without p tree)) same ∙ get_here tree p None

foreign_left : (pkg : Pkg) (state after : SwitchState) (files : Tree) → after.owned ≡ filter (is_of_another pkg) state.owned → PathsAreApart state files → AreApart (owning.paths_of after.owned) → PathsAreApart after (with_writes (map removal_of (takes pkg state.owned)) files)
foreign_left pkg state after files owned paths apart = record {
  owned = apart;
  foreign = λ path is.
      let not_taken : list_any (bytes_eq path) (takes pkg state.owned) ≡ false =
      is_false (list_any (bytes_eq path) (takes pkg state.owned)) (λ taken. false≢true (sym (ap is_some (removed_none (takes pkg state.owned) files path taken)) ∙ is.1)) in
      let there = get_off files (map removal_of (takes pkg state.owned)) path (ap (list_any (bytes_eq path)) (removed_at (takes pkg state.owned)) ∙ not_taken) in
      let left = subst (λ (os : List OwnedPath). IsFalse (list_any (bytes_eq path) (owning.paths_of os))) owned is.2 in
      let old : IsForeign state files path = (is.0, sym (ap is_some there) ∙ is.1, none_owned pkg (bytes_eq path) state.owned not_taken left) in
      subst (λ (os : List OwnedPath). IsFalse (list_any (meets path) (owning.paths_of os))) (sym owned) (paths_left pkg (meets path) state.owned (paths.foreign path old));
}

pub goes_sound : (pkg : Pkg) (state after : SwitchState) (files : Tree) → after.members ≡ filter (is_other_member pkg) state.members → after.owned ≡ filter (is_of_another pkg) state.owned → IsUnneeded pkg state → AreApart (owning.paths_of after.owned)
    → InstalledIsSound state files → InstalledIsSound after (with_writes (map removal_of (takes pkg state.owned)) files)
goes_sound pkg state after files members owned unneeded apart sound = record {
  names = subst NamesDiffer (sym members) (distinct_left (is_other_member pkg) name_of state.members sound.names);
  run = subst RunOnEarlier (sym members) (run_left pkg state.members unneeded sound.run);
  edges = subst EdgesPointBefore (sym members) (edges_left pkg state.members sound.edges);
  agree = subst Agree (sym members) (agree_left pkg state.members sound.agree);
  owners = (λ i. list_all (is_entry pkg (members i)) (owned i)) ∙ owners_left pkg state.members state.owned sound.owners;
  paths = foreign_left pkg state after files owned sound.paths apart;
}
