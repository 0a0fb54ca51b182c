-- What nobody owns is left alone by each action.
use Rattle.std.proofs.Common.{◌≡◌, ℕ, List, [], ◌∷◌, ◌++◌, map, filter, Bool, true, false, not, cond, Option, Some, None, refl, sym, ap, ◌∙◌, subst}
use Rattle.std.specs.Prelude.{◌&&◌, ◌||◌, IsSome, bytes_eq, fold, if◌then◌else◌, is_some}
use Rattle.std.specs.FinMap.{get}
use Rattle.std.specs.List.{list_any}
use Rattle.std.specs.Option.{option_map, option_or}
use Rattle.std.proofs.lemmas.Bool.{false≢true}
use Rattle.std.proofs.lemmas.Slice.Eq.{bytes_eq-Decides}
use Rattle.opam_names.specs.Paths.{is_above}
use Rattle.change_verdict.specs.declared.reason.Reason.TheVariants.{SwitchFull}
use Rattle.opam_names.specs.ByteOrders.{precedes, put_by}
use Rattle.opam_names.specs.declared.packages.Pkg.{Pkg}
use Rattle.opam_package.specs.declared.package.Member.{Member}
use Rattle.path_order.specs.Apart.{meets}
use Rattle.owner_map.specs.Owning as owning
use Rattle.owner_map.specs.Owning.{is_of_another, is_owned_by, owned_by, path_of}
use Rattle.owner_map.specs.declared.owned.OwnedPath.{OwnedPath}
use Rattle.journal_text.specs.Parts.{paths_of}
use Rattle.journal_text.specs.declared.record.Placed.{Placed}
use Rattle.crash_disk.specs.Disks.{Tree}
use Rattle.crash_disk.specs.Writes as writes
use Rattle.crash_disk.specs.Writes.{with_writes}
use Rattle.crash_disk.proofs.Trees.{get_off}
use Rattle.switch_journal.specs.Applying.{own}
use Rattle.switch_journal.specs.Journal.{put_of, removal_of}
use Rattle.switch_journal.specs.Places.{is_inside}
use Rattle.switch_state.specs.Actions.{Action, Installs, PutsBack}
use Rattle.switch_state.specs.Sound.{IsForeign, member_pkg}
use Rattle.change_verdict.specs.Clash.{clash_after, clash_at, first_clash_of, is_foreign_file, least_met, meets_foreign_file, reason_at, with_own}
use Rattle.change_verdict.specs.Verdicts.{in_path_order, install_verdict, unless_clash, unless_full, would_be_full}
use Rattle.change_verdict.specs.declared.reason.Reason.{Reason}
use Rattle.change_verdict.specs.declared.verdict.Sources.{Sources}
use Rattle.change_verdict.specs.declared.verdict.Sources.TheVariants.{Found, Refused}
use Rattle.change_verdict.specs.declared.verdict.Verdict.TheVariants.{Places, Fails}
use Rattle.back_verdict.specs.Backs.{why_away, why_clash, why_full, why_unfit}
use Rattle.back_verdict.specs.declared.why.Why.TheVariants.{Clash}
use Rattle.change_outcome.specs.Changes.{Point, point_after}
use Rattle.change_outcome.specs.ForeignLaws.{ForeignFilesStay, IsLeftAlone}
use Rattle.change_outcome.specs.Outcomes.{all_decided}
use Rattle.change_outcome.specs.Steps.{done_in}
use Rattle.change_outcome.proofs.Ordered.{any_ordered, or_swap, some_key}
use Rattle.change_outcome.proofs.Making.{IsMade, after_made, all_made, installs, puts_back, removes}

or_left : (a b : Bool) → (a || b) ≡ false → a ≡ false
or_left true b is = absurd (false≢true (sym is))
or_left false b is = refl

or_right : (a b : Bool) → (a || b) ≡ false → b ≡ false
or_right true b is = absurd (false≢true (sym is))
or_right false b is = is

neither : (a b : Bool) → a ≡ false → b ≡ false → (a || b) ≡ false
neither a b one two = rw (one, two) refl

-- ---- where no clash is told, no path meets a foreign file

first_none : {X : Type 0} (one other : Option X) → option_or one other ≡ None → one ≡ None
first_none None other is = refl
first_none (Some x) other is = cc

second_none : {X : Type 0} (one other : Option X) → option_or one other ≡ None → other ≡ None
second_none None other is = is
second_none (Some x) other is = cc

no_foreign : (path : List ℕ) (one : Option OwnedPath) (foreign : Bool) → reason_at path one foreign ≡ None → foreign ≡ false
no_foreign path (Some one) foreign is = cc
no_foreign path None true is = cc
no_foreign path None false is = refl

none_foreign : (tree : Tree) (owned : List OwnedPath) (pkg : Pkg) (before paths : List (List ℕ)) → clash_after tree owned pkg before paths ≡ None → list_any (meets_foreign_file tree owned) paths ≡ false
none_foreign tree owned pkg before [] none = refl
none_foreign tree owned pkg before (path ∷ paths) none =
    let here = first_none (clash_at tree owned pkg before path) (clash_after tree owned pkg (before ++ path ∷ []) paths) none in
    neither (meets_foreign_file tree owned path) (list_any (meets_foreign_file tree owned) paths)
    (no_foreign path (least_met (with_own owned pkg before) path) (meets_foreign_file tree owned path) here)
    (none_foreign tree owned pkg (before ++ path ∷ []) paths (second_none (clash_at tree owned pkg before path) (clash_after tree owned pkg (before ++ path ∷ []) paths) none))

placed_foreign : (tree : Tree) (owned : List OwnedPath) (pkg : Pkg) (brings : Sources) (files : List Placed) → install_verdict tree owned pkg brings ≡ Places files → list_any (meets_foreign_file tree owned) (paths_of files) ≡ false
placed_foreign tree owned pkg (Refused reason) files is = absurd cc
placed_foreign tree owned pkg (Found found) files is = by (first_clash_of tree owned pkg (paths_of found)) refl is
  where
    full : (b : Bool) → (if b then Fails SwitchFull else Places (in_path_order found)) ≡ Places files → files ≡ in_path_order found
    full true is = absurd cc
    full false is = cc

    by : (clash : Option Reason) → first_clash_of tree owned pkg (paths_of found) ≡ clash → unless_clash clash (unless_full owned found) ≡ Places files → list_any (meets_foreign_file tree owned) (paths_of files) ≡ false
    by (Some reason) clash is = absurd cc
    by None clash is =
        (let order = full (would_be_full owned found) is in
        ap (λ fs. list_any (meets_foreign_file tree owned) (paths_of fs)) order ∙ any_ordered (meets_foreign_file tree owned) found ∙ none_foreign tree owned pkg [] (paths_of found) clash)

back_foreign : (tree : Tree) (owned : List OwnedPath) (entries : List Member) (old : Member) (files : List Placed) → why_away tree owned entries old files ≡ None → list_any (meets_foreign_file tree owned) (paths_of files) ≡ false
back_foreign tree owned entries old files is =
    let second = second_none (why_unfit entries old) (option_or (why_full owned entries old files) (why_clash tree owned old files)) is in
    let clash = second_none (why_full owned entries old files) (why_clash tree owned old files) second in
    none_foreign tree owned (member_pkg old) [] (paths_of files) (by (first_clash_of tree owned (member_pkg old) (paths_of files)) clash)
  where
    by : (o : Option Reason) → option_map Clash o ≡ None → o ≡ None
    by None is = refl
    by (Some reason) is = absurd cc

-- ---- a foreign file is not at such a path

and_true : (a b : Bool) → a ≡ true → b ≡ true → (a && b) ≡ true
and_true a b one two = rw (one, two) refl

is_not : (b : Bool) → b ≡ false → not b ≡ true
is_not true none = absurd (false≢true (sym none))
is_not false none = refl

same_meets : (p q : List ℕ) → bytes_eq q p ≡ true → meets p q ≡ true
same_meets p q same = let e : q ≡ p = (bytes_eq-Decides q p).0 same in ap (λ b. b || is_above p q || is_above q p) (subst (λ x. bytes_eq p x ≡ true) (sym e) ((bytes_eq-Decides p p).1 refl))

never : (b : Bool) → (b ≡ true → ⊥) → b ≡ false
never true not_so = absurd (not_so refl)
never false not_so = refl

elsewhere : (tree : Tree) (owned : List OwnedPath) (paths : List (List ℕ)) (path : List ℕ) → list_any (meets_foreign_file tree owned) paths ≡ false → IsSome (get tree path) → is_foreign_file owned path ≡ true → list_any (bytes_eq path) paths ≡ false
elsewhere tree owned [] path none there foreign = refl
elsewhere tree owned (p ∷ paths) path none there foreign =
    neither (bytes_eq path p) (list_any (bytes_eq path) paths)
    (never (bytes_eq path p) (λ same. false≢true (sym (or_left (meets_foreign_file tree owned p) (list_any (meets_foreign_file tree owned) paths) none)
    ∙ some_key tree (λ file. is_foreign_file owned file && meets p file) path there (and_true (is_foreign_file owned path) (meets p path) foreign (same_meets p path same)))))
    (elsewhere tree owned paths path (or_right (meets_foreign_file tree owned p) (list_any (meets_foreign_file tree owned) paths) none) there foreign)

-- ---- owners afterwards

module _ (t : List ℕ → Bool) where
  any_put_by : (x y : OwnedPath) (ys : List OwnedPath) (b : Bool) → list_any t (owning.paths_of (put_by path_of x ys)) ≡ (t x.path || list_any t (owning.paths_of ys))
      → list_any t (owning.paths_of (if b then y ∷ put_by path_of x ys else x ∷ y ∷ ys)) ≡ (t x.path || (t y.path || list_any t (owning.paths_of ys)))
  any_put_by x y ys true later = ap (λ b. t y.path || b) later ∙ or_swap (t y.path) (t x.path) (list_any t (owning.paths_of ys))
  any_put_by x y ys false later = refl

  any_put : (x : OwnedPath) (ys : List OwnedPath) → list_any t (owning.paths_of (put_by path_of x ys)) ≡ (t x.path || list_any t (owning.paths_of ys))
  any_put x [] = refl
  any_put x (y ∷ ys) = any_put_by x y ys (precedes y.path x.path) (any_put x ys)

  none_owned : (pkg : Pkg) (paths : List (List ℕ)) (owned : List OwnedPath) → list_any t paths ≡ false → list_any t (owning.paths_of owned) ≡ false → list_any t (owning.paths_of (fold (own pkg) owned paths)) ≡ false
  none_owned pkg [] owned new old = old
  none_owned pkg (path ∷ paths) owned new old =
      none_owned pkg paths (own pkg owned path) (or_right (t path) (list_any t paths) new)
      (any_put (owned_by path pkg) owned ∙ neither (t path) (list_any t (owning.paths_of owned)) (or_left (t path) (list_any t paths) new) old)

  none_left : (keep : OwnedPath → Bool) (owned : List OwnedPath) → list_any t (owning.paths_of owned) ≡ false → list_any t (owning.paths_of (filter keep owned)) ≡ false
  none_left keep [] none = refl
  none_left keep (x ∷ owned) none = by (keep x) (none_left keep owned (or_right (t x.path) (list_any t (owning.paths_of owned)) none))
    where
      by : (b : Bool) → list_any t (owning.paths_of (filter keep owned)) ≡ false → list_any t (owning.paths_of (cond b (x ∷ filter keep owned) (filter keep owned))) ≡ false
      by true later = neither (t x.path) (list_any t (owning.paths_of (filter keep owned))) (or_left (t x.path) (list_any t (owning.paths_of owned)) none) later
      by false later = later

-- ---- one action

puts_at : (files : List Placed) → writes.paths_of (map put_of files) ≡ paths_of files
puts_at [] = refl
puts_at (file ∷ files) = ap (λ (ps : List (List ℕ)). file.path ∷ ps) (puts_at files)

takes_at : (paths : List (List ℕ)) → writes.paths_of (map removal_of paths) ≡ paths
takes_at [] = refl
takes_at (path ∷ paths) = ap (λ (ps : List (List ℕ)). path ∷ ps) (takes_at paths)

-- files come whose paths meet no foreign file
comes_alone : (point after : Point) (member : Member) (files : List Placed) (path : List ℕ) → after.state.owned ≡ fold (own (member_pkg member)) point.state.owned (paths_of files)
    → after.files ≡ with_writes (map put_of files) point.files → list_any (meets_foreign_file point.files point.state.owned) (paths_of files) ≡ false → IsForeign point.state point.files path → IsLeftAlone point after path
comes_alone point after member files path owned put none foreign =
    let is_foreign = and_true (not (is_inside path)) (not (list_any (bytes_eq path) (owning.paths_of point.state.owned))) (is_not (is_inside path) foreign.0) (is_not (list_any (bytes_eq path) (owning.paths_of point.state.owned)) foreign.2) in
    let apart = elsewhere point.files point.state.owned (paths_of files) path none foreign.1 is_foreign in
    let same : get after.files path ≡ get point.files path = ap (λ tree. get tree path) put ∙ get_off point.files (map put_of files) path (ap (list_any (bytes_eq path)) (puts_at files) ∙ apart) in
    record {
      same = same;
      foreign = (foreign.0, ap is_some same ∙ foreign.1, ap (λ os. list_any (bytes_eq path) (owning.paths_of os)) owned ∙ none_owned (bytes_eq path) (member_pkg member) (paths_of files) point.state.owned apart foreign.2);
    }

left_alone : (point : Point) (action : Action) (path : List ℕ) → IsMade point action → IsForeign point.state point.files path → IsLeftAlone point (point_after point action) path
left_alone point action path (removes entry) foreign =
    let pkg : Pkg = member_pkg entry in
    let owned = none_left (bytes_eq path) (is_owned_by pkg) point.state.owned foreign.2 in
    let same = get_off point.files (map removal_of (owning.paths_owned_by pkg point.state.owned)) path (ap (list_any (bytes_eq path)) (takes_at (owning.paths_owned_by pkg point.state.owned)) ∙ owned) in
    record { same = same; foreign = (foreign.0, ap is_some same ∙ foreign.1, none_left (bytes_eq path) (is_of_another pkg) point.state.owned foreign.2) }
left_alone point action path (installs member brings files is) foreign =
    comes_alone point (point_after point (Installs member files)) member files path refl refl (placed_foreign point.files point.state.owned (member_pkg member) brings files is) foreign
left_alone point action path (puts_back old files is) foreign =
    comes_alone point (point_after point (PutsBack old files)) old files path refl refl (back_foreign point.files point.state.owned point.state.members old files is) foreign

stays_alone : (start point : Point) (action : Action) (path : List ℕ) → IsMade point action → IsLeftAlone start point path → IsLeftAlone start (point_after point action) path
stays_alone start point action path made alone = let next = left_alone point action path made alone.foreign in record { same = next.same ∙ alone.same; foreign = next.foreign }

pub foreign_stay : ForeignFilesStay
foreign_stay change start count path foreign =
    after_made (λ point. IsLeftAlone start point path) (λ point action made alone. stays_alone start point action path made alone) start (done_in (all_decided change start)) count (all_made change start) (record { same = refl; foreign = foreign })
