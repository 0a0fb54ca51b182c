-- While a change removes packages: the next removal can follow.
use Rattle.std.proofs.Common.{◌≡◌, ℕ, zero, suc, ◌+◌, ◌≤◌, List, [], ◌∷◌, ◌++◌, map, filter, drop, length, Bool, true, false, not, cond, Option, Some, None, refl, sym, ap, ◌∙◌, subst, arith}
use Rattle.std.specs.Prelude.{◌&&◌, bytes_eq, is_some, nat_le, slice_get, if◌then◌else◌}
use Rattle.std.specs.List.{IsDistinct, list_any}
use Rattle.std.specs.Option.{option_map}
use Rattle.std.proofs.lemmas.Bool.Decides.{nat_tests}
use Rattle.std.proofs.lemmas.List.{length-map, length_push, map-append}
use Rattle.std.proofs.lemmas.Slice.Eq.{bytes_eq-Decides}
use Rattle.opam_names.specs.declared.packages.Pkg.{Pkg}
use Rattle.opam_package.specs.declared.package.Member.{Member}
use Rattle.owner_map.specs.Owning.{is_of_another, is_same_pkg}
use Rattle.journal_text.specs.Parts.{names_of}
use Rattle.journal_text.specs.declared.record.Entry.{Entry}
use Rattle.journal_text.specs.declared.record.KeptFiles.{KeptFiles}
use Rattle.switch_journal.specs.Applying.{are_few, are_few_paths, entries_of, has_pkg, is_another, is_next, is_of, is_put_back, is_removal, next_removal, removed, text_total, with_done, without_package}
use Rattle.switch_journal.specs.Contents.{Contents, entry_of}
use Rattle.switch_journal.specs.Reading.{standing_of}
use Rattle.switch_journal.specs.declared.request.Done.{Done}
use Rattle.switch_journal.specs.declared.request.Done.TheVariants as done
use Rattle.switch_journal.specs.declared.request.TheConstants.{ENTRY_LIMIT, OWNED_LIMIT, TEXT_LIMIT}
use Rattle.switch_state.specs.Actions.{CanFollow, Removes, and_noted, is_other_member}
use Rattle.switch_state.specs.Keeps.{is_member_of}
use Rattle.switch_state.specs.Sound.{is_removal_done, member_pkg}
use Rattle.switch_state.specs.State.{Request, SwitchState, contents_in, member_entry, open_of}
use Rattle.change_outcome.specs.Changes.{Change, Point, point_after}
use Rattle.change_outcome.specs.Running.{CanRun, leaving, stays_by}
use Rattle.change_outcome.proofs.Lists.{all_push, and_left, and_right, any_filter, any_map, any_push, both, count_push, distinct_at, distinct_drop, filter_same, filter_twice, get_drop, get_front, length_filter, or_left, or_right}

pub same_self : (pkg : Pkg) → is_same_pkg pkg pkg ≡ true
same_self pkg = both (bytes_eq pkg.name pkg.name) (bytes_eq pkg.version pkg.version) ((bytes_eq-Decides pkg.name pkg.name).1 refl) ((bytes_eq-Decides pkg.version pkg.version).1 refl)

-- ---- entries of contents

pub stood : (entries : List Entry) → map entry_of (map (standing_of []) entries) ≡ entries
stood [] = refl
stood (entry ∷ entries) = ap (λ es. entry ∷ es) (stood entries)

pub entries_in : (state : SwitchState) → entries_of (contents_in state) ≡ map member_entry state.members
entries_in state = stood (map member_entry state.members)

left_in : (pkg : Pkg) (members : List Member) → map entry_of (filter (is_another pkg) (map (standing_of []) (map member_entry members))) ≡ map member_entry (filter (is_other_member pkg) members)
left_in pkg [] = refl
left_in pkg (m ∷ members) = by (is_other_member pkg m) (left_in pkg members)
  where
    by : (b : Bool) → map entry_of (filter (is_another pkg) (map (standing_of []) (map member_entry members))) ≡ map member_entry (filter (is_other_member pkg) members)
        → map entry_of (cond b (standing_of [] (member_entry m) ∷ filter (is_another pkg) (map (standing_of []) (map member_entry members))) (filter (is_another pkg) (map (standing_of []) (map member_entry members))))
        ≡ map member_entry (cond b (m ∷ filter (is_other_member pkg) members) (filter (is_other_member pkg) members))
    by true later = ap (λ es. member_entry m ∷ es) later
    by false later = later

-- ---- few stay few

pub text_filter : (keep : Member → Bool) (members : List Member) → text_total (map member_entry (filter keep members)) ≤ text_total (map member_entry members)
text_filter keep [] = omega arith
text_filter keep (m ∷ members) = by (keep m) (text_filter keep members)
  where
    by : (b : Bool) → text_total (map member_entry (filter keep members)) ≤ text_total (map member_entry members)
        → text_total (map member_entry (cond b (m ∷ filter keep members) (filter keep members))) ≤ length m.opam + text_total (map member_entry members)
    by true later = omega (arith, later)
    by false later = omega (arith, later)

pub le_of : (n m : ℕ) → nat_le n m ≡ true → n ≤ m
le_of n m is = grind (arith, nat_tests)

pub of_le : (n m : ℕ) → n ≤ m → nat_le n m ≡ true
of_le n m is = grind (arith, nat_tests)

-- no more than what is few
pub fewer : (less more : List Member) → length less ≤ length more → text_total (map member_entry less) ≤ text_total (map member_entry more) → are_few (map member_entry more) ≡ true → are_few (map member_entry less) ≡ true
fewer less more count text few =
    let first = le_of (length (map member_entry more)) ENTRY_LIMIT (and_left (nat_le (length (map member_entry more)) ENTRY_LIMIT) (nat_le (text_total (map member_entry more)) TEXT_LIMIT) few) in
    let second = le_of (text_total (map member_entry more)) TEXT_LIMIT (and_right (nat_le (length (map member_entry more)) ENTRY_LIMIT) (nat_le (text_total (map member_entry more)) TEXT_LIMIT) few) in
    let one = length-map less member_entry in
    let other = length-map more member_entry in
    both (nat_le (length (map member_entry less)) ENTRY_LIMIT) (nat_le (text_total (map member_entry less)) TEXT_LIMIT)
    (of_le (length (map member_entry less)) ENTRY_LIMIT (omega (arith, first, one, other, count)))
    (of_le (text_total (map member_entry less)) TEXT_LIMIT (omega (arith, second, text)))

-- ---- requests

pub removals_counted : (things : List Done) → filter is_removal things ≡ filter is_removal_done things
removals_counted [] = refl
removals_counted (done.Removed pkg number kept ∷ things) = ap (λ ds. done.Removed pkg number kept ∷ ds) (removals_counted things)
removals_counted (done.Installed pkg ∷ things) = removals_counted things
removals_counted (done.PutBack pkg ∷ things) = removals_counted things

names_drop : (k : ℕ) (pkgs : List Pkg) → names_of (drop k pkgs) ≡ drop k (names_of pkgs)
names_drop zero pkgs = refl
names_drop (suc k) [] = refl
names_drop (suc k) (pkg ∷ pkgs) = names_drop k pkgs

-- where the change stands after so many of its removals
pub record Cleared (change : Change) (request : Request) (gone left : List Pkg) (point : Point) : Type 0 where
  pub members : point.state.members ≡ filter (stays_by gone) change.entries
  pub now : Request
  pub is_open : point.state.request ≡ Some now
  pub removals : now.removals ≡ request.removals
  pub target : now.target ≡ request.target
  pub removed : length (filter is_removal now.done) ≡ length (filter is_removal request.done) + length gone
  pub backs : list_any is_put_back now.done ≡ list_any is_put_back request.done
  pub few : are_few_paths point.state.owned ≡ true

pub cleared_first : (change : Change) (start : Point) (can : CanRun change start) → Cleared change can.request [] (leaving change) start
cleared_first change start can = record {
  members = can.entries ∙ all_kept change.entries;
  now = can.request;
  is_open = can.is_open;
  removals = refl;
  target = refl;
  removed = omega arith;
  backs = refl;
  few = and_right (are_few (map member_entry change.entries)) (are_few_paths start.state.owned) can.few_now;
}
  where
    all_kept : (members : List Member) → members ≡ filter (stays_by []) members
    all_kept [] = refl
    all_kept (m ∷ members) = ap (λ ms. m ∷ ms) (all_kept members)

module _ (change : Change) (start : Point) (can : CanRun change start) (gone more : List Pkg) (pkg : Pkg) (split : leaving change ≡ gone ++ pkg ∷ more) (point : Point) (cleared : Cleared change can.request gone (pkg ∷ more) point) where
  abbrev pub count : ℕ
  count = length (filter is_removal can.request.done)

  -- the removals that are left as the change begins
  lies : drop count can.request.removals ≡ gone ++ pkg ∷ more
  lies = ap (λ n. drop n can.request.removals) (ap length (removals_counted can.request.done)) ∙ can.left ∙ split

  next_is : next_removal (open_of cleared.now) ≡ Some pkg
  next_is =
      ap (λ n. slice_get cleared.now.removals n) cleared.removed ∙ ap (λ rs. slice_get rs (count + length gone)) cleared.removals
      ∙ sym (get_drop count (length gone) can.request.removals) ∙ ap (λ rs. slice_get rs (length gone)) lies ∙ get_front gone pkg more

  apart_from : list_any (bytes_eq pkg.name) (names_of gone) ≡ false
  apart_from =
      distinct_at (names_of gone) pkg.name (names_of more)
      (subst (IsDistinct bytes_eq) (ap names_of lies ∙ map-append (λ (p : Pkg). p.name) gone (pkg ∷ more)) (subst (IsDistinct bytes_eq) (sym (names_drop count can.request.removals)) (distinct_drop count (names_of can.request.removals) can.differ)))

  stays_yet : (gone : List Pkg) (entry : Member) → list_any (bytes_eq (member_pkg entry).name) (names_of gone) ≡ false → stays_by gone entry ≡ true
  stays_yet [] entry none = refl
  stays_yet (p ∷ gone) entry none =
      both (is_other_member p entry) (stays_by gone entry)
      (ap (λ b. not (b && bytes_eq (member_pkg entry).version p.version)) (or_left (bytes_eq (member_pkg entry).name p.name) (list_any (bytes_eq (member_pkg entry).name) (names_of gone)) none))
      (stays_yet gone entry (or_right (bytes_eq (member_pkg entry).name p.name) (list_any (bytes_eq (member_pkg entry).name) (names_of gone)) none))

  has_it : (at : ℕ) (entry : Member) → slice_get change.entries at ≡ Some entry → member_pkg entry ≡ pkg → has_pkg (contents_in point.state) pkg ≡ true
  has_it at entry there is =
      ap (list_any (is_of pkg)) (entries_in point.state) ∙ any_map member_entry (is_of pkg) point.state.members ∙ ap (list_any (is_member_of pkg)) cleared.members
      ∙ any_filter (is_member_of pkg) (stays_by gone) change.entries at entry there
      (stays_yet gone entry (ap (λ (p : Pkg). list_any (bytes_eq p.name) (names_of gone)) is ∙ apart_from))
      (ap (λ p. is_same_pkg p pkg) is ∙ same_self pkg)

  -- few are left
  few_left : (are_few (map member_entry (filter (is_other_member pkg) point.state.members)) && are_few_paths (filter (is_of_another pkg) point.state.owned)) ≡ true
  few_left =
      let members = fewer (filter (stays_by gone) change.entries) change.entries (length_filter (stays_by gone) change.entries) (text_filter (stays_by gone) change.entries) (and_left (are_few (map member_entry change.entries)) (are_few_paths start.state.owned) can.few_now) in
      let now = ap (λ ms. are_few (map member_entry ms)) cleared.members ∙ members in
      let paths = le_of (length point.state.owned) OWNED_LIMIT cleared.few in
      let less = length_filter (is_of_another pkg) point.state.owned in
      both (are_few (map member_entry (filter (is_other_member pkg) point.state.members))) (are_few_paths (filter (is_of_another pkg) point.state.owned))
      (fewer (filter (is_other_member pkg) point.state.members) point.state.members (length_filter (is_other_member pkg) point.state.members) (text_filter (is_other_member pkg) point.state.members) now)
      (of_le (length (filter (is_of_another pkg) point.state.owned)) OWNED_LIMIT (omega (arith, paths, less)))

  abbrev after : Contents
  after = with_done (done.Removed pkg point.number false) (open_of cleared.now) (without_package pkg (contents_in point.state))

  pub removal_follows : (at : ℕ) (entry : Member) → slice_get change.entries at ≡ Some entry → member_pkg entry ≡ pkg → CanFollow point.number (Removes pkg None) point.state
  removal_follows at entry there is =
      let can_be = both (is_next pkg (next_removal (open_of cleared.now)) && has_pkg (contents_in point.state) pkg) true
      (both (is_next pkg (next_removal (open_of cleared.now))) (has_pkg (contents_in point.state) pkg) (ap (is_next pkg) next_is ∙ same_self pkg) (has_it at entry there is)) refl in
      let few = ap (λ es. are_few es && are_few_paths (filter (is_of_another pkg) point.state.owned)) (left_in pkg point.state.members) ∙ few_left in
      let whole = both (is_next pkg (next_removal (open_of cleared.now)) && has_pkg (contents_in point.state) pkg && true) (are_few (entries_of after) && are_few_paths after.owned) can_be few in
      (after, ap (λ (r : Option Request). removed point.number pkg None (contents_in point.state) (option_map open_of r)) cleared.is_open ∙ ap (λ b. if b then Some after else None) whole)

  -- and where it stands after the removal
  pub cleared_next : (kept : Option KeptFiles) → Cleared change can.request (gone ++ pkg ∷ []) more (point_after point (Removes pkg kept))
  cleared_next kept = record {
    members =
        ap (filter (is_other_member pkg)) cleared.members ∙ filter_twice (is_other_member pkg) (stays_by gone) change.entries
        ∙ sym (filter_same (stays_by (gone ++ pkg ∷ [])) (λ m. is_other_member pkg m && stays_by gone m) change.entries (λ m. all_push (λ p. is_other_member p m) gone pkg));
    now = and_noted (done.Removed pkg point.number (is_some kept)) cleared.now;
    is_open = ap (option_map (and_noted (done.Removed pkg point.number (is_some kept)))) cleared.is_open;
    removals = cleared.removals;
    target = cleared.target;
    removed = (let e = count_push is_removal cleared.now.done (done.Removed pkg point.number (is_some kept)) refl in let f = cleared.removed in let g = length_push gone pkg in omega (arith, e, f, g));
    backs = any_push is_put_back cleared.now.done (done.Removed pkg point.number (is_some kept)) refl ∙ cleared.backs;
    few = (let paths = le_of (length point.state.owned) OWNED_LIMIT cleared.few in let less = length_filter (is_of_another pkg) point.state.owned in of_le (length (filter (is_of_another pkg) point.state.owned)) OWNED_LIMIT (omega (arith, paths, less)));
  }
