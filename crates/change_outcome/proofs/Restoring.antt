-- While packages are put back: the next one can come back, where it can.
use Rattle.std.proofs.Common.{◌≡◌, ℕ, zero, suc, ◌≤◌, List, [], ◌∷◌, ◌++◌, map, filter, length, Bool, true, false, not, Option, Some, None, refl, sym, ap, ◌∙◌, subst, arith, append_assoc}
use Rattle.std.specs.Prelude.{◌&&◌, ◌==◌, bytes_eq, drop, fold, is_some, nat_le, take_while, if◌then◌else◌, IfSome}
use Rattle.std.specs.List.{AllByRecursion, IsDistinct, list_all, list_any}
use Rattle.std.specs.Option.{option_map}
use Rattle.std.proofs.lemmas.Bool.{false≢true}
use Rattle.std.proofs.lemmas.Bool.Decides.{nat_tests}
use Rattle.std.proofs.lemmas.List.{append-nil, length-map, length_push, map-append}
use Rattle.opam_names.specs.declared.packages.Pkg.{Pkg}
use Rattle.opam_package.specs.declared.package.Member.{Member}
use Rattle.owner_map.specs.Owning.{is_same_pkg}
use Rattle.journal_text.specs.Parts.{names_of, paths_of}
use Rattle.journal_text.specs.declared.record.Placed.{Placed}
use Rattle.switch_journal.specs.Applying.{are_few, are_few_paths, are_removed, can_come, entries_of, has_name, is_before_all_back, is_kept_removal, is_named, is_removal, meets_owned, own, put_back, puts_back, text_total, up_to, with_done, with_package}
use Rattle.switch_journal.specs.Applying as applying
use Rattle.switch_journal.specs.Contents.{Contents, entry_of}
use Rattle.switch_journal.specs.Places.{record_path}
use Rattle.switch_journal.specs.declared.request.Done.TheVariants as done
use Rattle.switch_journal.specs.declared.request.TheConstants.{ENTRY_LIMIT, OWNED_LIMIT, TEXT_LIMIT}
use Rattle.switch_state.specs.Actions.{Action, CanFollow, PutsBack, and_noted}
use Rattle.switch_state.specs.Ends.{is_called, is_entry_name}
use Rattle.switch_state.specs.FormedLaws.{ActionsKeepForm}
use Rattle.switch_state.specs.Keeps.{wants as wants_name}
use Rattle.switch_state.specs.OpamTexts.{removed_by}
use Rattle.switch_state.specs.Sound.{NamesDiffer, is_removal_done, member_pkg, name_of, removals_left}
use Rattle.switch_state.specs.State.{Request, contents_in, member_entry, open_of}
use Rattle.switch_state.specs.Underway.{ActionsRemoveFirst, IsUnderway, RemovesFirst, removed_of}
use Rattle.switch_state.specs.WellFormed.{IsWellFormed}
use Rattle.back_verdict.specs.Backs.{with_last}
use Rattle.back_verdict.specs.BackLaws.{CanComeBack}
use Rattle.change_outcome.specs.Changes.{Change, Point, Removal, point_after, things_done}
use Rattle.change_outcome.specs.PossibleLaws.{CanRestore, StandsWell, WhatMayComeBackCanFollow, WhatMayComeBackStandsWell}
use Rattle.change_outcome.specs.PossibleRuns.{MayRestore, MayReturn, back as may_come_back, away as may_stay_away, ran_out, restores_on}
use Rattle.change_outcome.specs.PutBacks.{backs_left, is_back, is_missed}
use Rattle.change_outcome.specs.Steps.{Decided, point_then}
use Rattle.change_outcome.proofs.Clearing.{entries_in, of_le, removals_counted, same_self, stood}
use Rattle.change_outcome.proofs.Filling.{length_own}
use Rattle.change_outcome.proofs.Following.{step_point, then_next}
use Rattle.change_outcome.proofs.Lists.{and_left, any_front, any_map, any_push, both, count_same, distinct_at, neither, or_left, or_right}
use Rattle.change_outcome.proofs.Possible.{Along, IfCan, along, stands, stands_next}
use Rattle.change_outcome.proofs.Returning.{TakesBack, Turned, all_while, any_here, any_other, bytes_back, gone_pkgs, has_number, is_wanted, no_more_names, or_second, none_left, ran, removed_more, rest_while, takes, takes_all, turned}

-- ---- lists

-- none of those up to a package meets a test where none before it does, nor the package
none_up_to : (t : Pkg → Bool) (front : List Pkg) (pkg : Pkg) (more : List Pkg) → list_any t front ≡ false → t pkg ≡ false → list_any t (up_to pkg (front ++ pkg ∷ more)) ≡ false
none_up_to t [] pkg more none here = ap (λ b. list_any t (pkg ∷ (if b then [] else up_to pkg more))) (same_self pkg) ∙ neither (t pkg) false here refl
none_up_to t (x ∷ front) pkg more none here =
    neither (t x) (list_any t (if is_same_pkg x pkg then [] else up_to pkg (front ++ pkg ∷ more))) (or_left (t x) (list_any t front) none)
    (by (is_same_pkg x pkg) (none_up_to t front pkg more (or_right (t x) (list_any t front) none) here))
  where
    by : (b : Bool) → list_any t (up_to pkg (front ++ pkg ∷ more)) ≡ false → list_any t (if b then [] else up_to pkg (front ++ pkg ∷ more)) ≡ false
    by true later = refl
    by false later = later

same_count : (n m : ℕ) → n ≡ m → (n == m) ≡ true
same_count n m is = grind (arith, nat_tests)

any_in : {X : Type 0} (t : X → Bool) (front : List X) (x : X) (more : List X) → t x ≡ true → list_any t (front ++ x ∷ more) ≡ true
any_in t [] x more here = rw here refl
any_in t (y ∷ front) x more here = or_second (t y) (list_any t (front ++ x ∷ more)) (any_in t front x more here)

drop_all : {X : Type 0} (n : ℕ) (xs : List X) → n ≡ length xs → drop n xs ≡ []
drop_all zero [] is = refl
drop_all zero (x ∷ xs) is = absurd (omega (arith, is))
drop_all (suc n) [] is = refl
drop_all (suc n) (x ∷ xs) is = drop_all n xs (omega (arith, is))

true_not : (b : Bool) → not b ≡ false → b ≡ true
true_not true is = refl
true_not false is = absurd (false≢true (sym is))

text_push : (members : List Member) (m : Member) → text_total (map member_entry (members ++ m ∷ [])) ≡ text_total (map member_entry members ++ member_entry m ∷ [])
text_push members m = ap text_total (map-append member_entry members (m ∷ []))

differs_from : (name : List ℕ) (names : List (List ℕ)) → list_any (bytes_eq name) names ≡ false → AllByRecursion (λ y. bytes_eq name y ≡ false) names
differs_from name [] none = tt
differs_from name (x ∷ names) none = (or_left (bytes_eq name x) (list_any (bytes_eq name) names) none, differs_from name names (or_right (bytes_eq name x) (list_any (bytes_eq name) names) none))

apart_with : (name : List ℕ) (names : List (List ℕ)) → list_any (bytes_eq name) names ≡ false → IsDistinct bytes_eq names → IsDistinct bytes_eq (name ∷ names)
unfolding IsDistinct
apart_with name names none differ = (differs_from name names none, differ)

-- ---- where the put backs stand

pub record Restoring (change : Change) (request : Request) (left : List Removal) (point : Point) : Type 0 where
  pub turned : Turned change request point
  pub all : gone_pkgs point.removals ≡ request.removals
  pub missed : Removal → Bool
  pub wants : (removal : Removal) → missed removal ≡ true → is_wanted change removal.pkg.name ≡ true
  pub front : List Removal
  pub after : List Removal
  pub split : point.removals ≡ front ++ after
  pub takes : TakesBack missed front left
  pub untouched : list_any (λ (removal : Removal). list_any (puts_back removal.pkg) turned.noted.now.done) front ≡ false
  pub absent : list_any (λ (removal : Removal). missed removal && is_entry_name point.state.members removal.pkg.name) front ≡ false

-- the next of what is left, with what stands before it and behind
record Next (missed : Removal → Bool) (front : List Removal) (removal : Removal) (more : List Removal) : Type 0 where
  before : List Removal
  behind : List Removal
  is : front ≡ before ++ removal ∷ behind
  here : missed removal ≡ true
  later : TakesBack missed before more

next_of : (missed : Removal → Bool) (front left : List Removal) (removal : Removal) (more : List Removal) → left ≡ removal ∷ more → TakesBack missed front left → Next missed front removal more
next_of missed front left removal more is (none_left whole) = absurd cc
next_of missed front left removal more is (takes before x behind rest here later) =
    let e : x ≡ removal = cc in
    let f : rest ≡ more = cc in
    record { before = before; behind = behind; is = ap (λ z. before ++ z ∷ behind) e; here = ap missed (sym e) ∙ here; later = subst (TakesBack missed before) f later }

module _ (change : Change) (start : Point) (restores : CanRestore change start) where
  abbrev request : Request
  request = restores.runs.request

  -- the first of them
  restoring_first : (point : Point) → Turned change request point → RemovesFirst point.state → Restoring change request (backs_left point) point
  restoring_first point turned first =
      let now = turned.noted.now in
      let underway : IsUnderway point.state now = subst (λ (r : Option Request). IfSome r (IsUnderway point.state)) turned.noted.is_open first in
      let counted = ap length (removals_counted now.done) in
      let all_done : removals_left now ≡ [] = drop_all (length (filter is_removal_done now.done)) now.removals (let e = turned.counted in omega (arith, e, counted)) in
      let rest = rest_while (λ (removal : Removal). not (is_back point.state removal)) point.removals in
      let whole = all_while (λ (removal : Removal). not (is_back point.state removal)) point.removals in
      let front : List Removal = take_while (λ (removal : Removal). not (is_back point.state removal)) point.removals in
      record {
        turned = turned;
        all = turned.noted.removed ∙ sym (append-nil (removed_of now.done)) ∙ ap (λ ps. removed_of now.done ++ ps) (sym all_done) ∙ underway.removed ∙ turned.noted.removals;
        missed = is_missed point.state;
        wants = λ removal is. wanted removal is;
        front = front;
        after = rest.0;
        split = rest.1;
        takes = takes_all (is_missed point.state) front;
        untouched = any_other (λ (removal : Removal). not (not (is_back point.state removal))) (λ (removal : Removal). not (not (is_back point.state removal))) (λ (removal : Removal). list_any (puts_back removal.pkg) now.done) front
            (λ removal one two. sym (ap (λ (r : Option Request). list_any (puts_back removal.pkg) (things_done r)) turned.noted.is_open) ∙ not_twice (is_back point.state removal) one) whole whole;
        absent = none_now front;
      }
    where
      not_twice : (b : Bool) → not (not b) ≡ false → b ≡ false
      not_twice true is = absurd (false≢true (sym is))
      not_twice false is = refl

      wanted : (removal : Removal) → is_missed point.state removal ≡ true → is_wanted change removal.pkg.name ≡ true
      wanted removal is =
          let wants_it = and_left (wants_name removal.pkg.name point.state.request) (not (is_entry_name point.state.members removal.pkg.name)) is in
          ap (λ (ms : List Member). list_any (is_called removal.pkg.name) ms) (sym restores.runs.target ∙ sym turned.noted.target) ∙ ap (wants_name removal.pkg.name) (sym turned.noted.is_open) ∙ wants_it

      none_at : (a b : Bool) → ((a && not b) && b) ≡ false
      none_at true true = refl
      none_at true false = refl
      none_at false b = refl

      none_now : (front : List Removal) → list_any (λ (removal : Removal). is_missed point.state removal && is_entry_name point.state.members removal.pkg.name) front ≡ false
      none_now [] = refl
      none_now (removal ∷ front) =
          neither (is_missed point.state removal && is_entry_name point.state.members removal.pkg.name) (list_any (λ (removal : Removal). is_missed point.state removal && is_entry_name point.state.members removal.pkg.name) front)
          (none_at (wants_name removal.pkg.name point.state.request) (is_entry_name point.state.members removal.pkg.name)) (none_now front)

  module _ (point : Point) (removal : Removal) (more : List Removal) (restoring : Restoring change request (removal ∷ more) point) where
    abbrev now : Request
    now = restoring.turned.noted.now

    next : Next restoring.missed restoring.front removal more
    next = next_of restoring.missed restoring.front (removal ∷ more) removal more refl restoring.takes

    whole : point.removals ≡ next.before ++ removal ∷ (next.behind ++ restoring.after)
    whole = restoring.split ∙ ap (λ rs. rs ++ restoring.after) next.is ∙ append_assoc next.before (removal ∷ next.behind) restoring.after

    pkgs : request.removals ≡ gone_pkgs next.before ++ removal.pkg ∷ gone_pkgs (next.behind ++ restoring.after)
    pkgs = sym restoring.all ∙ ap gone_pkgs whole ∙ map-append (λ (r : Removal). r.pkg) next.before (removal ∷ (next.behind ++ restoring.after))

    wanted_here : is_wanted change removal.pkg.name ≡ true
    wanted_here = restoring.wants removal next.here

    untouched_all : list_any (λ (r : Removal). list_any (puts_back r.pkg) now.done) (next.before ++ removal ∷ next.behind) ≡ false
    untouched_all = ap (list_any (λ (r : Removal). list_any (puts_back r.pkg) now.done)) (sym next.is) ∙ restoring.untouched

    absent_all : list_any (λ (r : Removal). restoring.missed r && is_entry_name point.state.members r.pkg.name) (next.before ++ removal ∷ next.behind) ≡ false
    absent_all = ap (list_any (λ (r : Removal). restoring.missed r && is_entry_name point.state.members r.pkg.name)) (sym next.is) ∙ restoring.absent

    pub fresh : is_entry_name point.state.members removal.pkg.name ≡ false
    fresh = ap (λ b. b && is_entry_name point.state.members removal.pkg.name) (sym next.here) ∙ any_here (λ (r : Removal). restoring.missed r && is_entry_name point.state.members r.pkg.name) next.before removal next.behind absent_all

    pub numbered : is_some (removed_by removal.pkg point.state.request) ≡ true
    numbered =
        ap (λ (r : Option Request). is_some (removed_by removal.pkg r)) restoring.turned.noted.is_open
        ∙ has_number removal.pkg now.done
        (ap (list_any (λ gone. is_same_pkg gone removal.pkg)) (sym restoring.turned.noted.removed ∙ restoring.all ∙ pkgs)
        ∙ any_in (λ gone. is_same_pkg gone removal.pkg) (gone_pkgs next.before) removal.pkg (gone_pkgs (next.behind ++ restoring.after)) (same_self removal.pkg))

    none_before : list_any (applying.is_back (open_of now)) (up_to removal.pkg now.removals) ≡ false
    none_before =
        ap (λ ps. list_any (applying.is_back (open_of now)) (up_to removal.pkg ps)) (restoring.turned.noted.removals ∙ pkgs)
        ∙ none_up_to (applying.is_back (open_of now)) (gone_pkgs next.before) removal.pkg (gone_pkgs (next.behind ++ restoring.after))
        (any_map (λ (r : Removal). r.pkg) (applying.is_back (open_of now)) next.before ∙ any_front (λ (r : Removal). list_any (puts_back r.pkg) now.done) next.before (removal ∷ next.behind) untouched_all)
        (any_here (λ (r : Removal). list_any (puts_back r.pkg) now.done) next.before removal next.behind untouched_all)

    -- it leaves no more entries than there are members
    few_names : NamesDiffer point.state.members → suc (length point.state.members) ≤ length change.members
    few_names differ =
        let names : List (List ℕ) = map name_of point.state.members in
        let count = no_more_names (removal.pkg.name ∷ names) (map name_of change.members) (apart_with removal.pkg.name names (any_map name_of (bytes_eq removal.pkg.name) point.state.members ∙ fresh) differ)
        (both (list_any (bytes_eq removal.pkg.name) (map name_of change.members)) (list_all (λ n. list_any (bytes_eq n) (map name_of change.members)) names)
        (any_map name_of (bytes_eq removal.pkg.name) change.members ∙ wanted_here) (all_named point.state.members restoring.turned.wanted)) in
        let a = length-map point.state.members name_of in
        let b = length-map change.members name_of in
        omega (arith, count, a, b)
      where
        all_named : (members : List Member) → list_any (λ (m : Member). not (is_wanted change (name_of m))) members ≡ false → list_all (λ n. list_any (bytes_eq n) (map name_of change.members)) (map name_of members) ≡ true
        all_named [] none = refl
        all_named (m ∷ members) none =
            both (list_any (bytes_eq (name_of m)) (map name_of change.members)) (list_all (λ n. list_any (bytes_eq n) (map name_of change.members)) (map name_of members))
            (any_map name_of (bytes_eq (name_of m)) change.members ∙ true_not (is_wanted change (name_of m)) (or_left (not (is_wanted change (name_of m))) (list_any (λ (m : Member). not (is_wanted change (name_of m))) members) none))
            (all_named members (or_right (not (is_wanted change (name_of m))) (list_any (λ (m : Member). not (is_wanted change (name_of m))) members) none))

    module _ (formed : IsWellFormed point.state) (old : Member) (files : List Placed) (same : member_pkg old ≡ removal.pkg) (kept : list_any (is_kept_removal removal.pkg) (things_done point.state.request) ≡ true)
        (can : CanComeBack point.state.owned point.state.members old files) where
      abbrev after : Contents
      after = with_done (done.PutBack (member_pkg old)) (open_of now) (with_package (record_path point.number) (member_pkg old) old.opam files (contents_in point.state))

      entries_after : entries_of after ≡ map member_entry (point.state.members ++ old ∷ [])
      entries_after =
          map-append entry_of (contents_in point.state).standing (record { entry = member_entry old; from = record_path point.number } ∷ [])
          ∙ ap (λ es. es ++ member_entry old ∷ []) (stood (map member_entry point.state.members)) ∙ sym (map-append member_entry point.state.members (old ∷ []))

      few_entries : are_few (map member_entry (point.state.members ++ old ∷ [])) ≡ true
      few_entries =
          both (nat_le (length (map member_entry (point.state.members ++ old ∷ []))) ENTRY_LIMIT) (nat_le (text_total (map member_entry (point.state.members ++ old ∷ []))) TEXT_LIMIT)
          (of_le (length (map member_entry (point.state.members ++ old ∷ []))) ENTRY_LIMIT
          (let a = length-map (point.state.members ++ old ∷ []) member_entry in let b = length_push point.state.members old in let c = few_names formed.names in let d = restores.few in omega (arith, a, b, c, d)))
          (true_not (nat_le (text_total (map member_entry (with_last point.state.members old))) TEXT_LIMIT) can.room.short)

      few_paths : are_few_paths after.owned ≡ true
      few_paths =
          (let long = length_own (member_pkg old) (paths_of files) point.state.owned in
          let as_many = length-map files (λ (file : Placed). file.path) in
          let room = can.room.roomy in
          of_le (length (fold (own (member_pkg old)) point.state.owned (paths_of files))) OWNED_LIMIT (omega (arith, long, as_many, room)))

      absent : has_name (member_pkg old).name (contents_in point.state) ≡ false
      absent =
          ap (λ (p : Pkg). has_name p.name (contents_in point.state)) same ∙ ap (list_any (is_named removal.pkg.name)) (entries_in point.state)
          ∙ any_map member_entry (is_named removal.pkg.name) point.state.members ∙ fresh

      pub back_follows : CanFollow point.number (PutsBack old files) point.state
      back_follows =
          let r = open_of now in
          let c = contents_in point.state in
          let removed = same_count (length (filter is_removal now.done)) (length now.removals) restoring.turned.counted in
          let kept_now : list_any (is_kept_removal (member_pkg old)) now.done ≡ true =
          ap (λ p. list_any (is_kept_removal p) now.done) same ∙ sym (ap (λ (o : Option Request). list_any (is_kept_removal removal.pkg) (things_done o)) restoring.turned.noted.is_open) ∙ kept in
          let named : list_any (is_named (member_pkg old).name) r.target ≡ true =
          ap (λ (p : Pkg). list_any (is_named p.name) r.target) same ∙ any_map member_entry (is_named removal.pkg.name) now.target
          ∙ ap (list_any (is_called removal.pkg.name)) (restoring.turned.noted.target ∙ restores.runs.target) ∙ wanted_here in
          let before : is_before_all_back (member_pkg old) r ≡ true = ap (λ p. is_before_all_back p r) same ∙ ap not none_before in
          let comes = both (not (has_name (member_pkg old).name c)) (not (list_any (meets_owned c) (paths_of files))) (ap not absent) (ap not can.room.unmet) in
          let first = both (are_removed r) (list_any (is_kept_removal (member_pkg old)) r.done) removed kept_now in
          let second = both (are_removed r && list_any (is_kept_removal (member_pkg old)) r.done) (list_any (is_named (member_pkg old).name) r.target) first named in
          let third = both (are_removed r && list_any (is_kept_removal (member_pkg old)) r.done && list_any (is_named (member_pkg old).name) r.target) (is_before_all_back (member_pkg old) r) second before in
          let can_be = both (are_removed r && list_any (is_kept_removal (member_pkg old)) r.done && list_any (is_named (member_pkg old).name) r.target && is_before_all_back (member_pkg old) r) (can_come (member_pkg old) files c) third comes in
          let few = both (are_few (entries_of after)) (are_few_paths after.owned) (ap are_few entries_after ∙ few_entries) few_paths in
          let all = both (are_removed r && list_any (is_kept_removal (member_pkg old)) r.done && list_any (is_named (member_pkg old).name) r.target && is_before_all_back (member_pkg old) r && can_come (member_pkg old) files c)
          (are_few (entries_of after) && are_few_paths after.owned) can_be few in
          (after, ap (λ (o : Option Request). put_back (record_path point.number) (member_pkg old) old.opam files c (option_map open_of o)) restoring.turned.noted.is_open ∙ ap (λ b. if b then Some after else None) all)

      -- and where the put backs stand with it
      pub restoring_next : Restoring change request more (point_after point (PutsBack old files))
      restoring_next = record {
        turned = record {
          noted = record {
            now = and_noted (done.PutBack (member_pkg old)) now;
            is_open = ap (option_map (and_noted (done.PutBack (member_pkg old)))) restoring.turned.noted.is_open;
            target = restoring.turned.noted.target;
            removals = restoring.turned.noted.removals;
            removed = restoring.turned.noted.removed ∙ sym (removed_more now.done (done.PutBack (member_pkg old)) ∙ append-nil (removed_of now.done));
          };
          counted = count_same is_removal now.done (done.PutBack (member_pkg old)) refl ∙ restoring.turned.counted;
          wanted =
              any_push (λ (m : Member). not (is_wanted change (name_of m))) point.state.members old (ap (λ (p : Pkg). not (is_wanted change p.name)) same ∙ ap not wanted_here) ∙ restoring.turned.wanted;
        };
        all = restoring.all;
        missed = restoring.missed;
        wants = restoring.wants;
        front = next.before;
        after = removal ∷ (next.behind ++ restoring.after);
        split = whole;
        takes = next.later;
        untouched =
            any_other (λ (r : Removal). list_any (puts_back r.pkg) now.done) (λ (r : Removal). bytes_eq removal.pkg.name r.pkg.name) (λ (r : Removal). list_any (puts_back r.pkg) (now.done ++ done.PutBack (member_pkg old) ∷ [])) next.before
            (λ r one two. any_push (puts_back r.pkg) now.done (done.PutBack (member_pkg old)) (ap (λ p. is_same_pkg p r.pkg) same ∙ ap (λ b. b && bytes_eq removal.pkg.version r.pkg.version) two) ∙ one)
            (any_front (λ (r : Removal). list_any (puts_back r.pkg) now.done) next.before (removal ∷ next.behind) untouched_all) others;
        absent =
            any_other (λ (r : Removal). restoring.missed r && is_entry_name point.state.members r.pkg.name) (λ (r : Removal). bytes_eq removal.pkg.name r.pkg.name)
            (λ (r : Removal). restoring.missed r && is_entry_name (point.state.members ++ old ∷ []) r.pkg.name) next.before
            (λ r one two. ap (λ b. restoring.missed r && b)
            (any_push (is_called r.pkg.name) point.state.members old (ap (λ (p : Pkg). bytes_eq r.pkg.name p.name) same ∙ bytes_back removal.pkg.name r.pkg.name two)) ∙ one)
            (any_front (λ (r : Removal). restoring.missed r && is_entry_name point.state.members r.pkg.name) next.before (removal ∷ next.behind) absent_all) others;
      }
        where
          others : list_any (λ (r : Removal). bytes_eq removal.pkg.name r.pkg.name) next.before ≡ false
          others =
              sym (any_map (λ (r : Removal). r.pkg) (λ (p : Pkg). bytes_eq removal.pkg.name p.name) next.before) ∙ sym (any_map (λ (p : Pkg). p.name) (bytes_eq removal.pkg.name) (gone_pkgs next.before))
              ∙ distinct_at (names_of (gone_pkgs next.before)) removal.pkg.name (names_of (gone_pkgs (next.behind ++ restoring.after)))
              (subst (IsDistinct bytes_eq) (ap names_of pkgs ∙ map-append (λ (p : Pkg). p.name) (gone_pkgs next.before) (removal.pkg ∷ gone_pkgs (next.behind ++ restoring.after))) restores.runs.differ)

    -- where nothing is put back
    pub restoring_same : Restoring change request more point
    restoring_same = record {
      turned = restoring.turned;
      all = restoring.all;
      missed = restoring.missed;
      wants = restoring.wants;
      front = next.before;
      after = removal ∷ (next.behind ++ restoring.after);
      split = whole;
      takes = next.later;
      untouched = any_front (λ (r : Removal). list_any (puts_back r.pkg) now.done) next.before (removal ∷ next.behind) untouched_all;
      absent = any_front (λ (r : Removal). restoring.missed r && is_entry_name point.state.members r.pkg.name) next.before (removal ∷ next.behind) absent_all;
    }

    -- what may come of it, with what may be committed
    pub record Returns (does : Option Action) : Type 0 where
      pub commits : IfCan point does
      pub later : Restoring change request more (step_point point does)

    pub returns : IsWellFormed point.state → (decided : Decided) → MayReturn point removal decided → Returns decided.does
    returns formed decided (may_come_back old files same kept can spelled) = record { commits = (back_follows formed old files same kept can, spelled); later = restoring_next formed old files same kept can }
    returns formed decided (may_stay_away why) = record { commits = tt; later = restoring_same }

  -- along all of them
  pub record Restores (before : List Decided) (left : List Removal) : Type 0 where
    pub stands : StandsWell start (point_then start before) before
    pub restoring : Restoring change request left (point_then start before)

  pub restored : ActionsKeepForm → ActionsRemoveFirst → (before : List Decided) (left : List Removal) → MayRestore change start before left → Restores before left
  restored forms firsts whole_before whole_left (ran_out before out) =
      let point : Point = point_then start before in
      let so_far = ran change start restores firsts before out.runs in
      let there = subst (λ n. Along change request n point) out.all (along change start restores.runs before out.runs) in
      record {
        stands = stands change start restores.runs forms restores.formed before out.runs;
        restoring = restoring_first point (turned change start restores point so_far.noted there) so_far.first;
      }
  restored forms firsts whole_before whole_left (restores_on before removal more decided earlier may) =
      let so_far = restored forms firsts before (removal ∷ more) earlier in
      let it = returns (point_then start before) removal more so_far.restoring so_far.stands.formed decided may in
      record {
        stands = stands_next forms start before decided so_far.stands it.commits;
        restoring = subst (Restoring change request more) (sym (then_next start before decided)) it.later;
      }

pub backs_follow : ActionsKeepForm → ActionsRemoveFirst → WhatMayComeBackCanFollow
backs_follow forms firsts change start before removal more restores may =
    let point : Point = point_then start before in
    let so_far = restored change start restores forms firsts before (removal ∷ more) may in
    record {
      removed = numbered change start restores point removal more so_far.restoring;
      fresh = fresh change start restores point removal more so_far.restoring;
      follows = λ old files same kept can. back_follows change start restores point removal more so_far.restoring so_far.stands.formed old files same kept can;
    }

pub backs_stand : ActionsKeepForm → ActionsRemoveFirst → WhatMayComeBackStandsWell
backs_stand forms firsts change start before left restores may = (restored change start restores forms firsts before left may).stands
