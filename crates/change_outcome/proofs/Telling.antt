-- What is decided is among what may come.
use Rattle.std.proofs.Common.{◌≡◌, ℕ, zero, suc, ◌+◌, ◌-◌, ◌≤◌, List, [], ◌∷◌, ◌++◌, length, Bool, true, false, not, Option, Some, None, refl, sym, ap, ◌∙◌, subst, arith}
use Rattle.std.specs.Prelude.{◌&&◌, ◌||◌, IfSome, IsTrue, bytes_eq, filter, find, is_some, nat_le, slice_get, take_while, if◌then◌else◌}
use Rattle.std.specs.FinMap.{get}
use Rattle.std.specs.List.{All, cons_option, list_any}
use Rattle.std.specs.Option.{option_map}
use Rattle.std.proofs.lemmas.Bool.{false≢true}
use Rattle.std.proofs.lemmas.List.Elements.{All-cons, All-filter, All-head, All-nil, All-push, All-tail, All-weaker}
use Rattle.std.proofs.lemmas.List.Sorted.{All-permutation, IsPermutation-reverse}
use Rattle.opam_names.specs.declared.packages.Pkg.{Pkg}
use Rattle.opam_package.specs.declared.limits.TheConstants.{OPAM_LIMIT}
use Rattle.opam_package.specs.declared.package.Member.{Member}
use Rattle.owner_map.specs.Owning.{is_same_pkg, paths_owned_by}
use Rattle.journal_text.specs.Parts.{IsPackage, paths_of}
use Rattle.journal_text.specs.Records.{record_bytes}
use Rattle.journal_text.specs.declared.record.KeptFiles.{KeptFiles}
use Rattle.journal_text.specs.declared.record.Placed.{Placed}
use Rattle.journal_text.specs.declared.record.Rec.TheVariants.{Remove}
use Rattle.journal_text.specs.declared.record.TheConstants.{RECORD_LIMIT}
use Rattle.crash_disk.specs.Disks.{Kept, Tree}
use Rattle.switch_journal.specs.Applying.{are_few, are_few_paths, are_kept_right, entries_of, has_pkg, is_entry_with, is_kept_removal, is_next, next_removal, removed, with_done, without_package}
use Rattle.switch_journal.specs.Contents.{Contents}
use Rattle.switch_journal.specs.declared.request.Done.TheVariants as done
use Rattle.switch_journal.specs.declared.request.Done.{Done as Thing}
use Rattle.switch_state.specs.Actions.{Action, CanBeSpelled, CanFollow, Installs, PutsBack, Removes, noted}
use Rattle.switch_state.specs.FormedLaws.{ActionsKeepForm}
use Rattle.switch_state.specs.Gathering.{IsKeepable, IsPart, no_path, with_path, without_path}
use Rattle.switch_state.specs.Keeps.{byte_total, few_files, is_member_of, kept_if_short, kept_of, kept_with, recorded, standing_files, wants}
use Rattle.switch_state.specs.Sound.{member_pkg}
use Rattle.switch_state.specs.State.{Request, SwitchState, contents_in, open_of}
use Rattle.switch_state.specs.Underway.{ActionsRemoveFirst}
use Rattle.switch_state.specs.WellFormed.{IsWellFormed}
use Rattle.switch_state.specs.declared.removals.TheConstants.{KEPT_LIMIT}
use Rattle.switch_state.proofs.Acting.{entries_said}
use Rattle.switch_state.proofs.Alike.{both_hold, only}
use Rattle.switch_state.proofs.Parts.{part_owned}
use Rattle.switch_state.proofs.Removing.{bare_len, keep_part, removal_ordered, removal_short}
use Rattle.change_floor.specs.Floors.{first_turn, install_place, install_turn, lacking, turn_at, turn_of}
use Rattle.change_floor.specs.declared.turn.Turn.{Turn}
use Rattle.change_floor.specs.declared.turn.Turn.TheVariants.{Remove as RemoveTurn, Abort, Decide, Wait, Done}
use Rattle.action_graph.specs.declared.plan.Plan.{Plan}
use Rattle.action_graph.specs.declared.plan.Step.{Step}
use Rattle.outside_io.specs.declared.workshop.Fate.{Fate}
use Rattle.change_verdict.specs.Verdicts.{install_verdict}
use Rattle.change_verdict.specs.declared.verdict.Verdict.{Verdict}
use Rattle.change_verdict.specs.declared.verdict.Verdict.TheVariants.{Places, Fails}
use Rattle.back_verdict.specs.Backs.{why_away, why_of}
use Rattle.back_verdict.specs.declared.why.Why.{Why}
use Rattle.back_verdict.specs.declared.why.Why.TheVariants.{NotKept}
use Rattle.change_outcome.specs.Changes.{Built, Change, Point, Removal, kept_entry, things_done}
use Rattle.change_outcome.specs.Outcomes.{actions_decided, first_decided, turn_after}
use Rattle.change_outcome.specs.PossibleLaws.{CanBeRecorded, CanRestore, IsKeptFor, TurnCanFollow, WhatIsDecidedMayCome, WhatIsPutBackMayCome}
use Rattle.change_outcome.specs.PossibleRuns.{MayBeDecided, MayRestore, MayReturn, MayRun, MayRunOut, removed as may_remove, aborted as may_abort, installed as may_install, failed as may_fail, back as may_come_back, away as may_stay_away, begins, goes_on, ran_out, restores_on}
use Rattle.change_outcome.specs.PutBacks.{backs_left, is_back, is_missed, with_backs}
use Rattle.change_outcome.specs.Running.{CanRun}
use Rattle.change_outcome.specs.Steps.{Decided, abort_of, back_of, back_with, decided_on, install_of, install_with, point_then, removal_of, which_done}
use Rattle.change_outcome.proofs.Clearing.{same_self}
use Rattle.change_outcome.proofs.Following.{counted, step_point, then_next}
use Rattle.change_outcome.proofs.Lists.{and_left, and_right, both}
use Rattle.change_outcome.proofs.Placing.{comes_back, placing}
use Rattle.change_outcome.proofs.Possible.{Along, IfCan, along, counted_so, leads, may_at, stands}
use Rattle.change_outcome.proofs.Returning.{bytes_same, or_second, ran, rest_while}
use Rattle.change_outcome.proofs.Spelling.{backs_spelled, installs_spelled}

-- ---- what a removal keeps

part_more : (tree : Tree) (path : List ℕ) (paths : List (List ℕ)) → IsPart (paths_of (standing_files tree paths)) paths → IsPart (paths_of (standing_files tree (path ∷ paths))) (path ∷ paths)
part_more tree path paths later = by (get tree path)
  where
    by : (o : Option Kept) → IsPart (paths_of (cons_option (option_map (recorded path) o) (standing_files tree paths))) (path ∷ paths)
    by None = without_path path later
    by (Some file) = with_path path later

stands_part : (tree : Tree) (paths : List (List ℕ)) → IsPart (paths_of (standing_files tree paths)) paths
stands_part tree [] = no_path
stands_part tree (path ∷ paths) = part_more tree path paths (stands_part tree paths)

keepable : (state : SwitchState) (pkg : Pkg) (tree : Tree) → IfSome (kept_of state pkg tree) (IsKeepable state.members pkg (paths_owned_by pkg state.owned))
keepable state pkg tree = by (wants pkg.name state.request)
  where
    files : List Placed
    files = standing_files tree (paths_owned_by pkg state.owned)

    by_files : (member : Member) → find (is_member_of pkg) state.members ≡ Some member → (b : Bool) → IfSome (kept_with pkg (Some member) (if b then Some (standing_files tree (paths_owned_by pkg state.owned)) else None)) (IsKeepable state.members pkg (paths_owned_by pkg state.owned))
    by_files member found true = keep_part state.members pkg (paths_owned_by pkg state.owned) member (standing_files tree (paths_owned_by pkg state.owned)) (kept_if_short pkg (record { opam = member.opam; files = standing_files tree (paths_owned_by pkg state.owned) })) found (stands_part tree (paths_owned_by pkg state.owned)) refl
    by_files member found false = tt

    by_member : (o : Option Member) → find (is_member_of pkg) state.members ≡ o → IfSome (kept_with pkg o (few_files tree (paths_owned_by pkg state.owned))) (IsKeepable state.members pkg (paths_owned_by pkg state.owned))
    by_member None found = tt
    by_member (Some member) found = by_files member found (nat_le (byte_total (standing_files tree (paths_owned_by pkg state.owned))) KEPT_LIMIT)

    by : (b : Bool) → IfSome (if b then kept_with pkg (find (is_member_of pkg) state.members) (few_files tree (paths_owned_by pkg state.owned)) else None) (IsKeepable state.members pkg (paths_owned_by pkg state.owned))
    by true = by_member (find (is_member_of pkg) state.members) refl
    by false = tt

right_kept : (state : SwitchState) (pkg : Pkg) (kept : Option KeptFiles) → IsWellFormed state → IfSome kept (IsKeepable state.members pkg (paths_owned_by pkg state.owned)) → are_kept_right pkg kept (contents_in state) ≡ true
right_kept state pkg None formed keep = refl
right_kept state pkg (Some kept) formed keep =
    both (list_any (is_entry_with pkg kept.opam) (entries_of (contents_in state))) _ (ap (list_any (is_entry_with pkg kept.opam)) (entries_said state) ∙ keep.opam) (part_owned pkg state.owned (paths_of kept.files) formed.paths.apart.rise keep.part)

-- a removal that keeps what it may follows where one does that keeps nothing
follows_kept : (number : ℕ) (pkg : Pkg) (kept : Option KeptFiles) (state : SwitchState) → are_kept_right pkg kept (contents_in state) ≡ true → CanFollow number (Removes pkg None) state → CanFollow number (Removes pkg kept) state
follows_kept number pkg kept state right can = by state.request can.0 can.1
  where
    c : Contents
    c = contents_in state

    by : (request : Option Request) (after : Contents) → removed number pkg None (contents_in state) (option_map open_of request) ≡ Some after → (next : Contents) × (removed number pkg kept (contents_in state) (option_map open_of request) ≡ Some next)
    by None after is = absurd cc
    by (Some request) after is =
        let r = open_of request in
        let it = only (is_next pkg (next_removal r) && has_pkg (contents_in state) pkg && true) (with_done (done.Removed pkg number false) r (without_package pkg (contents_in state))) after is in
        let next : Contents = with_done (done.Removed pkg number (is_some kept)) r (without_package pkg (contents_in state)) in (
          next,
          both_hold (is_next pkg (next_removal r) && has_pkg (contents_in state) pkg && are_kept_right pkg kept (contents_in state)) (are_few (entries_of next) && are_few_paths next.owned) next
              (both (is_next pkg (next_removal r) && has_pkg (contents_in state) pkg) (are_kept_right pkg kept (contents_in state)) (and_left (is_next pkg (next_removal r) && has_pkg (contents_in state) pkg) true it.can_be) right) it.few,
        )

spelled_kept : (state : SwitchState) (pkg : Pkg) (kept : Option KeptFiles) → IsWellFormed state → IsPackage pkg → IfSome kept (IsKeepable state.members pkg (paths_owned_by pkg state.owned)) → CanBeSpelled (Removes pkg kept)
spelled_kept state pkg kept formed valid keep = record {
  ordered = removal_ordered state pkg kept (paths_owned_by pkg state.owned) formed refl keep;
  short = removal_short state.members pkg kept (paths_owned_by pkg state.owned) (let long = bare_len pkg in let name = valid.name.short in let version = valid.version.short in omega (arith, long, name, version)) keep;
}

-- ---- the next turn

abbrev IsNoWait : Turn → Type 0
IsNoWait (RemoveTurn at) = Unit {0}
IsNoWait (Abort at need) = Unit {0}
IsNoWait (Decide at fate) = Unit {0}
IsNoWait Wait = ⊥
IsNoWait Done = Unit {0}

no_wait : (plan : Plan) (bools : List Bool) (fates : ℕ → Fate) → IsNoWait (turn_of plan bools (λ place. Some (fates place)))
no_wait plan bools fates = first (slice_get plan.removals (length bools)) (turn_at (slice_get plan.installs (length bools - length plan.removals)) plan bools (Some (fates (length bools - length plan.removals)))) (later (slice_get plan.installs (length bools - length plan.removals)))
  where
    by_lack : (at : ℕ) (lacks : Option ℕ) (fate : Fate) → IsNoWait (install_turn at lacks (Some fate))
    by_lack at (Some need) fate = tt
    by_lack at None fate = tt

    later : (step : Option Step) → IsNoWait (turn_at step plan bools (Some (fates (length bools - length plan.removals))))
    later None = tt
    later (Some step) = by_lack step.member (lacking plan bools step.needs) (fates (length bools - length plan.removals))

    first : (removal : Option ℕ) (turn : Turn) → IsNoWait turn → IsNoWait (first_turn removal turn)
    first None turn is = is
    first (Some at) turn is = tt

all_at_place : {X : Type 0} (P : X → Type 0) (xs : List X) (n : ℕ) (x : X) → All P xs → slice_get xs n ≡ Some x → P x
all_at_place P [] n x all is = absurd cc
all_at_place P (y ∷ xs) zero x all is = (let e : y ≡ x = cc in subst P e (All-head P y xs all))
all_at_place P (y ∷ xs) (suc n) x all is = all_at_place P xs n x (All-tail P y xs all) is

module _ (change : Change) (recorded : CanBeRecorded change) where
  decided_may : (point : Point) (turn : Turn) → TurnCanFollow change point turn → IsNoWait turn → IsWellFormed point.state → MayBeDecided change point turn (decided_on change point turn)
  decided_may point (RemoveTurn at) can goes formed =
      let pkg : Pkg = member_pkg can.0 in
      let keep = keepable point.state pkg point.files in
      let valid = all_at_place (λ m. IsPackage (member_pkg m)) change.entries at can.0 recorded.entries can.1 in
      subst (λ o. MayBeDecided change point (RemoveTurn at) (removal_of point o)) (sym can.1)
      (may_remove at can.0 (kept_of point.state pkg point.files) can.1 (follows_kept point.number pkg (kept_of point.state pkg point.files) point.state (right_kept point.state pkg (kept_of point.state pkg point.files) formed keep) can.2)
      (spelled_kept point.state pkg (kept_of point.state pkg point.files) formed valid keep))
  decided_may point (Abort at need) can goes formed = may_abort at need
  decided_may point (Decide at fate) can goes formed =
      subst (λ o. MayBeDecided change point (Decide at fate) (install_of point o (change.built (install_place change.plan.installs at)))) (sym can.1)
      (by (install_verdict point.files point.state.owned (member_pkg can.0) (change.built (install_place change.plan.installs at)).brings) refl)
    where
      by : (verdict : Verdict) → install_verdict point.files point.state.owned (member_pkg can.0) (change.built (install_place change.plan.installs at)).brings ≡ verdict → MayBeDecided change point (Decide at fate) (install_with can.0 verdict)
      by (Fails reason) is = may_fail at fate can.0 reason can.1
      by (Places files) is =
          let place : ℕ = install_place change.plan.installs at in
          let it = placing point.files point.state.owned (member_pkg can.0) (change.built place).brings files (recorded.brought place) (recorded.placed place) is in
          may_install at fate can.0 files can.1 it.can
          (installs_spelled point.state.owned can.0 files (record { is_package = all_at_place (λ m. IsPackage (member_pkg m)) change.members at can.0 recorded.members can.1; are_placed = it.at_paths })
          (all_at_place (λ (m : Member). length m.opam ≤ OPAM_LIMIT) change.members at can.0 recorded.texts can.1) it.can)
  decided_may point Wait can goes formed = absurd goes
  decided_may point Done can goes formed = absurd can

  module _ (start : Point) (can : CanRun change start) (formed : IsWellFormed start.state) (forms : ActionsKeepForm) where
    pub decided_runs : (n : ℕ) → n ≤ length change.plan.removals + length change.plan.installs → MayRun change start (first_decided change start n)
    decided_runs zero within = begins
    decided_runs (suc n) within =
        let before : List Decided = first_decided change start n in
        let point : Point = point_then start before in
        let runs = decided_runs n (omega (arith, within)) in
        let long = counted change start n in
        let lead = leads change start can n (which_done before) (λ place. Some (change.built place).fate) point long (omega (arith, within)) (subst (λ k. Along change can.request k point) (sym (counted_so change start can before) ∙ long) (along change start can before runs)) in
        let well = stands change start can forms formed before runs in
        goes_on before (λ place. Some (change.built place).fate) (decided_on change point (turn_after change before)) runs
        (decided_may point (turn_after change before) lead.follows (no_wait change.plan (which_done before) (λ place. (change.built place).fate)) well.formed)

pub decided_come : ActionsKeepForm → WhatIsDecidedMayCome
decided_come forms change start count can formed recorded within = decided_runs change recorded start can formed forms count within

-- ---- what is kept of what was removed

any_grow : (t : Thing → Bool) (xs ys : List Thing) → list_any t xs ≡ true → list_any t (xs ++ ys) ≡ true
any_grow t [] ys there = absurd (false≢true there)
any_grow t (x ∷ xs) ys there = by (t x) there (any_grow t xs ys)
  where
    by : (b : Bool) → (b || list_any t xs) ≡ true → (list_any t xs ≡ true → list_any t (xs ++ ys) ≡ true) → (b || list_any t (xs ++ ys)) ≡ true
    by true there later = refl
    by false there later = later there

any_last : (t : Thing → Bool) (xs : List Thing) (x : Thing) → t x ≡ true → list_any t (xs ++ x ∷ []) ≡ true
any_last t [] x here = ap (λ b. b || false) here
any_last t (y ∷ xs) x here = or_second (t y) (list_any t (xs ++ x ∷ [])) (any_last t xs x here)

more_things : (things : List Thing) (what : Thing) (removal : Removal) → IsKeptFor things removal → IsKeptFor (things ++ what ∷ []) removal
more_things things what removal = by removal.kept
  where
    by : (o : Option (Member × List Placed)) → IfSome o (λ kept. (member_pkg kept.0 ≡ removal.pkg) × CanBeSpelled (PutsBack kept.0 kept.1) × IsTrue (list_any (is_kept_removal removal.pkg) things))
        → IfSome o (λ kept. (member_pkg kept.0 ≡ removal.pkg) × CanBeSpelled (PutsBack kept.0 kept.1) × IsTrue (list_any (is_kept_removal removal.pkg) (things ++ what ∷ [])))
    by None kept = tt
    by (Some old) kept = (kept.0, kept.1, any_grow (is_kept_removal removal.pkg) things (what ∷ []) kept.2)

-- so of a list of them, where one thing more is noted
all_noted : (request : Option Request) (what : Thing) (removals : List Removal) → All (IsKeptFor (things_done request)) removals → All (IsKeptFor (things_done (noted what request))) removals
all_noted None what removals all = all
all_noted (Some request) what removals all = All-weaker (IsKeptFor request.done) (IsKeptFor (request.done ++ what ∷ [])) (λ removal kept. more_things request.done what removal kept) removals all

found_is : (t : Member → Bool) (members : List Member) (m : Member) → find t members ≡ Some m → t m ≡ true
found_is t [] m is = absurd cc
found_is t (x ∷ members) m is = by (t x) refl is (found_is t members m)
  where
    by : (b : Bool) → t x ≡ b → (if b then Some x else find t members) ≡ Some m → (find t members ≡ Some m → t m ≡ true) → t m ≡ true
    by true here is later = (let e : x ≡ m = cc in ap t (sym e) ∙ here)
    by false here is later = later is

same_pkg : (one other : Pkg) → is_same_pkg one other ≡ true → one ≡ other
same_pkg one other is =
    let name = bytes_same one.name other.name (and_left (bytes_eq one.name other.name) (bytes_eq one.version other.version) is) in
    let version = bytes_same one.version other.version (and_right (bytes_eq one.name other.name) (bytes_eq one.version other.version) is) in
    λ i. record { name = name i; version = version i }

-- what is kept has the opam text of the entry
opam_kept : (state : SwitchState) (pkg : Pkg) (tree : Tree) (entry : Member) (kept : KeptFiles) → find (is_member_of pkg) state.members ≡ Some entry → kept_of state pkg tree ≡ Some kept → entry.opam ≡ kept.opam
opam_kept state pkg tree entry kept found is = by (wants pkg.name state.request) (ap (λ o. if wants pkg.name state.request then kept_with pkg o (few_files tree (paths_owned_by pkg state.owned)) else None) (sym found) ∙ is)
  where
    by_short : (files : List Placed) (b : Bool) → (if b then Some (record { opam = entry.opam; files = files }) else None) ≡ Some kept → entry.opam ≡ kept.opam
    by_short files true is =
        let it : KeptFiles = record { opam = entry.opam; files = files } in
        let e : Some it ≡ Some kept = is in
        let f : it ≡ kept = cc in
        ap (λ (k : KeptFiles). k.opam) f
    by_short files false is = absurd cc

    by_files : (files : Option (List Placed)) → kept_with pkg (Some entry) files ≡ Some kept → entry.opam ≡ kept.opam
    by_files None is = absurd cc
    by_files (Some files) is = by_short files (nat_le (length (record_bytes (Remove pkg (Some (record { opam = entry.opam; files = files }))))) RECORD_LIMIT) is

    by : (b : Bool) → (if b then kept_with pkg (Some entry) (few_files tree (paths_owned_by pkg state.owned)) else None) ≡ Some kept → entry.opam ≡ kept.opam
    by true is = by_files (few_files tree (paths_owned_by pkg state.owned)) is
    by false is = absurd cc

kept_now : (point : Point) (pkg : Pkg) (kept : Option KeptFiles) (things : List Thing) → kept ≡ kept_of point.state pkg point.files → CanBeSpelled (Removes pkg kept)
    → IsKeptFor (things ++ done.Removed pkg point.number (is_some kept) ∷ []) (record { pkg = pkg; kept = kept_entry (find (is_member_of pkg) point.state.members) kept })
kept_now point pkg kept things is spelled = by (find (is_member_of pkg) point.state.members) kept refl is spelled
  where
    by : (o : Option Member) (k : Option KeptFiles) → find (is_member_of pkg) point.state.members ≡ o → k ≡ kept_of point.state pkg point.files → CanBeSpelled (Removes pkg k)
        → IsKeptFor (things ++ done.Removed pkg point.number (is_some k) ∷ []) (record { pkg = pkg; kept = kept_entry o k })
    by None k found is spelled = tt
    by (Some entry) None found is spelled = tt
    by (Some entry) (Some k) found is spelled =
        let same = same_pkg (member_pkg entry) pkg (found_is (is_member_of pkg) point.state.members entry found) in (
          same,
          backs_spelled entry k (opam_kept point.state pkg point.files entry k found (sym is)) (subst (λ p. CanBeSpelled (Removes p (Some k))) (sym same) spelled),
          any_last (is_kept_removal pkg) things (done.Removed pkg point.number true) (same_self pkg),
        )

-- an action that keeps what it has to
abbrev IfKeeps : Point → Option Action → Type 0
IfKeeps point None = Unit {0}
IfKeeps point (Some (Installs member files)) = Unit {0}
IfKeeps point (Some (Removes pkg kept)) = kept ≡ kept_of point.state pkg point.files
IfKeeps point (Some (PutsBack member files)) = Unit {0}

removal_keeps : (point : Point) (entry : Option Member) → IfKeeps point (removal_of point entry).does
removal_keeps point None = tt
removal_keeps point (Some entry) = refl

abort_keeps : (point : Point) (member need : Option Member) → IfKeeps point (abort_of member need).does
abort_keeps point None need = tt
abort_keeps point (Some member) None = tt
abort_keeps point (Some member) (Some need) = tt

verdict_keeps : (point : Point) (member : Member) (verdict : Verdict) → IfKeeps point (install_with member verdict).does
verdict_keeps point member (Places files) = tt
verdict_keeps point member (Fails reason) = tt

install_keeps : (point : Point) (member : Option Member) (built : Built) → IfKeeps point (install_of point member built).does
install_keeps point None built = tt
install_keeps point (Some member) built = verdict_keeps point member (install_verdict point.files point.state.owned (member_pkg member) built.brings)

turn_keeps : (change : Change) (point : Point) (turn : Turn) → IfKeeps point (decided_on change point turn).does
turn_keeps change point (RemoveTurn at) = removal_keeps point (slice_get change.entries at)
turn_keeps change point (Abort at need) = abort_keeps point (slice_get change.members at) (slice_get change.members need)
turn_keeps change point (Decide at fate) = install_keeps point (slice_get change.members at) (change.built (install_place change.plan.installs at))
turn_keeps change point Wait = tt
turn_keeps change point Done = tt

abbrev AllKept : Point → Type 0
AllKept point = All (IsKeptFor (things_done point.state.request)) point.removals

kept_step : (point : Point) (now : Request) → point.state.request ≡ Some now → (does : Option Action) → IfCan point does → IfKeeps point does → AllKept point → AllKept (step_point point does)
kept_step point now is None can keeps all = all
kept_step point now is (Some (Installs member files)) can keeps all = all_noted point.state.request (done.Installed (member_pkg member)) point.removals all
kept_step point now is (Some (PutsBack member files)) can keeps all = all_noted point.state.request (done.PutBack (member_pkg member)) point.removals all
kept_step point now is (Some (Removes pkg kept)) can keeps all =
    All-push (IsKeptFor (things_done (noted (done.Removed pkg point.number (is_some kept)) point.state.request))) point.removals (record { pkg = pkg; kept = kept_entry (find (is_member_of pkg) point.state.members) kept })
    (all_noted point.state.request (done.Removed pkg point.number (is_some kept)) point.removals all)
    (subst (λ (r : Option Request). IsKeptFor (things_done (noted (done.Removed pkg point.number (is_some kept)) r)) (record { pkg = pkg; kept = kept_entry (find (is_member_of pkg) point.state.members) kept })) (sym is)
    (kept_now point pkg kept now.done keeps can.1))

-- ---- put backs

front_all : {X : Type 0} (P : X → Type 0) (xs ys : List X) → All P (xs ++ ys) → All P xs
front_all P [] ys all = All-nil P
front_all P (x ∷ xs) ys all = All-cons P x xs (All-head P x (xs ++ ys) all) (front_all P xs ys (All-tail P x (xs ++ ys) all))

back_may : (point : Point) (removal : Removal) → IsKeptFor (things_done point.state.request) removal → MayReturn point removal (back_of point removal)
back_may point removal kept_for = by removal.kept kept_for
  where
    by_why : (old : Member × List Placed) (why : Option Why) → why_away point.files point.state.owned point.state.members old.0 old.1 ≡ why
        → (member_pkg old.0 ≡ removal.pkg) × CanBeSpelled (PutsBack old.0 old.1) × IsTrue (list_any (is_kept_removal removal.pkg) (things_done point.state.request)) → MayReturn point removal (back_with removal (Some old) why)
    by_why old (Some why) is kept_for = may_stay_away why
    by_why old None is kept_for = may_come_back old.0 old.1 kept_for.0 kept_for.2 (comes_back point.files point.state.owned point.state.members old.0 old.1 is) kept_for.1

    by : (o : Option (Member × List Placed)) → IfSome o (λ kept. (member_pkg kept.0 ≡ removal.pkg) × CanBeSpelled (PutsBack kept.0 kept.1) × IsTrue (list_any (is_kept_removal removal.pkg) (things_done point.state.request)))
        → MayReturn point removal (back_with removal o (why_of point.files point.state.owned point.state.members o))
    by None kept_for = may_stay_away NotKept
    by (Some old) kept_for = by_why old (why_away point.files point.state.owned point.state.members old.0 old.1) refl kept_for

back_does : (point : Point) (removal : Removal) (left : List Removal) → All (IsKeptFor (things_done point.state.request)) left → All (IsKeptFor (things_done (step_point point (back_of point removal).does).state.request)) left
back_does point removal left all = by removal.kept (why_of point.files point.state.owned point.state.members removal.kept)
  where
    by : (o : Option (Member × List Placed)) (why : Option Why) → All (IsKeptFor (things_done (step_point point (back_with removal o why).does).state.request)) left
    by o (Some why) = all
    by None None = all
    by (Some old) None = all_noted point.state.request (done.PutBack (member_pkg old.0)) left all

backs_come : (change : Change) (start : Point) (before : List Decided) (front left : List Removal) → MayRestore change start before (front ++ left) → All (IsKeptFor (things_done (point_then start before).state.request)) front
    → MayRestore change start (with_backs start before front) left
backs_come change start before [] left may all = may
backs_come change start before (removal ∷ front) left may all =
    let point : Point = point_then start before in
    let next : Decided = back_of point removal in
    backs_come change start (before ++ next ∷ []) front left
    (restores_on before removal (front ++ left) next may (back_may point removal (All-head (IsKeptFor (things_done point.state.request)) removal front all)))
    (subst (λ (p : Point). All (IsKeptFor (things_done p.state.request)) front) (sym (then_next start before next))
    (back_does point removal front (All-tail (IsKeptFor (things_done point.state.request)) removal front all)))

module _ (change : Change) (recorded : CanBeRecorded change) (start : Point) (restores : CanRestore change start) (forms : ActionsKeepForm) (firsts : ActionsRemoveFirst) (kept : AllKept start) where
  kept_along : (n : ℕ) → n ≤ length change.plan.removals + length change.plan.installs → AllKept (point_then start (first_decided change start n))
  kept_along zero within = kept
  kept_along (suc n) within =
      let before : List Decided = first_decided change start n in
      let point : Point = point_then start before in
      let can : CanRun change start = restores.runs in
      let within_n : n ≤ length change.plan.removals + length change.plan.installs = omega (arith, within) in
      let runs = decided_runs change recorded start can restores.formed forms n within_n in
      let long = counted change start n in
      let lead = leads change start can n (which_done before) (λ place. Some (change.built place).fate) point long (omega (arith, within)) (subst (λ k. Along change can.request k point) (sym (counted_so change start can before) ∙ long) (along change start can before runs)) in
      let well = stands change start can forms restores.formed before runs in
      let may = decided_may change recorded point (turn_after change before) lead.follows (no_wait change.plan (which_done before) (λ place. (change.built place).fate)) well.formed in
      let so_far = ran change start restores firsts before runs in
      subst AllKept (sym (then_next start before (decided_on change point (turn_after change before))))
      (kept_step point so_far.noted.now so_far.noted.is_open (decided_on change point (turn_after change before)).does (lead.commits (decided_on change point (turn_after change before)) (may_at change point (turn_after change before) (decided_on change point (turn_after change before)) may))
      (turn_keeps change point (turn_after change before)) (kept_along n within_n))

  backs_may : (front left : List Removal) → backs_left (point_then start (actions_decided change start)) ≡ front ++ left → MayRestore change start (with_backs start (actions_decided change start) front) left
  backs_may front left split =
      let before : List Decided = actions_decided change start in
      let point : Point = point_then start before in
      let total : ℕ = length change.plan.removals + length change.plan.installs in
      let runs = decided_runs change recorded start restores.runs restores.formed forms total (omega arith) in
      let out : MayRunOut change start before = record { runs = runs; all = sym (counted_so change start restores.runs before) ∙ counted change start total } in
      let all = kept_along total (omega arith) in
      let P : Removal → Type 0 = IsKeptFor (things_done point.state.request) in
      let chosen = All-filter (is_missed point.state) P (take_while (λ removal. not (is_back point.state removal)) point.removals) (while_all P (λ removal. not (is_back point.state removal)) point.removals all) in
      let left_all = All-permutation P (filter (is_missed point.state) (take_while (λ removal. not (is_back point.state removal)) point.removals)) (backs_left point) (IsPermutation-reverse (filter (is_missed point.state) (take_while (λ removal. not (is_back point.state removal)) point.removals))) chosen in
      backs_come change start before front left (subst (MayRestore change start before) split (ran_out before out)) (front_all P front left (subst (All P) split left_all))
    where
      while_all : (P : Removal → Type 0) (t : Removal → Bool) (xs : List Removal) → All P xs → All P (take_while t xs)
      while_all P t xs all = (let rest = rest_while t xs in front_all P (take_while t xs) rest.0 (subst (All P) rest.1 all))

pub put_backs_come : ActionsKeepForm → ActionsRemoveFirst → WhatIsPutBackMayCome
put_backs_come forms firsts change start front left restores recorded kept split = backs_may change recorded start restores forms firsts kept front left split
