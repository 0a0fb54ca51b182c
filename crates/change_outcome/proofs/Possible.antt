-- Each removal and install of a run that may come can be committed.
use Rattle.std.proofs.Common.{◌≡◌, ℕ, suc, ◌+◌, ◌-◌, ◌<◌, ◌≤◌, List, [], ◌∷◌, ◌++◌, length, map, Bool, true, false, not, Option, Some, None, refl, sym, ap, ◌∙◌, subst, arith, append_assoc, inl, inr}
use Rattle.std.specs.Prelude.{◌⊎◌, ◌^◌, min, ◌&&◌, is_some, nat_lt, slice_get}
use Rattle.std.specs.List.{cons_option, list_any}
use Rattle.std.specs.Option.{option_map}
use Rattle.std.proofs.lemmas.Bool.Decides.{nat_tests}
use Rattle.std.proofs.lemmas.List.{append-nil, length-append, length-map, length_push}
use Rattle.opam_names.specs.declared.packages.Pkg.{Pkg}
use Rattle.opam_package.specs.declared.package.Member.{Member}
use Rattle.action_graph.specs.declared.plan.Plan.{Plan}
use Rattle.action_graph.specs.declared.plan.Step.{Step}
use Rattle.change_floor.specs.Floors.{first_turn, install_turn, lacking, turn_at, turn_of}
use Rattle.change_floor.specs.declared.turn.Turn.{Turn}
use Rattle.change_floor.specs.declared.turn.Turn.TheVariants.{Remove, Abort, Decide, Wait, Done}
use Rattle.outside_io.specs.declared.workshop.Fate.{Fate}
use Rattle.journal_text.specs.declared.record.KeptFiles.{KeptFiles}
use Rattle.journal_text.specs.declared.record.Placed.{Placed}
use Rattle.switch_journal.specs.Applying.{applied, are_few, are_few_paths, are_kept_right, are_removed, can_come, entries_of, has_pkg, is_before_all_back, is_kept_removal, is_named, is_next, is_put_back, is_same_entry, installed, next_removal, only_if, put_back, removed, with_done, with_package, without_package}
use Rattle.switch_journal.specs.Contents.{Contents}
use Rattle.switch_journal.specs.Places.{record_path}
use Rattle.switch_journal.specs.Steps.{one_more_number}
use Rattle.switch_journal.specs.declared.request.Done.TheVariants as done
use Rattle.switch_journal.specs.declared.request.Open.{Open}
use Rattle.switch_state.specs.Actions.{Action, CanBeSpelled, CanFollow, Installs, PutsBack, Removes, record_of, state_after}
use Rattle.switch_state.specs.FormedLaws.{ActionsKeepForm}
use Rattle.switch_state.specs.Sound.{member_pkg}
use Rattle.switch_state.specs.State.{Request, SwitchState, contents_in, member_entry}
use Rattle.switch_state.specs.WellFormed.{IsWellFormed}
use Rattle.switch_state.proofs.Acting.{acts}
use Rattle.switch_state.proofs.Alike.{only}
use Rattle.change_verdict.specs.Verdicts.{CanBePlaced}
use Rattle.change_verdict.specs.declared.reason.Reason.{Reason}
use Rattle.change_verdict.specs.declared.verdict.Verdict.TheVariants.{Places, Fails}
use Rattle.change_outcome.specs.Changes.{Change, Point}
use Rattle.change_outcome.specs.Decisions as decision
use Rattle.change_outcome.specs.PossibleLaws.{StandsWell, TurnCanFollow, WhatMayComeCanFollow, WhatMayComeStandsWell}
use Rattle.change_outcome.specs.PossibleRuns.{MayBeDecided, MayRun, removed as may_remove, aborted as may_abort, installed as may_install, failed as may_fail, begins, goes_on}
use Rattle.change_outcome.specs.Running.{CanRun, coming, leaving}
use Rattle.change_outcome.specs.Steps.{Decided, abort_of, done_in, install_with, point_then, told_and_done, which_done}
use Rattle.change_outcome.proofs.Clearing.{Cleared, cleared_first, cleared_next, entries_in, removal_follows}
use Rattle.change_outcome.proofs.Filling.{Filled, filled_first, filled_more, filled_same, install_follows}
use Rattle.change_outcome.proofs.Following.{all_entries, all_members, as_many_come, as_many_leave, some_entry, some_member, step_point, then_next}
use Rattle.change_outcome.proofs.Lists.{all_at, get_front, get_given, get_in, get_past}
use Rattle.change_outcome.proofs.Making.{filter_push}

-- ---- what is committed leaves few entries and paths

few_only : (can : Bool) (x after : Contents) → only_if can x ≡ Some after → (are_few (entries_of after) && are_few_paths after.owned) ≡ true
few_only can x after is = let it = only can x after is in subst (λ (c : Contents). (are_few (entries_of c) && are_few_paths c.owned) ≡ true) it.same it.few

few_applied : (number : ℕ) (action : Action) (c after : Contents) (request : Option Open) → c.request ≡ request → applied number (record_path number) (record_of action) c ≡ Some after → (are_few (entries_of after) && are_few_paths after.owned) ≡ true
few_applied number (Installs member files) c after None opened is =
    absurd (let e = sym (ap (λ o. installed (record_path number) (member_pkg member) member.opam files c o) opened) ∙ is in cc)
few_applied number (Installs member files) c after (Some r) opened is =
    few_only (are_removed r && not (list_any is_put_back r.done) && list_any (is_same_entry (member_entry member)) r.target && can_come (member_pkg member) files c)
    (with_done (done.Installed (member_pkg member)) r (with_package (record_path number) (member_pkg member) member.opam files c)) after
    (sym (ap (λ o. installed (record_path number) (member_pkg member) member.opam files c o) opened) ∙ is)
few_applied number (PutsBack member files) c after None opened is =
    absurd (let e = sym (ap (λ o. put_back (record_path number) (member_pkg member) member.opam files c o) opened) ∙ is in cc)
few_applied number (PutsBack member files) c after (Some r) opened is =
    few_only (are_removed r && list_any (is_kept_removal (member_pkg member)) r.done && list_any (is_named (member_pkg member).name) r.target && is_before_all_back (member_pkg member) r && can_come (member_pkg member) files c)
    (with_done (done.PutBack (member_pkg member)) r (with_package (record_path number) (member_pkg member) member.opam files c)) after
    (sym (ap (λ o. put_back (record_path number) (member_pkg member) member.opam files c o) opened) ∙ is)
few_applied number (Removes pkg kept) c after None opened is = absurd (let e = sym (ap (λ o. removed number pkg kept c o) opened) ∙ is in cc)
few_applied number (Removes pkg kept) c after (Some r) opened is =
    few_only (is_next pkg (next_removal r) && has_pkg c pkg && are_kept_right pkg kept c) (with_done (done.Removed pkg number (is_some kept)) r (without_package pkg c)) after
    (sym (ap (λ o. removed number pkg kept c o) opened) ∙ is)

few_next : (number : ℕ) (action : Action) (state : SwitchState) → CanFollow number action state → (are_few (map member_entry (state_after number action state).members) && are_few_paths (state_after number action state).owned) ≡ true
few_next number action state follows =
    let same = acts number action state follows.0 follows.1 in
    let few = few_applied number action (contents_in state) follows.0 (contents_in state).request refl follows.1 in
    (λ i. are_few ((sym (entries_in (state_after number action state)) ∙ sym same.entries) i) && are_few_paths (sym same.owned i)) ∙ few

-- ---- how an action leaves a run

no_more : (n m : ℕ) → n ≤ m → min n m ≡ n
no_more n m within = grind (arith, nat_tests)

one_taken : (last first k now : ℕ) → (first + k ≤ last → now ≡ first + k) → first + (k + 1) ≤ last → min (now + 1) last ≡ first + (k + 1)
one_taken last first k now is within = (let e = is (omega (arith, within)) in no_more (now + 1) last (omega (arith, e, within)) ∙ (omega (arith, e)))

-- it can be committed, if anything is done
abbrev pub IfCan : Point → Option Action → Type 0
IfCan point None = Unit {0}
IfCan point (Some action) = CanFollow point.number action point.state × CanBeSpelled action

pub stands_next : ActionsKeepForm → (start : Point) (before : List Decided) (next : Decided) → StandsWell start (point_then start before) before → IfCan (point_then start before) next.does
    → StandsWell start (point_then start (before ++ next ∷ [])) (before ++ next ∷ [])
stands_next forms start before next stands can =
    subst (λ point. StandsWell start point (before ++ next ∷ [])) (sym (then_next start before next)) (by next.does refl can)
  where
    done_more : (does : Option Action) → next.does ≡ does → length (done_in (before ++ next ∷ [])) ≡ length (done_in before ++ cons_option does [])
    done_more does is = ap length (filter_push (λ (one : Decided). one.does) before next next.does refl) ∙ ap (λ o. length (done_in before ++ cons_option o [])) is

    by : (does : Option Action) → next.does ≡ does → IfCan (point_then start before) does → StandsWell start (step_point (point_then start before) does) (before ++ next ∷ [])
    by None is can = record {
      formed = stands.formed;
      few = stands.few;
      number = (let e = done_more None is in let f = ap length (append-nil (done_in before)) in let same : length (done_in (before ++ next ∷ [])) ≡ length (done_in before) = omega (arith, e, f) in
          subst (λ k. start.number + k ≤ 2 ^ 63 → (point_then start before).number ≡ start.number + k) (sym same) stands.number);
    }
    by (Some action) is can = record {
      formed = forms (point_then start before).number action (point_then start before).state can.0 can.1 stands.formed;
      few = few_next (point_then start before).number action (point_then start before).state can.0;
      number = (let e = done_more (Some action) is in let f = length_push (done_in before) action in let more : length (done_in (before ++ next ∷ [])) ≡ length (done_in before) + 1 = omega (arith, e, f) in
          subst (λ k. start.number + k ≤ 2 ^ 63 → one_more_number (point_then start before).number ≡ start.number + k) (sym more)
          (one_taken (2 ^ 63) start.number (length (done_in before)) (point_then start before).number stands.number));
    }

-- ---- whose turn it is

pub removal_turn_of : (plan : Plan) (bools : List Bool) (fates : ℕ → Option Fate) (n at : ℕ) → length bools ≡ n → slice_get plan.removals n ≡ Some at → turn_of plan bools fates ≡ Remove at
removal_turn_of plan bools fates n at long there =
    let place : ℕ = length bools - length plan.removals in
    let later : Turn = turn_at (slice_get plan.installs place) plan bools (fates place) in
    ap (λ o. first_turn o later) (ap (slice_get plan.removals) long ∙ there)

pub install_turn_of : (plan : Plan) (bools : List Bool) (fates : ℕ → Option Fate) (n i : ℕ) (step : Step) → length bools ≡ n → n ≡ length plan.removals + i → slice_get plan.installs i ≡ Some step
    → turn_of plan bools fates ≡ install_turn step.member (lacking plan bools step.needs) (fates i)
install_turn_of plan bools fates n i step long is there =
    let place : ℕ = length bools - length plan.removals in
    let here : place ≡ i = omega (arith, long, is) in
    let past = get_past plan.removals (length bools) (omega (arith, long, is)) in
    let later : Turn = turn_at (slice_get plan.installs place) plan bools (fates place) in
    ap (λ o. first_turn o later) past ∙ ap (λ k. turn_at (slice_get plan.installs k) plan bools (fates k)) here ∙ ap (λ o. turn_at o plan bools (fates i)) there

pub last_turn_of : (plan : Plan) (bools : List Bool) (fates : ℕ → Option Fate) → length plan.removals + length plan.installs ≤ length bools → turn_of plan bools fates ≡ Done
last_turn_of plan bools fates over =
    let place : ℕ = length bools - length plan.removals in
    let later : Turn = turn_at (slice_get plan.installs place) plan bools (fates place) in
    ap (λ o. first_turn o later) (get_past plan.removals (length bools) (omega (arith, over))) ∙ ap (λ o. turn_at o plan bools (fates place)) (get_past plan.installs place (omega (arith, over)))

-- ---- what may come of a turn, by the turn

pub record MayGo (change : Change) (point : Point) (at : ℕ) (next : Decided) : Type 0 where
  pub entry : Member
  pub kept : Option KeptFiles
  pub there : slice_get change.entries at ≡ Some entry
  pub follows : CanFollow point.number (Removes (member_pkg entry) kept) point.state
  pub spelled : CanBeSpelled (Removes (member_pkg entry) kept)
  pub is : next ≡ told_and_done (decision.Removed (member_pkg entry)) (Removes (member_pkg entry) kept)

pub data MayCome (change : Change) (point : Point) (at : ℕ) (next : Decided) : Type 0 where
  comes : (member : Member) (files : List Placed) → slice_get change.members at ≡ Some member → CanBePlaced point.state.owned files → CanBeSpelled (Installs member files) → next ≡ install_with member (Places files) → MayCome change point at next
  fails : (member : Member) (reason : Reason) → slice_get change.members at ≡ Some member → next ≡ install_with member (Fails reason) → MayCome change point at next

abbrev pub MayAt : Change → Point → Turn → Decided → Type 0
MayAt change point (Remove at) next = MayGo change point at next
MayAt change point (Abort at need) next = next ≡ abort_of (slice_get change.members at) (slice_get change.members need)
MayAt change point (Decide at fate) next = MayCome change point at next
MayAt change point Wait next = ⊥
MayAt change point Done next = ⊥

pub may_at : (change : Change) (point : Point) (turn : Turn) (next : Decided) → MayBeDecided change point turn next → MayAt change point turn next
may_at change point turn next (may_remove at entry kept there follows spelled) = record { entry = entry; kept = kept; there = there; follows = follows; spelled = spelled; is = refl }
may_at change point turn next (may_abort at need) = refl
may_at change point turn next (may_install at fate member files there placed spelled) = comes member files there placed spelled refl
may_at change point turn next (may_fail at fate member reason there) = fails member reason there refl

abort_does : (member need : Option Member) → (abort_of member need).does ≡ None
abort_does None need = refl
abort_does (Some member) None = refl
abort_does (Some member) (Some need) = refl

-- ---- where a run stands

-- so many removals and installs are decided
pub data Along (change : Change) (request : Request) (n : ℕ) (point : Point) : Type 0 where
  clearing : (gone left : List Pkg) → leaving change ≡ gone ++ left → length gone ≡ n → Cleared change request gone left point → Along change request n point
  filling : (front left : List Member) → coming change ≡ front ++ left → length change.plan.removals + length front ≡ n → Filled change front point → Along change request n point

module _ (change : Change) (start : Point) (can : CanRun change start) where
  -- what a turn leads to
  pub record Leads (n : ℕ) (point : Point) (turn : Turn) : Type 0 where
    pub follows : TurnCanFollow change point turn
    pub next : (next : Decided) → MayAt change point turn next → Along change can.request (suc n) (step_point point next.does)
    pub commits : (next : Decided) → MayAt change point turn next → IfCan point next.does

  leads_clearing : (n : ℕ) (point : Point) (gone : List Pkg) (pkg : Pkg) (more : List Pkg) (at : ℕ) (entry : Member) → leaving change ≡ gone ++ pkg ∷ more → length gone ≡ n → Cleared change can.request gone (pkg ∷ more) point
      → slice_get change.entries at ≡ Some entry → member_pkg entry ≡ pkg → Leads n point (Remove at)
  leads_clearing n point gone pkg more at entry split long cleared there same = record {
    follows = (entry, there, subst (λ p. CanFollow point.number (Removes p None) point.state) (sym same) (removal_follows change start can gone more pkg split point cleared at entry there same));
    next = λ next may. subst (λ (o : Option Action). Along change can.request (suc n) (step_point point o)) (sym (does next may))
        (clearing (gone ++ pkg ∷ []) more (split ∙ sym (append_assoc gone (pkg ∷ []) more)) (let e = length_push gone pkg in omega (arith, e, long)) (cleared_next change start can gone more pkg split point cleared may.kept));
    commits = λ next may. subst (IfCan point) (sym (ap (λ (d : Decided). d.does) may.is)) (may.follows, may.spelled);
  }
    where
      does : (next : Decided) (may : MayGo change point at next) → next.does ≡ Some (Removes pkg may.kept)
      does next may =
          let e : Some may.entry ≡ Some entry = sym may.there ∙ there in
          let f : may.entry ≡ entry = cc in
          ap (λ (d : Decided). d.does) may.is ∙ ap (λ m. Some (Removes (member_pkg m) may.kept)) f ∙ ap (λ p. Some (Removes p may.kept)) same

  module _ (n : ℕ) (point : Point) (front : List Member) (member : Member) (more : List Member) (split : coming change ≡ front ++ member ∷ more) (long : length change.plan.removals + length front ≡ n) (filled : Filled change front point) (at : ℕ) (there : slice_get change.members at ≡ Some member) where
    longer : length change.plan.removals + length (front ++ member ∷ []) ≡ suc n
    longer = (let e = length_push front member in omega (arith, e, long))

    split_more : coming change ≡ (front ++ member ∷ []) ++ more
    split_more = split ∙ sym (append_assoc front (member ∷ []) more)

    idle : Along change can.request (suc n) point
    idle = filling (front ++ member ∷ []) more split_more longer (filled_same change start can front more member split point filled)

    -- of an install that is decided
    came : (next : Decided) → MayCome change point at next → Along change can.request (suc n) (step_point point next.does)
    came next (comes other files here placed spelled is) =
        let e : Some other ≡ Some member = sym here ∙ there in
        let f : other ≡ member = cc in
        let does : next.does ≡ Some (Installs member files) = ap (λ (d : Decided). d.does) is ∙ ap (λ m. Some (Installs m files)) f in
        subst (λ (o : Option Action). Along change can.request (suc n) (step_point point o)) (sym does)
        (filling (front ++ member ∷ []) more split_more longer (filled_more change start can front more member split point filled files))
    came next (fails other reason here is) = subst (λ (o : Option Action). Along change can.request (suc n) (step_point point o)) (sym (ap (λ (d : Decided). d.does) is)) idle

    follow : (files : List Placed) → CanBePlaced point.state.owned files → CanFollow point.number (Installs member files) point.state
    follow files placed = install_follows change start can front more member split point filled files placed at there

    commit : (next : Decided) → MayCome change point at next → IfCan point next.does
    commit next (comes other files here placed spelled is) =
        let e : Some other ≡ Some member = sym here ∙ there in
        let f : other ≡ member = cc in
        subst (IfCan point) (sym (ap (λ (d : Decided). d.does) is)) (subst (λ m. CanFollow point.number (Installs m files) point.state) (sym f) (follow files placed), spelled)
    commit next (fails other reason here is) = subst (IfCan point) (sym (ap (λ (d : Decided). d.does) is)) tt

    leads_filling : (lacks : Option ℕ) (fate : Option Fate) → Leads n point (install_turn at lacks fate)
    leads_filling (Some need) fate = record {
      follows = tt;
      next = λ next may. subst (λ (o : Option Action). Along change can.request (suc n) (step_point point o)) (sym (given next may)) idle;
      commits = λ next may. subst (IfCan point) (sym (given next may)) tt;
    }
      where
        given : (next : Decided) → next ≡ abort_of (slice_get change.members at) (slice_get change.members need) → next.does ≡ None
        given next is = ap (λ (d : Decided). d.does) is ∙ abort_does (slice_get change.members at) (slice_get change.members need)
    leads_filling None (Some fate) = record { follows = (member, there, follow); next = came; commits = commit }
    leads_filling None None = record { follows = tt; next = λ next may. absurd may; commits = λ next may. absurd may }

  installs_lead : (n : ℕ) (bools : List Bool) (fates : ℕ → Option Fate) (point : Point) (front : List Member) (member : Member) (more : List Member) → length bools ≡ n → coming change ≡ front ++ member ∷ more
      → length change.plan.removals + length front ≡ n → Filled change front point → Leads n point (turn_of change.plan bools fates)
  installs_lead n bools fates point front member more long split front_long filled =
      let within : length front < length change.plan.installs = (let e = ap length split in let f = length-append front (member ∷ more) in let g = as_many_come change start can in omega (arith, e, f, g)) in
      let step = get_in change.plan.installs (length front) within in
      let found = some_member change start can step.0 (all_at (λ (s : Step). nat_lt s.member (length change.members)) change.plan.installs (length front) step.0 can.installs step.1) in
      let given = get_given (λ (s : Step). slice_get change.members s.member) change.plan.installs (length front) step.0 found.0 (all_members change start can) step.1 found.1 in
      let named : Some found.0 ≡ Some member = sym given ∙ ap (λ ms. slice_get ms (length front)) split ∙ get_front front member more in
      let there : slice_get change.members step.0.member ≡ Some member = found.1 ∙ named in
      subst (Leads n point) (sym (install_turn_of change.plan bools fates n (length front) step.0 long (sym front_long) step.1))
      (leads_filling n point front member more split front_long filled step.0.member there (lacking change.plan bools step.0.needs) (fates (length front)))

  removals_lead : (n : ℕ) (bools : List Bool) (fates : ℕ → Option Fate) (point : Point) (gone : List Pkg) (pkg : Pkg) (more : List Pkg) → length bools ≡ n → leaving change ≡ gone ++ pkg ∷ more → length gone ≡ n
      → Cleared change can.request gone (pkg ∷ more) point → Leads n point (turn_of change.plan bools fates)
  removals_lead n bools fates point gone pkg more long split gone_long cleared =
      let within : n < length change.plan.removals = (let e = ap length split in let f = length-append gone (pkg ∷ more) in let g = as_many_leave change start can in omega (arith, e, f, g, gone_long)) in
      let place = get_in change.plan.removals n within in
      let entry = some_entry change start can place.0 (all_at (λ at. nat_lt at (length change.entries)) change.plan.removals n place.0 can.removals place.1) in
      let given = get_given (λ at. option_map member_pkg (slice_get change.entries at)) change.plan.removals n place.0 (member_pkg entry.0) (all_entries change start can) place.1 (ap (option_map member_pkg) entry.1) in
      let named : Some (member_pkg entry.0) ≡ Some pkg = sym given ∙ ap (λ ps. slice_get ps n) split ∙ ap (slice_get (gone ++ pkg ∷ more)) (sym gone_long) ∙ get_front gone pkg more in
      let same : member_pkg entry.0 ≡ pkg = cc in
      subst (Leads n point) (sym (removal_turn_of change.plan bools fates n place.0 long place.1)) (leads_clearing n point gone pkg more place.0 entry.0 split gone_long cleared entry.1 same)

  pub leads : (n : ℕ) (bools : List Bool) (fates : ℕ → Option Fate) (point : Point) → length bools ≡ n → n < length change.plan.removals + length change.plan.installs → Along change can.request n point → Leads n point (turn_of change.plan bools fates)
  leads n bools fates point long within (clearing gone (pkg ∷ more) split gone_long cleared) = removals_lead n bools fates point gone pkg more long split gone_long cleared
  leads n bools fates point long within (clearing gone [] split gone_long cleared) = by (coming change) refl
    where
      all : leaving change ≡ gone
      all = split ∙ append-nil gone

      as_long : length change.plan.removals ≡ n
      as_long = (let e = as_many_leave change start can in let f = ap length all in omega (arith, e, f, gone_long))

      by : (members : List Member) → coming change ≡ members → Leads n point (turn_of change.plan bools fates)
      by [] is = absurd (let e = ap length is in let f = as_many_come change start can in omega (arith, e, f, as_long, within))
      by (member ∷ more) is =
          installs_lead n bools fates point [] member more long is (omega (arith, as_long))
          (filled_first change start can gone point all (let e = ap length is in let f = as_many_come change start can in omega (arith, e, f)) cleared)
  leads n bools fates point long within (filling front (member ∷ more) split front_long filled) = installs_lead n bools fates point front member more long split front_long filled
  leads n bools fates point long within (filling front [] split front_long filled) = absurd (let e = ap length (split ∙ append-nil front) in let f = as_many_come change start can in omega (arith, e, f, front_long, within))

  -- something is decided of a turn before the last one alone
  less_or : (n m : ℕ) → (n < m) ⊎ (m ≤ n)
  less_or n m = by (nat_lt n m) refl
    where
      by : (b : Bool) → nat_lt n m ≡ b → (n < m) ⊎ (m ≤ n)
      by true is = inl (grind (arith, nat_tests))
      by false is = inr (grind (arith, nat_tests))

  pub before_last : (bools : List Bool) (fates : ℕ → Option Fate) (point : Point) (next : Decided) → MayBeDecided change point (turn_of change.plan bools fates) next → length bools < length change.plan.removals + length change.plan.installs
  before_last bools fates point next may = by (less_or (length bools) (length change.plan.removals + length change.plan.installs))
    where
      by : (length bools < length change.plan.removals + length change.plan.installs) ⊎ (length change.plan.removals + length change.plan.installs ≤ length bools) → length bools < length change.plan.removals + length change.plan.installs
      by (inl less) = less
      by (inr over) = absurd (subst (λ t. MayAt change point t next) (last_turn_of change.plan bools fates over) (may_at change point (turn_of change.plan bools fates) next may))

  pub counted_so : (before : List Decided) → length (which_done before) ≡ length before
  counted_so before = length-map before (λ (one : Decided). is_some one.does)

  pub along : (before : List Decided) → MayRun change start before → Along change can.request (length before) (point_then start before)
  along all begins = clearing [] (leaving change) refl refl (cleared_first change start can)
  along all (goes_on before fates next runs may) =
      let point : Point = point_then start before in
      let long = counted_so before in
      let within = before_last (which_done before) fates point next may in
      let lead = leads (length before) (which_done before) fates point long (omega (arith, long, within)) (along before runs) in
      let there = lead.next next (may_at change point (turn_of change.plan (which_done before) fates) next may) in
      let e : suc (length before) ≡ length (before ++ next ∷ []) = (let c = length_push before next in omega (arith, c)) in
      subst (λ k. Along change can.request k (point_then start (before ++ next ∷ []))) e (subst (Along change can.request (suc (length before))) (sym (then_next start before next)) there)

  pub stands : ActionsKeepForm → IsWellFormed start.state → (before : List Decided) → MayRun change start before → StandsWell start (point_then start before) before
  stands forms formed all begins = record {
    formed = formed;
    few = ap (λ ms. are_few (map member_entry ms) && are_few_paths start.state.owned) can.entries ∙ can.few_now;
    number = λ within. omega arith;
  }
  stands forms formed all (goes_on before fates next runs may) =
      let point : Point = point_then start before in
      let long = counted_so before in
      let within = before_last (which_done before) fates point next may in
      let lead = leads (length before) (which_done before) fates point long (omega (arith, long, within)) (along before runs) in
      stands_next forms start before next (stands forms formed before runs) (lead.commits next (may_at change point (turn_of change.plan (which_done before) fates) next may))

pub can_follow : WhatMayComeCanFollow
can_follow change start before fates can runs within =
    (leads change start can (length before) (which_done before) fates (point_then start before) (counted_so change start can before) within (along change start can before runs)).follows

pub stands_well : ActionsKeepForm → WhatMayComeStandsWell
stands_well forms change start before can formed runs = stands change start can forms formed before runs
