-- Each removal and install of a change that may be run can follow.
use Rattle.std.proofs.Common.{◌≡◌, ℕ, zero, suc, ◌+◌, ◌-◌, ◌<◌, ◌≤◌, List, [], ◌∷◌, ◌++◌, length, true, Option, Some, None, refl, sym, ap, ◌∙◌, subst, arith, append_assoc}
use Rattle.std.specs.Prelude.{is_some, nat_lt, slice_get}
use Rattle.std.specs.List.{cons_option, list_all}
use Rattle.std.specs.Option.{option_map}
use Rattle.std.proofs.lemmas.Bool.Decides.{nat_tests}
use Rattle.std.proofs.lemmas.List.{append-nil, length-append, length-map, length_push}
use Rattle.opam_names.specs.declared.packages.Pkg.{Pkg}
use Rattle.opam_package.specs.declared.package.Member.{Member}
use Rattle.action_graph.specs.declared.plan.Step.{Step}
use Rattle.change_floor.specs.Floors.{first_turn, install_place, install_turn, lacking, turn_at}
use Rattle.change_floor.specs.declared.turn.Turn.{Turn}
use Rattle.change_floor.specs.declared.turn.Turn.TheVariants.{Remove}
use Rattle.outside_io.specs.declared.workshop.Fate.{Fate}
use Rattle.journal_text.specs.declared.record.KeptFiles.{KeptFiles}
use Rattle.switch_state.specs.Actions.{Action, Installs, Removes}
use Rattle.switch_state.specs.Keeps.{kept_of}
use Rattle.switch_state.specs.Sound.{member_pkg}
use Rattle.switch_state.specs.State.{Request}
use Rattle.change_verdict.specs.Verdicts.{install_verdict}
use Rattle.change_verdict.specs.declared.verdict.Verdict.{Verdict}
use Rattle.change_verdict.specs.declared.verdict.Verdict.TheVariants.{Places, Fails}
use Rattle.change_outcome.specs.Changes.{Change, Point, point_after, point_after_all}
use Rattle.change_outcome.specs.Outcomes.{first_decided, turn_after}
use Rattle.change_outcome.specs.Running.{ActionsCanFollow, CanRun, MayFollow, coming, leaving}
use Rattle.change_outcome.specs.Steps.{Decided, abort_of, decided_on, done_in, install_of, install_with, point_then, removal_of, which_done}
use Rattle.change_outcome.proofs.Clearing.{Cleared, cleared_first, cleared_next, removal_follows}
use Rattle.change_outcome.proofs.Filling.{Filled, filled_first, filled_more, filled_same, install_follows}
use Rattle.change_outcome.proofs.Lists.{all_at, all_more, get_front, get_given, get_in, get_past, length_given}
use Rattle.change_outcome.proofs.Making.{filter_push}
use Rattle.change_outcome.proofs.Schedules.{fold_append}

-- ---- one decision more

abbrev pub step_point : Point → Option Action → Point
step_point point None = point
step_point point (Some action) = point_after point action

pub then_next : (start : Point) (before : List Decided) (next : Decided) → point_then start (before ++ next ∷ []) ≡ step_point (point_then start before) next.does
then_next start before next = ap (point_after_all start) (filter_push (λ (one : Decided). one.does) before next next.does refl) ∙ by next.does
  where
    by : (does : Option Action) → point_after_all start (done_in before ++ cons_option does []) ≡ step_point (point_then start before) does
    by None = ap (point_after_all start) (append-nil (done_in before))
    by (Some action) = fold_append point_after start (done_in before) (action ∷ [])

pub counted : (change : Change) (start : Point) (n : ℕ) → length (which_done (first_decided change start n)) ≡ n
counted change start zero = refl
counted change start (suc n) =
    let before : List Decided = first_decided change start n in
    let next : Decided = decided_on change (point_then start before) (turn_after change before) in
    let e = counted change start n in
    let a = length-map before (λ (one : Decided). is_some one.does) in
    let b = length-map (before ++ next ∷ []) (λ (one : Decided). is_some one.does) in
    let c = length_push before next in
    omega (arith, e, a, b, c)

-- ---- whose turn it is

pub removal_turn : (change : Change) (before : List Decided) (n at : ℕ) → length (which_done before) ≡ n → slice_get change.plan.removals n ≡ Some at → turn_after change before ≡ Remove at
removal_turn change before n at long there =
    let place : ℕ = length (which_done before) - length change.plan.removals in
    let later : Turn = turn_at (slice_get change.plan.installs place) change.plan (which_done before) (Some (change.built place).fate) in
    ap (λ o. first_turn o later) (ap (slice_get change.plan.removals) long ∙ there)

pub install_turn_at : (change : Change) (before : List Decided) (n i : ℕ) (step : Step) → length (which_done before) ≡ n → n ≡ length change.plan.removals + i → slice_get change.plan.installs i ≡ Some step
    → (fate : Fate) × (turn_after change before ≡ install_turn step.member (lacking change.plan (which_done before) step.needs) (Some fate))
install_turn_at change before n i step long is there =
    let place : ℕ = length (which_done before) - length change.plan.removals in
    let here : place ≡ i = omega (arith, long, is) in
    let past = get_past change.plan.removals (length (which_done before)) (omega (arith, long, is)) in
    let later : Turn = turn_at (slice_get change.plan.installs place) change.plan (which_done before) (Some (change.built place).fate) in (
      (change.built place).fate,
      ap (λ o. first_turn o later) past ∙ ap (λ o. turn_at o change.plan (which_done before) (Some (change.built place).fate)) (ap (slice_get change.plan.installs) here ∙ there),
    )

-- ---- where the change stands

data Stage (change : Change) (request : Request) (n : ℕ) (point : Point) : Type 0 where
  clearing : (gone : List Pkg) (pkg : Pkg) (more : List Pkg) → leaving change ≡ gone ++ pkg ∷ more → length gone ≡ n → Cleared change request gone (pkg ∷ more) point → Stage change request n point
  filling : (front : List Member) (member : Member) (more : List Member) → coming change ≡ front ++ member ∷ more → length change.plan.removals + length front ≡ n → Filled change front point → Stage change request n point
  over : length change.plan.removals + length change.plan.installs ≤ n → Stage change request n point

module _ (change : Change) (start : Point) (can : CanRun change start) where
  pub some_entry : (at : ℕ) → nat_lt at (length change.entries) ≡ true → (entry : Member) × (slice_get change.entries at ≡ Some entry)
  some_entry at lt = get_in change.entries at (below at (length change.entries) lt)
    where
      below : (n m : ℕ) → nat_lt n m ≡ true → n < m
      below n m is = grind (arith, nat_tests)

  entry_given : (at : ℕ) → nat_lt at (length change.entries) ≡ true → is_some (option_map member_pkg (slice_get change.entries at)) ≡ true
  entry_given at lt = ap (λ o. is_some (option_map member_pkg o)) (some_entry at lt).1

  pub all_entries : list_all (λ at. is_some (option_map member_pkg (slice_get change.entries at))) change.plan.removals ≡ true
  all_entries = all_more (λ at. nat_lt at (length change.entries)) (λ at. is_some (option_map member_pkg (slice_get change.entries at))) change.plan.removals entry_given can.removals

  pub some_member : (step : Step) → nat_lt step.member (length change.members) ≡ true → (member : Member) × (slice_get change.members step.member ≡ Some member)
  some_member step lt = get_in change.members step.member (below step.member (length change.members) lt)
    where
      below : (n m : ℕ) → nat_lt n m ≡ true → n < m
      below n m is = grind (arith, nat_tests)

  pub all_members : list_all (λ (step : Step). is_some (slice_get change.members step.member)) change.plan.installs ≡ true
  all_members = all_more (λ (step : Step). nat_lt step.member (length change.members)) (λ (step : Step). is_some (slice_get change.members step.member)) change.plan.installs (λ step lt. ap is_some (some_member step lt).1) can.installs

  pub as_many_leave : length (leaving change) ≡ length change.plan.removals
  as_many_leave = length_given (λ at. option_map member_pkg (slice_get change.entries at)) change.plan.removals all_entries

  pub as_many_come : length (coming change) ≡ length change.plan.installs
  as_many_come = length_given (λ (step : Step). slice_get change.members step.member) change.plan.installs all_members

  at_installs : (n : ℕ) (point : Point) (front left : List Member) → coming change ≡ front ++ left → length change.plan.removals + length front ≡ n → Filled change front point → Stage change can.request n point
  at_installs n point front [] split long filled =
      over (let e = ap length (split ∙ append-nil front) in let f = as_many_come in omega (arith, e, f, long))
  at_installs n point front (member ∷ more) split long filled = filling front member more split long filled

  -- the removals are done, or there are more
  at_removals : (n : ℕ) (point : Point) (gone left : List Pkg) → leaving change ≡ gone ++ left → length gone ≡ n → Cleared change can.request gone left point → Stage change can.request n point
  at_removals n point gone (pkg ∷ more) split long cleared = clearing gone pkg more split long cleared
  at_removals n point gone [] split long cleared = by (coming change) refl
    where
      all : leaving change ≡ gone
      all = split ∙ append-nil gone

      as_long : length change.plan.removals ≡ n
      as_long = (let e = as_many_leave in let f = ap length all in omega (arith, e, f, long))

      by : (members : List Member) → coming change ≡ members → Stage change can.request n point
      by [] none = over (let e = ap length none in let f = as_many_come in omega (arith, e, f, as_long))
      by (member ∷ more) is =
          filling [] member more is (omega (arith, as_long))
          (filled_first change start can gone point all (let e = ap length is in let f = as_many_come in omega (arith, e, f)) cleared)

  -- what is decided next, and where it leads
  record Goes (n : ℕ) (before : List Decided) : Type 0 where
    follows : MayFollow (point_then start before) (decided_on change (point_then start before) (turn_after change before)).does
    next : Stage change can.request (suc n) (step_point (point_then start before) (decided_on change (point_then start before) (turn_after change before)).does)

  goes_clearing : (n : ℕ) (before : List Decided) (gone : List Pkg) (pkg : Pkg) (more : List Pkg) → length (which_done before) ≡ n → leaving change ≡ gone ++ pkg ∷ more → length gone ≡ n → Cleared change can.request gone (pkg ∷ more) (point_then start before) → Goes n before
  goes_clearing n before gone pkg more long split gone_long cleared =
      let point : Point = point_then start before in
      let within : n < length change.plan.removals = (let e = ap length split in let f = length-append gone (pkg ∷ more) in let g = as_many_leave in omega (arith, e, f, g, gone_long)) in
      let place = get_in change.plan.removals n within in
      let entry = some_entry place.0 (all_at (λ at. nat_lt at (length change.entries)) change.plan.removals n place.0 can.removals place.1) in
      let given = get_given (λ at. option_map member_pkg (slice_get change.entries at)) change.plan.removals n place.0 (member_pkg entry.0) all_entries place.1 (ap (option_map member_pkg) entry.1) in
      let named : Some (member_pkg entry.0) ≡ Some pkg = sym given ∙ ap (λ ps. slice_get ps n) split ∙ ap (slice_get (gone ++ pkg ∷ more)) (sym gone_long) ∙ get_front gone pkg more in
      let same : member_pkg entry.0 ≡ pkg = cc in
      let kept : Option KeptFiles = kept_of point.state (member_pkg entry.0) point.files in
      let does : (decided_on change point (turn_after change before)).does ≡ Some (Removes pkg kept) =
      ap (λ t. (decided_on change point t).does) (removal_turn change before n place.0 long place.1) ∙ ap (λ o. (removal_of point o).does) entry.1 ∙ ap (λ p. Some (Removes p kept)) same in
      record {
        follows = subst (MayFollow point) (sym does) (removal_follows change start can gone more pkg split point cleared place.0 entry.0 entry.1 same);
        next = subst (λ (o : Option Action). Stage change can.request (suc n) (step_point point o)) (sym does)
            (at_removals (suc n) (point_after point (Removes pkg kept)) (gone ++ pkg ∷ []) more (split ∙ sym (append_assoc gone (pkg ∷ []) more)) (let e = length_push gone pkg in omega (arith, e, gone_long))
            (cleared_next change start can gone more pkg split point cleared kept));
      }

  -- by what a turn of an install does
  module _ (n : ℕ) (point : Point) (front : List Member) (member : Member) (more : List Member) (split : coming change ≡ front ++ member ∷ more) (long : length change.plan.removals + length front ≡ n) (filled : Filled change front point) (at : ℕ) (there : slice_get change.members at ≡ Some member) where
    record GoesBy (does : Option Action) : Type 0 where
      follows : MayFollow point does
      next : Stage change can.request (suc n) (step_point point does)

    longer : length change.plan.removals + length (front ++ member ∷ []) ≡ suc n
    longer = (let e = length_push front member in omega (arith, e, long))

    split_more : coming change ≡ (front ++ member ∷ []) ++ more
    split_more = split ∙ sym (append_assoc front (member ∷ []) more)

    idle : GoesBy None
    idle = record { follows = tt; next = at_installs (suc n) point (front ++ member ∷ []) more split_more longer (filled_same change start can front more member split point filled) }

    by_verdict : (verdict : Verdict) → GoesBy (install_with member verdict).does
    by_verdict (Fails reason) = record { follows = tt; next = idle.next }
    by_verdict (Places files) = record {
      follows = λ placed. install_follows change start can front more member split point filled files placed at there;
      next = at_installs (suc n) (point_after point (Installs member files)) (front ++ member ∷ []) more split_more longer (filled_more change start can front more member split point filled files);
    }

    by_abort : (need : Option Member) → GoesBy (abort_of (Some member) need).does
    by_abort None = record { follows = tt; next = idle.next }
    by_abort (Some need) = record { follows = tt; next = idle.next }

    by_turn : (lacks : Option ℕ) (fate : Fate) → GoesBy (decided_on change point (install_turn at lacks (Some fate))).does
    by_turn (Some need) fate = subst (λ (o : Option Member). GoesBy (abort_of o (slice_get change.members need)).does) (sym there) (by_abort (slice_get change.members need))
    by_turn None fate =
        subst (λ (o : Option Member). GoesBy (install_of point o (change.built (install_place change.plan.installs at))).does) (sym there)
        (by_verdict (install_verdict point.files point.state.owned (member_pkg member) (change.built (install_place change.plan.installs at)).brings))

  goes_filling : (n : ℕ) (before : List Decided) (front : List Member) (member : Member) (more : List Member) → length (which_done before) ≡ n → coming change ≡ front ++ member ∷ more → length change.plan.removals + length front ≡ n → Filled change front (point_then start before) → Goes n before
  goes_filling n before front member more long split front_long filled =
      let point : Point = point_then start before in
      let within : length front < length change.plan.installs = (let e = ap length split in let f = length-append front (member ∷ more) in let g = as_many_come in omega (arith, e, f, g)) in
      let step = get_in change.plan.installs (length front) within in
      let found = some_member step.0 (all_at (λ (s : Step). nat_lt s.member (length change.members)) change.plan.installs (length front) step.0 can.installs step.1) in
      let given = get_given (λ (s : Step). slice_get change.members s.member) change.plan.installs (length front) step.0 found.0 all_members step.1 found.1 in
      let named : Some found.0 ≡ Some member = sym given ∙ ap (λ ms. slice_get ms (length front)) split ∙ get_front front member more in
      let there : slice_get change.members step.0.member ≡ Some member = found.1 ∙ named in
      let turn = install_turn_at change before n (length front) step.0 long (sym front_long) step.1 in
      let by = by_turn n point front member more split front_long filled step.0.member there (lacking change.plan (which_done before) step.0.needs) turn.0 in
      record {
        follows = subst (λ (t : Turn). MayFollow point (decided_on change point t).does) (sym turn.1) by.follows;
        next = subst (λ (t : Turn). Stage change can.request (suc n) (step_point point (decided_on change point t).does)) (sym turn.1) by.next;
      }

  goes : (n : ℕ) (before : List Decided) → length (which_done before) ≡ n → n < length change.plan.removals + length change.plan.installs → Stage change can.request n (point_then start before) → Goes n before
  goes n before long within (clearing gone pkg more split gone_long cleared) = goes_clearing n before gone pkg more long split gone_long cleared
  goes n before long within (filling front member more split front_long filled) = goes_filling n before front member more long split front_long filled
  goes n before long within (over past) = absurd (omega (arith, within, past))

  stage : (n : ℕ) → n ≤ length change.plan.removals + length change.plan.installs → Stage change can.request n (point_then start (first_decided change start n))
  stage zero within = at_removals 0 start [] (leaving change) refl refl (cleared_first change start can)
  stage (suc n) within =
      let before : List Decided = first_decided change start n in
      let next = goes n before (counted change start n) (omega (arith, within)) (stage n (omega (arith, within))) in
      subst (Stage change can.request (suc n)) (sym (then_next start before (decided_on change (point_then start before) (turn_after change before)))) next.next

pub actions_follow : ActionsCanFollow
actions_follow change start count can within =
    (goes change start can count (first_decided change start count) (counted change start count) within (stage change start can count (omega (arith, within)))).follows
