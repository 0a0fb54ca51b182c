-- Where no install fails, all are done.
use Rattle.std.proofs.Common.{◌≡◌, ℕ, zero, suc, ◌+◌, ◌<◌, List, [], ◌∷◌, ◌++◌, filter, length, Bool, true, false, not, cond, Option, Some, refl, sym, ap, ◌∙◌, subst, arith, append_assoc}
use Rattle.std.specs.Prelude.{◌||◌, is_some, nat_lt, slice_get, slice_index_or}
use Rattle.std.specs.List.{cons_option, list_all, list_any}
use Rattle.std.specs.Option.{option_map}
use Rattle.std.proofs.lemmas.Bool.{false≢true}
use Rattle.std.proofs.lemmas.Bool.Decides.{nat_tests}
use Rattle.std.proofs.lemmas.List.{append-nil, length-append, length_push, map-append}
use Rattle.opam_names.specs.declared.packages.Pkg.{Pkg}
use Rattle.opam_package.specs.declared.package.Member.{Member}
use Rattle.action_graph.specs.declared.plan.Plan.{Plan}
use Rattle.action_graph.specs.declared.plan.Step.{Step}
use Rattle.change_floor.specs.Floors.{has_installed, install_place, install_turn, is_done_at, is_there, least_of}
use Rattle.journal_text.specs.declared.record.KeptFiles.{KeptFiles}
use Rattle.switch_state.specs.Actions.{Action, Installs, Removes}
use Rattle.switch_state.specs.Keeps.{kept_of}
use Rattle.switch_state.specs.Sound.{member_pkg}
use Rattle.switch_state.specs.State.{Request}
use Rattle.journal_text.specs.declared.record.Placed.{Placed}
use Rattle.change_verdict.specs.Verdicts.{install_verdict}
use Rattle.change_verdict.specs.declared.verdict.Verdict.{Verdict}
use Rattle.change_verdict.specs.declared.verdict.Verdict.TheVariants.{Places, Fails}
use Rattle.change_outcome.specs.Changes.{Change, Point, point_after}
use Rattle.change_outcome.specs.Decisions as decision
use Rattle.change_outcome.specs.Decisions.{Decision, is_failed, is_wanting}
use Rattle.change_outcome.specs.Outcomes.{actions_decided, first_decided, turn_after}
use Rattle.change_outcome.specs.Running.{CanRun, coming, leaving, staying, stays_by}
use Rattle.change_outcome.specs.Steps.{Decided, decided_on, install_of, install_with, point_then, removal_of, told_in, which_done}
use Rattle.change_outcome.specs.SuccessLaws.{NeedsAreMet, SuccessIsWhole, is_met_before}
use Rattle.change_outcome.proofs.Clearing.{Cleared, cleared_first, cleared_next}
use Rattle.change_outcome.proofs.Following.{all_entries, all_members, as_many_come, as_many_leave, counted, install_turn_at, removal_turn, some_entry, some_member, step_point, then_next}
use Rattle.change_outcome.proofs.Lists.{all_at, all_push, and_left, and_right, any_front, any_push, both, get_front, get_given, get_in, or_right}
use Rattle.change_outcome.proofs.Making.{filter_push}

-- ---- one more is told

told_more : (before : List Decided) (next : Decided) (said : Decision) → next.says ≡ Some said → told_in (before ++ next ∷ []) ≡ told_in before ++ said ∷ []
told_more before next said is = filter_push (λ (one : Decided). one.says) before next next.says refl ∙ ap (λ o. told_in before ++ cons_option o []) is

fails_less : (change : Change) (start : Point) (n m : ℕ) → list_any is_failed (told_in (first_decided change start (n + m))) ≡ false → list_any is_failed (told_in (first_decided change start n)) ≡ false
fails_less change start n zero none = (let e : n + 0 ≡ n = omega arith in subst (λ k. list_any is_failed (told_in (first_decided change start k)) ≡ false) e none)
fails_less change start n (suc m) none =
    let e : n + suc m ≡ suc (n + m) = omega arith in
    let before : List Decided = first_decided change start (n + m) in
    let next : Decided = decided_on change (point_then start before) (turn_after change before) in
    let longer = subst (λ k. list_any is_failed (told_in (first_decided change start k)) ≡ false) e none in
    fails_less change start n m
    (any_front is_failed (told_in before) (cons_option next.says []) (ap (list_any is_failed) (sym (filter_push (λ (one : Decided). one.says) before next next.says refl)) ∙ longer))

-- ---- nothing is lacking

true_at : (bs : List Bool) (k : ℕ) → list_all (λ b. b) bs ≡ true → k < length bs → slice_index_or bs k false ≡ true
true_at [] k all lt = absurd (omega arith)
true_at (b ∷ bs) zero all lt = and_left b (list_all (λ b. b) bs) all
true_at (b ∷ bs) (suc k) all lt = true_at bs k (and_right b (list_all (λ b. b) bs) all) (omega (arith, lt))

has_it : (plan : Plan) (decided : List Bool) (place need : ℕ) → list_all (λ b. b) decided ≡ true → length decided ≡ length plan.removals + place → is_met_before plan place need ≡ true → has_installed plan decided need ≡ true
has_it plan decided place need all long met = by (is_there plan need) met
  where
    below : (n m : ℕ) → nat_lt n m ≡ true → n < m
    below n m is = grind (arith, nat_tests)

    by : (there : Bool) → (there || nat_lt (install_place plan.installs need) place) ≡ true → (there || is_done_at plan decided (install_place plan.installs need)) ≡ true
    by true met = refl
    by false met = (let lt = below (install_place plan.installs need) place met in true_at decided (length plan.removals + install_place plan.installs need) all (omega (arith, lt, long)))

nothing_left : (plan : Plan) (decided : List Bool) (place : ℕ) (needs : List ℕ) → list_all (λ b. b) decided ≡ true → length decided ≡ length plan.removals + place → list_all (λ need. is_met_before plan place need) needs ≡ true
    → filter (λ need. not (has_installed plan decided need)) needs ≡ []
nothing_left plan decided place [] all long met = refl
nothing_left plan decided place (need ∷ needs) all long met =
    ap (λ b. cond (not b) (need ∷ filter (λ n. not (has_installed plan decided n)) needs) (filter (λ n. not (has_installed plan decided n)) needs)) (has_it plan decided place need all long (and_left (is_met_before plan place need) (list_all (λ n. is_met_before plan place n) needs) met))
    ∙ nothing_left plan decided place needs all long (and_right (is_met_before plan place need) (list_all (λ n. is_met_before plan place n) needs) met)

-- ---- where the change stands

data Far (change : Change) (request : Request) (n : ℕ) (point : Point) : Type 0 where
  clearing : (gone left : List Pkg) → leaving change ≡ gone ++ left → length gone ≡ n → Cleared change request gone left point → Far change request n point
  filling : (front left : List Member) → coming change ≡ front ++ left → length change.plan.removals + length front ≡ n → point.state.members ≡ staying change ++ front → Far change request n point

record Good (change : Change) (request : Request) (start : Point) (n : ℕ) (before : List Decided) : Type 0 where
  all : list_all (λ b. b) (which_done before) ≡ true
  told : list_any is_wanting (told_in before) ≡ false
  far : Far change request n (point_then start before)

module _ (change : Change) (start : Point) (can : CanRun change start) (needs : NeedsAreMet change.plan) where
  -- one more that is done
  done_more : (n : ℕ) (before : List Decided) (next : Decided) (said : Decision) (action : Action) → next.says ≡ Some said → next.does ≡ Some action → is_wanting said ≡ false
      → list_all (λ b. b) (which_done before) ≡ true → list_any is_wanting (told_in before) ≡ false → Far change can.request n (point_after (point_then start before) action) → Good change can.request start n (before ++ next ∷ [])
  done_more n before next said action says does good all told far = record {
    all = ap (list_all (λ b. b)) (map-append (λ (one : Decided). is_some one.does) before (next ∷ [])) ∙ all_push (λ b. b) (which_done before) (is_some next.does) ∙ both (is_some next.does) (list_all (λ b. b) (which_done before)) (ap is_some does) all;
    told = ap (list_any is_wanting) (told_more before next said says) ∙ any_push is_wanting (told_in before) said good ∙ told;
    far = subst (Far change can.request n) (sym (then_next start before next ∙ ap (step_point (point_then start before)) does)) far;
  }

  good_clearing : (n : ℕ) (before : List Decided) (gone : List Pkg) (pkg : Pkg) (more : List Pkg) → length (which_done before) ≡ n → leaving change ≡ gone ++ pkg ∷ more → length gone ≡ n → Cleared change can.request gone (pkg ∷ more) (point_then start before)
      → list_all (λ b. b) (which_done before) ≡ true → list_any is_wanting (told_in before) ≡ false → Good change can.request start (suc n) (before ++ decided_on change (point_then start before) (turn_after change before) ∷ [])
  good_clearing n before gone pkg more long split gone_long cleared all told =
      let point : Point = point_then start before in
      let within : n < length change.plan.removals = (let e = ap length split in let f = length-append gone (pkg ∷ more) in let g = as_many_leave change start can in omega (arith, e, f, g, gone_long)) in
      let place = get_in change.plan.removals n within in
      let entry = some_entry change start can place.0 (all_at (λ at. nat_lt at (length change.entries)) change.plan.removals n place.0 can.removals place.1) in
      let given = get_given (λ at. option_map member_pkg (slice_get change.entries at)) change.plan.removals n place.0 (member_pkg entry.0) (all_entries change start can) place.1 (ap (option_map member_pkg) entry.1) in
      let named : Some (member_pkg entry.0) ≡ Some pkg = sym given ∙ ap (λ ps. slice_get ps n) split ∙ ap (slice_get (gone ++ pkg ∷ more)) (sym gone_long) ∙ get_front gone pkg more in
      let same : member_pkg entry.0 ≡ pkg = cc in
      let kept : Option KeptFiles = kept_of point.state (member_pkg entry.0) point.files in
      let turn = removal_turn change before n place.0 long place.1 in
      let says = ap (λ t. (decided_on change point t).says) turn ∙ ap (λ o. (removal_of point o).says) entry.1 in
      let does : (decided_on change point (turn_after change before)).does ≡ Some (Removes pkg kept) =
      ap (λ t. (decided_on change point t).does) turn ∙ ap (λ o. (removal_of point o).does) entry.1 ∙ ap (λ p. Some (Removes p kept)) same in
      done_more (suc n) before (decided_on change point (turn_after change before)) (decision.Removed (member_pkg entry.0)) (Removes pkg kept) says does refl all told
      (clearing (gone ++ pkg ∷ []) more (split ∙ sym (append_assoc gone (pkg ∷ []) more)) (let e = length_push gone pkg in omega (arith, e, gone_long)) (cleared_next change start can gone more pkg split point cleared kept))

  -- by the verdict, of which it is known that it did not fail
  good_verdict : (n : ℕ) (before : List Decided) (member : Member) (verdict : Verdict) (next : Decided) → next ≡ install_with member verdict → list_any is_failed (told_in (before ++ next ∷ [])) ≡ false
      → list_all (λ b. b) (which_done before) ≡ true → list_any is_wanting (told_in before) ≡ false → ((files : List Placed) → Far change can.request n (point_after (point_then start before) (Installs member files))) → Good change can.request start n (before ++ next ∷ [])
  good_verdict n before member (Fails reason) next is none all told far = absurd (fails (told_in before) (ap (list_any is_failed) (sym (told_more before next (decision.Failed (member_pkg member) reason) (ap (λ (d : Decided). d.says) is))) ∙ none))
    where
      fails : (said : List Decision) → list_any is_failed (said ++ decision.Failed (member_pkg member) reason ∷ []) ≡ false → ⊥
      fails [] none = false≢true (sym none)
      fails (x ∷ said) none = fails said (or_right (is_failed x) (list_any is_failed (said ++ decision.Failed (member_pkg member) reason ∷ [])) none)
  good_verdict n before member (Places files) next is none all told far =
      done_more n before next (decision.Installed (member_pkg member)) (Installs member files) (ap (λ (d : Decided). d.says) is) (ap (λ (d : Decided). d.does) is) refl all told (far files)

  good_filling : (n : ℕ) (before : List Decided) (front : List Member) (member : Member) (more : List Member) → length (which_done before) ≡ n → coming change ≡ front ++ member ∷ more → length change.plan.removals + length front ≡ n
      → (point_then start before).state.members ≡ staying change ++ front → list_all (λ b. b) (which_done before) ≡ true → list_any is_wanting (told_in before) ≡ false
      → list_any is_failed (told_in (before ++ decided_on change (point_then start before) (turn_after change before) ∷ [])) ≡ false → Good change can.request start (suc n) (before ++ decided_on change (point_then start before) (turn_after change before) ∷ [])
  good_filling n before front member more long split front_long members all told none =
      let point : Point = point_then start before in
      let within : length front < length change.plan.installs = (let e = ap length split in let f = length-append front (member ∷ more) in let g = as_many_come change start can in omega (arith, e, f, g)) in
      let step = get_in change.plan.installs (length front) within in
      let found = some_member change start can step.0 (all_at (λ (s : Step). nat_lt s.member (length change.members)) change.plan.installs (length front) step.0 can.installs step.1) in
      let given = get_given (λ (s : Step). slice_get change.members s.member) change.plan.installs (length front) step.0 found.0 (all_members change start can) step.1 found.1 in
      let named : Some found.0 ≡ Some member = sym given ∙ ap (λ ms. slice_get ms (length front)) split ∙ get_front front member more in
      let there : slice_get change.members step.0.member ≡ Some member = found.1 ∙ named in
      let turn = install_turn_at change before n (length front) step.0 long (sym front_long) step.1 in
      let lacks = ap least_of (nothing_left change.plan (which_done before) (length front) step.0.needs all (long ∙ sym front_long) (needs (length front) step.0 step.1)) in
      let next_is : decided_on change point (turn_after change before) ≡ install_with member (install_verdict point.files point.state.owned (member_pkg member) (change.built (install_place change.plan.installs step.0.member)).brings) =
      ap (decided_on change point) (turn.1 ∙ ap (λ o. install_turn step.0.member o (Some turn.0)) lacks) ∙ ap (λ o. install_of point o (change.built (install_place change.plan.installs step.0.member))) there in
      good_verdict (suc n) before member (install_verdict point.files point.state.owned (member_pkg member) (change.built (install_place change.plan.installs step.0.member)).brings) (decided_on change point (turn_after change before)) next_is none all told
      (λ files. filling (front ++ member ∷ []) more (split ∙ sym (append_assoc front (member ∷ []) more)) (let e = length_push front member in omega (arith, e, front_long))
      (ap (λ ms. ms ++ member ∷ []) members ∙ append_assoc (staying change) front (member ∷ [])))

  -- the removals are over where none is left
  cleared_all : (gone : List Pkg) (point : Point) → leaving change ≡ gone ++ [] → Cleared change can.request gone [] point → point.state.members ≡ staying change ++ []
  cleared_all gone point split cleared = cleared.members ∙ ap (λ ps. filter (stays_by ps) change.entries) (sym (split ∙ append-nil gone)) ∙ sym (append-nil (staying change))

  good_next : (n : ℕ) (before : List Decided) → length (which_done before) ≡ n → n < length change.plan.removals + length change.plan.installs → list_all (λ b. b) (which_done before) ≡ true → list_any is_wanting (told_in before) ≡ false
      → list_any is_failed (told_in (before ++ decided_on change (point_then start before) (turn_after change before) ∷ [])) ≡ false → Far change can.request n (point_then start before)
      → Good change can.request start (suc n) (before ++ decided_on change (point_then start before) (turn_after change before) ∷ [])
  good_next n before long within all told none (clearing gone (pkg ∷ more) split gone_long cleared) = good_clearing n before gone pkg more long split gone_long cleared all told
  good_next n before long within all told none (clearing gone [] split gone_long cleared) = by (coming change) refl
    where
      as_long : length change.plan.removals ≡ n
      as_long = (let e = as_many_leave change start can in let f = ap length (split ∙ append-nil gone) in omega (arith, e, f, gone_long))

      by : (members : List Member) → coming change ≡ members → Good change can.request start (suc n) (before ++ decided_on change (point_then start before) (turn_after change before) ∷ [])
      by [] is = absurd (let e = ap length is in let f = as_many_come change start can in omega (arith, e, f, as_long, within))
      by (member ∷ more) is = good_filling n before [] member more long is (omega (arith, as_long)) (cleared_all gone (point_then start before) split cleared) all told none
  good_next n before long within all told none (filling front [] split front_long members) = absurd (let e = ap length (split ∙ append-nil front) in let f = as_many_come change start can in omega (arith, e, f, front_long, within))
  good_next n before long within all told none (filling front (member ∷ more) split front_long members) = good_filling n before front member more long split front_long members all told none

  good : (n m : ℕ) → n + m ≡ length change.plan.removals + length change.plan.installs → list_any is_failed (told_in (first_decided change start (n + m))) ≡ false → Good change can.request start n (first_decided change start n)
  good zero m sum none = record { all = refl; told = refl; far = clearing [] (leaving change) refl refl (cleared_first change start can) }
  good (suc n) m sum none =
      let e : suc n + m ≡ n + suc m = omega arith in
      let before : List Decided = first_decided change start n in
      let earlier = good n (suc m) (sym e ∙ sum) (subst (λ k. list_any is_failed (told_in (first_decided change start k)) ≡ false) e none) in
      good_next n before (counted change start n) (omega (arith, sum)) earlier.all earlier.told (fails_less change start (suc n) m none) earlier.far

  members_of : (point : Point) → Far change can.request (length change.plan.removals + length change.plan.installs) point → point.state.members ≡ staying change ++ coming change
  members_of point (clearing gone left split gone_long cleared) = by left (coming change) split refl cleared
    where
      by : (left : List Pkg) (members : List Member) → leaving change ≡ gone ++ left → coming change ≡ members → Cleared change can.request gone left point → point.state.members ≡ staying change ++ coming change
      by (pkg ∷ more) members split is cleared = absurd (let e = ap length split in let f = length-append gone (pkg ∷ more) in let g = as_many_leave change start can in omega (arith, e, f, g, gone_long))
      by [] [] split is cleared = cleared_all gone point split cleared ∙ ap (λ ms. staying change ++ ms) (sym is)
      by [] (member ∷ more) split is cleared =
          absurd (let e = ap length is in let f = as_many_come change start can in let g = as_many_leave change start can in let h = ap length (split ∙ append-nil gone) in omega (arith, e, f, g, h, gone_long))
  members_of point (filling front [] split front_long members) = members ∙ ap (λ ms. staying change ++ ms) (sym (split ∙ append-nil front))
  members_of point (filling front (member ∷ more) split front_long members) =
      absurd (let e = ap length split in let f = length-append front (member ∷ more) in let g = as_many_come change start can in omega (arith, e, f, g, front_long))

pub success : SuccessIsWhole
success change start can needs none =
    let total : ℕ = length change.plan.removals + length change.plan.installs in
    let e : total + 0 ≡ total = omega arith in
    let all = good change start can needs total 0 e (subst (λ k. list_any is_failed (told_in (first_decided change start k)) ≡ false) (sym e) none) in
    record { told = all.told; members = members_of change start can needs (point_then start (actions_decided change start)) all.far }
