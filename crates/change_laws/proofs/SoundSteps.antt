-- A sound switch stays sound through a change whose plan fits.
use Rattle.std.proofs.Common.{◌≡◌, ◌∙◌, ℕ, zero, suc, ◌+◌, ◌<◌, ◌≤◌, List, [], ◌∷◌, ◌++◌, filter, length, Bool, true, cond, Option, Some, None, refl, sym, ap, subst, arith, append_assoc}
use Rattle.std.specs.Prelude.{IfSome, is_some, slice_get}
use Rattle.std.specs.List.{list_all, list_any}
use Rattle.std.proofs.lemmas.List.{append-nil, map-append, take_all}
use Rattle.opam_names.specs.declared.packages.Pkg.{Pkg}
use Rattle.opam_package.specs.Dependencies.{is_edge}
use Rattle.opam_package.specs.declared.package.Member.{Member}
use Rattle.change_floor.specs.Floors.{has_installed}
use Rattle.journal_text.specs.declared.record.Placed.{Placed}
use Rattle.switch_state.specs.Actions.{Action, Installs, PutsBack, Removes}
use Rattle.switch_state.specs.FormedLaws.{ActionsKeepForm}
use Rattle.switch_state.specs.Sound as sound
use Rattle.switch_state.specs.Sound.{AreInOrder, RequestIsSound, TargetAgrees, installs_of, member_pkg, member_pkgs}
use Rattle.switch_state.specs.SoundLaws.{ComesInTurn, InstallsKeepSound, PutBacksKeepSound, RemovalsKeepSound, Suits}
use Rattle.switch_state.specs.State.{Request}
use Rattle.switch_state.specs.Underway.{ActionsRemoveFirst, RemovesFirst}
use Rattle.change_verdict.specs.Verdicts.{install_verdict}
use Rattle.change_verdict.specs.declared.verdict.Sources.{Sources}
use Rattle.change_verdict.specs.declared.verdict.Verdict.TheVariants.{Places}
use Rattle.back_verdict.specs.Backs.{why_of}
use Rattle.back_verdict.specs.declared.why.Why.{Why}
use Rattle.change_outcome.specs.Changes.{Change, Point, Removal}
use Rattle.change_outcome.specs.Outcomes.{actions_decided, all_decided, cut, first_decided}
use Rattle.change_outcome.specs.PutBacks.{backs_left, with_backs}
use Rattle.change_outcome.specs.Running.{CanRun, coming, leaving, staying, stays_by}
use Rattle.change_outcome.specs.Steps.{Decided, back_of, back_with, done_in, point_then, which_done}
use Rattle.change_outcome.proofs.Following.{as_many_leave, counted, step_point, then_next}
use Rattle.change_outcome.proofs.Possible.{IfCan}
use Rattle.change_laws.specs.Fits.{CanBeCarriedOut, IsFitFor}
use Rattle.change_laws.specs.SoundRuns.{IsSoundAt}
use Rattle.change_laws.proofs.Allowed.{backs_push, next_at, next_back_can, next_can}
use Rattle.change_laws.proofs.Chosen.{chosen, chosen_push, part_behind, part_chosen, part_stands}
use Rattle.change_laws.proofs.Coming.{comes_same}
use Rattle.change_laws.proofs.Filling.{runs, suited}
use Rattle.change_laws.proofs.Foreigners.{back_suits, placed_apart}
use Rattle.change_laws.proofs.Places.{Comes, at_first, cleared, leaves, removal_decided}
use Rattle.change_laws.proofs.Standing.{Decides, came_at, came_more, comer, comes_with, decides_it, flags_at, idle, known_late, many_flags, no_flags}
use Rattle.change_laws.proofs.Throughout.{Throughout, through_last, through_next, through_take}

-- a switch that is sound, and whose request removes first
abbrev pub IsGood : Point → Type 0
IsGood point = IsSoundAt point × RemovesFirst point.state

-- what an action has to be, besides that it can be committed
abbrev IfSuits : Point → Option Action → Type 0
IfSuits point None = Unit {0}
IfSuits point (Some (Installs member placed)) = Suits point.state point.files member placed × ComesInTurn (member_pkg member) point.state
IfSuits point (Some (Removes pkg kept)) = Unit {0}
IfSuits point (Some (PutsBack member placed)) = Suits point.state point.files member placed

-- ---- put backs

suiting_back : (point : Point) (removal : Removal) → IfSuits point (back_of point removal).does
suiting_back point removal = by removal.kept (why_of point.files point.state.owned point.state.members removal.kept) refl
  where
    by : (kept : Option (Member × List Placed)) (why : Option Why) → why_of point.files point.state.owned point.state.members kept ≡ why → IfSuits point (back_with removal kept why).does
    by kept (Some why) is = tt
    by None None is = tt
    by (Some old) None is = back_suits point.state point.files old.0 old.1 is

module _ (change : Change) (start : Point) (out : CanBeCarriedOut change start) (forms : ActionsKeepForm) (firsts : ActionsRemoveFirst) (installs : InstallsKeepSound) (backs : PutBacksKeepSound) (removals : RemovalsKeepSound)
    (fit : IsFitFor change start.state out.restores.runs.request) (sound_first : IsSoundAt start) where
  abbrev can : CanRun change start
  can = out.restores.runs

  abbrev request : Request
  request = out.restores.runs.request

  abbrev gone : ℕ
  gone = length change.plan.removals

  target_agrees : TargetAgrees change.members
  target_agrees = subst TargetAgrees can.target (subst (λ (o : Option Request). IfSome o (RequestIsSound start.state)) can.is_open sound_first.request).target

  good_step : (point : Point) (does : Option Action) → IfCan point does → IfSuits point does → IsGood point → IsGood (step_point point does)
  good_step point None may suits good = good
  good_step point (Some (Installs member placed)) may suits good =
      (installs point.number member placed point.state point.files may.0 may.1 suits.0 suits.1 good.0, firsts point.number (Installs member placed) point.state may.0 good.1)
  good_step point (Some (Removes pkg kept)) may suits good =
      (removals point.number pkg kept point.state point.files may.0 good.1 good.0, firsts point.number (Removes pkg kept) point.state may.0 good.1)
  good_step point (Some (PutsBack member placed)) may suits good =
      (backs point.number member placed point.state point.files may.0 may.1 suits good.1 good.0, firsts point.number (PutsBack member placed) point.state may.0 good.1)

  good_next : (before : List Decided) (next : Decided) → Throughout IsGood start (done_in before) → IfCan (point_then start before) next.does → IfSuits (point_then start before) next.does → Throughout IsGood start (done_in (before ++ next ∷ []))
  good_next before next all may suits =
      through_next IsGood start before next all
      (subst IsGood (sym (then_next start before next)) (good_step (point_then start before) next.does may suits (through_last IsGood start (done_in before) all)))

  -- ---- the removals

  clears : (n : ℕ) → n ≤ gone → Throughout IsGood start (done_in (first_decided change start n))
  clears zero within = (sound_first, out.restores.first)
  clears (suc n) within =
      let it = leaves change start can n (omega (arith, within)) in
      good_next (first_decided change start n) (next_at change start out forms firsts n) (clears n (omega (arith, within))) (next_can change start out forms firsts n (omega (arith, within)))
      (subst (IfSuits (at_first change start can n)) (sym (ap (λ (d : Decided). d.does) (removal_decided change start can n it))) tt)

  -- ---- the installs

  abbrev came : ℕ → List Member
  came n = came_at change start out forms firsts n

  abbrev flags : ℕ → List Bool
  flags n = flags_at change start out forms firsts n

  record Fills (n : ℕ) : Type 0 where
    members : (at_first change start can n).state.members ≡ staying change ++ came n
    all : Throughout IsGood start (done_in (first_decided change start n))

  fills_first : Fills gone
  fills_first =
      let none : came gone ≡ [] = ap (λ bs. chosen bs (coming change)) (no_flags change start out forms firsts) in
      let all_left = take_all gone (leaving change) (let e = as_many_leave change start can in omega (arith, e)) in
      record {
        members =
            (cleared change start can gone (omega arith)).members ∙ ap (λ (ps : List Pkg). filter (stays_by ps) change.entries) all_left ∙ sym (append-nil (staying change)) ∙ ap (λ ms. staying change ++ ms) (sym none);
        all = clears gone (omega arith);
      }

  module _ (n i : ℕ) (is : n ≡ gone + i) (within : i < length change.plan.installs) (so_far : Fills n) where
    abbrev before : List Decided
    before = first_decided change start n

    abbrev point : Point
    point = at_first change start can n

    abbrev next : Decided
    next = next_at change start out forms firsts n

    abbrev it : Comes change start can i
    it = comer change start out forms firsts n i is within

    long : length (which_done before) ≡ gone + i
    long = counted change start n ∙ is

    suits : (files : List Placed) (brings : Sources) → install_verdict point.files point.state.owned (member_pkg it.member) brings ≡ Places files → list_all (has_installed change.plan (which_done before)) it.step.needs ≡ true
        → Suits point.state point.files it.member files
    suits files brings verdict has =
        let so = suited change start can fit target_agrees i it within (which_done before) long in
        record {
          runs = subst (λ (ms : List Member). sound.runs_on (member_pkgs (ms ++ it.member ∷ [])) it.member.package ≡ true) (sym so_far.members) (runs change start can fit target_agrees i it within (which_done before) long has);
          last = ap (list_any (λ (m : Member). is_edge m.package (member_pkg it.member))) so_far.members ∙ so.last;
          agreed = ap (list_any (λ (m : Member). sound.is_against m.package it.member.package)) so_far.members ∙ so.agreed;
          agrees = ap (list_any (λ (m : Member). sound.is_against it.member.package m.package)) so_far.members ∙ so.agrees;
          foreign = placed_apart point.state point.files (member_pkg it.member) brings files verdict;
        }

    -- the installs that are done stand in their order with it
    in_turn : ComesInTurn (member_pkg it.member) point.state
    in_turn =
        let known = known_late change start out forms firsts i n (omega (arith, within)) is in
        let with_it : List Member = chosen (flags n ++ true ∷ []) (coming change) in
        let more : member_pkgs with_it ≡ member_pkgs (came n) ++ member_pkg it.member ∷ [] =
        ap member_pkgs (chosen_push (flags n) (coming change) true it.member (ap (slice_get (coming change)) (many_flags change start out forms firsts n i is within) ∙ it.named)) ∙ map-append member_pkg (came n) (it.member ∷ []) in
        let part = part_behind (installs_of request.done) (member_pkgs with_it) (member_pkgs (coming change)) (part_chosen member_pkg (flags n ++ true ∷ []) (coming change)) in
        let done : installs_of known.now.done ++ member_pkg it.member ∷ [] ≡ installs_of request.done ++ member_pkgs with_it =
        ap (λ ps. ps ++ member_pkg it.member ∷ []) known.installs ∙ append_assoc (installs_of request.done) (member_pkgs (came n)) (member_pkg it.member ∷ []) ∙ ap (λ ps. installs_of request.done ++ ps) (sym more) in
        let order : AreInOrder (sound.coming start.state request) (installs_of request.done ++ member_pkgs with_it) =
        record {
          order = fit.order.order;
          steps = fit.order.steps;
          whole = fit.order.whole;
          done_so = part_stands fit.order.order (installs_of request.done ++ member_pkgs with_it) (installs_of request.done ++ member_pkgs (coming change)) part fit.order.done_so;
        } in
        subst (λ (o : Option Request). IfSome o (λ r. AreInOrder (sound.coming point.state r) (installs_of r.done ++ member_pkg it.member ∷ []))) (sym known.is_open)
        (subst (λ (ms : List Member). AreInOrder ms (installs_of known.now.done ++ member_pkg it.member ∷ [])) (sym (comes_same start.state point.state request known.now known.target known.entries))
        (subst (AreInOrder (sound.coming start.state request)) (sym done) order))

    fills_by : (does : Option Action) → next.does ≡ does → (step_point point does).state.members ≡ (staying change ++ came n) ++ cond (is_some does) (it.member ∷ []) [] → IfSuits point does → Fills (suc n)
    fills_by does same members suiting = record {
      members =
          ap (λ (p : Point). p.state.members) (then_next start before next ∙ ap (step_point point) same) ∙ members ∙ append_assoc (staying change) (came n) (cond (is_some does) (it.member ∷ []) [])
          ∙ ap (λ ms. staying change ++ ms) (sym (came_more change start out forms firsts n i is within does same));
      all = good_next before next so_far.all (next_can change start out forms firsts n (omega (arith, is, within))) (subst (IfSuits point) (sym same) suiting);
    }

    fills_next : Fills (suc n)
    fills_next = by (decides_it change start out forms firsts n i is within)
      where
        by : Decides change point (which_done before) it.step it.member next.does → Fills (suc n)
        by (idle none) = fills_by None none (so_far.members ∙ sym (append-nil (staying change ++ came n))) tt
        by (comes_with brings files verdict has does) = fills_by (Some (Installs it.member files)) does (ap (λ ms. ms ++ it.member ∷ []) so_far.members) (suits files brings verdict has, in_turn)

  fills : (i n : ℕ) → i ≤ length change.plan.installs → n ≡ gone + i → Fills n
  fills zero n within is = (let e : gone ≡ n = omega (arith, is) in subst Fills e fills_first)
  fills (suc i) zero within is = absurd (omega (arith, is))
  fills (suc i) (suc n) within is = fills_next n i (omega (arith, is)) (omega (arith, within)) (fills i n (omega (arith, within)) (omega (arith, is)))

  -- ---- the put backs

  restores : (front left : List Removal) → backs_left (point_then start (actions_decided change start)) ≡ front ++ left → Throughout IsGood start (done_in (with_backs start (actions_decided change start) front))
      → Throughout IsGood start (done_in (with_backs start (actions_decided change start) (front ++ left)))
  restores front [] split all = subst (λ rs. Throughout IsGood start (done_in (with_backs start (actions_decided change start) rs))) (sym (append-nil front)) all
  restores front (removal ∷ left) split all =
      let so_far : List Decided = with_backs start (actions_decided change start) front in
      let back : Decided = back_of (point_then start so_far) removal in
      let more = good_next so_far back all (next_back_can change start out forms firsts front removal left split) (suiting_back (point_then start so_far) removal) in
      subst (λ rs. Throughout IsGood start (done_in (with_backs start (actions_decided change start) rs))) (append_assoc front (removal ∷ []) left)
      (restores (front ++ removal ∷ []) left (split ∙ sym (append_assoc front (removal ∷ []) left))
      (subst (λ ds. Throughout IsGood start (done_in ds)) (sym (backs_push start (actions_decided change start) front removal)) more))

  pub good_throughout : Throughout IsGood start (done_in (all_decided change start))
  good_throughout =
      restores [] (backs_left (point_then start (actions_decided change start))) refl
      (fills (length change.plan.installs) (length change.plan.removals + length change.plan.installs) (omega arith) refl).all

  pub sound_after : (count : ℕ) → IsSoundAt (cut change start count)
  sound_after count = (through_take IsGood start (done_in (all_decided change start)) count good_throughout).0
