-- What is known of the open request while a change removes and installs.
use Rattle.std.proofs.Common.{◌≡◌, ◌∙◌, ℕ, zero, suc, ◌+◌, ◌<◌, ◌≤◌, List, [], ◌∷◌, ◌++◌, drop, filter, length, Bool, true, cond, Option, Some, None, refl, sym, ap, subst, arith, append_assoc}
use Rattle.std.specs.Prelude.{is_some, slice_get}
use Rattle.std.specs.List.{list_all, list_any}
use Rattle.std.proofs.lemmas.List.{append-nil, drop-append-le, drop-drop, drop_all, length-drop, map-append}
use Rattle.opam_names.specs.declared.packages.Pkg.{Pkg}
use Rattle.opam_package.specs.declared.package.Member.{Member}
use Rattle.action_graph.specs.declared.plan.Step.{Step}
use Rattle.change_floor.specs.Floors.{has_installed, install_place, install_turn, lacking}
use Rattle.change_floor.proofs.Standing.{lacks_none}
use Rattle.outside_io.specs.declared.workshop.Fate.{Fate}
use Rattle.journal_text.specs.declared.record.Placed.{Placed}
use Rattle.switch_journal.specs.Applying.{is_put_back}
use Rattle.switch_journal.specs.declared.request.Done.{Done}
use Rattle.switch_state.specs.Actions.{Action, Installs, PutsBack, Removes}
use Rattle.switch_state.specs.FormedLaws.{ActionsKeepForm}
use Rattle.switch_state.specs.Sound.{installs_of, is_kept_entry, is_removal_done, member_pkg, member_pkgs, removals_left}
use Rattle.switch_state.specs.State.{Request}
use Rattle.switch_state.specs.Underway.{ActionsRemoveFirst, RemovesFirst}
use Rattle.switch_state.proofs.RequestKept.{installs_more}
use Rattle.change_verdict.specs.Verdicts.{install_verdict}
use Rattle.change_verdict.specs.declared.verdict.Sources.{Sources}
use Rattle.change_verdict.specs.declared.verdict.Verdict.{Verdict}
use Rattle.change_verdict.specs.declared.verdict.Verdict.TheVariants.{Places, Fails}
use Rattle.change_outcome.specs.Changes.{Change, Point}
use Rattle.change_outcome.specs.Outcomes.{first_decided, turn_after}
use Rattle.change_outcome.specs.Running.{CanRun, coming, leaving}
use Rattle.change_outcome.specs.Steps.{Decided, abort_of, decided_on, install_of, install_with, which_done}
use Rattle.change_outcome.proofs.Following.{counted, install_turn_at, step_point, then_next}
use Rattle.change_outcome.proofs.Lists.{any_push, count_push, count_same}
use Rattle.change_outcome.proofs.Possible.{IfCan}
use Rattle.change_laws.specs.Fits.{CanBeCarriedOut}
use Rattle.change_laws.proofs.Allowed.{next_at, next_can}
use Rattle.change_laws.proofs.Chosen.{chosen, chosen_push}
use Rattle.change_laws.proofs.Coming.{goes_on, thing_of}
use Rattle.change_laws.proofs.Places.{Comes, at_first, comes, leaves, removal_decided}

-- ---- an install

abort_does : (member need : Option Member) → (abort_of member need).does ≡ None
abort_does None need = refl
abort_does (Some member) None = refl
abort_does (Some member) (Some need) = refl

-- what is decided of an install: nothing is done, or it comes with the files that a verdict places, and its needs are installed
pub data Decides (change : Change) (point : Point) (bools : List Bool) (step : Step) (member : Member) (does : Option Action) : Type 0 where
  idle : does ≡ None → Decides change point bools step member does
  comes_with : (brings : Sources) (files : List Placed) → install_verdict point.files point.state.owned (member_pkg member) brings ≡ Places files → list_all (has_installed change.plan bools) step.needs ≡ true → does ≡ Some (Installs member files)
      → Decides change point bools step member does

decides : (change : Change) (point : Point) (before : List Decided) (n i : ℕ) (step : Step) (member : Member) → length (which_done before) ≡ n → n ≡ length change.plan.removals + i → slice_get change.plan.installs i ≡ Some step → slice_get change.members step.member ≡ Some member
    → Decides change point (which_done before) step member (decided_on change point (turn_after change before)).does
decides change point before n i step member long is stands there =
    let turn = install_turn_at change before n i step long is stands in
    subst (λ t. Decides change point (which_done before) step member (decided_on change point t).does) (sym turn.1) (by (lacking change.plan (which_done before) step.needs) refl turn.0)
  where
    by_verdict : (brings : Sources) (verdict : Verdict) → install_verdict point.files point.state.owned (member_pkg member) brings ≡ verdict → list_all (has_installed change.plan (which_done before)) step.needs ≡ true
        → Decides change point (which_done before) step member (install_with member verdict).does
    by_verdict brings (Fails reason) is has = idle refl
    by_verdict brings (Places files) is has = comes_with brings files is has refl

    by : (lacks : Option ℕ) → lacking change.plan (which_done before) step.needs ≡ lacks → (fate : Fate) → Decides change point (which_done before) step member (decided_on change point (install_turn step.member lacks (Some fate))).does
    by (Some need) is fate = idle (abort_does (slice_get change.members step.member) (slice_get change.members need))
    by None is fate =
        let brings : Sources = (change.built (install_place change.plan.installs step.member)).brings in
        subst (λ o. Decides change point (which_done before) step member (install_of point o (change.built (install_place change.plan.installs step.member))).does) (sym there)
        (by_verdict brings (install_verdict point.files point.state.owned (member_pkg member) brings) refl (lacks_none change.plan (which_done before) step.needs is))

-- ---- what an action is

-- what is installed by it, if anything is done
abbrev pub installed_if : Option Action → List Pkg
installed_if None = []
installed_if (Some (Installs member placed)) = member_pkg member ∷ []
installed_if (Some (Removes pkg kept)) = []
installed_if (Some (PutsBack member placed)) = []

-- 1 where a package is removed
abbrev pub removed_if : Option Action → ℕ
removed_if None = 0
removed_if (Some (Installs member placed)) = 0
removed_if (Some (Removes pkg kept)) = 1
removed_if (Some (PutsBack member placed)) = 0

-- nothing is put back
abbrev pub IsNoBack : Option Action → Type 0
IsNoBack None = Unit {0}
IsNoBack (Some (Installs member placed)) = Unit {0}
IsNoBack (Some (Removes pkg kept)) = Unit {0}
IsNoBack (Some (PutsBack member placed)) = ⊥

module _ (change : Change) (start : Point) (out : CanBeCarriedOut change start) (forms : ActionsKeepForm) (firsts : ActionsRemoveFirst) where
  abbrev can : CanRun change start
  can = out.restores.runs

  abbrev request : Request
  request = out.restores.runs.request

  -- the open request, with how many packages it has removed in this change and what it has installed
  pub record Known (point : Point) (gone : ℕ) (came : List Pkg) : Type 0 where
    pub now : Request
    pub is_open : point.state.request ≡ Some now
    pub target : now.target ≡ request.target
    pub removals : now.removals ≡ request.removals
    pub entries : (name : List ℕ) → list_any (is_kept_entry now name) point.state.members ≡ list_any (is_kept_entry request name) start.state.members
    pub removed : length (filter is_removal_done now.done) ≡ length (filter is_removal_done request.done) + gone
    pub installs : installs_of now.done ≡ installs_of request.done ++ came
    pub backs : list_any is_put_back now.done ≡ list_any is_put_back request.done
    pub first : RemovesFirst point.state

  known_first : Known start 0 []
  known_first = record {
    now = request;
    is_open = can.is_open;
    target = refl;
    removals = refl;
    entries = λ name. refl;
    removed = omega arith;
    installs = sym (append-nil (installs_of request.done));
    backs = refl;
    first = out.restores.first;
  }

  known_step : (point : Point) (does : Option Action) (gone : ℕ) (came : List Pkg) → IfCan point does → IsNoBack does → Known point gone came → Known (step_point point does) (gone + removed_if does) (came ++ installed_if does)
  known_step point None gone came may no_back known = (let e : gone ≡ gone + 0 = omega arith in subst (λ g. Known point g (came ++ [])) e (subst (Known point gone) (sym (append-nil came)) known))
  known_step point (Some (Installs member placed)) gone came may no_back known =
      let it = goes_on point.number point.state known.now known.is_open (Installs member placed) may.0 known.first in
      let what : Done = thing_of point.number (Installs member placed) in
      record {
        now = it.later;
        is_open = it.is_open;
        target = it.target ∙ known.target;
        removals = it.removals ∙ known.removals;
        entries = λ name. it.entries name ∙ known.entries name;
        removed =
            (let e = ap (λ (ds : List Done). length (filter is_removal_done ds)) it.done_is in let f = count_same is_removal_done known.now.done what refl in let g = known.removed in omega (arith, e, f, g));
        installs =
            ap installs_of it.done_is ∙ installs_more known.now.done (what ∷ []) ∙ ap (λ ps. ps ++ member_pkg member ∷ []) known.installs ∙ append_assoc (installs_of request.done) came (member_pkg member ∷ []);
        backs = ap (list_any is_put_back) it.done_is ∙ any_push is_put_back known.now.done what refl ∙ known.backs;
        first = firsts point.number (Installs member placed) point.state may.0 known.first;
      }
  known_step point (Some (Removes pkg kept)) gone came may no_back known =
      let it = goes_on point.number point.state known.now known.is_open (Removes pkg kept) may.0 known.first in
      let what : Done = thing_of point.number (Removes pkg kept) in
      record {
        now = it.later;
        is_open = it.is_open;
        target = it.target ∙ known.target;
        removals = it.removals ∙ known.removals;
        entries = λ name. it.entries name ∙ known.entries name;
        removed =
            (let e = ap (λ (ds : List Done). length (filter is_removal_done ds)) it.done_is in let f = count_push is_removal_done known.now.done what refl in let g = known.removed in omega (arith, e, f, g));
        installs = ap installs_of it.done_is ∙ installs_more known.now.done (what ∷ []) ∙ ap (λ ps. ps ++ []) known.installs ∙ append_assoc (installs_of request.done) came [];
        backs = ap (list_any is_put_back) it.done_is ∙ any_push is_put_back known.now.done what refl ∙ known.backs;
        first = firsts point.number (Removes pkg kept) point.state may.0 known.first;
      }
  known_step point (Some (PutsBack member placed)) gone came may no_back known = absurd no_back

  -- what is left to be removed
  pub left_at : (point : Point) (gone : ℕ) (came : List Pkg) (known : Known point gone came) → removals_left known.now ≡ drop gone (leaving change)
  left_at point gone came known =
      (λ i. drop (known.removed i) (known.removals i))
      ∙ sym (drop-drop gone (length (filter is_removal_done request.done)) request.removals)
      ∙ ap (drop gone) can.left

  -- ---- the removals

  pub known_early : (n : ℕ) → n ≤ length change.plan.removals → Known (at_first change start can n) n []
  known_early zero within = known_first
  known_early (suc n) within =
      let it = leaves change start can n (omega (arith, within)) in
      let next : Decided = next_at change start out forms firsts n in
      let point : Point = at_first change start can n in
      let may = next_can change start out forms firsts n (omega (arith, within)) in
      let does = ap (λ (d : Decided). d.does) (removal_decided change start can n it) in
      let more = known_step point next.does n [] may (subst IsNoBack (sym does) tt) (known_early n (omega (arith, within))) in
      let e : n + removed_if next.does ≡ suc n = (let f = ap removed_if does in omega (arith, f)) in
      subst (λ (p : Point). Known p (suc n) []) (sym (then_next start (first_decided change start n) next))
      (subst (λ g. Known (step_point point next.does) g []) e (subst (Known (step_point point next.does) (n + removed_if next.does)) (ap installed_if does) more))

  -- ---- the installs

  -- of the installs so far whether they are done
  abbrev pub flags_at : ℕ → List Bool
  flags_at n = drop (length change.plan.removals) (which_done (first_decided change start n))

  -- those that are
  abbrev pub came_at : ℕ → List Member
  came_at n = chosen (flags_at n) (coming change)

  pub no_flags : flags_at (length change.plan.removals) ≡ []
  no_flags = drop_all (length change.plan.removals) (which_done (first_decided change start (length change.plan.removals))) (let e = counted change start (length change.plan.removals) in omega (arith, e))

  module _ (n i : ℕ) (is : n ≡ length change.plan.removals + i) (within : i < length change.plan.installs) where
    abbrev before : List Decided
    before = first_decided change start n

    abbrev next : Decided
    next = next_at change start out forms firsts n

    pub comer : Comes change start can i
    comer = comes change start can i within

    pub decides_it : Decides change (at_first change start can n) (which_done before) comer.step comer.member next.does
    decides_it = decides change (at_first change start can n) before n i comer.step comer.member (counted change start n) is comer.stands comer.there

    pub many_flags : length (flags_at n) ≡ i
    many_flags = (let e = length-drop (length change.plan.removals) (which_done before) in let f = counted change start n in omega (arith, e, f, is))

    pub flags_more : flags_at (suc n) ≡ flags_at n ++ is_some next.does ∷ []
    flags_more =
        ap (drop (length change.plan.removals)) (map-append (λ (one : Decided). is_some one.does) before (next ∷ []))
        ∙ drop-append-le (length change.plan.removals) (which_done before) (is_some next.does ∷ []) (let e = counted change start n in omega (arith, e, is))

    pub came_more : (does : Option Action) → next.does ≡ does → came_at (suc n) ≡ came_at n ++ cond (is_some does) (comer.member ∷ []) []
    came_more does same =
        ap (λ bs. chosen bs (coming change)) flags_more ∙ chosen_push (flags_at n) (coming change) (is_some next.does) comer.member (ap (slice_get (coming change)) many_flags ∙ comer.named)
        ∙ ap (λ o. came_at n ++ cond (is_some o) (comer.member ∷ []) []) same

    known_by : (does : Option Action) → next.does ≡ does → IsNoBack does → removed_if does ≡ 0 → installed_if does ≡ member_pkgs (cond (is_some does) (comer.member ∷ []) [])
        → Known (at_first change start can n) (length change.plan.removals) (member_pkgs (came_at n)) → Known (at_first change start can (suc n)) (length change.plan.removals) (member_pkgs (came_at (suc n)))
    known_by does same no_back none packages known =
        let gone : ℕ = length change.plan.removals in
        let point : Point = at_first change start can n in
        let may = subst (IfCan point) same (next_can change start out forms firsts n (omega (arith, is, within))) in
        let more = known_step point does gone (member_pkgs (came_at n)) may no_back known in
        let e : gone + removed_if does ≡ gone = omega (arith, none) in
        let f : member_pkgs (came_at n) ++ installed_if does ≡ member_pkgs (came_at (suc n)) =
        ap (λ ps. member_pkgs (came_at n) ++ ps) packages ∙ sym (map-append member_pkg (came_at n) (cond (is_some does) (comer.member ∷ []) [])) ∙ ap member_pkgs (sym (came_more does same)) in
        subst (λ (p : Point). Known p gone (member_pkgs (came_at (suc n)))) (sym (then_next start before next ∙ ap (step_point point) same))
        (subst (λ g. Known (step_point point does) g (member_pkgs (came_at (suc n)))) e (subst (Known (step_point point does) (gone + removed_if does)) f more))

    known_next : Known (at_first change start can n) (length change.plan.removals) (member_pkgs (came_at n)) → Known (at_first change start can (suc n)) (length change.plan.removals) (member_pkgs (came_at (suc n)))
    known_next known = by decides_it
      where
        by : Decides change (at_first change start can n) (which_done before) comer.step comer.member next.does → Known (at_first change start can (suc n)) (length change.plan.removals) (member_pkgs (came_at (suc n)))
        by (idle none) = known_by None none tt refl refl known
        by (comes_with brings files verdict has does) = known_by (Some (Installs comer.member files)) does tt refl refl known

  pub known_late : (i n : ℕ) → i ≤ length change.plan.installs → n ≡ length change.plan.removals + i → Known (at_first change start can n) (length change.plan.removals) (member_pkgs (came_at n))
  known_late zero n within is =
      let e : length change.plan.removals ≡ n = omega (arith, is) in
      subst (λ k. Known (at_first change start can k) (length change.plan.removals) (member_pkgs (came_at k))) e
      (subst (λ bs. Known (at_first change start can (length change.plan.removals)) (length change.plan.removals) (member_pkgs (chosen bs (coming change)))) (sym no_flags) (known_early (length change.plan.removals) (omega arith)))
  known_late (suc i) zero within is = absurd (omega (arith, is))
  known_late (suc i) (suc n) within is = known_next n i (omega (arith, is)) (omega (arith, within)) (known_late i n (omega (arith, within)) (omega (arith, is)))
