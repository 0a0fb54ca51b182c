-- Whatever is decided next can be committed.
use Rattle.std.proofs.Common.{◌≡◌, ◌∙◌, ℕ, suc, ◌+◌, ◌<◌, ◌≤◌, List, [], ◌∷◌, ◌++◌, length, refl, sym, ap, subst, arith, append_assoc}
use Rattle.std.specs.Prelude.{is_some}
use Rattle.std.proofs.lemmas.List.{length-map, length_push, same_from_push}
use Rattle.switch_state.specs.FormedLaws.{ActionsKeepForm}
use Rattle.switch_state.specs.Underway.{ActionsRemoveFirst}
use Rattle.switch_state.proofs.SoundKept.{nothing}
use Rattle.change_floor.specs.Floors.{turn_of}
use Rattle.change_outcome.specs.Changes.{Change, Point, Removal}
use Rattle.change_outcome.specs.Outcomes.{actions_decided, first_decided, turn_after}
use Rattle.change_outcome.specs.PossibleRuns.{MayRestore, MayRun, begins, goes_on, ran_out, restores_on}
use Rattle.change_outcome.specs.PutBacks.{backs_left, with_backs}
use Rattle.change_outcome.specs.Steps.{Decided, back_of, decided_on, point_then, which_done}
use Rattle.change_outcome.proofs.Following.{counted}
use Rattle.change_outcome.proofs.Possible.{IfCan, along, before_last, counted_so, leads, may_at}
use Rattle.change_outcome.proofs.Restoring.{restored, returns}
use Rattle.change_outcome.proofs.Telling.{decided_come, put_backs_come}
use Rattle.change_laws.specs.Fits.{CanBeCarriedOut}

-- put backs one after another
pub backs_push : (start : Point) (before : List Decided) (front : List Removal) (removal : Removal)
    → with_backs start before (front ++ removal ∷ []) ≡ with_backs start before front ++ back_of (point_then start (with_backs start before front)) removal ∷ []
backs_push start before [] removal = refl
backs_push start before (first ∷ front) removal = backs_push start (before ++ back_of (point_then start before) first ∷ []) front removal

backs_length : (start : Point) (before : List Decided) (removals : List Removal) → length (with_backs start before removals) ≡ length before + length removals
backs_length start before [] = omega arith
backs_length start before (removal ∷ removals) =
    (let e = backs_length start (before ++ back_of (point_then start before) removal ∷ []) removals in let f = length_push before (back_of (point_then start before) removal) in omega (arith, e, f))

module _ (change : Change) (start : Point) (out : CanBeCarriedOut change start) (forms : ActionsKeepForm) (firsts : ActionsRemoveFirst) where
  abbrev pub last : ℕ
  last = length change.plan.removals + length change.plan.installs

  -- what is decided at a place
  abbrev pub next_at : ℕ → Decided
  next_at n = decided_on change (point_then start (first_decided change start n)) (turn_after change (first_decided change start n))

  run_can : (all before : List Decided) (next : Decided) → MayRun change start all → all ≡ before ++ next ∷ [] → IfCan (point_then start before) next.does
  run_can all before next begins is = absurd (nothing before next [] is)
  run_can all before next (goes_on seen fates found runs may) is =
      let same = same_from_push seen before found next is in
      let can = out.restores.runs in
      let point : Point = point_then start seen in
      let within = before_last change start can (which_done seen) fates point found may in
      let long = counted_so change start can seen in
      let lead = leads change start can (length seen) (which_done seen) fates point long (omega (arith, long, within)) (along change start can seen runs) in
      let commits = lead.commits found (may_at change point (turn_of change.plan (which_done seen) fates) found may) in
      subst (λ (d : Decided). IfCan (point_then start before) d.does) same.1 (subst (λ (ds : List Decided). IfCan (point_then start ds) found.does) same.0 commits)

  pub next_can : (n : ℕ) → n < last → IfCan (point_then start (first_decided change start n)) (next_at n).does
  next_can n within =
      run_can (first_decided change start (suc n)) (first_decided change start n) (next_at n)
      (decided_come forms change start (suc n) out.restores.runs out.restores.formed out.recorded (omega (arith, within))) refl

  back_can : (all before : List Decided) (next : Decided) (left : List Removal) → MayRestore change start all left → all ≡ before ++ next ∷ [] → last ≤ length before → IfCan (point_then start before) next.does
  back_can all before next left (ran_out seen run) is long = absurd (let e = ap length is in let f = length_push before next in let g = run.all in omega (arith, e, f, g, long))
  back_can all before next left (restores_on seen removal more found earlier may) is long =
      let same = same_from_push seen before found next is in
      let so_far = restored change start out.restores forms firsts seen (removal ∷ more) earlier in
      let it = returns change start out.restores (point_then start seen) removal more so_far.restoring so_far.stands.formed found may in
      subst (λ (d : Decided). IfCan (point_then start before) d.does) same.1 (subst (λ (ds : List Decided). IfCan (point_then start ds) found.does) same.0 it.commits)

  pub all_counted : (n : ℕ) → length (first_decided change start n) ≡ n
  all_counted n = sym (length-map (first_decided change start n) (λ (one : Decided). is_some one.does)) ∙ counted change start n

  -- where the put backs stand after some of them
  abbrev pub with_front : List Removal → List Decided
  with_front front = with_backs start (actions_decided change start) front

  pub next_back_can : (front : List Removal) (removal : Removal) (left : List Removal) → backs_left (point_then start (actions_decided change start)) ≡ front ++ removal ∷ left
      → IfCan (point_then start (with_front front)) (back_of (point_then start (with_front front)) removal).does
  next_back_can front removal left split =
      let may = put_backs_come forms firsts change start (front ++ removal ∷ []) left out.restores out.recorded out.kept (split ∙ sym (append_assoc front (removal ∷ []) left)) in
      let long = backs_length start (actions_decided change start) front in
      let many = all_counted last in
      back_can (with_front (front ++ removal ∷ [])) (with_front front) (back_of (point_then start (with_front front)) removal) left may (backs_push start (actions_decided change start) front removal)
      (omega (arith, long, many))
