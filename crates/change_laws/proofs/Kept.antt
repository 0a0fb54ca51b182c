-- What each committed action keeps holds throughout a change.
use Rattle.std.proofs.Common.{◌≡◌, ◌∙◌, ℕ, zero, suc, ◌+◌, ◌≤◌, List, [], ◌∷◌, ◌++◌, length, Option, Some, None, refl, sym, subst, arith, append_assoc}
use Rattle.std.proofs.lemmas.List.{append-nil}
use Rattle.switch_state.specs.Actions.{Action, CanBeSpelled, CanFollow}
use Rattle.switch_state.specs.FormedLaws.{ActionsKeepForm}
use Rattle.switch_state.specs.Underway.{ActionsRemoveFirst}
use Rattle.switch_state.specs.WellFormed.{IsWellFormed}
use Rattle.change_outcome.specs.Changes.{Change, Point, Removal, point_after}
use Rattle.change_outcome.specs.Outcomes.{actions_decided, all_decided, cut, first_decided}
use Rattle.change_outcome.specs.PutBacks.{backs_left, with_backs}
use Rattle.change_outcome.specs.Steps.{Decided, back_of, done_in, point_then}
use Rattle.change_outcome.proofs.Following.{step_point, then_next}
use Rattle.change_outcome.proofs.Possible.{IfCan}
use Rattle.change_laws.specs.Fits.{CanBeCarriedOut}
use Rattle.change_laws.specs.SoundRuns.{NoFileHasTwoOwners}
use Rattle.change_laws.proofs.Allowed.{backs_push, next_at, next_back_can, next_can}
use Rattle.change_laws.proofs.Owners.{formed_owns}
use Rattle.change_laws.proofs.Throughout.{Throughout, through_last, through_next, through_take}

module _ (change : Change) (start : Point) (out : CanBeCarriedOut change start) (forms : ActionsKeepForm) (firsts : ActionsRemoveFirst)
    (P : Point → Type 0) (keeps : (point : Point) (action : Action) → CanFollow point.number action point.state → CanBeSpelled action → P point → P (point_after point action)) (begins : P start) where
  kept_step : (point : Point) (does : Option Action) → IfCan point does → P point → P (step_point point does)
  kept_step point None can here = here
  kept_step point (Some action) can here = keeps point action can.0 can.1 here

  kept_next : (before : List Decided) (next : Decided) → Throughout P start (done_in before) → IfCan (point_then start before) next.does → Throughout P start (done_in (before ++ next ∷ []))
  kept_next before next all may =
      through_next P start before next all (subst P (sym (then_next start before next)) (kept_step (point_then start before) next.does may (through_last P start (done_in before) all)))

  kept_first : (n : ℕ) → n ≤ length change.plan.removals + length change.plan.installs → Throughout P start (done_in (first_decided change start n))
  kept_first zero within = begins
  kept_first (suc n) within =
      kept_next (first_decided change start n) (next_at change start out forms firsts n) (kept_first n (omega (arith, within))) (next_can change start out forms firsts n (omega (arith, within)))

  kept_backs : (front left : List Removal) → backs_left (point_then start (actions_decided change start)) ≡ front ++ left → Throughout P start (done_in (with_backs start (actions_decided change start) front))
      → Throughout P start (done_in (with_backs start (actions_decided change start) (front ++ left)))
  kept_backs front [] split all = subst (λ rs. Throughout P start (done_in (with_backs start (actions_decided change start) rs))) (sym (append-nil front)) all
  kept_backs front (removal ∷ left) split all =
      let so_far : List Decided = with_backs start (actions_decided change start) front in
      let more = kept_next so_far (back_of (point_then start so_far) removal) all (next_back_can change start out forms firsts front removal left split) in
      subst (λ rs. Throughout P start (done_in (with_backs start (actions_decided change start) rs))) (append_assoc front (removal ∷ []) left)
      (kept_backs (front ++ removal ∷ []) left (split ∙ sym (append_assoc front (removal ∷ []) left))
      (subst (λ ds. Throughout P start (done_in ds)) (sym (backs_push start (actions_decided change start) front removal)) more))

  pub kept_throughout : Throughout P start (done_in (all_decided change start))
  kept_throughout = kept_backs [] (backs_left (point_then start (actions_decided change start))) refl (kept_first (length change.plan.removals + length change.plan.installs) (omega arith))

  pub kept_at_cut : (count : ℕ) → P (cut change start count)
  kept_at_cut count = through_take P start (done_in (all_decided change start)) count kept_throughout

pub none_twice : ActionsKeepForm → ActionsRemoveFirst → NoFileHasTwoOwners
none_twice forms firsts change start count out =
    formed_owns (cut change start count).state
    (kept_at_cut change start out forms firsts (λ (point : Point). IsWellFormed point.state) (λ point action follows spelled formed. forms point.number action point.state follows spelled formed) out.restores.formed count)
