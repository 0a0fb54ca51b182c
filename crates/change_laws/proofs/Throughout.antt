-- What holds before each of some actions, and after the last.
use Rattle.std.proofs.Common.{ℕ, zero, suc, List, [], ◌∷◌, ◌++◌, take, Some, None, Option, refl, sym, subst}
use Rattle.std.specs.List.{cons_option}
use Rattle.std.proofs.lemmas.List.{append-nil}
use Rattle.switch_state.specs.Actions.{Action}
use Rattle.change_outcome.specs.Changes.{Point, point_after, point_after_all}
use Rattle.change_outcome.specs.Steps.{Decided, done_in, point_then}
use Rattle.change_outcome.proofs.Making.{filter_push}

module _ (P : Point → Type 0) where
  abbrev pub Throughout : Point → List Action → Type 0
  Throughout point [] = P point
  Throughout point (action ∷ actions) = P point × Throughout (point_after point action) actions

  pub through_last : (point : Point) (actions : List Action) → Throughout point actions → P (point_after_all point actions)
  through_last point [] all = all
  through_last point (action ∷ actions) all = through_last (point_after point action) actions all.1

  pub through_take : (point : Point) (actions : List Action) (count : ℕ) → Throughout point actions → P (point_after_all point (take count actions))
  through_take point [] zero all = all
  through_take point [] (suc count) all = all
  through_take point (action ∷ actions) zero all = all.0
  through_take point (action ∷ actions) (suc count) all = through_take (point_after point action) actions count all.1

  through_push : (point : Point) (actions : List Action) (action : Action) → Throughout point actions → P (point_after_all point (actions ++ action ∷ [])) → Throughout point (actions ++ action ∷ [])
  through_push point [] action all here = (all, here)
  through_push point (first ∷ actions) action all here = (all.0, through_push (point_after point first) actions action all.1 here)

  -- one decision more
  pub through_next : (start : Point) (before : List Decided) (next : Decided) → Throughout start (done_in before) → P (point_then start (before ++ next ∷ [])) → Throughout start (done_in (before ++ next ∷ []))
  through_next start before next all here =
      let done = filter_push (λ (one : Decided). one.does) before next next.does refl in
      subst (Throughout start) (sym done) (by next.does (subst (λ actions. P (point_after_all start actions)) done here))
    where
      by : (does : Option Action) → P (point_after_all start (done_in before ++ cons_option does [])) → Throughout start (done_in before ++ cons_option does [])
      by None here = subst (Throughout start) (sym (append-nil (done_in before))) all
      by (Some action) here = through_push start (done_in before) action all here
