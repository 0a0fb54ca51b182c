-- The plan of a change is fit.
use Rattle.std.proofs.Common.{◌≡◌, ◌≢◌, ℕ, ◌<◌, ◌⊎◌, ◌&&◌, ◌||◌, not, inl, inr, Bool, true, false, List, length, sym, ap, refl, ◌∙◌, subst}
use Rattle.std.specs.Prelude.{slice_get}
use Rattle.std.specs.List.{list_any}
use Rattle.std.specs.Option.{option_map}
use Rattle.std.specs.declared.option.Option.{Option}
use Rattle.std.specs.declared.option.Option.TheVariants.{None, Some}
use Rattle.std.proofs.lemmas.Bool.{cases_Bool, true≢false}
use Rattle.std.proofs.lemmas.Option.{slice_get-get_or, slice_get-map, slice_get_within}
use Rattle.opam_names.specs.ByteOrders.{has_key}
use Rattle.opam_names.proofs.ByteOrders.{equal_bytes, same_bytes}
use Rattle.opam_package.specs.declared.package.Member.{Member}
use Rattle.opam_package.specs.declared.package.Target.{Target}
use Rattle.action_graph.specs.declared.plan.Plan.{Plan}
use Rattle.action_graph.specs.declared.plan.Step.{Step}
use Rattle.action_graph.specs.Fitness.{AreAtOne, IsFit, IsInstalledName, IsRemovedName, PlansAreFit, Stays}
use Rattle.action_graph.specs.Leaving.{Comes, IsAffected, Leaves, OfName, has_edge, has_name, is_touched, member_called, name_of, same_version}
use Rattle.action_graph.specs.Links.{needs_at}
use Rattle.action_graph.specs.PlanLaws.{IsStepAt}
use Rattle.action_graph.specs.Places.{IsIn}
use Rattle.action_graph.specs.Plans.{IsPlan, step_of}
use Rattle.action_graph.specs.Reach.{started, stepped}
use Rattle.action_graph.proofs.Leading.{called_at, called_place}
use Rattle.action_graph.proofs.Lookups.{any_has, first_passes, has_at, rises_differ}
use Rattle.action_graph.proofs.Membership.{in_or_not}
use Rattle.action_graph.proofs.OrderLaws.{needs_first}
use Rattle.action_graph.proofs.PlanLaws.{keeps, not_called}

-- both are the same version, where there are both
version_is : (d : Member) (o : Option Member) → same_version (Some d) o ≡ true → (m : Member) × (o ≡ Some m) × (d.package.pkg.version ≡ m.package.pkg.version)
version_is d None on = absurd (true≢false (sym on))
version_is d (Some m) on = (m, refl, equal_bytes d.package.pkg.version m.package.pkg.version on)

not_true : (a b : Bool) → (not a || b) ≡ false → a ≡ true
not_true true b off = refl
not_true false b off = absurd (true≢false off)

module _ (installed : List Member) (target : Target) (plan : Plan) (asked : AreAtOne installed target) (is : IsPlan installed target plan) where
  abbrev order : List ℕ
  order = is.installs.0

  -- a name of a member that is not installed is touched
  new_affected : (place : ℕ) (m : Member) → slice_get target.members place ≡ Some m → has_name installed (name_of m) ≡ false → IsAffected installed target (name_of m)
  new_affected place m there off =
      started (name_of m)
      (ap (λ o. not (same_version o (member_called target.members (name_of m))) || list_any (has_key (λ one. one) (name_of m)) target.redo) (not_called installed (name_of m) off)
      ∙ ap (λ o. not (same_version None o) || list_any (has_key (λ one. one) (name_of m)) target.redo) (called_at target.members place m (rises_differ name_of target.members asked.rises) there))

  leaves_name : (at : ℕ) (e : Member) → slice_get installed at ≡ Some e → Leaves installed target at → IsAffected installed target (name_of e)
  leaves_name at e there leaves = let P : Option Member → Type 0 = OfName (IsAffected installed target) in subst P there leaves

  name_leaves : (at : ℕ) (e : Member) → slice_get installed at ≡ Some e → IsAffected installed target (name_of e) → Leaves installed target at
  name_leaves at e there affected = let P : Option Member → Type 0 = OfName (IsAffected installed target) in subst P (sym there) affected

  stays_off : (at : ℕ) (e : Member) → Stays installed plan at e → IsAffected installed target (name_of e) → ⊥
  stays_off at e stays affected = stays.1 ((is.removals.those at).1 (name_leaves at e stays.0 affected))

  comes_name : (place : ℕ) (m : Member) → slice_get target.members place ≡ Some m → Comes installed target place → IsAffected installed target (name_of m)
  comes_name place m there comes =
      let P : Option Member → Type 0 = OfName (λ name. IsAffected installed target name ⊎ (has_name installed name ≡ false)) in
      elim (subst P there comes) [ inl affected ↦ affected | inr off ↦ new_affected place m there off ]

  name_comes : (place : ℕ) (m : Member) → slice_get target.members place ≡ Some m → IsAffected installed target (name_of m) ⊎ (has_name installed (name_of m) ≡ false) → Comes installed target place
  name_comes place m there held =
      let P : Option Member → Type 0 = OfName (λ name. IsAffected installed target name ⊎ (has_name installed name ≡ false)) in subst P (sym there) held

  moved : (name : List ℕ) → IsRemovedName installed plan name ⊎ IsInstalledName target plan name → IsAffected installed target name
  moved name held =
      let A : List ℕ → Type 0 = IsAffected installed target in
      elim held [
        | inl gone ↦ subst A gone.4 (leaves_name gone.0 gone.1 gone.2 ((is.removals.those gone.0).0 gone.3))
        | inr new ↦ subst A new.5 (comes_name new.1.member new.2 new.4 ((keeps installed target plan is).comes new.0 new.1 new.3))
      ]

  fit_stays : (at : ℕ) (e : Member) → Stays installed plan at e → (place : ℕ) × (slice_get target.members place ≡ Some e)
  fit_stays at e stays = by (cases_Bool (is_touched installed target.members target.redo (name_of e)))
    where
      by : (is_touched installed target.members target.redo (name_of e) ≡ true) ⊎ (is_touched installed target.members target.redo (name_of e) ≡ false) → (place : ℕ) × (slice_get target.members place ≡ Some e)
      by (inl on) = absurd (stays_off at e stays (started (name_of e) on))
      by (inr off) =
          let same = not_true (same_version (member_called installed (name_of e)) (member_called target.members (name_of e))) (list_any (has_key (λ one. one) (name_of e)) target.redo) off in
          let version = version_is e (member_called target.members (name_of e))
          (ap (λ o. same_version o (member_called target.members (name_of e))) (sym (called_at installed at e asked.differ stays.0)) ∙ same) in
          let place = called_place target.members (name_of e) version.0 version.1 in
          let one : e ≡ version.0 = asked.same at place.0 e version.0 stays.0 place.1 (sym place.2) version.2 in
          (place.0, place.1 ∙ ap Some (sym one))

  fit_apart : (at : ℕ) (e : Member) (name : List ℕ) → Stays installed plan at e → IsRemovedName installed plan name ⊎ IsInstalledName target plan name
      → (has_edge installed (name_of e) name || has_edge target.members (name_of e) name) ≡ false
  fit_apart at e name stays held = by (cases_Bool (has_edge installed (name_of e) name || has_edge target.members (name_of e) name))
    where
      by : ((has_edge installed (name_of e) name || has_edge target.members (name_of e) name) ≡ true) ⊎ ((has_edge installed (name_of e) name || has_edge target.members (name_of e) name) ≡ false)
          → (has_edge installed (name_of e) name || has_edge target.members (name_of e) name) ≡ false
      by (inr off) = off
      by (inl on) =
          absurd (stays_off at e stays (stepped name (name_of e) (moved name held)
          (ap (λ b. b && (has_edge installed (name_of e) name || has_edge target.members (name_of e) name)) (has_at (has_key name_of (name_of e)) installed at e stays.0 (same_bytes (name_of e))) ∙ on)))

  -- a member that does not come has an entry that stays
  not_coming : (place : ℕ) (m : Member) → slice_get target.members place ≡ Some m → (Comes installed target place → ⊥)
      → (at : ℕ) × (e : Member) × Stays installed plan at e × (name_of e ≡ name_of m)
  not_coming place m there never = by (cases_Bool (has_name installed (name_of m)))
    where
      by : (has_name installed (name_of m) ≡ true) ⊎ (has_name installed (name_of m) ≡ false) → (at : ℕ) × (e : Member) × Stays installed plan at e × (name_of e ≡ name_of m)
      by (inr off) = absurd (never (name_comes place m there (inr off)))
      by (inl on) =
          let at = any_has (has_key name_of (name_of m)) installed on in
          let e = first_passes (has_key name_of (name_of m)) installed at.0 at.1 in
          let named : name_of e.0 ≡ name_of m = equal_bytes (name_of e.0) (name_of m) e.2 in
          let A : List ℕ → Type 0 = IsAffected installed target in (
            at.0,
            e.0,
            (e.1, λ gone. never (name_comes place m there (inl (subst A named (leaves_name at.0 e.0 e.1 ((is.removals.those at.0).0 gone)))))),
            named,
          )

  -- an order has the members that come
  step_for : (place : ℕ) → IsIn order place → (i : ℕ) × (step : Step) × IsStepAt plan i step × (step.member ≡ place)
  step_for place in_it = (
    in_it.0,
    step_of target.members place,
    ap (λ l. slice_get l in_it.0) is.installs.2 ∙ slice_get-map (step_of target.members) order in_it.0
        ∙ ap (option_map (step_of target.members)) (slice_get-get_or order in_it.0 0 in_it.1 ∙ ap Some in_it.2),
    refl,
  )

  fit_others : (place : ℕ) (m : Member) → slice_get target.members place ≡ Some m
      → ((at : ℕ) × (e : Member) × Stays installed plan at e × (name_of e ≡ name_of m)) ⊎ ((i : ℕ) × (step : Step) × IsStepAt plan i step × (step.member ≡ place))
  fit_others place m there = elim (in_or_not order place) [
    | inl in_it ↦ inr (step_for place in_it)
    | inr out ↦ inl (not_coming place m there (λ comes. out (is.installs.1.whole place comes)))
  ]

  fit_met : (i : ℕ) (step : Step) (need : ℕ) (m : Member) → IsStepAt plan i step → IsIn step.needs need → slice_get target.members need ≡ Some m
      → ((at : ℕ) × (e : Member) × Stays installed plan at e × (name_of e ≡ name_of m)) ⊎ ((j : ℕ) × (other : Step) × (j < i) × IsStepAt plan j other × (other.member ≡ need))
  fit_met i step need m at needed there = elim (in_or_not order need) [
    | inl in_it ↦
        (let first = needs_first (needs_at target.members) (Comes installed target) order is.installs.1.steps in
        let C : ℕ → Type 0 = Comes installed target in
        inr ((keeps installed target plan is).before i step at need needed (subst C in_it.2 (first.all_wanted in_it.0 in_it.1))))
    | inr out ↦ inl (not_coming need m there (λ comes. out (is.installs.1.whole need comes)))
  ]

  fit_comes : (i : ℕ) (step : Step) (m : Member) → IsStepAt plan i step → slice_get target.members step.member ≡ Some m → (at : ℕ) (e : Member) → Stays installed plan at e → name_of e ≢ name_of m
  fit_comes i step m here there at e stays same =
      let A : List ℕ → Type 0 = IsAffected installed target in
      stays_off at e stays (subst A (sym same) (comes_name step.member m there ((keeps installed target plan is).comes i step here)))

  leaves_within : (at : ℕ) (o : Option Member) → slice_get installed at ≡ o → OfName (IsAffected installed target) o → at < length installed
  leaves_within at None there held = absurd held
  leaves_within at (Some e) there held = slice_get_within installed at e there

  fit : IsFit installed target plan
  fit = record {
    within = λ at gone. leaves_within at (slice_get installed at) refl ((is.removals.those at).0 gone);
    falling = is.removals.falling;
    stays = fit_stays;
    apart = fit_apart;
    comes = fit_comes;
    others = fit_others;
    once = (keeps installed target plan is).once;
    needs = (keeps installed target plan is).needs;
    met = fit_met;
  }

pub plans_are_fit : PlansAreFit
plans_are_fit installed target plan asked is = fit installed target plan asked is
