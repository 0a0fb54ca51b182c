-- What follows for every plan.
use Rattle.std.proofs.Common.{◌≡◌, ℕ, suc, ◌<◌, ◌⊎◌, ◌||◌, not, inl, inr, true, false, List, [], ◌∷◌, length, get_or, map, sym, ap, refl, ◌∙◌, arith, subst}
use Rattle.std.specs.Prelude.{slice_get}
use Rattle.std.specs.List.{list_any}
use Rattle.std.specs.Option.{option_map}
use Rattle.std.specs.declared.option.Option.{Option}
use Rattle.std.specs.declared.option.Option.TheVariants.{None, Some}
use Rattle.std.proofs.lemmas.Bool.{true≢false}
use Rattle.std.proofs.lemmas.Option.{get_or_from_slice_get, slice_get-get_or, slice_get-map, slice_get_within}
use Rattle.opam_names.specs.ByteOrders.{has_key}
use Rattle.opam_names.proofs.ByteOrders.{same_bytes}
use Rattle.opam_package.specs.declared.package.Member.{Member}
use Rattle.opam_package.specs.declared.package.Target.{Target}
use Rattle.action_graph.specs.declared.plan.Plan.{Plan}
use Rattle.action_graph.specs.declared.plan.Step.{Step}
use Rattle.action_graph.specs.Leaving.{Comes, IsAffected, Leaves, OfName, has_name, is_touched, member_called, name_of, same_version}
use Rattle.action_graph.specs.Links.{needs_at}
use Rattle.action_graph.specs.Nodes.{first_place}
use Rattle.action_graph.specs.PlanLaws.{IsStepAt, OnePlan, PlansKeepOrder, SameIsDone}
use Rattle.action_graph.specs.Places.{ArePlacesBack, IsIn}
use Rattle.action_graph.specs.Plans.{IsPlan, step_of}
use Rattle.action_graph.specs.Reach.{started, stepped}
use Rattle.action_graph.proofs.Lookups.{any_has, first_passes, found_at, get_at, has_at}
use Rattle.action_graph.proofs.Membership.{none_in_nil}
use Rattle.action_graph.proofs.OrderLaws.{both_never, needs_first, one_is}
use Rattle.action_graph.proofs.Placing.{in_cons}

-- a step is made of the order
step_made : (members : List Member) (order : List ℕ) (i : ℕ) (step : Step) → slice_get (map (step_of members) order) i ≡ Some step
    → (p : ℕ) × (slice_get order i ≡ Some p) × (step ≡ step_of members p)
step_made members order i step is = by (slice_get order i) refl (sym (slice_get-map (step_of members) order i) ∙ is)
  where
    by : (o : Option ℕ) → slice_get order i ≡ o → option_map (step_of members) o ≡ Some step → (p : ℕ) × (o ≡ Some p) × (step ≡ step_of members p)
    by None at made = absurd cc
    by (Some p) at made = (p, refl, (let e : step_of members p ≡ step = cc in sym e))

pub keeps : PlansKeepOrder
keeps installed target plan is =
    let order = is.installs.0 in
    let first = needs_first (needs_at target.members) (Comes installed target) order is.installs.1.steps in
    let made : (i : ℕ) (step : Step) → IsStepAt plan i step → (p : ℕ) × (slice_get order i ≡ Some p) × (step ≡ step_of target.members p) =
    λ i step at. step_made target.members order i step (ap (λ l. slice_get l i) (sym is.installs.2) ∙ at) in
    let stands : (i p : ℕ) → slice_get order i ≡ Some p → get_or order i 0 ≡ p = λ i p at. get_or_from_slice_get order i p 0 at in
    record {
      falling = is.removals.falling;
      comes = λ i step at.
          (let h = made i step at in
          let C : ℕ → Type 0 = Comes installed target in
          subst C (stands i h.0 h.1 ∙ sym (ap (λ (s : Step). s.member) h.2)) (first.all_wanted i (slice_get_within order i h.0 h.1)));
      needs = λ i step at. (let h = made i step at in ap (λ (s : Step). s.needs) h.2 ∙ ap (needs_at target.members) (sym (ap (λ (s : Step). s.member) h.2)));
      once = λ i j one other less here there same.
          (let h = made i one here in
          let k = made j other there in
          first.once i j less (slice_get_within order j k.0 k.1)
          (stands i h.0 h.1 ∙ sym (ap (λ (s : Step). s.member) h.2) ∙ same ∙ ap (λ (s : Step). s.member) k.2 ∙ sym (stands j k.0 k.1)));
      before = λ i step at need needed comes.
          (let h = made i step at in
          let N : List ℕ → Type 0 = λ l. IsIn l need in
          let below = slice_get_within order i h.0 h.1 in
          let found = first.before i below need (subst N (ap (λ (s : Step). s.needs) h.2 ∙ ap (needs_at target.members) (sym (stands i h.0 h.1))) needed) comes in
          let there : slice_get order found.0 ≡ Some need = slice_get-get_or order found.0 0 (omega (arith, found.1, below)) ∙ ap Some found.2 in (
            found.0,
            step_of target.members need,
            found.1,
            ap (λ l. slice_get l found.0) is.installs.2 ∙ slice_get-map (step_of target.members) order found.0 ∙ ap (option_map (step_of target.members)) there,
            refl,
          ));
    }

pub plans_keep_order : PlansKeepOrder
plans_keep_order = keeps

-- ---- one plan

abbrev Down : List ℕ → Type 0
Down [] = Unit {0}
Down (x ∷ xs) = ((y : ℕ) → IsIn xs y → y < x) × Down xs

down_of : (xs : List ℕ) → ((i j : ℕ) → i < j → j < length xs → get_or xs j 0 < get_or xs i 0) → Down xs
down_of [] falling = tt
down_of (x ∷ xs) falling =
    ((λ y is. (let P : ℕ → Type 0 = λ n. n < x in subst P is.2 (falling 0 (suc is.0) (omega arith) (omega (arith, is.1))))), down_of xs (λ i j less below. falling (suc i) (suc j) (omega (arith, less)) (omega (arith, below))))

down_same : (xs ys : List ℕ) → Down xs → Down ys → ((p : ℕ) → IsIn xs p → IsIn ys p) → ((p : ℕ) → IsIn ys p → IsIn xs p) → xs ≡ ys
down_same [] [] down under one other = refl
down_same [] (y ∷ ys) down under one other = absurd (none_in_nil y (other y (0, omega arith, refl)))
down_same (x ∷ xs) [] down under one other = absurd (none_in_nil x (one x (0, omega arith, refl)))
down_same (x ∷ xs) (y ∷ ys) down under one other =
    let same : x ≡ y = elim (in_cons y ys x (one x (0, omega arith, refl))) [
      | inl here ↦ sym here
      | inr later ↦ elim (in_cons x xs y (other y (0, omega arith, refl))) [
        | inl here ↦ here
        | inr there ↦ (let a = under.0 x later in let b = down.0 y there in absurd (omega (arith, a, b)))
      ]
    ] in
    let tails : xs ≡ ys = down_same xs ys down.1 under.1
    (λ p is. elim (in_cons y ys p (one p (suc is.0, omega (arith, is.1), is.2))) [
      | inl here ↦ (let a = down.0 p is in absurd (omega (arith, a, here, same)))
      | inr later ↦ later
    ])
    (λ p is. elim (in_cons x xs p (other p (suc is.0, omega (arith, is.1), is.2))) [
      | inl here ↦ (let a = under.0 p is in absurd (omega (arith, a, here, same)))
      | inr later ↦ later
    ]) in
    ap (λ n. n ∷ xs) same ∙ ap (λ l. y ∷ l) tails

back_one : (holds : ℕ → Type 0) (xs ys : List ℕ) → ArePlacesBack holds xs → ArePlacesBack holds ys → xs ≡ ys
back_one holds xs ys one other =
    down_same xs ys (down_of xs one.falling) (down_of ys other.falling) (λ p is. (other.those p).1 ((one.those p).0 is)) (λ p is. (one.those p).1 ((other.those p).0 is))

same_plan : (plan other : Plan) → plan.removals ≡ other.removals → plan.installs ≡ other.installs → plan.missing ≡ other.missing → plan ≡ other
same_plan plan other removals installs missing = λ i. record { removals = removals i; installs = installs i; missing = missing i }

the_plan : (installed : List Member) (target : Target) (plan other : Plan) → IsPlan installed target plan → IsPlan installed target other → plan ≡ other
the_plan installed target plan other one second =
    same_plan plan other
    (back_one (Leaves installed target) plan.removals other.removals one.removals second.removals)
    (one.installs.2 ∙ ap (map (step_of target.members)) (one_is (needs_at target.members) (Comes installed target) one.installs.0 second.installs.0 one.installs.1 second.installs.1) ∙ sym second.installs.2)
    (one.missing ∙ sym second.missing)

pub one_plan : OnePlan
one_plan = record {
  one = the_plan;
  never_both = λ installed target plan names is cycle. both_never (needs_at target.members) (Comes installed target) is.installs.0 cycle.0 is.installs.1 cycle.1;
}

-- ---- nothing to do

pub not_called : (installed : List Member) (name : List ℕ) → has_name installed name ≡ false → member_called installed name ≡ None
not_called installed name off = found_at (has_key name_of name) installed ∙ by (first_place (has_key name_of name) installed) refl
  where
    by : (place : Option ℕ) → first_place (has_key name_of name) installed ≡ place → get_at installed place ≡ None
    by None is = refl
    by (Some i) is =
        let found = first_passes (has_key name_of name) installed i is in
        absurd (true≢false (sym (has_at (has_key name_of name) installed i found.0 found.1 found.2) ∙ off))

module _ (installed : List Member) (target : Target) (same : (name : List ℕ) → same_version (member_called installed name) (member_called target.members name) ≡ true) (none : target.redo ≡ []) where
  not_touched : (name : List ℕ) → is_touched installed target.members target.redo name ≡ false
  not_touched name = ap (λ b. not b || list_any (has_key (λ one. one) name) target.redo) (same name) ∙ ap (list_any (has_key (λ one. one) name)) none

  not_affected : (name : List ℕ) → IsAffected installed target name → ⊥
  not_affected name (started to is) = true≢false (sym is ∙ not_touched to)
  not_affected name (stepped from to before is) = not_affected from before

  no_leaver : (o : Option Member) → OfName (IsAffected installed target) o → ⊥
  no_leaver None held = held
  no_leaver (Some d) held = not_affected (name_of d) held

  is_called : (members : List Member) (at : ℕ) (d : Member) → slice_get members at ≡ Some d → (o : Member) × (member_called members (name_of d) ≡ Some o)
  is_called members at d is =
      let place = any_has (has_key name_of (name_of d)) members (has_at (has_key name_of (name_of d)) members at d is (same_bytes (name_of d))) in
      let found = first_passes (has_key name_of (name_of d)) members place.0 place.1 in
      (found.0, found_at (has_key name_of (name_of d)) members ∙ ap (get_at members) place.1 ∙ found.1)

  no_comer : (at : ℕ) (o : Option Member) → slice_get target.members at ≡ o → OfName (λ name. IsAffected installed target name ⊎ (has_name installed name ≡ false)) o → ⊥
  no_comer at None is held = held
  no_comer at (Some d) is held = elim held [
    | inl affected ↦ not_affected (name_of d) affected
    | inr off ↦
        (let there = is_called target.members at d is in
        true≢false (sym (same (name_of d)) ∙ ap (λ o. same_version o (member_called target.members (name_of d))) (not_called installed (name_of d) off) ∙ ap (same_version None) there.1))
  ]

  no_places : (holds : ℕ → Type 0) (xs : List ℕ) → ((p : ℕ) → IsIn xs p → holds p) → ((p : ℕ) → holds p → ⊥) → xs ≡ []
  no_places holds [] those never = refl
  no_places holds (x ∷ xs) those never = absurd (never x (those x (0, omega arith, refl)))

  done : (plan : Plan) → IsPlan installed target plan → (plan.removals ≡ []) × (plan.installs ≡ [])
  done plan is =
      let order = is.installs.0 in
      let first = needs_first (needs_at target.members) (Comes installed target) order is.installs.1.steps in
      let empty : order ≡ [] = no_places (Comes installed target) order
      (λ p in_it. (let C : ℕ → Type 0 = Comes installed target in subst C in_it.2 (first.all_wanted in_it.0 in_it.1)))
      (λ p comes. no_comer p (slice_get target.members p) refl comes) in
      (no_places (Leaves installed target) plan.removals (λ p. (is.removals.those p).0) (λ p leaves. no_leaver (slice_get installed p) leaves), is.installs.2 ∙ ap (map (step_of target.members)) empty)

pub same_is_done : SameIsDone
same_is_done installed target plan same none is = done installed target same none plan is
