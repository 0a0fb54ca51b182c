-- Laws of plans.
use Rattle.std.specs.Prelude.{◌≡◌, ◌≢◌, ℕ, ◌<◌, true, List, [], length, slice_get, slice_index}
use Rattle.std.specs.declared.option.Option.TheVariants.{Some}
use Rattle.opam_package.specs.declared.package.Member.{Member}
use Rattle.opam_package.specs.declared.package.Target.{Target}
use Rattle.action_graph.specs.declared.plan.Plan.{Plan}
use Rattle.action_graph.specs.declared.plan.PlanFault.TheVariants.{Cycle}
use Rattle.action_graph.specs.declared.plan.Step.{Step}
use Rattle.action_graph.specs.Leaving.{Comes, member_called, same_version}
use Rattle.action_graph.specs.Links.{needs_at}
use Rattle.action_graph.specs.Places.{IsIn}
use Rattle.action_graph.specs.Plans.{IsCycleOf, IsPlan}

-- the step stands at this place among the installs
abbrev pub IsStepAt : Plan → ℕ → Step → Type 0
IsStepAt plan at step = slice_get plan.installs at ≡ Some step

-- entries leave the last installed first; each install is of a member that comes, stands once, has its needs in the target, and
-- those of them that come stand before it
pub record KeepsOrder (installed : List Member) (target : Target) (plan : Plan) : Type 0 where
  pub falling : (i j : ℕ) → i < j → j < length plan.removals → slice_index plan.removals j < slice_index plan.removals i
  pub comes : (i : ℕ) (step : Step) → IsStepAt plan i step → Comes installed target step.member
  pub needs : (i : ℕ) (step : Step) → IsStepAt plan i step → step.needs ≡ needs_at target.members step.member
  pub once : (i j : ℕ) (one other : Step) → i < j → IsStepAt plan i one → IsStepAt plan j other → one.member ≢ other.member
  pub before : (i : ℕ) (step : Step) → IsStepAt plan i step → (need : ℕ) → IsIn step.needs need → Comes installed target need
      → (j : ℕ) × (other : Step) × (j < i) × IsStepAt plan j other × (other.member ≡ need)

-- every plan is so
abbrev pub PlansKeepOrder : Type 0
PlansKeepOrder = (installed : List Member) (target : Target) (plan : Plan) → IsPlan installed target plan → KeepsOrder installed target plan

-- there is one plan at most, and none where its order stops
pub record OnePlan : Type 0 where
  pub one : (installed : List Member) (target : Target) (plan other : Plan) → IsPlan installed target plan → IsPlan installed target other → plan ≡ other
  pub never_both : (installed : List Member) (target : Target) (plan : Plan) (names : List (List ℕ)) → IsPlan installed target plan
      → ¬ IsCycleOf installed target (Cycle names)

-- where each name has the same version in both, and nothing is built once more, nothing is done
abbrev pub SameIsDone : Type 0
SameIsDone = (installed : List Member) (target : Target) (plan : Plan)
    → ((name : List ℕ) → same_version (member_called installed name) (member_called target.members name) ≡ true) → target.redo ≡ []
    → IsPlan installed target plan → (plan.removals ≡ []) × (plan.installs ≡ [])
