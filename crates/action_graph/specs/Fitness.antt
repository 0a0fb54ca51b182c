-- A fit plan: it suits what is installed and the target, however it was made.
use Rattle.std.specs.Prelude.{◌≡◌, ◌≢◌, ◌⊎◌, ℕ, ◌<◌, ◌||◌, false, List, length, map, slice_get, slice_index, bytes_eq}
use Rattle.std.specs.List.{IsDistinct}
use Rattle.std.specs.declared.option.Option.TheVariants.{Some}
use Rattle.opam_names.specs.ByteOrders.{RisesBy}
use Rattle.opam_package.specs.declared.package.Member.{Member}
use Rattle.opam_package.specs.declared.package.Target.{Target}
use Rattle.action_graph.specs.declared.plan.Plan.{Plan}
use Rattle.action_graph.specs.declared.plan.Step.{Step}
use Rattle.action_graph.specs.Leaving.{has_edge, name_of}
use Rattle.action_graph.specs.Links.{needs_at}
use Rattle.action_graph.specs.PlanLaws.{IsStepAt}
use Rattle.action_graph.specs.Places.{IsIn}
use Rattle.action_graph.specs.Plans.{IsPlan}

-- the entry at a place stays: it is not removed
abbrev pub Stays : List Member → Plan → ℕ → Member → Type 0
Stays installed plan at entry = (slice_get installed at ≡ Some entry) × (¬ IsIn plan.removals at)

-- the name is that of an entry that is removed
abbrev pub IsRemovedName : List Member → Plan → List ℕ → Type 0
IsRemovedName installed plan name = (at : ℕ) × (entry : Member) × (slice_get installed at ≡ Some entry) × IsIn plan.removals at × (name_of entry ≡ name)

-- the name is that of a member that is installed
abbrev pub IsInstalledName : Target → Plan → List ℕ → Type 0
IsInstalledName target plan name = (i : ℕ) × (step : Step) × (member : Member) × IsStepAt plan i step × (slice_get target.members step.member ≡ Some member) × (name_of member ≡ name)

-- removals are entries, each once, the last installed first, and each other one is a member with the same version and text and has no
-- edge, in the switch or in the target, to a name that leaves or comes; installs are the members that do not stay, each once, with their
-- needs in the target, each of which stays or stands before it
pub record IsFit (installed : List Member) (target : Target) (plan : Plan) : Type 0 where
  pub within : (at : ℕ) → IsIn plan.removals at → at < length installed
  pub falling : (i j : ℕ) → i < j → j < length plan.removals → slice_index plan.removals j < slice_index plan.removals i
  pub stays : (at : ℕ) (entry : Member) → Stays installed plan at entry → (place : ℕ) × (slice_get target.members place ≡ Some entry)
  pub apart : (at : ℕ) (entry : Member) (name : List ℕ) → Stays installed plan at entry → IsRemovedName installed plan name ⊎ IsInstalledName target plan name
      → (has_edge installed (name_of entry) name || has_edge target.members (name_of entry) name) ≡ false
  pub comes : (i : ℕ) (step : Step) (member : Member) → IsStepAt plan i step → slice_get target.members step.member ≡ Some member
      → (at : ℕ) (entry : Member) → Stays installed plan at entry → name_of entry ≢ name_of member
  pub others : (place : ℕ) (member : Member) → slice_get target.members place ≡ Some member
      → ((at : ℕ) × (entry : Member) × Stays installed plan at entry × (name_of entry ≡ name_of member)) ⊎ ((i : ℕ) × (step : Step) × IsStepAt plan i step × (step.member ≡ place))
  pub once : (i j : ℕ) (one other : Step) → i < j → IsStepAt plan i one → IsStepAt plan j other → one.member ≢ other.member
  pub needs : (i : ℕ) (step : Step) → IsStepAt plan i step → step.needs ≡ needs_at target.members step.member
  pub met : (i : ℕ) (step : Step) (need : ℕ) (member : Member) → IsStepAt plan i step → IsIn step.needs need → slice_get target.members need ≡ Some member
      → ((at : ℕ) × (entry : Member) × Stays installed plan at entry × (name_of entry ≡ name_of member))
      ⊎ ((j : ℕ) × (other : Step) × (j < i) × IsStepAt plan j other × (other.member ≡ need))

-- what is asked of a switch and a target: names of entries differ, those of members rise, and an entry and a member of one name and version
-- are the same
pub record AreAtOne (installed : List Member) (target : Target) : Type 0 where
  pub differ : IsDistinct bytes_eq (map name_of installed)
  pub rises : RisesBy name_of target.members
  pub same : (at place : ℕ) (entry member : Member) → slice_get installed at ≡ Some entry → slice_get target.members place ≡ Some member → name_of entry ≡ name_of member
      → entry.package.pkg.version ≡ member.package.pkg.version → entry ≡ member

-- the plan of a change is fit
abbrev pub PlansAreFit : Type 0
PlansAreFit = (installed : List Member) (target : Target) (plan : Plan) → AreAtOne installed target → IsPlan installed target plan → IsFit installed target plan
