-- What a change does: what it removes, and what it installs, with its needs. This project's own.
use Rattle.std.specs.Prelude.{◌≡◌, ℕ, Bool, true, false, List, [], map, slice_get}
use Rattle.std.specs.declared.option.Option.{Option}
use Rattle.std.specs.declared.option.Option.TheVariants.{None, Some}
use Rattle.opam_names.specs.ByteOrders.{has_key}
use Rattle.std.specs.List.{list_any}
use Rattle.opam_package.specs.declared.package.Member.{Member}
use Rattle.opam_package.specs.declared.package.Target.{Target}
use Rattle.action_graph.specs.declared.plan.Plan.{Plan}
use Rattle.action_graph.specs.declared.plan.Step.{Step}
use Rattle.action_graph.specs.declared.plan.PlanFault.{PlanFault}
use Rattle.action_graph.specs.declared.plan.PlanFault.TheVariants.{Cycle, Memory}
use Rattle.action_graph.specs.Leaving.{Comes, Leaves}
use Rattle.action_graph.specs.Links.{member_names, needs_at}
use Rattle.action_graph.specs.Order.{IsOrder, Stops}
use Rattle.action_graph.specs.Places.{ArePlacesBack, at_places}

-- an install with its needs in the target
abbrev pub step_of : List Member → ℕ → Step
step_of members place = record { member = place; needs = needs_at members place }

-- the installs of an order
abbrev pub AreSteps : List Member → (ℕ → Type 0) → List Step → Type 0
AreSteps members wanted steps = (order : List ℕ) × IsOrder (needs_at members) wanted order × (steps ≡ map (step_of members) order)

-- where it stops, the names of all that are left are told, in byte order
abbrev pub IsStopOf : List Member → (ℕ → Type 0) → PlanFault → Type 0
IsStopOf members wanted (Cycle names) = (left : List ℕ) × Stops (needs_at members) wanted left × (names ≡ at_places (member_names members) left)
IsStopOf members wanted Memory = Unit {0}

-- a member has one of these names
abbrev pub bears_name : List (List ℕ) → Option Member → Bool
bears_name names None = false
bears_name names (Some member) = list_any (has_key (λ name. name) member.package.pkg.name) names

-- the member at a place has one of these names
abbrev pub IsNamed : List (List ℕ) → List Member → ℕ → Type 0
IsNamed names members place = bears_name names (slice_get members place) ≡ true

-- the installs of the named members
abbrev pub AreNamedSteps : Target → List (List ℕ) → List Step → Type 0
AreNamedSteps target names steps = AreSteps target.members (IsNamed names target.members) steps

-- the named members stop an order
abbrev pub IsNamedStop : Target → List (List ℕ) → PlanFault → Type 0
IsNamedStop target names fault = IsStopOf target.members (IsNamed names target.members) fault

-- the entries that leave, the last installed first
abbrev pub AreRemovals : List Member → Target → List ℕ → Type 0
AreRemovals installed target removals = ArePlacesBack (Leaves installed target) removals

-- the installs of the members that come
abbrev pub AreInstalls : List Member → Target → List Step → Type 0
AreInstalls installed target installs = AreSteps target.members (Comes installed target) installs

-- the members that come stop an order
abbrev pub IsCycleOf : List Member → Target → PlanFault → Type 0
IsCycleOf installed target fault = IsStopOf target.members (Comes installed target) fault

-- the plan of a change; nothing is missing
pub record IsPlan (installed : List Member) (target : Target) (plan : Plan) : Type 0 where
  pub removals : AreRemovals installed target plan.removals
  pub installs : AreInstalls installed target plan.installs
  pub missing : plan.missing ≡ []
