-- Which plans suit the switch that they change, so that it stays sound. This project's own.
use Rattle.std.specs.Prelude.{◌≡◌, ◌⊎◌, ℕ, [], ◌++◌, Bool, false, nat_eq, nat_lt, not, ◌||◌, slice_get, Contains, IfSome, IsFalse, IsTrue}
use Rattle.std.specs.List.{All, list_all, list_any}
use Rattle.std.specs.declared.option.Option.{Option}
use Rattle.std.specs.declared.option.Option.TheVariants.{None, Some}
use Rattle.opam_package.specs.declared.package.Member.{Member}
use Rattle.opam_package.specs.declared.package.Target.{Target}
use Rattle.action_graph.specs.Fitness.{AreAtOne, IsFit}
use Rattle.action_graph.specs.Links.{needs_at}
use Rattle.action_graph.specs.PlanLaws.{IsStepAt}
use Rattle.action_graph.specs.declared.plan.Step.{Step}
use Rattle.change_floor.specs.Floors.{install_place}
use Rattle.switch_journal.specs.Applying.{puts_back}
use Rattle.switch_state.specs.Ends.{is_entry_name}
use Rattle.switch_state.specs.Sound as sound
use Rattle.switch_state.specs.Sound.{AreInOrder, NamesDiffer, has_edge, installs_of, member_pkg, member_pkgs, name_of}
use Rattle.switch_state.specs.State.{Request, SwitchState}
use Rattle.change_outcome.specs.Changes.{Change, Point, things_done}
use Rattle.change_outcome.specs.PossibleLaws.{CanBeRecorded, CanRestore, IsKeptFor}
use Rattle.change_outcome.specs.Running.{coming, staying}

-- A change that can be carried out: it may be run and may put packages back, what it is made of can be recorded, and what was removed before can come
-- back as it was kept.
pub record CanBeCarriedOut (change : Change) (start : Point) : Type 0 where
  pub restores : CanRestore change start
  pub recorded : CanBeRecorded change
  pub kept : All (IsKeptFor (things_done start.state.request)) start.removals

-- an entry that stays is a member of the target, with the same version and text, or the request has put it back
abbrev pub MayStay : Change → Request → Member → Type 0
MayStay change request entry = Contains change.members entry ⊎ IsTrue (list_any (puts_back (member_pkg entry)) request.done)

-- an entry that stays has the name of the member
abbrev pub has_stayed : Change → Option Member → Bool
has_stayed change None = false
has_stayed change (Some member) = is_entry_name (staying change) (name_of member)

-- a need of the install at a place stays, stands before it or is missing
abbrev pub is_need_met : Change → ℕ → ℕ → Bool
is_need_met change place need =
    has_stayed change (slice_get change.members need) || nat_lt (install_place change.plan.installs need) place || list_any (nat_eq need) change.plan.missing

-- the installs of the plan stand in the order of all that the request installs, which its target alone gives, after those that it has done
abbrev pub StandInOrder : Change → SwitchState → Request → Type 0
StandInOrder change state request = AreInOrder (sound.coming state request) (installs_of request.done ++ member_pkgs (coming change))

-- The plan fits: each name stands once in the target; each entry that stays is in it, and has no edge to what comes; each install has its needs in
-- the target, each of which stays, stands before it or is missing; no install is missing; and the installs stand in order.
pub record IsFitFor (change : Change) (state : SwitchState) (request : Request) : Type 0 where
  pub names : NamesDiffer change.members
  pub stays : All (MayStay change request) (staying change)
  pub apart : IsTrue (list_all (λ entry. not (has_edge entry (member_pkgs (coming change)))) (staying change))
  pub needs : (place : ℕ) (step : Step) → IsStepAt change.plan place step → step.needs ≡ needs_at change.members step.member
  pub met : (place : ℕ) (step : Step) → IsStepAt change.plan place step → IsTrue (list_all (is_need_met change place) step.needs)
  pub present : IsFalse (list_any (λ (step : Step). list_any (nat_eq step.member) change.plan.missing) change.plan.installs)
  pub order : StandInOrder change state request

-- it fits the open request of the switch
abbrev pub IsFitAt : Change → Point → Type 0
IsFitAt change start = IfSome start.state.request (IsFitFor change start.state)

-- a plan that is fit for a switch and a target, as plans of changes are, fits each request for that target, where its installs stand in order
abbrev pub FitPlansFit : Type 0
FitPlansFit = (change : Change) (target : Target) (state : SwitchState) (request : Request) → AreAtOne change.entries target → IsFit change.entries target change.plan → change.members ≡ target.members → change.plan.missing ≡ []
    → StandInOrder change state request → IsFitFor change state request
