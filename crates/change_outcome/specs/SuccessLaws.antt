-- Where no install fails, the whole request is installed. This project's own.
use Rattle.std.specs.Prelude.{◌≡◌, ℕ, ◌++◌, slice_get, Bool, nat_lt, ◌||◌, IsFalse, IsTrue}
use Rattle.std.specs.List.{list_all, list_any}
use Rattle.std.specs.declared.option.Option.TheVariants.{Some}
use Rattle.action_graph.specs.declared.plan.Plan.{Plan}
use Rattle.action_graph.specs.declared.plan.Step.{Step}
use Rattle.change_floor.specs.Floors.{install_place, is_there}
use Rattle.switch_state.specs.Ends.{is_entry_name}
use Rattle.switch_state.specs.Sound.{name_of}
use Rattle.change_outcome.specs.Changes.{Change, Point}
use Rattle.change_outcome.specs.Decisions.{is_failed, is_wanting}
use Rattle.change_outcome.specs.Outcomes.{actions_decided, all_decided, outcome_of}
use Rattle.change_outcome.specs.Running.{CanRun, coming, staying}
use Rattle.change_outcome.specs.Steps.{point_then, told_in}

-- a need is installed from the start, or is an install that stands before this place
abbrev pub is_met_before : Plan → ℕ → ℕ → Bool
is_met_before plan place need = is_there plan need || nat_lt (install_place plan.installs need) place

-- each need of an install is installed from the start, or is an install that stands before it
abbrev pub NeedsAreMet : Plan → Type 0
NeedsAreMet plan = (place : ℕ) (step : Step) → slice_get plan.installs place ≡ Some step
    → IsTrue (list_all (λ need. is_met_before plan place need) step.needs)

-- where no install fails, none is given up, and what is installed after the last of them are the entries that stay and then all that came, in order
pub record IsWhole (change : Change) (start : Point) : Type 0 where
  pub told : IsFalse (list_any is_wanting (told_in (actions_decided change start)))
  pub members : (point_then start (actions_decided change start)).state.members ≡ staying change ++ coming change

-- so it is with each change that may be run
abbrev pub SuccessIsWhole : Type 0
SuccessIsWhole = (change : Change) (start : Point) → CanRun change start → NeedsAreMet change.plan → IsFalse (list_any is_failed (told_in (actions_decided change start))) → IsWhole change start

-- ---- nothing is put back

-- each member of the target has the name of an entry that stays or of a member that comes
abbrev pub AllAreNamed : Change → Type 0
AllAreNamed change = IsTrue (list_all (λ member. is_entry_name (staying change ++ coming change) (name_of member)) change.members)

-- where no install fails, nothing is put back, nor is anything told of it: the outcome ends with the last install, its status is 0, and what is
-- installed in the end are the entries that stay and all that came
pub record IsWholeInAll (change : Change) (start : Point) : Type 0 where
  pub ends : all_decided change start ≡ actions_decided change start
  pub status : (outcome_of change start).status ≡ 0
  pub members : (outcome_of change start).last.state.members ≡ staying change ++ coming change

-- so it is with each change that may be run and that leaves no member out
abbrev pub SuccessIsWholeInAll : Type 0
SuccessIsWholeInAll = (change : Change) (start : Point) → CanRun change start → NeedsAreMet change.plan → AllAreNamed change
    → IsFalse (list_any is_failed (told_in (actions_decided change start))) → IsWholeInAll change start
