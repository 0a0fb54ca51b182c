-- A change that was stopped between two of its actions goes on as the whole would have. This project's own.
use Rattle.std.specs.Prelude.{◌≡◌, ℕ, drop}
use Rattle.action_graph.specs.PlanLaws.{IsStepAt}
use Rattle.action_graph.specs.declared.plan.Step.{Step}
use Rattle.change_floor.specs.Floors.{install_place}
use Rattle.change_outcome.specs.Changes.{Change, Point}
use Rattle.change_outcome.specs.Outcomes.{cut, outcome_of}
use Rattle.change_laws.specs.Fits.{CanBeCarriedOut}
use Rattle.change_laws.specs.Rests.{IsRest}

-- of the job of each member the same is told in both
abbrev pub AreToldAlike : Change → Change → Type 0
AreToldAlike whole rest = (place : ℕ) (step : Step) → IsStepAt rest.plan place step → rest.built place ≡ whole.built (install_place whole.plan.installs step.member)

-- what the rest commits is what the whole commits after its first actions, and both end in the same state
pub record GoesOnAsWhole (whole rest : Change) (start : Point) (count : ℕ) : Type 0 where
  pub committed : (outcome_of rest (cut whole start count)).committed ≡ drop count (outcome_of whole start).committed
  pub last : (outcome_of rest (cut whole start count)).last ≡ (outcome_of whole start).last

-- so it is after any number of committed actions
abbrev pub RestsGoOn : Type 0
RestsGoOn = (whole rest : Change) (start : Point) (count : ℕ) → CanBeCarriedOut whole start → IsRest start.state whole → IsRest (cut whole start count).state rest → AreToldAlike whole rest
    → GoesOnAsWhole whole rest start count
