-- A change begins well where its request is new: by the plan of a change. This project's own.
use Rattle.std.specs.Prelude.{◌≡◌, ℕ}
use Rattle.opam_package.specs.declared.package.Target.{Target}
use Rattle.action_graph.specs.Fitness.{AreAtOne}
use Rattle.action_graph.specs.Plans.{IsPlan}
use Rattle.switch_state.specs.Begins.{asking_for, request_begun, state_begun}
use Rattle.switch_state.specs.Sound.{TargetAgrees}
use Rattle.switch_state.specs.SoundLaws.{AsksSoundly}
use Rattle.switch_state.specs.State.{SwitchState}
use Rattle.change_outcome.specs.Changes.{Change}
use Rattle.change_laws.specs.Fits.{IsFitFor}
use Rattle.change_laws.specs.Rests.{IsRest}

-- what a change by this plan asks of the switch is sound; and once its request has begun, by the record with this number, the plan fits it, and the
-- change is the rest of it, for nothing is done yet
pub record BeginsWell (number : ℕ) (state : SwitchState) (target : Target) (change : Change) : Type 0 where
  pub asks : AsksSoundly state (asking_for target change.plan.removals state)
  pub fits : IsFitFor change (state_begun number (asking_for target change.plan.removals state) state) (request_begun number (asking_for target change.plan.removals state))
  pub rest : IsRest (state_begun number (asking_for target change.plan.removals state) state) change

-- so it is with the plan of each change whose target agrees
abbrev pub PlansBeginWell : Type 0
PlansBeginWell = (number : ℕ) (state : SwitchState) (target : Target) (change : Change) → AreAtOne state.members target → IsPlan state.members target change.plan → TargetAgrees target.members
    → change.entries ≡ state.members → change.members ≡ target.members → BeginsWell number state target change
