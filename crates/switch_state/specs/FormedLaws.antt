-- Laws of well-formed states. This project's own.
use Rattle.std.specs.Prelude.{ℕ}
use Rattle.switch_state.specs.Actions.{Action, CanBeSpelled, CanFollow, state_after}
use Rattle.switch_state.specs.Begins.{Asking, BeginFits, CanBegin, begun_from, state_begun}
use Rattle.switch_state.specs.Ends.{state_ended}
use Rattle.switch_state.specs.SoundLaws.{empty_state}
use Rattle.switch_state.specs.State.{Now, SwitchState}
use Rattle.switch_state.specs.WellFormed.{IsWellFormed}

-- the empty state is well formed
abbrev pub EmptyIsFormed : Type 0
EmptyIsFormed = IsWellFormed empty_state

-- a state stays well formed with each install, removal and put back that can follow on it and be spelled
abbrev pub ActionsKeepForm : Type 0
ActionsKeepForm = (number : ℕ) (action : Action) (state : SwitchState) → CanFollow number action state → CanBeSpelled action → IsWellFormed state → IsWellFormed (state_after number action state)

-- and with the end of its request
abbrev pub EndsKeepForm : Type 0
EndsKeepForm = (state : SwitchState) → IsWellFormed state → IsWellFormed (state_ended state)

-- a request that begins where none is open leaves it well formed
abbrev pub NextBeginsKeepForm : Type 0
NextBeginsKeepForm = (number : ℕ) (asking : Asking) (state : SwitchState) → BeginFits number asking state → IsWellFormed state → IsWellFormed (state_begun number asking state)

-- so does one that begins after an earlier one is ended
abbrev pub BeginsKeepForm : Type 0
BeginsKeepForm = (asking : Asking) (now : Now) → CanBegin asking now → IsWellFormed now.state → IsWellFormed (begun_from asking now)
