-- What a change comes to, by what is told of its jobs alone. This project's own. It is one fold over the removals, the installs and the put backs:
-- there are no workers in it, and no order in which jobs end.
use Rattle.std.specs.Prelude.{ℕ, zero, suc, ◌+◌, List, [], length, take}
use Rattle.std.specs.declared.option.Option.TheVariants.{Some}
use Rattle.change_floor.specs.Floors.{turn_of}
use Rattle.change_floor.specs.declared.turn.Turn.{Turn}
use Rattle.switch_state.specs.Actions.{Action}
use Rattle.change_outcome.specs.Decisions.{Decision, status_of}
use Rattle.change_outcome.specs.Changes.{Change, Point, point_after_all}
use Rattle.change_outcome.specs.PutBacks.{backs_left, with_backs}
use Rattle.change_outcome.specs.Steps.{Decided, done_in, point_then, told_in, which_done, with_turn}

-- the next removal or install, after what was decided
abbrev pub turn_after : Change → List Decided → Turn
turn_after change before = turn_of change.plan (which_done before) (λ place. Some (change.built place).fate)

-- what is decided of the first removals and installs
abbrev pub first_decided : Change → Point → ℕ → List Decided
first_decided change start zero = []
first_decided change start (suc count) = let before = first_decided change start count in with_turn change start before (turn_after change before)

-- what is decided of all removals and installs
abbrev pub actions_decided : Change → Point → List Decided
actions_decided change start = first_decided change start (length change.plan.removals + length change.plan.installs)

-- what is decided in all: the put backs come after the removals and installs
abbrev pub all_decided : Change → Point → List Decided
all_decided change start = let before = actions_decided change start in with_backs start before (backs_left (point_then start before))

-- what a change comes to: what is told of its actions, its status, what was committed, and where the switch stands in the end
pub record Outcome : Type 0 where
  pub decisions : List Decision
  pub status : ℕ
  pub committed : List Action
  pub last : Point

-- the outcome of what was decided
abbrev pub outcome_by : Point → List Decided → Outcome
outcome_by start decided = record {
  decisions = told_in decided;
  status = status_of (told_in decided);
  committed = done_in decided;
  last = point_then start decided;
}

-- the outcome of a change that begins here
abbrev pub outcome_of : Change → Point → Outcome
outcome_of change start = outcome_by start (all_decided change start)

-- where the switch stands after the first of the committed actions
abbrev pub cut : Change → Point → ℕ → Point
cut change start count = point_after_all start (take count (outcome_of change start).committed)
