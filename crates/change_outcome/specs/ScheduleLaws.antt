-- Jobs may start and end in any order: what is decided is the outcome. This project's own.
use Rattle.std.specs.Prelude.{◌≡◌, ℕ, List, [], ◌++◌, fold, is_some, length, map}
use Rattle.change_floor.specs.Decisions as floor
use Rattle.change_floor.specs.Decisions.{Rule}
use Rattle.change_floor.specs.FloorLaws.{FromBeginning}
use Rattle.change_floor.specs.Floors.{next_turn}
use Rattle.change_floor.specs.Machine.{EndsAsTold, FloorEvent, Moment, floor_at}
use Rattle.change_floor.specs.declared.turn.Turn.{Turn}
use Rattle.change_floor.specs.declared.turn.Turn.TheVariants.{Done}
use Rattle.outside_io.specs.declared.workshop.Fate.{Fate}
use Rattle.change_outcome.specs.Changes.{Change, Point}
use Rattle.change_outcome.specs.Outcomes.{actions_decided, all_decided, first_decided}
use Rattle.change_outcome.specs.Steps.{Decided, decided_on, point_then, with_turn}

-- the turns of decisions
abbrev pub turns_of : List floor.Decision → List Turn
turns_of decisions = map (λ (one : floor.Decision). one.turn) decisions

-- what is decided of these turns, one after another
abbrev pub decided_by : Change → Point → List Turn → List Decided
decided_by change start turns = fold (with_turn change start) [] turns

-- whether an action is done, by the decisions before it
abbrev pub rule_of : Change → Point → Rule
rule_of change start before turn = is_some (decided_on change (point_then start (decided_by change start (turns_of before))) turn).does

-- how the job of the install at each place ends
abbrev pub fates_of : Change → ℕ → Fate
fates_of change place = (change.built place).fate

-- a list is the beginning of another
abbrev pub Begins : List Decided → List Decided → Type 0
Begins front whole = (rest : List Decided) × (whole ≡ front ++ rest)

-- Whatever comes in whatever order, what is decided of the turns so far begins the outcome, and is all of its removals and installs once nothing is left.
pub record GivesOutcome (change : Change) (start : Point) (workers : ℕ) (moment : Moment) : Type 0 where
  pub so_far : decided_by change start (turns_of moment.decisions) ≡ first_decided change start (length moment.decisions)
  pub begins : Begins (decided_by change start (turns_of moment.decisions)) (all_decided change start)
  pub whole : next_turn (floor_at change.plan workers moment) ≡ Done → decided_by change start (turns_of moment.decisions) ≡ actions_decided change start

-- so it is for any events that may come, where each job ends as is told of it
abbrev pub SchedulesGiveTheOutcome : Type 0
SchedulesGiveTheOutcome = (change : Change) (start : Point) (workers : ℕ) (events : List FloorEvent) (moment : Moment)
    → FromBeginning change.plan workers (rule_of change start) events moment → EndsAsTold change.plan (fates_of change) events → GivesOutcome change start workers moment
