-- Laws of jobs and of the courses of changes. This project's own.
use Rattle.std.specs.Prelude.{◌≡◌, ◌≤◌, ℕ, List, Bool, false, count_by, nat_eq, slice_get}
use Rattle.std.specs.List.{All}
use Rattle.std.specs.declared.option.Option.TheVariants.{Some}
use Rattle.opam_package.specs.declared.package.Member.{Member}
use Rattle.outside_io.specs.Shops.{Told, fate_of}
use Rattle.outside_io.specs.declared.workshop.Fate.{Fate}
use Rattle.outside_io.specs.declared.workshop.Job.{Job}
use Rattle.package_vars.specs.declared.facts.Facts.{Facts}
use Rattle.action_graph.specs.declared.plan.Plan.{Plan}
use Rattle.action_graph.specs.declared.plan.Step.{Step}
use Rattle.change_floor.specs.Decisions.{Decision, Rule, decided_next}
use Rattle.change_floor.specs.FloorLaws.{EachOnce, FromBeginning, NeedsStandBefore}
use Rattle.change_floor.specs.Floors.{IsDecidable, next_turn, with_decision}
use Rattle.change_floor.specs.Machine.{Ends, EndsAsTold, FloorEvent, Moment, Starts, Turns, floor_at}
use Rattle.change_floor.specs.declared.turn.Turn.{Turn}
use Rattle.change_floor.specs.declared.turn.Turn.TheVariants.{Abort, Decide, Done, Remove, Wait}
use Rattle.change_jobs.specs.Abreast.{IsAbreast}
use Rattle.change_jobs.specs.Courses.{CrewState, IsCourse, EndIsTold}
use Rattle.change_jobs.specs.PackageJobs.{IsJobOf}
use Rattle.change_jobs.specs.declared.jobs.Jobs.{Jobs}

-- a member of a target has one job at most
abbrev pub JobIsOne : Type 0
JobIsOne = (members : List Member) (facts : Facts) (place : ℕ) (one other : Job) → IsJobOf members facts place one → IsJobOf members facts place other → one ≡ other

-- the next action is decided, and nothing else has changed
pub record IsDecided (rule : Rule) (decisions : List Decision) (before now : Jobs) : Type 0 where
  pub may : IsDecidable (next_turn before.floor)
  pub floor : now.floor ≡ with_decision before.floor (rule decisions (next_turn before.floor))
  pub names : now.names.items ≡ before.names.items
  pub heard : now.heard ≡ before.heard

-- a decision keeps a floor and a crew abreast, and the course goes on by it
pub record GoesOnDecided (members : List Member) (facts : Facts) (rule : Rule) (decisions : List Decision) (before now : Jobs) (crew : CrewState) : Type 0 where
  pub abreast : IsAbreast members facts before crew → IsAbreast members facts now crew
  pub course : IsCourse members facts rule decisions before crew → IsCourse members facts rule (decided_next rule decisions (next_turn before.floor)) now crew

-- so it is with each decision
abbrev pub DecisionsGoOn : Type 0
DecisionsGoOn = (members : List Member) (facts : Facts) (rule : Rule) (decisions : List Decision) (before now : Jobs) (crew : CrewState)
    → IsDecided rule decisions before now → GoesOnDecided members facts rule decisions before now crew

-- each install of a plan has the told fate of its job
abbrev pub AreTheFates : List Member → Facts → Told → Plan → (ℕ → Fate) → Type 0
AreTheFates members facts shop plan fates = (place : ℕ) (step : Step) (job : Job) → slice_get plan.installs place ≡ Some step → IsJobOf members facts step.member job → fates place ≡ fate_of shop job

-- where the shop tells, each job ends with the fate that is told of the install at its place
abbrev pub EndsAreAsTold : Type 0
EndsAreAsTold = (members : List Member) (facts : Facts) (shop : Told) (plan : Plan) (workers : ℕ) (rule : Rule) (events : List FloorEvent) (moment : Moment) (fates : ℕ → Fate)
    → FromBeginning plan workers rule events moment → All (EndIsTold members facts (Some shop)) events → AreTheFates members facts shop plan fates → EndsAsTold plan fates events

-- whether the event is an end of the job of a member
abbrev pub is_end_of : ℕ → FloorEvent → Bool
is_end_of member (Starts other) = false
is_end_of member (Ends other fate) = nat_eq other member
is_end_of member Turns = false

-- no job ends twice
abbrev pub EndsAreSingle : Type 0
EndsAreSingle = (plan : Plan) (workers : ℕ) (rule : Rule) (events : List FloorEvent) (moment : Moment) (member : ℕ) → FromBeginning plan workers rule events moment → count_by (is_end_of member) events ≤ 1

-- a turn of a member that is decided by the fate of its job
abbrev pub is_turn_by_fate : ℕ → Turn → Bool
is_turn_by_fate member (Remove entry) = false
is_turn_by_fate member (Abort id need) = false
is_turn_by_fate member (Decide id fate) = nat_eq id member
is_turn_by_fate member Wait = false
is_turn_by_fate member Done = false

-- a decision of such a turn
abbrev pub is_by_fate : ℕ → Decision → Bool
is_by_fate member decision = is_turn_by_fate member decision.turn

-- of a plan in which needs stand first: once nothing is left, the jobs that have ended are just those of the installs that were decided by their fate, each once
abbrev pub EndsAreDecided : Type 0
EndsAreDecided = (plan : Plan) (workers : ℕ) (rule : Rule) (events : List FloorEvent) (moment : Moment) (member : ℕ) → EachOnce plan.installs → NeedsStandBefore plan → FromBeginning plan workers rule events moment
    → next_turn (floor_at plan workers moment) ≡ Done → count_by (is_end_of member) events ≡ count_by (is_by_fate member) moment.decisions
