-- Laws of changes while jobs run, for any rule of steps, any plan, and any events in any order in which they are allowed.
use Rattle.std.specs.Prelude.{◌≡◌, ◌≢◌, ℕ, ◌<◌, ◌≤◌, Bool, true, false, List, [], ◌++◌, length, map, count_by, slice_get, slice_index, MatchOption}
use Rattle.std.specs.declared.option.Option.{Option}
use Rattle.std.specs.declared.option.Option.TheVariants.{None, Some}
use Rattle.outside_io.specs.declared.workshop.Fate.{Fate}
use Rattle.action_graph.specs.Places.{IsIn}
use Rattle.action_graph.specs.Reach.{Reached}
use Rattle.action_graph.specs.declared.plan.Plan.{Plan}
use Rattle.action_graph.specs.declared.plan.Step.{Step}
use Rattle.change_floor.specs.declared.progress.Progress.TheVariants.{Waiting, Running, Ended}
use Rattle.change_floor.specs.declared.turn.Turn.TheVariants.{Abort, Done}
use Rattle.change_floor.specs.Floors.{FloorState, IsDecidable, has_installed, is_there, progress_of, lacking, floor_begun, next_start, next_turn, install_place, running, with_decision, with_job}
use Rattle.change_floor.specs.Decisions.{Decision, Rule, decisions_of, done_in, outcome_of}
use Rattle.change_floor.specs.Machine.{Ends, EndsAsTold, FloorEvent, Leads, MayStart, Moment, Runs, Starts, Turns, first_moment, floor_at, is_start_of, moment_after}

-- a list is the beginning of another
abbrev pub IsFrontOf : List Decision → List Decision → Type 0
IsFrontOf front whole = (rest : List Decision) × (whole ≡ front ++ rest)

-- the members that installs are of
abbrev pub install_members : List Step → List ℕ
install_members installs = map (λ (step : Step). step.member) installs

-- the needs of an install, where there is one
abbrev pub step_needs : Option Step → List ℕ
step_needs None = []
step_needs (Some step) = step.needs

-- the needs of the install at a place
abbrev pub install_needs : Plan → ℕ → List ℕ
install_needs plan place = step_needs (slice_get plan.installs place)

-- no member stands twice among the installs
abbrev pub EachOnce : List Step → Type 0
EachOnce installs = (i j : ℕ) → i < j → j < length installs → slice_index (install_members installs) i ≢ slice_index (install_members installs) j

-- a need that is an install stands before the one that needs it
abbrev pub NeedsStandBefore : Plan → Type 0
NeedsStandBefore plan = (place need : ℕ) → IsIn (install_needs plan place) need → install_place plan.installs need < length plan.installs → install_place plan.installs need < place

-- events that may come, from the beginning on
abbrev pub FromBeginning : Plan → ℕ → Rule → List FloorEvent → Moment → Type 0
FromBeginning plan workers rule events moment = Leads plan workers rule (first_moment plan) events moment

-- Whatever comes in whatever order, the decisions are the first ones of the fold, by the fates that the jobs end with; and all of them once nothing is left.
pub record DecisionsAreTheFolds (plan : Plan) (workers : ℕ) (rule : Rule) (told : ℕ → Fate) (events : List FloorEvent) (moment : Moment) : Type 0 where
  pub so_far : moment.decisions ≡ decisions_of plan rule told (length moment.decisions)
  pub begins : IsFrontOf moment.decisions (outcome_of plan rule told)
  pub whole : next_turn (floor_at plan workers moment) ≡ Done → moment.decisions ≡ outcome_of plan rule told

-- for any list of events that may come, with fates as told, the decisions are those of the fold
abbrev pub ScheduleDoesNotDecide : Type 0
ScheduleDoesNotDecide = (plan : Plan) (workers : ℕ) (rule : Rule) (told : ℕ → Fate) (events : List FloorEvent) (moment : Moment) → FromBeginning plan workers rule events moment → EndsAsTold plan told events
    → DecisionsAreTheFolds plan workers rule told events moment

-- never more jobs run than there are workers
abbrev pub WorkersSuffice : Type 0
WorkersSuffice = (plan : Plan) (workers : ℕ) (rule : Rule) (events : List FloorEvent) (moment : Moment) → FromBeginning plan workers rule events moment
    → running moment.jobs ≤ workers

-- no job is started twice
abbrev pub StartsAreSingle : Type 0
StartsAreSingle = (plan : Plan) (workers : ℕ) (rule : Rule) (events : List FloorEvent) (moment : Moment) (member : ℕ) → FromBeginning plan workers rule events moment
    → count_by (is_start_of member) events ≤ 1

-- of a plan in which needs stand first, no install that is aborted was ever started, or is afterwards
abbrev pub AbortedNeverStart : Type 0
AbortedNeverStart = (plan : Plan) (workers : ℕ) (rule : Rule) (events : List FloorEvent) (moment : Moment) (at member need : ℕ) → EachOnce plan.installs → NeedsStandBefore plan
    → FromBeginning plan workers rule events moment → MatchOption (slice_get moment.decisions at) ⊥ (λ (decision : Decision). decision.turn ≡ Abort member need)
    → count_by (is_start_of member) events ≡ 0

-- the least need that is not installed is named
pub record NamesTheLeast (plan : Plan) (decided : List Bool) (needs : List ℕ) (need : ℕ) : Type 0 where
  pub is_need : IsIn needs need
  pub is_lacking : has_installed plan decided need ≡ false
  pub least : (other : ℕ) → IsIn needs other → has_installed plan decided other ≡ false → need ≤ other

-- what is lacking is the least need that is not installed, and nothing where all are
abbrev pub AbortsNameTheLeast : Type 0
AbortsNameTheLeast = (plan : Plan) (decided : List Bool) (needs : List ℕ)
    → MatchOption (lacking plan decided needs) ((need : ℕ) → IsIn needs need → has_installed plan decided need ≡ true) (NamesTheLeast plan decided needs)

-- a rule that does nothing of what is aborted
abbrev pub AbortsNothingDone : Rule → Type 0
AbortsNothingDone rule = (before : List Decision) (member need : ℕ) → rule before (Abort member need) ≡ false

-- Steps from member to member that stay within what a job is owed: an install leads to its needs alone, and what is installed from the start to nothing
-- that is not.
pub record IsWithinNeeds (plan : Plan) (leads : ℕ → List ℕ) : Type 0 where
  pub installs : (place : ℕ) → place < length plan.installs → (to : ℕ) → IsIn (leads (slice_index (install_members plan.installs) place)) to → IsIn (install_needs plan place) to
  pub others : (member : ℕ) → is_there plan member ≡ true → (to : ℕ) → IsIn (leads member) to → is_there plan to ≡ true

-- Who is started has its needs installed, and all that these lead to: the whole view of its job.
abbrev pub JobsSeeTheirViews : Type 0
JobsSeeTheirViews = (plan : Plan) (workers : ℕ) (rule : Rule) (events : List FloorEvent) (moment : Moment) (leads : ℕ → List ℕ) (place : ℕ) → EachOnce plan.installs → AbortsNothingDone rule → IsWithinNeeds plan leads
    → FromBeginning plan workers rule events moment → place < length plan.installs → progress_of (floor_at plan workers moment) (slice_index (install_members plan.installs) place) ≢ Waiting
    → (member : ℕ) → Reached (IsIn (install_needs plan place)) (λ from. IsIn (leads from)) member → has_installed plan (done_in moment.decisions) member ≡ true

-- something may come
pub data CanGoOn (floor : FloorState) : Type 0 where
  is_over : next_turn floor ≡ Done → CanGoOn floor
  may_turn : IsDecidable (next_turn floor) → CanGoOn floor
  may_start : (member : ℕ) → next_start floor ≡ Some member → MayStart floor member → CanGoOn floor
  may_end : (member : ℕ) → Runs floor member → CanGoOn floor

-- as long as something is left, a turn is allowed, a job may start, or one runs
abbrev pub NeverStuck : Type 0
NeverStuck = (plan : Plan) (workers : ℕ) (rule : Rule) (events : List FloorEvent) (moment : Moment) → EachOnce plan.installs → 0 < workers → FromBeginning plan workers rule events moment
    → CanGoOn (floor_at plan workers moment)

-- the first install that may start is allowed to, and where there is none, none is
abbrev pub FirstStartIsAllowed : Type 0
FirstStartIsAllowed = (floor : FloorState) → EachOnce floor.plan.installs → MatchOption (next_start floor) ((member : ℕ) → ¬ MayStart floor member) (MayStart floor)

-- what the machine's events make of a floor is what the calls of their names say
pub record DoesAsCalled (plan : Plan) (workers : ℕ) (rule : Rule) (moment : Moment) : Type 0 where
  pub begins : floor_at plan workers (first_moment plan) ≡ floor_begun plan workers
  pub starts : (member : ℕ) → floor_at plan workers (moment_after plan workers rule moment (Starts member)) ≡ with_job (floor_at plan workers moment) member Running
  pub ends : (member : ℕ) (fate : Fate) → floor_at plan workers (moment_after plan workers rule moment (Ends member fate)) ≡ with_job (floor_at plan workers moment) member (Ended fate)
  pub turns : floor_at plan workers (moment_after plan workers rule moment Turns) ≡ with_decision (floor_at plan workers moment) (rule moment.decisions (next_turn (floor_at plan workers moment)))

-- at each moment an event makes of a floor what the call of its name says
abbrev pub EventsAreCalls : Type 0
EventsAreCalls = (plan : Plan) (workers : ℕ) (rule : Rule) (moment : Moment) → DoesAsCalled plan workers rule moment
