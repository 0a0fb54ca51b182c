-- What has come of a change while its jobs run, told as events of the floor's machine. This project's own.
use Rattle.std.specs.Prelude.{◌≡◌, ℕ, List, [], ◌∷◌, slice_get}
use Rattle.std.specs.List.{All, flat_map}
use Rattle.std.specs.declared.option.Option.{Option}
use Rattle.std.specs.declared.option.Option.TheVariants.{None, Some}
use Rattle.opam_package.specs.declared.package.Member.{Member}
use Rattle.outside_io.specs.Shops.{Told}
use Rattle.outside_io.specs.declared.workshop.Fate.{Fate}
use Rattle.outside_io.specs.declared.workshop.Job.{Job}
use Rattle.package_vars.specs.declared.facts.Facts.{Facts}
use Rattle.action_graph.specs.declared.plan.Plan.{Plan}
use Rattle.child_pool.specs.Crews.{Running, TellsFate}
use Rattle.child_pool.specs.declared.crew.Crew.{Ghosts}
use Rattle.child_pool.specs.declared.crew.Event.{Event}
use Rattle.child_pool.specs.declared.crew.Event.TheVariants.{Start, End}
use Rattle.change_floor.specs.Decisions.{Decision, Rule, done_in}
use Rattle.change_floor.specs.FloorLaws.{FromBeginning}
use Rattle.change_floor.specs.Floors.{FloorState, IsDecidable, next_start, next_turn, with_job}
use Rattle.change_floor.specs.Machine.{Ends, FloorEvent, MayStart, Moment, Runs, Starts, Turns, first_moment, floor_at, moment_after}
use Rattle.change_floor.specs.declared.progress.Progress.TheVariants.{Running as runs, Ended}
use Rattle.change_jobs.specs.PackageJobs.{IsJobOf}
use Rattle.change_jobs.specs.declared.jobs.Heard.{Heard}
use Rattle.change_jobs.specs.declared.jobs.Jobs.{Jobs}

-- a crew at one moment: how many jobs it runs at a time, those that run, its starts and ends so far, and what its shop tells
pub record CrewState : Type 0 where
  pub size : ℕ
  pub running : Running
  pub events : List Event
  pub told : Option Told

-- all this of any crew
abbrev pub crew_of : {C : Type 0} → Ghosts C → C → CrewState
crew_of g crew = record { size = g.size crew; running = g.running crew; events = g.events crew; told = g.told crew }

-- ---- what events are to the crew, and to who hears of ends

-- a start and an end are those of the crew, by the member's place as number; of a turn it knows nothing
abbrev pub crew_event : FloorEvent → List Event
crew_event (Starts member) = Start member ∷ []
crew_event (Ends member fate) = End member ∷ []
crew_event Turns = []

-- the starts and ends among events
abbrev pub crew_events : List FloorEvent → List Event
crew_events events = flat_map crew_event events

-- the package of a member, with the fate of its job
abbrev pub heard_with : Fate → Option Member → List Heard
heard_with fate None = []
heard_with fate (Some member) = record { pkg = member.package.pkg; fate = fate } ∷ []

-- what is heard of an event: of an end its package and its fate
abbrev pub heard_of : List Member → FloorEvent → List Heard
heard_of members (Starts member) = []
heard_of members (Ends member fate) = heard_with fate (slice_get members member)
heard_of members Turns = []

-- all that is heard of events
abbrev pub heard_in : List Member → List FloorEvent → List Heard
heard_in members events = flat_map (heard_of members) events

-- a job that ended was that of its member, and if the shop tells, its fate is the told one
abbrev pub EndIsTold : List Member → Facts → Option Told → FloorEvent → Type 0
EndIsTold members facts shop (Starts member) = Unit {0}
EndIsTold members facts shop (Ends member fate) = (job : Job) × IsJobOf members facts member job × TellsFate shop job fate
EndIsTold members facts shop Turns = Unit {0}

-- a job of a floor has ended
abbrev pub EndsOne : FloorState → FloorState → Type 0
EndsOne before now = (member : ℕ) × (fate : Fate) × Runs before member × (now ≡ with_job before member (Ended fate))

-- the first job that may be started was started, where there is one
abbrev pub floor_with_start : FloorState → Option ℕ → FloorState
floor_with_start floor None = floor
floor_with_start floor (Some member) = with_job floor member runs

-- the floor after what may be started first, and the floor itself where nothing may
abbrev pub floor_started : FloorState → FloorState
floor_started floor = floor_with_start floor (next_start floor)

-- ---- each event in its time

-- a job is started only while no action can be decided, and an end is taken in only when besides none may be started
abbrev pub IsInTime : FloorState → FloorEvent → Type 0
IsInTime floor (Starts member) = ¬ IsDecidable (next_turn floor)
IsInTime floor (Ends member fate) = (¬ IsDecidable (next_turn floor)) × ((other : ℕ) → ¬ MayStart floor other)
IsInTime floor Turns = Unit {0}

-- so it is with all of them
abbrev pub AreInTime : Plan → ℕ → Rule → Moment → List FloorEvent → Type 0
AreInTime plan workers rule from [] = Unit {0}
AreInTime plan workers rule from (event ∷ events) = IsInTime (floor_at plan workers from) event × AreInTime plan workers rule (moment_after plan workers rule from event) events

-- ---- the course of a change

-- the moment with these decisions, at which jobs are as far as a floor has them
abbrev pub moment_of : List Decision → FloorState → Moment
moment_of decisions floor = record { decisions = decisions; jobs = floor.jobs }

-- The course of a change up to now: events that may come one after another from the beginning on, each in its time, lead to these decisions and to
-- where the floor stands; their starts and ends are all that the crew had; each end has the told fate of its own job; and just the ends are heard, in order.
pub record IsCourse (members : List Member) (facts : Facts) (rule : Rule) (decisions : List Decision) (jobs : Jobs) (crew : CrewState) : Type 0 where
  pub course : List FloorEvent
  pub leads : FromBeginning jobs.floor.plan jobs.floor.workers rule course (moment_of decisions jobs.floor)
  pub decided : jobs.floor.decided ≡ done_in decisions
  pub in_time : AreInTime jobs.floor.plan jobs.floor.workers rule (first_moment jobs.floor.plan) course
  pub told : All (EndIsTold members facts crew.told) course
  pub events : crew.events ≡ crew_events course
  pub heard : jobs.heard.items ≡ heard_in members course
