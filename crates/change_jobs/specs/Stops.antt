-- What a change comes to that is stopped while its jobs run. This project's own.
use Rattle.std.specs.Prelude.{◌≡◌, List, [], ◌∷◌, ◌++◌, Result, OnOk}
use Rattle.std.specs.List.{All}
use Rattle.opam_names.specs.declared.fault.OutOfMemory.{OutOfMemory}
use Rattle.opam_package.specs.declared.package.Member.{Member}
use Rattle.package_vars.specs.declared.facts.Facts.{Facts}
use Rattle.change_floor.specs.Decisions.{Decision, Rule, done_in}
use Rattle.change_floor.specs.FloorLaws.{FromBeginning}
use Rattle.change_floor.specs.Machine.{Ends, FloorEvent, Leads, Moment, Starts, Turns, first_moment}
use Rattle.change_jobs.specs.Abreast.{IsAbreast}
use Rattle.change_jobs.specs.Courses.{AreInTime, CrewState, IsCourse, EndIsTold, crew_events, heard_in, moment_of}
use Rattle.change_jobs.specs.declared.jobs.Heard.{Heard}
use Rattle.change_jobs.specs.declared.jobs.Jobs.{Jobs}

-- the event is an end
abbrev pub IsEnd : FloorEvent → Type 0
IsEnd (Starts member) = ⊥
IsEnd (Ends member fate) = Unit {0}
IsEnd Turns = ⊥

-- the first are some of the second, in their order
pub data AreSome : List Heard → List Heard → Type 0 where
  none_left : AreSome [] []
  with_one : (one : Heard) {few all : List Heard} → AreSome few all → AreSome (one ∷ few) (one ∷ all)
  without_one : (one : Heard) {few all : List Heard} → AreSome few all → AreSome few (one ∷ all)

-- A change is over that was stopped at these decisions, where the floor stands: its course up to there, and then only ends, of jobs that ran; no job runs
-- any more. Each end has the told fate of its own job. Nothing but ends is heard, in their order, and all of them unless memory was refused.
pub record IsOver (members : List Member) (facts : Facts) (rule : Rule) (decisions : List Decision) (jobs : Jobs) (crew : CrewState) (answer : Result Unit OutOfMemory) : Type 0 where
  pub course : List FloorEvent
  pub late : List FloorEvent
  pub leads : FromBeginning jobs.floor.plan jobs.floor.workers rule course (moment_of decisions jobs.floor)
  pub decided : jobs.floor.decided ≡ done_in decisions
  pub in_time : AreInTime jobs.floor.plan jobs.floor.workers rule (first_moment jobs.floor.plan) course
  pub last : Moment
  pub ends : Leads jobs.floor.plan jobs.floor.workers rule (moment_of decisions jobs.floor) late last
  pub only_ends : All IsEnd late
  pub idle : crew.running ≡ []
  pub told : All (EndIsTold members facts crew.told) (course ++ late)
  pub events : crew.events ≡ crew_events (course ++ late)
  pub heard : AreSome jobs.heard.items (heard_in members (course ++ late))
  pub all : OnOk answer (jobs.heard.items ≡ heard_in members (course ++ late))

-- whatever course it was, it goes on to where the jobs are now
abbrev pub CourseGoesOn : Jobs → Jobs → CrewState → CrewState → Type 0
CourseGoesOn before now crew after = (members : List Member) (facts : Facts) (rule : Rule) (decisions : List Decision)
    → IsAbreast members facts before crew → IsCourse members facts rule decisions before crew → IsCourse members facts rule decisions now after

-- or it is over
abbrev pub CourseIsOver : Jobs → Jobs → CrewState → CrewState → Result Unit OutOfMemory → Type 0
CourseIsOver before now crew after answer = (members : List Member) (facts : Facts) (rule : Rule) (decisions : List Decision)
    → IsAbreast members facts before crew → IsCourse members facts rule decisions before crew → IsOver members facts rule decisions now after answer
