-- When a floor and a crew are abreast: what the one says, the other runs. This project's own.
use Rattle.std.specs.Prelude.{◌≡◌, ◌<◌, ◌≤◌, ℕ, List, Bool, true, false, cond, count_by, length, map, nat_eq, slice_get}
use Rattle.std.specs.List.{All}
use Rattle.std.specs.Option.{option_map}
use Rattle.std.specs.declared.option.Option.{Option}
use Rattle.std.specs.declared.option.Option.TheVariants.{Some}
use Rattle.opam_names.specs.declared.packages.Pkg.{Pkg}
use Rattle.opam_package.specs.declared.package.Member.{Member}
use Rattle.package_vars.specs.declared.facts.Facts.{Facts}
use Rattle.action_graph.specs.declared.plan.Plan.{Plan}
use Rattle.action_graph.specs.declared.plan.Step.{Step}
use Rattle.child_pool.specs.Crews.{IsFresh, Running}
use Rattle.change_floor.specs.FloorLaws.{EachOnce}
use Rattle.change_floor.specs.Floors as floors
use Rattle.change_floor.specs.Floors.{FloorState, is_running, progress_of}
use Rattle.change_floor.specs.declared.progress.Progress.{Progress}
use Rattle.change_floor.specs.declared.progress.Progress.TheVariants.{Waiting, Running as runs, Ended}
use Rattle.change_jobs.specs.Courses.{CrewState}
use Rattle.change_jobs.specs.PackageJobs.{IsJobOf}
use Rattle.change_jobs.specs.declared.jobs.Jobs.{Jobs}

-- the installs of a plan are of these members, each of one once
pub record IsPlanOf (members : List Member) (plan : Plan) : Type 0 where
  pub within : All (λ (step : Step). step.member < length members) plan.installs
  pub once : EachOnce plan.installs

-- how often a crew runs the job with a number
abbrev pub times_running : ℕ → Running → ℕ
times_running id jobs = count_by (λ one. nat_eq one.0 id) jobs

-- a job that has not ended
abbrev pub yet_to_end : Progress → Bool
yet_to_end Waiting = true
yet_to_end runs = true
yet_to_end (Ended fate) = false

-- the package of the member at a place
abbrev pub member_pkg_at : List Member → ℕ → Option Pkg
member_pkg_at members place = option_map (λ (member : Member). member.package.pkg) (slice_get members place)

-- the packages of all members, none of which was heard
abbrev pub all_names : List Member → List (Option Pkg)
all_names members = map (λ (member : Member). Some member.package.pkg) members

-- Each end that is still to come can be heard without memory: there is room for it, and its package's name is there.
pub record CanHear (members : List Member) (jobs : Jobs) : Type 0 where
  pub room : count_by yet_to_end jobs.floor.jobs ≤ jobs.heard.room
  pub named : (place : ℕ) → place < length members → yet_to_end (progress_of jobs.floor place) ≡ true → slice_get jobs.names.items place ≡ Some (member_pkg_at members place)

-- A floor and a crew are abreast: they have one size; the crew runs, each once, just the jobs that run by the floor, each the job of its member by that
-- one's place as number; none of those that the floor never started was started; and each end that is still to come can be heard.
pub record IsAbreast (members : List Member) (facts : Facts) (jobs : Jobs) (crew : CrewState) : Type 0 where
  pub plan : IsPlanOf members jobs.floor.plan
  pub some : 0 < jobs.floor.workers
  pub size : crew.size ≡ jobs.floor.workers
  pub counted : length jobs.floor.jobs ≡ length jobs.floor.plan.installs
  pub many : length crew.running ≡ floors.running jobs.floor.jobs
  pub each : (place : ℕ) → times_running place crew.running ≡ cond (is_running (progress_of jobs.floor place)) 1 0
  pub own : All (λ one. IsJobOf members facts one.0 one.1) crew.running
  pub fresh : (place : ℕ) → progress_of jobs.floor place ≡ Waiting → IsFresh place crew.events
  pub hears : CanHear members jobs

-- they are, of some members and facts
abbrev pub AreAbreast : Jobs → CrewState → Type 0
AreAbreast jobs crew = (members : List Member) × (facts : Facts) × IsAbreast members facts jobs crew

-- of whatever members and facts they were, they are still
abbrev pub StayAbreast : Jobs → Jobs → CrewState → CrewState → Type 0
StayAbreast before now crew after = (members : List Member) (facts : Facts) → IsAbreast members facts before crew → IsAbreast members facts now after
