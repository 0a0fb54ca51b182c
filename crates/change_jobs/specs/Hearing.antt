-- Proof words alone: how an end is heard, and what late ends leave of a floor.
use Rattle.std.specs.Prelude.{◌≡◌, ℕ, List, [], ◌∷◌, ◌++◌, Result, Ok, Err, OnOk, map, slice_get}
use Rattle.std.specs.List.{All}
use Rattle.std.specs.declared.option.Option.{Option}
use Rattle.std.specs.declared.option.Option.TheVariants.{Some}
use Rattle.opam_names.specs.declared.fault.OutOfMemory.{OutOfMemory}
use Rattle.opam_names.specs.declared.packages.Pkg.{Pkg}
use Rattle.opam_package.specs.declared.package.Member.{Member}
use Rattle.outside_io.specs.declared.workshop.Fate.{Fate}
use Rattle.package_vars.specs.declared.facts.Facts.{Facts}
use Rattle.change_floor.specs.Floors.{FloorState, with_job}
use Rattle.change_floor.specs.Machine.{Ends, FloorEvent, Runs}
use Rattle.change_floor.specs.declared.progress.Progress.TheVariants.{Ended}
use Rattle.change_jobs.specs.Abreast.{IsAbreast}
use Rattle.change_jobs.specs.Courses.{CrewState, EndIsTold, crew_events, heard_in}
use Rattle.change_jobs.specs.Stops.{AreSome}
use Rattle.change_jobs.specs.declared.jobs.Heard.{Heard}
use Rattle.change_jobs.specs.declared.jobs.Jobs.{Jobs}

-- a name is there
abbrev pub HasName : List (Option Pkg) → ℕ → Type 0
HasName names place = (pkg : Pkg) × (slice_get names place ≡ Some (Some pkg))

-- the package that stands there is heard
abbrev pub HearsName : List (Option Pkg) → ℕ → Fate → List Heard → List Heard → Type 0
HearsName names place fate before now = (pkg : Pkg) → slice_get names place ≡ Some (Some pkg) → now ≡ before ++ record { pkg = pkg; fate = fate } ∷ []

-- ---- ends that come after one another, with no start or turn between them

-- they all run when they end
abbrev pub AllRan : FloorState → List (ℕ × Fate) → Type 0
AllRan floor [] = Unit {0}
AllRan floor (end ∷ ends) = Runs floor end.0 × AllRan (with_job floor end.0 (Ended end.1)) ends

-- what they leave
abbrev pub floor_ended : FloorState → List (ℕ × Fate) → FloorState
floor_ended floor [] = floor
floor_ended floor (end ∷ ends) = floor_ended (with_job floor end.0 (Ended end.1)) ends

-- as events
abbrev pub end_events : List (ℕ × Fate) → List FloorEvent
end_events ends = map (λ (end : ℕ × Fate). Ends end.0 end.1) ends

-- these jobs with that floor
abbrev pub on_floor : Jobs → FloorState → Jobs
on_floor jobs floor = record { floor = floor; names = jobs.names; heard = jobs.heard }

-- ends were taken in that the floor does not know of, and crew and floor were abreast if it did
pub record AreLate (members : List Member) (facts : Facts) (before now : Jobs) (crew after : CrewState) (answer : Result Unit OutOfMemory) : Type 0 where
  pub ends : List (ℕ × Fate)
  pub ran : AllRan before.floor ends
  pub same : now.floor ≡ before.floor
  pub abreast : IsAbreast members facts (on_floor now (floor_ended before.floor ends)) after
  pub told : All (EndIsTold members facts crew.told) (end_events ends)
  pub shop : after.told ≡ crew.told
  pub events : after.events ≡ crew.events ++ crew_events (end_events ends)
  pub more : List Heard
  pub heard : now.heard.items ≡ before.heard.items ++ more
  pub some : AreSome more (heard_in members (end_events ends))
  pub all : OnOk answer (more ≡ heard_in members (end_events ends))

-- some are, of some members, facts and beginning
abbrev pub SomeAreLate : Jobs → CrewState → Type 0
SomeAreLate now after = (members : List Member) × (facts : Facts) × (before : Jobs) × (crew : CrewState) × (answer : Result Unit OutOfMemory) × AreLate members facts before now crew after answer

-- memory was refused in neither
abbrev pub both_answer : Result Unit OutOfMemory → Result Unit OutOfMemory → Result Unit OutOfMemory
both_answer (Ok done) answer = answer
both_answer (Err refused) answer = Err refused

-- whatever was late, more is
abbrev pub LateGoesOn : Jobs → Jobs → CrewState → CrewState → Result Unit OutOfMemory → Type 0
LateGoesOn before now crew after answer = (members : List Member) (facts : Facts) (first : Jobs) (start : CrewState) (earlier : Result Unit OutOfMemory)
    → AreLate members facts first before start crew earlier → AreLate members facts first now start after (both_answer earlier answer)
