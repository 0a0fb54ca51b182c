-- A change while jobs run, as a machine with three events, which come in any order in which they are allowed. This project's own.
use Rattle.std.specs.Prelude.{◌≡◌, ℕ, Bool, false, List, [], ◌∷◌, length, replicate, slice_get, IsSomeAnd, IsTrue, nat_eq}
use Rattle.outside_io.specs.declared.workshop.Fate.{Fate}
use Rattle.action_graph.specs.declared.plan.Plan.{Plan}
use Rattle.change_floor.specs.declared.progress.Progress.{Progress}
use Rattle.change_floor.specs.declared.progress.Progress.TheVariants.{Waiting, Running, Ended}
use Rattle.change_floor.specs.Floors.{FloorState, IsDecidable, has_room, is_ready, progress_of, next_turn, install_place, with_job}
use Rattle.change_floor.specs.Decisions.{Decision, Rule, decided_next, done_in}

-- a job is started, a job ends with a fate, or the next action is decided
pub data FloorEvent : Type 0 where
  Starts : ℕ → FloorEvent
  Ends : ℕ → Fate → FloorEvent
  Turns : FloorEvent

-- a moment: the decisions so far, and how far each job is
pub record Moment : Type 0 where
  pub decisions : List Decision
  pub jobs : List Progress

-- the change at that moment
abbrev pub floor_at : Plan → ℕ → Moment → FloorState
floor_at plan workers moment = record { plan = plan; workers = workers; decided = done_in moment.decisions; jobs = moment.jobs }

-- nothing is decided, and no job was started
abbrev pub first_moment : Plan → Moment
first_moment plan = record { decisions = []; jobs = replicate (length plan.installs) Waiting }

-- all removals are done, fewer jobs run than there are workers, the install was never started, and its needs are all installed
abbrev pub MayStart : FloorState → ℕ → Type 0
MayStart floor member = IsTrue (has_room floor) × IsSomeAnd (slice_get floor.plan.installs (install_place floor.plan.installs member)) (λ step. IsTrue (is_ready floor step))

-- the job runs
abbrev pub Runs : FloorState → ℕ → Type 0
Runs floor member = progress_of floor member ≡ Running

-- whether an event may come
abbrev pub IsAllowed : FloorState → FloorEvent → Type 0
IsAllowed floor (Starts member) = MayStart floor member
IsAllowed floor (Ends member fate) = Runs floor member
IsAllowed floor Turns = IsDecidable (next_turn floor)

-- what it makes of a moment
abbrev pub moment_after : Plan → ℕ → Rule → Moment → FloorEvent → Moment
moment_after plan workers rule moment (Starts member) = record { decisions = moment.decisions; jobs = (with_job (floor_at plan workers moment) member Running).jobs }
moment_after plan workers rule moment (Ends member fate) = record { decisions = moment.decisions; jobs = (with_job (floor_at plan workers moment) member (Ended fate)).jobs }
moment_after plan workers rule moment Turns = record { decisions = decided_next rule moment.decisions (next_turn (floor_at plan workers moment)); jobs = moment.jobs }

-- the events may come one after another, and lead from one moment to another
abbrev pub Leads : Plan → ℕ → Rule → Moment → List FloorEvent → Moment → Type 0
Leads plan workers rule from [] to = to ≡ from
Leads plan workers rule from (event ∷ events) to = IsAllowed (floor_at plan workers from) event × Leads plan workers rule (moment_after plan workers rule from event) events to

-- each job ends with the fate that is told
abbrev pub EndsAsTold : Plan → (ℕ → Fate) → List FloorEvent → Type 0
EndsAsTold plan told [] = Unit {0}
EndsAsTold plan told (Starts member ∷ events) = EndsAsTold plan told events
EndsAsTold plan told (Ends member fate ∷ events) = (fate ≡ told (install_place plan.installs member)) × EndsAsTold plan told events
EndsAsTold plan told (Turns ∷ events) = EndsAsTold plan told events

-- whether the event starts the job of a member
abbrev pub is_start_of : ℕ → FloorEvent → Bool
is_start_of member (Starts other) = nat_eq other member
is_start_of member (Ends other fate) = false
is_start_of member Turns = false
