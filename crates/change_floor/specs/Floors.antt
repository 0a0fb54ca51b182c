-- What is known of a change while its jobs run: which may start, and whose turn it is. This project's own.
use Rattle.std.specs.Prelude.{ℕ, ◌+◌, ◌-◌, Bool, true, false, not, cond, ◌&&◌, ◌||◌, nat_eq, nat_lt, nat_le, min, List, [], ◌∷◌, ◌++◌, length, replicate, filter, find, count_by, option_map, slice_get, slice_index_or, slice_set}
use Rattle.std.specs.List.{list_all, list_any, position_or_len}
use Rattle.std.specs.declared.option.Option.{Option}
use Rattle.std.specs.declared.option.Option.TheVariants.{None, Some}
use Rattle.outside_io.specs.declared.workshop.Fate.{Fate}
use Rattle.action_graph.specs.declared.plan.Plan.{Plan}
use Rattle.action_graph.specs.declared.plan.Step.{Step}
use Rattle.change_floor.specs.declared.progress.Progress.{Progress}
use Rattle.change_floor.specs.declared.progress.Progress.TheVariants.{Waiting, Running, Ended}
use Rattle.change_floor.specs.declared.turn.Turn.{Turn}
use Rattle.change_floor.specs.declared.turn.Turn.TheVariants.{Remove, Abort, Decide, Wait, Done}

-- a change at one moment: of each action that is decided, in the order of the plan, whether it was done, and how far the job of each install is
pub record FloorState : Type 0 where
  pub plan : Plan
  pub workers : ℕ
  pub decided : List Bool
  pub jobs : List Progress

-- before anything was decided or started
abbrev pub floor_begun : Plan → ℕ → FloorState
floor_begun plan workers = record { plan = plan; workers = workers; decided = []; jobs = replicate (length plan.installs) Waiting }

-- where a member stands among the installs, or their number where it is none of them
abbrev pub install_place : List Step → ℕ → ℕ
install_place installs member = position_or_len (λ (step : Step). nat_eq step.member member) installs

-- the install at a place is decided and was done
abbrev pub is_done_at : Plan → List Bool → ℕ → Bool
is_done_at plan decided place = slice_index_or decided (length plan.removals + place) false

-- a member that is no install, and not missing, is installed from the start
abbrev pub is_there : Plan → ℕ → Bool
is_there plan member = nat_le (length plan.installs) (install_place plan.installs member) && not (list_any (nat_eq member) plan.missing)

-- an install is installed once it was done
abbrev pub has_installed : Plan → List Bool → ℕ → Bool
has_installed plan decided member = is_there plan member || is_done_at plan decided (install_place plan.installs member)

-- the less of a number and what may be the least so far
abbrev pub least_with : ℕ → Option ℕ → ℕ
least_with x None = x
least_with x (Some least) = min x least

-- the least number of a list
abbrev pub least_of : List ℕ → Option ℕ
least_of [] = None
least_of (x ∷ xs) = Some (least_with x (least_of xs))

-- the least of the needs that are not installed
abbrev pub lacking : Plan → List Bool → List ℕ → Option ℕ
lacking plan decided needs = least_of (filter (λ need. not (has_installed plan decided need)) needs)

-- the turn of an install: it is aborted where it lacks a need, else decided by its fate, or waited for
abbrev pub install_turn : ℕ → Option ℕ → Option Fate → Turn
install_turn member (Some need) fate = Abort member need
install_turn member None (Some fate) = Decide member fate
install_turn member None None = Wait

-- the turn of the install at a place, by the fates that are known; after the last one all is done
abbrev pub turn_at : Option Step → Plan → List Bool → Option Fate → Turn
turn_at None plan decided fate = Done
turn_at (Some step) plan decided fate = install_turn step.member (lacking plan decided step.needs) fate

-- a removal that is left comes before the turn of an install
abbrev pub first_turn : Option ℕ → Turn → Turn
first_turn None turn = turn
first_turn (Some entry) turn = Remove entry

-- the next action, by the fates of the installs as far as they are known: the removals come first, then the installs, in their order
abbrev pub turn_of : Plan → List Bool → (ℕ → Option Fate) → Turn
turn_of plan decided fates =
    let place = length decided - length plan.removals in
    first_turn (slice_get plan.removals (length decided)) (turn_at (slice_get plan.installs place) plan decided (fates place))

-- the fate that a job ended with
abbrev pub fate_in : Progress → Option Fate
fate_in Waiting = None
fate_in Running = None
fate_in (Ended fate) = Some fate

-- what is known at a place among the installs
abbrev pub fate_at : List Progress → ℕ → Option Fate
fate_at jobs place = fate_in (slice_index_or jobs place Waiting)

-- the next action of a change
abbrev pub next_turn : FloorState → Turn
next_turn floor = turn_of floor.plan floor.decided (fate_at floor.jobs)

-- the job was never started
abbrev pub is_waiting : Progress → Bool
is_waiting Waiting = true
is_waiting Running = false
is_waiting (Ended fate) = false

-- the job was started and has not ended
abbrev pub is_running : Progress → Bool
is_running Waiting = false
is_running Running = true
is_running (Ended fate) = false

-- how many jobs run
abbrev pub running : List Progress → ℕ
running jobs = count_by is_running jobs

-- how far the job of a member is
abbrev pub progress_of : FloorState → ℕ → Progress
progress_of floor member = slice_index_or floor.jobs (install_place floor.plan.installs member) Waiting

-- all removals are done, and fewer jobs run than there are workers
abbrev pub has_room : FloorState → Bool
has_room floor = nat_le (length floor.plan.removals) (length floor.decided) && nat_lt (running floor.jobs) floor.workers

-- an install that was never started, and whose needs are all installed
abbrev pub is_ready : FloorState → Step → Bool
is_ready floor step = is_waiting (progress_of floor step.member) && list_all (has_installed floor.plan floor.decided) step.needs

-- the first install that may start
abbrev pub next_start : FloorState → Option ℕ
next_start floor = cond (has_room floor) (option_map (λ (step : Step). step.member) (find (is_ready floor) floor.plan.installs)) None

-- the job of a member is so far
abbrev pub with_job : FloorState → ℕ → Progress → FloorState
with_job floor member job = record { plan = floor.plan; workers = floor.workers; decided = floor.decided; jobs = slice_set floor.jobs (install_place floor.plan.installs member) job }

-- the next action is decided
abbrev pub with_decision : FloorState → Bool → FloorState
with_decision floor done = record { plan = floor.plan; workers = floor.workers; decided = floor.decided ++ done ∷ []; jobs = floor.jobs }

-- an action that is next and for whose fate nothing waits
abbrev pub IsDecidable : Turn → Type 0
IsDecidable (Remove entry) = Unit {0}
IsDecidable (Abort member need) = Unit {0}
IsDecidable (Decide member fate) = Unit {0}
IsDecidable Wait = ⊥
IsDecidable Done = ⊥
