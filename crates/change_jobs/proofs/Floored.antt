-- How far the jobs of a floor are after a start and after an end.
use Rattle.std.proofs.Common.{◌≡◌, ◌≢◌, ℕ, ◌+◌, ◌<◌, true, false, cond, List, [], ◌∷◌, length, get_or, zero, suc, sym, ap, refl, ◌∙◌, arith, subst}
use Rattle.std.specs.Prelude.{MatchOption, slice_get, count_by}
use Rattle.std.specs.declared.option.Option.{Option}
use Rattle.std.specs.declared.option.Option.TheVariants.{None, Some}
use Rattle.std.proofs.lemmas.List.{get_or-set_same, get_or-set_other}
use Rattle.std.proofs.lemmas.List.Sums.{sum_by-set}
use Rattle.std.proofs.lemmas.Option.{slice_get-get_or, slice_get_within}
use Rattle.outside_io.specs.declared.workshop.Fate.{Fate}
use Rattle.action_graph.specs.declared.plan.Step.{Step}
use Rattle.change_floor.specs.declared.progress.Progress.{Progress}
use Rattle.change_floor.specs.declared.progress.Progress.TheVariants.{Waiting, Running, Ended}
use Rattle.change_floor.specs.FloorLaws.{EachOnce}
use Rattle.change_floor.specs.Floors.{FloorState, install_place, is_running, is_waiting, next_start, progress_of, running, with_job}
use Rattle.change_floor.specs.Machine.{MayStart}
use Rattle.change_floor.proofs.GoingOn.{first_start_is_allowed}
use Rattle.change_floor.proofs.Standing.{own_place}
use Rattle.change_floor.proofs.Starting.{readied}
use Rattle.change_jobs.specs.Abreast.{yet_to_end}

-- two members that stand at one place are one
pub one_stands : (installs : List Step) (one other : ℕ) → install_place installs one < length installs → install_place installs other ≡ install_place installs one → other ≡ one
one_stands installs one other below same =
    let step : Step = get_or installs (install_place installs one) (record { member = 0; needs = [] }) in
    let is = slice_get-get_or installs (install_place installs one) (record { member = 0; needs = [] }) below in
    sym (own_place installs other step (ap (slice_get installs) same ∙ is)) ∙ own_place installs one step is

pub job_set : (floor : FloorState) (id : ℕ) (job : Progress) → length floor.jobs ≡ length floor.plan.installs → install_place floor.plan.installs id < length floor.plan.installs → progress_of (with_job floor id job) id ≡ job
job_set floor id job counted below = get_or-set_same floor.jobs (install_place floor.plan.installs id) job Waiting (omega (arith, counted, below))

pub job_other : (floor : FloorState) (id other : ℕ) (job : Progress) → install_place floor.plan.installs id < length floor.plan.installs → other ≢ id → progress_of (with_job floor id job) other ≡ progress_of floor other
job_other floor id other job below apart =
    get_or-set_other floor.jobs (install_place floor.plan.installs id) (install_place floor.plan.installs other) job Waiting (λ same. apart (one_stands floor.plan.installs id other below same))

-- what was started, or has ended, stands among the installs
stands_by : (jobs : List Progress) (place : ℕ) → is_waiting (get_or jobs place Waiting) ≡ false → place < length jobs
stands_by [] place off = absurd cc
stands_by (job ∷ jobs) zero off = omega arith
stands_by (job ∷ jobs) (suc place) off = let rest = stands_by jobs place off in omega (arith, rest)

pub stands : (floor : FloorState) (id : ℕ) → length floor.jobs ≡ length floor.plan.installs → progress_of floor id ≡ Running → install_place floor.plan.installs id < length floor.plan.installs
stands floor id counted runs = omega (arith, counted, stands_by floor.jobs (install_place floor.plan.installs id) (ap is_waiting runs))

-- ---- the job that may be started

pub record IsNext (floor : FloorState) (id : ℕ) : Type 0 where
  pub may : MayStart floor id
  pub below : install_place floor.plan.installs id < length floor.plan.installs
  pub waits : progress_of floor id ≡ Waiting
  pub room : running floor.jobs < floor.workers
  pub step : Step
  pub is_step : slice_get floor.plan.installs (install_place floor.plan.installs id) ≡ Some step
  pub own : step.member ≡ id

waits_of : (job : Progress) → is_waiting job ≡ true → job ≡ Waiting
waits_of Waiting on = refl
waits_of Running on = absurd cc
waits_of (Ended fate) on = absurd cc

pub is_next : (floor : FloorState) (id : ℕ) → EachOnce floor.plan.installs → next_start floor ≡ Some id → IsNext floor id
is_next floor id once next =
    let P : Option ℕ → Type 0 = λ o. MatchOption o ((member : ℕ) → MayStart floor member → ⊥) (MayStart floor) in
    let may = subst P next (first_start_is_allowed floor once) in
    let ready = readied floor id may in
    record {
      may = may;
      below = slice_get_within floor.plan.installs (install_place floor.plan.installs id) ready.step ready.is_step;
      waits = waits_of (progress_of floor id) ready.waits;
      room = ready.room;
      step = ready.step;
      is_step = ready.is_step;
      own = own_place floor.plan.installs id ready.step ready.is_step;
    }

pub none_next : (floor : FloorState) → EachOnce floor.plan.installs → next_start floor ≡ None → (id : ℕ) → MayStart floor id → ⊥
none_next floor once none =
    let P : Option ℕ → Type 0 = λ o. MatchOption o ((member : ℕ) → MayStart floor member → ⊥) (MayStart floor) in
    subst P none (first_start_is_allowed floor once)

-- ---- how many run, and how many are still to end

pub runs_more : (floor : FloorState) (id : ℕ) → length floor.jobs ≡ length floor.plan.installs → install_place floor.plan.installs id < length floor.plan.installs → progress_of floor id ≡ Waiting
    → running (with_job floor id Running).jobs ≡ running floor.jobs + 1
runs_more floor id counted below waits =
    let at : ℕ = install_place floor.plan.installs id in
    let f : Progress → ℕ = λ job. cond (is_running job) 1 0 in
    omega (arith, sum_by-set f floor.jobs at Running Waiting (omega (arith, counted, below)), ap f waits)

pub runs_fewer : (floor : FloorState) (id : ℕ) (fate : Fate) → length floor.jobs ≡ length floor.plan.installs → progress_of floor id ≡ Running
    → running (with_job floor id (Ended fate)).jobs + 1 ≡ running floor.jobs
runs_fewer floor id fate counted runs =
    let at : ℕ = install_place floor.plan.installs id in
    let f : Progress → ℕ = λ job. cond (is_running job) 1 0 in
    omega (arith, sum_by-set f floor.jobs at (Ended fate) Waiting (omega (arith, counted, stands floor id counted runs)), ap f runs)

pub due_same : (floor : FloorState) (id : ℕ) → length floor.jobs ≡ length floor.plan.installs → install_place floor.plan.installs id < length floor.plan.installs → progress_of floor id ≡ Waiting
    → count_by yet_to_end (with_job floor id Running).jobs ≡ count_by yet_to_end floor.jobs
due_same floor id counted below waits =
    let at : ℕ = install_place floor.plan.installs id in
    let f : Progress → ℕ = λ job. cond (yet_to_end job) 1 0 in
    omega (arith, sum_by-set f floor.jobs at Running Waiting (omega (arith, counted, below)), ap f waits)

pub due_fewer : (floor : FloorState) (id : ℕ) (fate : Fate) → length floor.jobs ≡ length floor.plan.installs → progress_of floor id ≡ Running
    → count_by yet_to_end (with_job floor id (Ended fate)).jobs + 1 ≡ count_by yet_to_end floor.jobs
due_fewer floor id fate counted runs =
    let at : ℕ = install_place floor.plan.installs id in
    let f : Progress → ℕ = λ job. cond (yet_to_end job) 1 0 in
    omega (arith, sum_by-set f floor.jobs at (Ended fate) Waiting (omega (arith, counted, stands floor id counted runs)), ap f runs)
