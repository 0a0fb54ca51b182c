-- Which jobs were started, and what is installed then.
use Rattle.std.proofs.Common.{◌≡◌, ℕ, ◌+◌, ◌<◌, ◌≤◌, inl, inr, true, false, cond, List, [], ◌∷◌, length, get_or, set, replicate, sym, ap, refl, ◌∙◌, arith, subst, eqb, ltb, leb}
use Rattle.std.specs.Prelude.{IsSomeAnd, IsTrue, slice_get, count_by}
use Rattle.std.specs.List.{list_all}
use Rattle.std.specs.declared.option.Option.{Option}
use Rattle.std.specs.declared.option.Option.TheVariants.{None, Some}
use Rattle.std.proofs.lemmas.List.{length-set, get_or-set_same, get_or-set_other, set_past, length-replicate}
use Rattle.std.proofs.lemmas.List.Sums.{sum_by-cons, sum_by-set}
use Rattle.std.proofs.lemmas.List.Folds.{sum_by-replicate}
use Rattle.std.proofs.lemmas.Option.{slice_get_within}
use Rattle.std.proofs.lemmas.Bool.{and_parts, cases_Bool, cases_eq, cases_lt, eqb-true, true≢false, ltb-true, leb-true}
use Rattle.outside_io.specs.declared.workshop.Fate.{Fate}
use Rattle.action_graph.specs.declared.plan.Plan.{Plan}
use Rattle.action_graph.specs.declared.plan.Step.{Step}
use Rattle.change_floor.specs.declared.progress.Progress.{Progress}
use Rattle.change_floor.specs.declared.progress.Progress.TheVariants.{Waiting, Running, Ended}
use Rattle.change_floor.specs.Floors.{FloorState, has_installed, is_ready, is_running, is_waiting, progress_of, install_place, running}
use Rattle.change_floor.specs.Decisions.{Rule}
use Rattle.change_floor.specs.Machine.{FloorEvent, Starts, Ends, Turns, Leads, MayStart, Moment, moment_after, first_moment, floor_at, is_start_of}
use Rattle.change_floor.specs.FloorLaws.{StartsAreSingle, WorkersSuffice}
use Rattle.change_floor.proofs.Standing.{own_place}

-- how far the job at a place is
abbrev pub job_at : List Progress → ℕ → Progress
job_at jobs place = get_or jobs place Waiting

-- a job that may start
pub record Readied (floor : FloorState) (member : ℕ) : Type 0 where
  pub step : Step
  pub is_step : slice_get floor.plan.installs (install_place floor.plan.installs member) ≡ Some step
  pub waits : is_waiting (job_at floor.jobs (install_place floor.plan.installs member)) ≡ true
  pub met : list_all (has_installed floor.plan floor.decided) step.needs ≡ true
  pub removed : length floor.plan.removals ≤ length floor.decided
  pub room : running floor.jobs < floor.workers

some_of : {X : Type 0} (P : X → Type 0) (o : Option X) → IsSomeAnd o P → (x : X) × (o ≡ Some x) × P x
some_of P None is = absurd is
some_of P (Some x) is = (x, refl, is)

pub readied : (floor : FloorState) (member : ℕ) → MayStart floor member → Readied floor member
readied floor member may =
    let found = some_of (λ step. IsTrue (is_ready floor step)) (slice_get floor.plan.installs (install_place floor.plan.installs member)) may.1 in
    let step : Step = found.0 in
    let parts = and_parts (is_waiting (progress_of floor step.member)) (list_all (has_installed floor.plan floor.decided) step.needs) found.2 in
    let own = own_place floor.plan.installs member step found.1 in
    let P : ℕ → Type 0 = λ m. is_waiting (job_at floor.jobs (install_place floor.plan.installs m)) ≡ true in
    let room = and_parts (leb (length floor.plan.removals) (length floor.decided)) (ltb (running floor.jobs) floor.workers) may.0 in
    record {
      step = step;
      is_step = found.1;
      waits = subst P own parts.0;
      met = parts.1;
      removed = leb-true (length floor.plan.removals) (length floor.decided) room.0;
      room = ltb-true (running floor.jobs) floor.workers room.1;
    }

-- how many run after a job was started, and after one ended
running_started : (jobs : List Progress) (at : ℕ) → running (set jobs at Running) ≤ running jobs + 1
running_started jobs at = elim (cases_lt at (length jobs)) [
  | inl below ↦ omega (arith, sum_by-set (λ (job : Progress). cond (is_running job) 1 0) jobs at Running Waiting below)
  | inr past ↦ omega (arith, ap running (set_past jobs at Running past))
]

running_ended : (jobs : List Progress) (at : ℕ) (fate : Fate) → running (set jobs at (Ended fate)) ≤ running jobs
running_ended jobs at fate = elim (cases_lt at (length jobs)) [
  | inl below ↦ omega (arith, sum_by-set (λ (job : Progress). cond (is_running job) 1 0) jobs at (Ended fate) Waiting below)
  | inr past ↦ omega (arith, ap running (set_past jobs at (Ended fate) past))
]

few_on : (plan : Plan) (workers : ℕ) (rule : Rule) (events : List FloorEvent) (from to : Moment) → Leads plan workers rule from events to → running from.jobs ≤ workers → running to.jobs ≤ workers
few_on plan workers rule [] from to leads few = let P : Moment → Type 0 = λ m. running m.jobs ≤ workers in subst P (sym leads) few
few_on plan workers rule (Starts member ∷ events) from to leads few =
    let ready = readied (floor_at plan workers from) member leads.0 in
    few_on plan workers rule events (moment_after plan workers rule from (Starts member)) to leads.1 (omega (arith, ready.room, running_started from.jobs (install_place plan.installs member)))
few_on plan workers rule (Ends member fate ∷ events) from to leads few =
    few_on plan workers rule events (moment_after plan workers rule from (Ends member fate)) to leads.1 (omega (arith, few, running_ended from.jobs (install_place plan.installs member) fate))
few_on plan workers rule (Turns ∷ events) from to leads few = few_on plan workers rule events (moment_after plan workers rule from Turns) to leads.1 few

none_run : (n : ℕ) → running (replicate n Waiting) ≡ 0
none_run n = sum_by-replicate (λ (job : Progress). cond (is_running job) 1 0) n Waiting ∙ omega arith

pub workers_suffice : WorkersSuffice
workers_suffice plan workers rule events moment leads =
    few_on plan workers rule events (first_moment plan) moment leads (omega (arith, none_run (length plan.installs)))

-- a job that no longer waits never does again
stays_set : (jobs : List Progress) (at place : ℕ) (job : Progress) → is_waiting job ≡ false → is_waiting (job_at jobs place) ≡ false → is_waiting (job_at (set jobs at job) place) ≡ false
stays_set jobs at place job new old = elim (cases_eq place at) [
  | inl same ↦ elim (cases_lt at (length jobs)) [
    | inl below ↦
        (let P : ℕ → Type 0 = λ p. is_waiting (job_at (set jobs at job) p) ≡ false in
        subst P (sym same) (ap is_waiting (get_or-set_same jobs at job Waiting below) ∙ new))
    | inr past ↦ ap (λ js. is_waiting (job_at js place)) (set_past jobs at job past) ∙ old
  ]
  | inr apart ↦ ap is_waiting (get_or-set_other jobs at place job Waiting apart) ∙ old
]

stays : (plan : Plan) (workers : ℕ) (rule : Rule) (place : ℕ) (events : List FloorEvent) (from to : Moment) → Leads plan workers rule from events to → is_waiting (job_at from.jobs place) ≡ false
    → is_waiting (job_at to.jobs place) ≡ false
stays plan workers rule place [] from to leads off = let P : Moment → Type 0 = λ m. is_waiting (job_at m.jobs place) ≡ false in subst P (sym leads) off
stays plan workers rule place (Starts member ∷ events) from to leads off =
    stays plan workers rule place events (moment_after plan workers rule from (Starts member)) to leads.1 (stays_set from.jobs (install_place plan.installs member) place Running refl off)
stays plan workers rule place (Ends member fate ∷ events) from to leads off =
    stays plan workers rule place events (moment_after plan workers rule from (Ends member fate)) to leads.1 (stays_set from.jobs (install_place plan.installs member) place (Ended fate) refl off)
stays plan workers rule place (Turns ∷ events) from to leads off = stays plan workers rule place events (moment_after plan workers rule from Turns) to leads.1 off

-- a list of jobs keeps its length
pub counted_start : (plan : Plan) (from : Moment) (at : ℕ) (job : Progress) → length from.jobs ≡ length plan.installs → length (set from.jobs at job) ≡ length plan.installs
counted_start plan from at job counted = length-set from.jobs at job ∙ counted

-- a job that was started no longer waits
begins_to_run : (plan : Plan) (workers : ℕ) (from : Moment) (member : ℕ) → MayStart (floor_at plan workers from) member → length from.jobs ≡ length plan.installs
    → is_waiting (job_at (set from.jobs (install_place plan.installs member) Running) (install_place plan.installs member)) ≡ false
begins_to_run plan workers from member may counted =
    let ready = readied (floor_at plan workers from) member may in
    let below = slice_get_within plan.installs (install_place plan.installs member) ready.step ready.is_step in
    ap is_waiting (get_or-set_same from.jobs (install_place plan.installs member) Running Waiting (omega (arith, below, counted)))

count_start : (member : ℕ) (event : FloorEvent) (events : List FloorEvent) → count_by (is_start_of member) (event ∷ events) ≡ cond (is_start_of member event) 1 0 + count_by (is_start_of member) events
count_start member event events = sum_by-cons (λ (e : FloorEvent). cond (is_start_of member e) 1 0) event events

-- no job that does not wait is started
no_more_starts : (plan : Plan) (workers : ℕ) (rule : Rule) (member : ℕ) (events : List FloorEvent) (from to : Moment) → Leads plan workers rule from events to
    → is_waiting (job_at from.jobs (install_place plan.installs member)) ≡ false → count_by (is_start_of member) events ≡ 0
no_more_starts plan workers rule member [] from to leads off = refl
no_more_starts plan workers rule member (Starts other ∷ events) from to leads off =
    let ready = readied (floor_at plan workers from) other leads.0 in
    let rest = no_more_starts plan workers rule member events (moment_after plan workers rule from (Starts other)) to leads.1
    (stays_set from.jobs (install_place plan.installs other) (install_place plan.installs member) Running refl off) in
    elim (cases_Bool (eqb other member)) [
      | inl same ↦
          (let P : ℕ → Type 0 = λ m. is_waiting (job_at from.jobs (install_place plan.installs m)) ≡ true in
          absurd (true≢false (sym (subst P (eqb-true other member same) ready.waits) ∙ off)))
      | inr apart ↦ count_start member (Starts other) events ∙ ap (λ b. cond b 1 0 + count_by (is_start_of member) events) apart ∙ omega (arith, rest)
    ]
no_more_starts plan workers rule member (Ends other fate ∷ events) from to leads off =
    count_start member (Ends other fate) events ∙ omega (
      arith,
      no_more_starts plan workers rule member events (moment_after plan workers rule from (Ends other fate)) to leads.1
          (stays_set from.jobs (install_place plan.installs other) (install_place plan.installs member) (Ended fate) refl off),
    )
no_more_starts plan workers rule member (Turns ∷ events) from to leads off =
    count_start member Turns events ∙ omega (arith, no_more_starts plan workers rule member events (moment_after plan workers rule from Turns) to leads.1 off)

single_on : (plan : Plan) (workers : ℕ) (rule : Rule) (member : ℕ) (events : List FloorEvent) (from to : Moment) → Leads plan workers rule from events to
    → length from.jobs ≡ length plan.installs → count_by (is_start_of member) events ≤ 1
single_on plan workers rule member [] from to leads counted = omega arith
single_on plan workers rule member (Starts other ∷ events) from to leads counted =
    let next : Moment = moment_after plan workers rule from (Starts other) in
    elim (cases_Bool (eqb other member)) [
      | inl same ↦
          (let P : ℕ → Type 0 = λ m. is_waiting (job_at next.jobs (install_place plan.installs m)) ≡ false in
          let off = subst P (eqb-true other member same) (begins_to_run plan workers from other leads.0 counted) in
          let rest = no_more_starts plan workers rule member events next to leads.1 off in
          let e = count_start member (Starts other) events ∙ ap (λ b. cond b 1 0 + count_by (is_start_of member) events) same in
          omega (arith, e, rest))
      | inr apart ↦
          (let rest = single_on plan workers rule member events next to leads.1 (counted_start plan from (install_place plan.installs other) Running counted) in
          let e = count_start member (Starts other) events ∙ ap (λ b. cond b 1 0 + count_by (is_start_of member) events) apart in
          omega (arith, e, rest))
    ]
single_on plan workers rule member (Ends other fate ∷ events) from to leads counted =
    let e = count_start member (Ends other fate) events in
    omega (arith, e, single_on plan workers rule member events (moment_after plan workers rule from (Ends other fate)) to leads.1 (counted_start plan from (install_place plan.installs other) (Ended fate) counted))
single_on plan workers rule member (Turns ∷ events) from to leads counted =
    let e = count_start member Turns events in
    omega (arith, e, single_on plan workers rule member events (moment_after plan workers rule from Turns) to leads.1 counted)

pub starts_are_single : StartsAreSingle
starts_are_single plan workers rule events moment member leads =
    single_on plan workers rule member events (first_moment plan) moment leads (length-replicate (length plan.installs) Waiting)

-- a job that still waits at the end was not started
pub none_started : (plan : Plan) (workers : ℕ) (rule : Rule) (member : ℕ) (events : List FloorEvent) (from to : Moment) → Leads plan workers rule from events to
    → length from.jobs ≡ length plan.installs → is_waiting (job_at to.jobs (install_place plan.installs member)) ≡ true → count_by (is_start_of member) events ≡ 0
none_started plan workers rule member [] from to leads counted on = refl
none_started plan workers rule member (Starts other ∷ events) from to leads counted on =
    let next : Moment = moment_after plan workers rule from (Starts other) in
    elim (cases_Bool (eqb other member)) [
      | inl same ↦
          (let P : ℕ → Type 0 = λ m. is_waiting (job_at next.jobs (install_place plan.installs m)) ≡ false in
          let off = subst P (eqb-true other member same) (begins_to_run plan workers from other leads.0 counted) in
          absurd (true≢false (sym on ∙ stays plan workers rule (install_place plan.installs member) events next to leads.1 off)))
      | inr apart ↦
          (let rest = none_started plan workers rule member events next to leads.1 (counted_start plan from (install_place plan.installs other) Running counted) on in
          let e = count_start member (Starts other) events ∙ ap (λ b. cond b 1 0 + count_by (is_start_of member) events) apart in
          omega (arith, e, rest))
    ]
none_started plan workers rule member (Ends other fate ∷ events) from to leads counted on =
    let e = count_start member (Ends other fate) events in
    omega (arith, e, none_started plan workers rule member events (moment_after plan workers rule from (Ends other fate)) to leads.1 (counted_start plan from (install_place plan.installs other) (Ended fate) counted) on)
none_started plan workers rule member (Turns ∷ events) from to leads counted on =
    let e = count_start member Turns events in
    omega (arith, e, none_started plan workers rule member events (moment_after plan workers rule from Turns) to leads.1 counted on)
