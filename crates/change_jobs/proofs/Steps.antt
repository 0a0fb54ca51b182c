-- What a start and an end make of floor, crew and course, as the calls tell it.
use Rattle.std.proofs.Common.{◌≡◌, ◌≢◌, ℕ, suc, ◌+◌, ◌-◌, ◌^◌, ◌<◌, ◌≤◌, Bool, true, false, cond, List, [], ◌∷◌, ◌++◌, length, set, ap, refl, ◌∙◌, arith, subst, slice_get}
use Rattle.std.specs.Prelude.{Result, Ok, IfOk, filter, map}
use Rattle.std.specs.declared.option.Option.TheVariants.{None, Some}
use Rattle.std.proofs.lemmas.List.{length-map}
use Rattle.opam_names.specs.declared.fault.OutOfMemory.{OutOfMemory}
use Rattle.opam_filter.specs.Variables.{Values}
use Rattle.opam_package.specs.declared.package.Command.{Command}
use Rattle.opam_package.specs.declared.package.Member.{Member}
use Rattle.outside_io.specs.declared.workshop.Fate.{Fate}
use Rattle.outside_io.specs.declared.workshop.Job.{Job}
use Rattle.package_vars.specs.declared.facts.Facts.{Facts}
use Rattle.action_graph.specs.declared.plan.Step.{Step}
use Rattle.build_env.specs.Environments.{variables_for}
use Rattle.build_env.specs.JobNames.{asked_by_job}
use Rattle.build_env.specs.Jobs.{build_job, is_started, is_taken, job_commands, words_of}
use Rattle.child_pool.specs.Crews.{IsFresh, TakesOne, TellsFate}
use Rattle.child_pool.specs.declared.crew.Event.TheVariants.{Start}
use Rattle.change_floor.specs.Decisions.{Decision, Rule}
use Rattle.change_floor.specs.Floors.{next_start, next_turn, progress_of, with_job}
use Rattle.change_floor.specs.declared.progress.Progress.TheVariants.{Running, Ended}
use Rattle.change_floor.specs.declared.turn.Turn.TheVariants.{Wait}
use Rattle.change_jobs.specs.Abreast.{IsAbreast}
use Rattle.change_jobs.specs.Courses.{CrewState, IsCourse}
use Rattle.change_jobs.specs.Hearing.{HearsName}
use Rattle.change_jobs.specs.PackageJobs.{AreShort, IsJobOf, exports_in}
use Rattle.change_jobs.specs.declared.jobs.Jobs.{Jobs}
use Rattle.change_jobs.proofs.Abreasts.{abreast_of, ended, get_other, parts_of, parts_same, runs_too, started}
use Rattle.change_jobs.proofs.Coursed.{course_ended, course_of, course_started, coursing_of, coursing_same}
use Rattle.change_jobs.proofs.Floored.{is_next, none_next}
use Rattle.change_jobs.proofs.Lately.{can_hear, none_late}
use Rattle.change_jobs.proofs.Runners.{all_at}
use Rattle.change_jobs.proofs.Waits.{some_jobs_run, wait_is_none}

-- ---- a start

module _ (members : List Member) (facts : Facts) (here : Jobs) (crew : CrewState) (is : IsAbreast members facts here crew) (id : ℕ) (next : next_start here.floor ≡ Some id) where
  pub next_within : id < length members
  next_within =
      let it = is_next here.floor id is.plan.once next in
      let P : ℕ → Type 0 = λ n. n < length members in
      subst P it.own (all_at (λ (step : Step). step.member < length members) here.floor.plan.installs _ it.step is.plan.within it.is_step)

  pub next_room : length crew.running < crew.size
  next_room = let it = is_next here.floor id is.plan.once next in omega (arith, it.room, is.many, is.size)

  pub next_fresh : IsFresh id crew.events
  next_fresh = is.fresh id (is_next here.floor id is.plan.once next).waits

pub start_abreast : (members : List Member) (facts : Facts) (here now : Jobs) (crew after : CrewState) (id : ℕ) (job : Job) → next_start here.floor ≡ Some id → IsJobOf members facts id job
    → now.floor ≡ with_job here.floor id Running → now.names.items ≡ here.names.items → now.heard ≡ here.heard → after.size ≡ crew.size → after.running ≡ crew.running ++ (id, job) ∷ [] → after.events ≡ crew.events ++ Start id ∷ []
    → IsAbreast members facts here crew → IsAbreast members facts now after
start_abreast members facts here now crew after id job next own floor names heard size running events is =
    abreast_of members facts now after (parts_same members facts floor names (ap (λ (b : _). b.room) heard) size running events
    (started members facts here.floor here.names.items here.heard.room crew.size crew.running crew.events id job (parts_of members facts here crew is) (is_next here.floor id is.plan.once next) own))

pub start_course : (members : List Member) (facts : Facts) (rule : Rule) (decisions : List Decision) (here now : Jobs) (crew after : CrewState) (id : ℕ) → next_start here.floor ≡ Some id → next_turn here.floor ≡ Wait
    → now.floor ≡ with_job here.floor id Running → now.heard ≡ here.heard → after.told ≡ crew.told → after.events ≡ crew.events ++ Start id ∷ []
    → IsAbreast members facts here crew → IsCourse members facts rule decisions here crew → IsCourse members facts rule decisions now after
start_course members facts rule decisions here now crew after id next wait floor heard told events is course =
    course_of members facts rule decisions now after (coursing_same members facts rule decisions floor (ap (λ (b : _). b.items) heard) told events
    (course_started members facts rule decisions here.floor here.heard.items crew.told crew.events id (coursing_of members facts rule decisions here crew course) (is_next here.floor id is.plan.once next) (wait_is_none here.floor wait)))

-- ---- an end

pub busy : (members : List Member) (facts : Facts) (here : Jobs) (crew : CrewState) → IsAbreast members facts here crew → next_turn here.floor ≡ Wait → next_start here.floor ≡ None → crew.running ≢ []
busy members facts here crew is wait none idle =
    let empty : length crew.running ≡ 0 = ap length idle in
    omega (arith, empty, is.many, some_jobs_run here.floor is.plan.once is.some none wait)

pub ran_too : (members : List Member) (facts : Facts) (here : Jobs) (crew after : CrewState) (result : Result (ℕ × Fate) OutOfMemory) (id : ℕ) (fate : Fate)
    → TakesOne crew.told crew.running after.running crew.events after.events result → result ≡ Ok (id, fate) → IsAbreast members facts here crew → progress_of here.floor id ≡ Running
ran_too members facts here crew after result id fate takes got is =
    let it = takes.1 in
    let known = subst (λ (r : Result (ℕ × Fate) OutOfMemory). IfOk r (λ a. a.0 ≡ it.id)) got it.number in
    ap (progress_of here.floor) known ∙ runs_too members facts here.floor here.names.items here.heard.room crew.size crew.running crew.events takes.0 (it.id, it.job) (parts_of members facts here crew is) it.ran

module _ (members : List Member) (facts : Facts) (here now : Jobs) (crew after : CrewState) (result : Result (ℕ × Fate) OutOfMemory) (id : ℕ) (fate : Fate)
    (takes : TakesOne crew.told crew.running after.running crew.events after.events result) (got : result ≡ Ok (id, fate)) (size : after.size ≡ crew.size) (shop : after.told ≡ crew.told)
    (floor : now.floor ≡ with_job here.floor id (Ended fate)) (room : now.heard.room + 1 ≡ here.heard.room) (names : now.names.items ≡ set here.names.items id None)
    (hears : HearsName here.names.items id fate here.heard.items now.heard.items) (is : IsAbreast members facts here crew) where
  one : ℕ × Job
  one = (takes.1.id, takes.1.job)

  known : id ≡ takes.1.id
  known = subst (λ (r : Result (ℕ × Fate) OutOfMemory). IfOk r (λ a. a.0 ≡ takes.1.id)) got takes.1.number

  told : TellsFate crew.told takes.1.job fate
  told = subst (λ (r : Result (ℕ × Fate) OutOfMemory). IfOk r (λ a. TellsFate crew.told takes.1.job a.1)) got takes.1.fate

  there : now.floor ≡ with_job here.floor takes.1.id (Ended fate)
  there = floor ∙ ap (λ (n : ℕ). with_job here.floor n (Ended fate)) known

  pub end_abreast : IsAbreast members facts now after
  end_abreast =
      let left : (place : ℕ) → place ≢ takes.1.id → slice_get now.names.items place ≡ slice_get here.names.items place =
      λ place apart. ap (λ (l : List _). slice_get l place) names ∙ get_other here.names.items id place None (λ same. apart (same ∙ known)) in
      abreast_of members facts now after (parts_same members facts there refl refl size takes.1.left takes.1.ended
      (ended members facts here.floor here.names.items now.names.items here.heard.room now.heard.room crew.size crew.running crew.events takes.0 (takes.1.id, takes.1.job) fate (parts_of members facts here crew is) takes.1.ran (omega (arith, room)) left))

  pub end_course : (rule : Rule) (decisions : List Decision) → next_turn here.floor ≡ Wait → next_start here.floor ≡ None → IsCourse members facts rule decisions here crew → IsCourse members facts rule decisions now after
  end_course rule decisions wait none course =
      let parts = parts_of members facts here crew is in
      let own : IsJobOf members facts takes.1.id takes.1.job = all_at (λ o. IsJobOf members facts o.0 o.1) crew.running takes.0 (takes.1.id, takes.1.job) parts.own takes.1.ran in
      let runs = runs_too members facts here.floor here.names.items here.heard.room crew.size crew.running crew.events takes.0 (takes.1.id, takes.1.job) parts takes.1.ran in
      let can = can_hear members facts here here crew crew (Ok tt) takes.0 (takes.1.id, takes.1.job) (none_late members facts here crew (Ok tt) is) takes.1.ran in
      let heard = hears own.built.package.pkg (ap (slice_get here.names.items) known ∙ can.1 own) in
      course_of members facts rule decisions now after (coursing_same members facts rule decisions there heard shop takes.1.ended
      (course_ended members facts rule decisions here.floor here.heard.items crew.told crew.events takes.1.id fate takes.1.job (coursing_of members facts rule decisions here crew course) runs
      (wait_is_none here.floor wait) (none_next here.floor is.plan.once none) own told))

-- ---- the steps of a job

fewer : {X : Type 0} (test : X → Bool) (xs : List X) → length (filter test xs) ≤ length xs
fewer test [] = omega arith
fewer test (x ∷ xs) = by (test x) (fewer test xs)
  where
    by : (b : Bool) → length (filter test xs) ≤ length xs → length (cond b (x ∷ filter test xs) (filter test xs)) ≤ suc (length xs)
    by true less = omega (arith, less)
    by false less = omega (arith, less)

pub short_job : (members : List Member) (facts : Facts) (id : ℕ) (job : Job) → AreShort members → IsJobOf members facts id job → length job.commands < 2 ^ 32 - 1
short_job members facts id job short own =
    let built = own.built in
    let here = all_at (λ (member : Member). length member.package.commands < 2 ^ 32 - 1) members id built short own.stands in
    let same : length job.commands ≡ length (build_job built.package (record { members = own.view }) (exports_in members own.view) facts).commands = ap (λ (j : Job). length j.commands) own.made in
    omega (arith, here, same, few_commands (variables_for facts (record { members = own.view }) (asked_by_job built.package (exports_in members own.view)) built.package.pkg) built.package.commands)
  where
    few_commands : (values : Values) (commands : List Command) → length (job_commands values commands) ≤ length commands
    few_commands values commands =
        let chosen : List Command = filter (λ command. is_taken values command.filter) commands in
        let made : List (List (List ℕ)) = map (λ command. words_of values command.args) chosen in
        omega (arith, fewer is_started made, length-map chosen (λ (command : Command). words_of values command.args), fewer (λ (command : Command). is_taken values command.filter) commands)
