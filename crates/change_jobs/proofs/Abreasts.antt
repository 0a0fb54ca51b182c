-- A floor and a crew stay abreast.
use Rattle.std.proofs.Common.{◌≡◌, ◌≢◌, ℕ, zero, suc, ◌+◌, ◌<◌, ◌≤◌, inl, inr, cond, true, Bool, List, [], ◌∷◌, ◌++◌, length, get_or, set, replicate, sym, ap, refl, ◌∙◌, arith, subst, All, remove, slice_get}
use Rattle.std.specs.Prelude.{count_by}
use Rattle.std.specs.declared.option.Option.{Option}
use Rattle.std.specs.declared.option.Option.TheVariants.{Some}
use Rattle.std.proofs.lemmas.List.{length-replicate, length_push, length-set}
use Rattle.std.proofs.lemmas.List.Elements.{All-nil, All-push}
use Rattle.std.proofs.lemmas.List.Folds.{sum_by-replicate}
use Rattle.std.proofs.lemmas.Bool.{cases_eq, eq-eqb, ne_eqb, true≢false}
use Rattle.opam_names.specs.declared.packages.Pkg.{Pkg}
use Rattle.opam_package.specs.declared.package.Member.{Member}
use Rattle.outside_io.specs.declared.workshop.Fate.{Fate}
use Rattle.outside_io.specs.declared.workshop.Job.{Job}
use Rattle.package_vars.specs.declared.facts.Facts.{Facts}
use Rattle.action_graph.specs.declared.plan.Plan.{Plan}
use Rattle.child_pool.specs.Crews.{IsFresh, Running as Crewed}
use Rattle.child_pool.specs.declared.crew.Event.{Event}
use Rattle.child_pool.specs.declared.crew.Event.TheVariants.{Start, End}
use Rattle.change_floor.specs.Floors.{FloorState, floor_begun, install_place, is_running, progress_of, running, with_decision, with_job}
use Rattle.change_floor.specs.declared.progress.Progress.{Progress}
use Rattle.change_floor.specs.declared.progress.Progress.TheVariants.{Waiting, Running, Ended}
use Rattle.change_jobs.specs.Abreast.{IsAbreast, IsPlanOf, yet_to_end, all_names, member_pkg_at, times_running}
use Rattle.change_jobs.specs.Courses.{CrewState}
use Rattle.change_jobs.specs.PackageJobs.{IsJobOf}
use Rattle.change_jobs.specs.declared.jobs.Jobs.{Jobs}
use Rattle.change_jobs.proofs.Floored.{IsNext, due_fewer, due_same, job_other, job_set, runs_fewer, runs_more, stands}
use Rattle.change_jobs.proofs.Runners.{all_removed, is_it, shorter, times_push, times_removed, times_some}

-- the same over plain parts
pub record Parts (members : List Member) (facts : Facts) (floor : FloorState) (names : List (Option Pkg)) (room size : ℕ) (jobs : Crewed) (events : List Event) : Type 0 where
  pub plan : IsPlanOf members floor.plan
  pub some : 0 < floor.workers
  pub sized : size ≡ floor.workers
  pub counted : length floor.jobs ≡ length floor.plan.installs
  pub many : length jobs ≡ running floor.jobs
  pub each : (place : ℕ) → times_running place jobs ≡ cond (is_running (progress_of floor place)) 1 0
  pub own : All (λ one. IsJobOf members facts one.0 one.1) jobs
  pub fresh : (place : ℕ) → progress_of floor place ≡ Waiting → IsFresh place events
  pub roomy : count_by yet_to_end floor.jobs ≤ room
  pub named : (place : ℕ) → place < length members → yet_to_end (progress_of floor place) ≡ true → slice_get names place ≡ Some (member_pkg_at members place)

abbrev pub PartsOf : List Member → Facts → Jobs → CrewState → Type 0
PartsOf members facts jobs crew = Parts members facts jobs.floor jobs.names.items jobs.heard.room crew.size crew.running crew.events

pub parts_of : (members : List Member) (facts : Facts) (jobs : Jobs) (crew : CrewState) → IsAbreast members facts jobs crew → PartsOf members facts jobs crew
parts_of members facts jobs crew is = record {
  plan = is.plan;
  some = is.some;
  sized = is.size;
  counted = is.counted;
  many = is.many;
  each = is.each;
  own = is.own;
  fresh = is.fresh;
  roomy = is.hears.room;
  named = is.hears.named;
}

pub abreast_of : (members : List Member) (facts : Facts) (jobs : Jobs) (crew : CrewState) → PartsOf members facts jobs crew → IsAbreast members facts jobs crew
abreast_of members facts jobs crew is = record {
  plan = is.plan;
  some = is.some;
  size = is.sized;
  counted = is.counted;
  many = is.many;
  each = is.each;
  own = is.own;
  fresh = is.fresh;
  hears = record { room = is.roomy; named = is.named };
}

pub parts_same : (members : List Member) (facts : Facts) {floor floor' : FloorState} {names names' : List (Option Pkg)} {room room' size size' : ℕ} {jobs jobs' : Crewed} {events events' : List Event}
    → floor' ≡ floor → names' ≡ names → room' ≡ room → size' ≡ size → jobs' ≡ jobs → events' ≡ events
    → Parts members facts floor names room size jobs events → Parts members facts floor' names' room' size' jobs' events'
parts_same members facts {floor} {floor'} {names} {names'} {room} {room'} {size} {size'} {jobs} {jobs'} {events} {events'} a b c d e f parts =
    subst (λ (x : FloorState). Parts members facts x names' room' size' jobs' events') (sym a)
    (subst (λ (x : List (Option Pkg)). Parts members facts floor x room' size' jobs' events') (sym b)
    (subst (λ (x : ℕ). Parts members facts floor names x size' jobs' events') (sym c)
    (subst (λ (x : ℕ). Parts members facts floor names room x jobs' events') (sym d)
    (subst (λ (x : Crewed). Parts members facts floor names room size x events') (sym e)
    (subst (λ (x : List Event). Parts members facts floor names room size jobs x) (sym f) parts)))))

-- ---- a start

other_start : (id place : ℕ) → place ≢ id → Start id ≢ Start place
other_start id place apart same = apart (let e : id ≡ place = cc in sym e)

pub started : (members : List Member) (facts : Facts) (floor : FloorState) (names : List (Option Pkg)) (room size : ℕ) (jobs : Crewed) (events : List Event) (id : ℕ) (job : Job)
    → Parts members facts floor names room size jobs events → IsNext floor id → IsJobOf members facts id job
    → Parts members facts (with_job floor id Running) names room size (jobs ++ (id, job) ∷ []) (events ++ Start id ∷ [])
started members facts floor names room size jobs events id job parts next is =
    let here = job_set floor id Running parts.counted next.below in
    record {
      plan = parts.plan;
      some = parts.some;
      sized = parts.sized;
      counted = length-set floor.jobs (install_place floor.plan.installs id) Running ∙ parts.counted;
      many = omega (arith, length_push jobs (id, job), parts.many, runs_more floor id parts.counted next.below next.waits);
      each = λ place. elim (cases_eq place id) [
        | inl same ↦
            (let P : ℕ → Type 0 = λ p. times_running p (jobs ++ (id, job) ∷ []) ≡ cond (is_running (progress_of (with_job floor id Running) p)) 1 0 in
            let none = parts.each id ∙ ap (λ j. cond (is_running j) 1 0) next.waits in
            let one : is_it id (id, job) ≡ 1 = ap (λ b. cond b 1 0) (eq-eqb id id refl) in
            let count : times_running id (jobs ++ (id, job) ∷ []) ≡ 1 = omega (arith, times_push id jobs (id, job), none, one) in
            subst P (sym same) (count ∙ sym (ap (λ j. cond (is_running j) 1 0) here)))
        | inr apart ↦
            (let none : is_it place (id, job) ≡ 0 = ap (λ b. cond b 1 0) (ne_eqb id place (λ same. apart (sym same))) in
            let count : times_running place (jobs ++ (id, job) ∷ []) ≡ times_running place jobs = omega (arith, times_push place jobs (id, job), none) in
            count ∙ parts.each place ∙ sym (ap (λ j. cond (is_running j) 1 0) (job_other floor id place Running next.below apart)))
      ];
      own = All-push (λ one. IsJobOf members facts one.0 one.1) jobs (id, job) parts.own is;
      fresh = λ place waits. elim (cases_eq place id) [
        | inl same ↦
            (let P : ℕ → Type 0 = λ p. progress_of (with_job floor id Running) p ≡ Waiting in
            let both : Running ≡ Waiting = sym here ∙ subst P same waits in
            absurd (true≢false (ap is_running both)))
        | inr apart ↦ All-push (λ event. event ≢ Start place) events (Start id) (parts.fresh place (sym (job_other floor id place Running next.below apart) ∙ waits)) (other_start id place apart)
      ];
      roomy = omega (arith, parts.roomy, due_same floor id parts.counted next.below next.waits);
      named = λ place within due. elim (cases_eq place id) [
        | inl same ↦
            (let P : ℕ → Type 0 = λ p. slice_get names p ≡ Some (member_pkg_at members p) in
            let Q : ℕ → Type 0 = λ p. p < length members in
            subst P (sym same) (parts.named id (subst Q same within) (ap yet_to_end next.waits)))
        | inr apart ↦ parts.named place within (ap yet_to_end (sym (job_other floor id place Running next.below apart)) ∙ due)
      ];
    }

-- ---- an end

runs_of : (job : Progress) → 0 < cond (is_running job) 1 0 → job ≡ Running
runs_of Waiting some = absurd (omega (arith, some))
runs_of Running some = refl
runs_of (Ended fate) some = absurd (omega (arith, some))

-- a job that the crew runs runs by the floor
pub runs_too : (members : List Member) (facts : Facts) (floor : FloorState) (names : List (Option Pkg)) (room size : ℕ) (jobs : Crewed) (events : List Event) (at : ℕ) (one : ℕ × Job)
    → Parts members facts floor names room size jobs events → slice_get jobs at ≡ Some one → progress_of floor one.0 ≡ Running
runs_too members facts floor names room size jobs events at one parts is =
    runs_of (progress_of floor one.0) (omega (arith, parts.each one.0, times_some jobs at one is))

-- what stands at other places is left
pub get_other : {X : Type 0} (xs : List X) (i j : ℕ) (x : X) → j ≢ i → slice_get (set xs i x) j ≡ slice_get xs j
get_other [] i j x apart = refl
get_other (y ∷ xs) zero zero x apart = absurd (apart refl)
get_other (y ∷ xs) zero (suc j) x apart = refl
get_other (y ∷ xs) (suc i) zero x apart = refl
get_other (y ∷ xs) (suc i) (suc j) x apart = get_other xs i j x (λ same. apart (ap suc same))

end_no_start : (id place : ℕ) → End id ≢ Start place
end_no_start id place same = cc

pub ended : (members : List Member) (facts : Facts) (floor : FloorState) (names now : List (Option Pkg)) (room less size : ℕ) (jobs : Crewed) (events : List Event) (at : ℕ) (one : ℕ × Job) (fate : Fate)
    → Parts members facts floor names room size jobs events → slice_get jobs at ≡ Some one → room ≤ less + 1 → ((place : ℕ) → place ≢ one.0 → slice_get now place ≡ slice_get names place)
    → Parts members facts (with_job floor one.0 (Ended fate)) now less size (remove jobs at) (events ++ End one.0 ∷ [])
ended members facts floor names now room less size jobs events at one fate parts is fewer left =
    let id : ℕ = one.0 in
    let runs = runs_too members facts floor names room size jobs events at one parts is in
    let below = stands floor id parts.counted runs in
    let here = job_set floor id (Ended fate) parts.counted below in
    record {
      plan = parts.plan;
      some = parts.some;
      sized = parts.sized;
      counted = length-set floor.jobs (install_place floor.plan.installs id) (Ended fate) ∙ parts.counted;
      many = omega (arith, shorter jobs at one is, parts.many, runs_fewer floor id fate parts.counted runs);
      each = λ place. elim (cases_eq place id) [
        | inl same ↦
            (let P : ℕ → Type 0 = λ p. times_running p (remove jobs at) ≡ cond (is_running (progress_of (with_job floor id (Ended fate)) p)) 1 0 in
            let was = parts.each id ∙ ap (λ j. cond (is_running j) 1 0) runs in
            let own : is_it id one ≡ 1 = ap (λ b. cond b 1 0) (eq-eqb id id refl) in
            let count : times_running id (remove jobs at) ≡ 0 = omega (arith, times_removed id jobs at one is, was, own) in
            subst P (sym same) (count ∙ sym (ap (λ j. cond (is_running j) 1 0) here)))
        | inr apart ↦
            (let none : is_it place one ≡ 0 = ap (λ b. cond b 1 0) (ne_eqb id place (λ same. apart (sym same))) in
            let count : times_running place (remove jobs at) ≡ times_running place jobs = omega (arith, times_removed place jobs at one is, none) in
            count ∙ parts.each place ∙ sym (ap (λ j. cond (is_running j) 1 0) (job_other floor id place (Ended fate) below apart)))
      ];
      own = all_removed (λ o. IsJobOf members facts o.0 o.1) jobs at parts.own;
      fresh = λ place waits. All-push (λ event. event ≢ Start place) events (End id) (elim (cases_eq place id) [
        | inl same ↦
            (let P : ℕ → Type 0 = λ p. progress_of (with_job floor id (Ended fate)) p ≡ Waiting in
            let both : Ended fate ≡ Waiting = sym here ∙ subst P same waits in
            absurd (true≢false (sym (ap yet_to_end both))))
        | inr apart ↦ parts.fresh place (sym (job_other floor id place (Ended fate) below apart) ∙ waits)
      ]) (end_no_start id place);
      roomy = omega (arith, parts.roomy, fewer, due_fewer floor id fate parts.counted runs);
      named = λ place within due. elim (cases_eq place id) [
        | inl same ↦
            (let P : ℕ → Type 0 = λ p. yet_to_end (progress_of (with_job floor id (Ended fate)) p) ≡ true in
            absurd (true≢false (sym (subst P same due) ∙ ap yet_to_end here)))
        | inr apart ↦ left place apart ∙ parts.named place within (ap yet_to_end (sym (job_other floor id place (Ended fate) below apart)) ∙ due)
      ];
    }

-- ---- a decision

pub decided : (members : List Member) (facts : Facts) (floor : FloorState) (names : List (Option Pkg)) (room size : ℕ) (jobs : Crewed) (events : List Event) (done : Bool)
    → Parts members facts floor names room size jobs events → Parts members facts (with_decision floor done) names room size jobs events
decided members facts floor names room size jobs events done parts = record {
  plan = parts.plan;
  some = parts.some;
  sized = parts.sized;
  counted = parts.counted;
  many = parts.many;
  each = parts.each;
  own = parts.own;
  fresh = parts.fresh;
  roomy = parts.roomy;
  named = parts.named;
}

-- ---- before all

waits_first : (plan : Plan) (workers place : ℕ) → progress_of (floor_begun plan workers) place ≡ Waiting
waits_first plan workers place = at (length plan.installs) (install_place plan.installs place)
  where
    at : (n i : ℕ) → get_or (replicate n Waiting) i Waiting ≡ Waiting
    at zero i = refl
    at (suc n) zero = refl
    at (suc n) (suc i) = at n i

named_first : (members : List Member) (place : ℕ) → place < length members → slice_get (all_names members) place ≡ Some (member_pkg_at members place)
named_first [] place within = absurd (omega (arith, within))
named_first (member ∷ members) zero within = refl
named_first (member ∷ members) (suc place) within = named_first members place (omega (arith, within))

pub begun : (members : List Member) (facts : Facts) (plan : Plan) (room size : ℕ) → IsPlanOf members plan → 0 < size → length plan.installs ≤ room
    → Parts members facts (floor_begun plan size) (all_names members) room size [] []
begun members facts plan room size is some roomy =
    record {
      plan = is;
      some = some;
      sized = refl;
      counted = length-replicate (length plan.installs) Waiting;
      many = sym (sum_by-replicate (λ (job : Progress). cond (is_running job) 1 0) (length plan.installs) Waiting ∙ omega arith);
      each = λ place. sym (ap (λ j. cond (is_running j) 1 0) (waits_first plan size place));
      own = All-nil (λ one. IsJobOf members facts one.0 one.1);
      fresh = λ place waits. All-nil (λ event. event ≢ Start place);
      roomy = omega (arith, roomy, sum_by-replicate (λ (job : Progress). cond (yet_to_end job) 1 0) (length plan.installs) Waiting);
      named = λ place within due. named_first members place within;
    }

pub abreast_begun : (members : List Member) (facts : Facts) (plan : Plan) (jobs : Jobs) (crew : CrewState) → IsPlanOf members plan → 0 < crew.size → crew.running ≡ [] → crew.events ≡ []
    → jobs.floor ≡ floor_begun plan crew.size → jobs.names.items ≡ all_names members → length plan.installs ≤ jobs.heard.room → IsAbreast members facts jobs crew
abreast_begun members facts plan jobs crew is some idle unused floor names room =
    abreast_of members facts jobs crew (parts_same members facts floor names refl refl idle unused (begun members facts plan jobs.heard.room crew.size is some room))
