-- Decisions, and ends.
use Rattle.std.proofs.Common.{◌≡◌, ℕ, ◌+◌, ◌≤◌, inl, inr, Bool, true, false, cond, List, [], ◌∷◌, length, get_or, set, sym, ap, refl, ◌∙◌, arith, subst, eqb, All}
use Rattle.std.specs.Prelude.{count_by}
use Rattle.std.specs.declared.option.Option.TheVariants.{Some}
use Rattle.std.proofs.lemmas.Bool.{cases_Bool, cases_eq, eqb-true, true≢false}
use Rattle.std.proofs.lemmas.List.{length-replicate, get_or-set_same, get_or-set_other}
use Rattle.std.proofs.lemmas.List.Elements.{All-head, All-tail}
use Rattle.std.proofs.lemmas.List.Sums.{sum_by-cons}
use Rattle.std.proofs.lemmas.Option.{slice_get-get_or}
use Rattle.opam_package.specs.declared.package.Member.{Member}
use Rattle.outside_io.specs.Shops.{Told}
use Rattle.outside_io.specs.declared.workshop.Fate.{Fate}
use Rattle.package_vars.specs.declared.facts.Facts.{Facts}
use Rattle.action_graph.specs.declared.plan.Plan.{Plan}
use Rattle.action_graph.specs.declared.plan.Step.{Step}
use Rattle.change_floor.specs.Decisions.{Rule, decided_next}
use Rattle.change_floor.specs.Floors.{FloorState, install_place, is_waiting, next_turn}
use Rattle.change_floor.specs.Machine.{Ends, EndsAsTold, FloorEvent, Leads, MayStart, Moment, Starts, Turns, first_moment, floor_at, moment_after}
use Rattle.change_floor.specs.declared.progress.Progress.{Progress}
use Rattle.change_floor.specs.declared.progress.Progress.TheVariants.{Waiting, Running, Ended}
use Rattle.change_floor.proofs.Standing.{own_place}
use Rattle.change_floor.proofs.Starting.{counted_start, job_at, readied}
use Rattle.change_jobs.specs.CourseLaws.{AreTheFates, DecisionsGoOn, EndsAreAsTold, EndsAreSingle, is_end_of}
use Rattle.change_jobs.specs.Courses.{EndIsTold}
use Rattle.change_jobs.specs.PackageJobs.{IsJobOf}
use Rattle.change_jobs.proofs.Abreasts.{abreast_of, decided, parts_of, parts_same}
use Rattle.change_jobs.proofs.Coursed.{course_decided, course_of, coursing_of, coursing_same}
use Rattle.change_jobs.proofs.Floored.{stands}

pub decisions_go_on : DecisionsGoOn
decisions_go_on members facts rule decisions before now crew is = record {
  abreast = λ abreast. abreast_of members facts now crew
      (parts_same members facts is.floor is.names (ap (λ (b : _). b.room) is.heard) refl refl refl
      (decided members facts before.floor before.names.items before.heard.room crew.size crew.running crew.events (rule decisions (next_turn before.floor)) (parts_of members facts before crew abreast)));
  course = λ course. course_of members facts rule (decided_next rule decisions (next_turn before.floor)) now crew
      (coursing_same members facts rule (decided_next rule decisions (next_turn before.floor)) is.floor (ap (λ (b : _). b.items) is.heard) refl refl
      (course_decided members facts rule decisions before.floor before.heard.items crew.told crew.events (coursing_of members facts rule decisions before crew course) is.may));
}

-- ---- fates

as_told_on : (members : List Member) (facts : Facts) (shop : Told) (plan : Plan) (workers : ℕ) (rule : Rule) (events : List FloorEvent) (from to : Moment) (fates : ℕ → Fate)
    → Leads plan workers rule from events to → length from.jobs ≡ length plan.installs → All (EndIsTold members facts (Some shop)) events → AreTheFates members facts shop plan fates → EndsAsTold plan fates events
as_told_on members facts shop plan workers rule [] from to fates leads counted told are = tt
as_told_on members facts shop plan workers rule (Starts member ∷ events) from to fates leads counted told are =
    as_told_on members facts shop plan workers rule events (moment_after plan workers rule from (Starts member)) to fates leads.1 (counted_start plan from (install_place plan.installs member) Running counted)
    (All-tail (EndIsTold members facts (Some shop)) (Starts member) events told) are
as_told_on members facts shop plan workers rule (Ends member fate ∷ events) from to fates leads counted told are =
    let here = All-head (EndIsTold members facts (Some shop)) (Ends member fate) events told in
    let below = stands (floor_at plan workers from) member counted leads.0 in
    let d : Step = record { member = member; needs = [] } in
    let step : Step = get_or plan.installs (install_place plan.installs member) d in
    let is = slice_get-get_or plan.installs (install_place plan.installs member) d below in
    let own = own_place plan.installs member step is in
    let job = subst (λ (m : ℕ). IsJobOf members facts m here.0) (sym own) here.1 in (
      here.2 shop refl ∙ sym (are (install_place plan.installs member) step here.0 is job),
      as_told_on members facts shop plan workers rule events (moment_after plan workers rule from (Ends member fate)) to fates leads.1 (counted_start plan from (install_place plan.installs member) (Ended fate) counted)
          (All-tail (EndIsTold members facts (Some shop)) (Ends member fate) events told) are,
    )
as_told_on members facts shop plan workers rule (Turns ∷ events) from to fates leads counted told are =
    as_told_on members facts shop plan workers rule events (moment_after plan workers rule from Turns) to fates leads.1 counted (All-tail (EndIsTold members facts (Some shop)) Turns events told) are

pub ends_are_as_told : EndsAreAsTold
ends_are_as_told members facts shop plan workers rule events moment fates leads told are =
    as_told_on members facts shop plan workers rule events (first_moment plan) moment fates leads (length-replicate (length plan.installs) Waiting) told are

-- ---- no job ends twice

-- a job that has ended
abbrev is_ended : Progress → Bool
is_ended Waiting = false
is_ended Running = false
is_ended (Ended fate) = true

-- an event at another place leaves it ended, and no event comes at its own
stays_ended : (jobs : List Progress) (at place : ℕ) (job : Progress) → is_ended (job_at jobs place) ≡ true → is_ended (job_at jobs at) ≡ false → is_ended (job_at (set jobs at job) place) ≡ true
stays_ended jobs at place job ended other = elim (cases_eq place at) [
  | inl same ↦ (let P : ℕ → Type 0 = λ p. is_ended (job_at jobs p) ≡ true in absurd (true≢false (sym (subst P same ended) ∙ other)))
  | inr apart ↦ ap is_ended (get_or-set_other jobs at place job Waiting apart) ∙ ended
]

waiting_not_ended : (job : Progress) → is_waiting job ≡ true → is_ended job ≡ false
waiting_not_ended Waiting on = refl
waiting_not_ended Running on = refl
waiting_not_ended (Ended fate) on = absurd cc

-- a job that may start has not ended
start_not_ended : (floor : FloorState) (member : ℕ) → MayStart floor member → is_ended (job_at floor.jobs (install_place floor.plan.installs member)) ≡ false
start_not_ended floor member may = waiting_not_ended (job_at floor.jobs (install_place floor.plan.installs member)) (readied floor member may).waits

count_end : (member : ℕ) (event : FloorEvent) (events : List FloorEvent) → count_by (is_end_of member) (event ∷ events) ≡ cond (is_end_of member event) 1 0 + count_by (is_end_of member) events
count_end member event events = sum_by-cons (λ (e : FloorEvent). cond (is_end_of member e) 1 0) event events

no_more_ends : (plan : Plan) (workers : ℕ) (rule : Rule) (member : ℕ) (events : List FloorEvent) (from to : Moment) → Leads plan workers rule from events to
    → is_ended (job_at from.jobs (install_place plan.installs member)) ≡ true → count_by (is_end_of member) events ≡ 0
no_more_ends plan workers rule member [] from to leads ended = refl
no_more_ends plan workers rule member (Starts other ∷ events) from to leads ended =
    let still = stays_ended from.jobs (install_place plan.installs other) (install_place plan.installs member) Running ended (start_not_ended (floor_at plan workers from) other leads.0) in
    count_end member (Starts other) events ∙ omega (arith, no_more_ends plan workers rule member events (moment_after plan workers rule from (Starts other)) to leads.1 still)
no_more_ends plan workers rule member (Ends other fate ∷ events) from to leads ended =
    let still = stays_ended from.jobs (install_place plan.installs other) (install_place plan.installs member) (Ended fate) ended (ap is_ended leads.0) in
    let rest = no_more_ends plan workers rule member events (moment_after plan workers rule from (Ends other fate)) to leads.1 still in
    elim (cases_Bool (eqb other member)) [
      | inl same ↦
          (let P : ℕ → Type 0 = λ m. job_at from.jobs (install_place plan.installs m) ≡ Running in
          absurd (true≢false (sym ended ∙ ap is_ended (subst P (eqb-true other member same) leads.0))))
      | inr apart ↦ count_end member (Ends other fate) events ∙ ap (λ b. cond b 1 0 + count_by (is_end_of member) events) apart ∙ omega (arith, rest)
    ]
no_more_ends plan workers rule member (Turns ∷ events) from to leads ended =
    count_end member Turns events ∙ omega (arith, no_more_ends plan workers rule member events (moment_after plan workers rule from Turns) to leads.1 ended)

single_on : (plan : Plan) (workers : ℕ) (rule : Rule) (member : ℕ) (events : List FloorEvent) (from to : Moment) → Leads plan workers rule from events to
    → length from.jobs ≡ length plan.installs → count_by (is_end_of member) events ≤ 1
single_on plan workers rule member [] from to leads counted = omega arith
single_on plan workers rule member (Starts other ∷ events) from to leads counted =
    let e = count_end member (Starts other) events in
    omega (arith, e, single_on plan workers rule member events (moment_after plan workers rule from (Starts other)) to leads.1 (counted_start plan from (install_place plan.installs other) Running counted))
single_on plan workers rule member (Ends other fate ∷ events) from to leads counted =
    let next : Moment = moment_after plan workers rule from (Ends other fate) in
    elim (cases_Bool (eqb other member)) [
      | inl same ↦
          (let P : ℕ → Type 0 = λ m. is_ended (job_at next.jobs (install_place plan.installs m)) ≡ true in
          let below = stands (floor_at plan workers from) other counted leads.0 in
          let over = subst P (eqb-true other member same) (ap is_ended (get_or-set_same from.jobs (install_place plan.installs other) (Ended fate) Waiting (omega (arith, below, counted)))) in
          let rest = no_more_ends plan workers rule member events next to leads.1 over in
          let e = count_end member (Ends other fate) events ∙ ap (λ b. cond b 1 0 + count_by (is_end_of member) events) same in
          omega (arith, e, rest))
      | inr apart ↦
          (let rest = single_on plan workers rule member events next to leads.1 (counted_start plan from (install_place plan.installs other) (Ended fate) counted) in
          let e = count_end member (Ends other fate) events ∙ ap (λ b. cond b 1 0 + count_by (is_end_of member) events) apart in
          omega (arith, e, rest))
    ]
single_on plan workers rule member (Turns ∷ events) from to leads counted =
    let e = count_end member Turns events in
    omega (arith, e, single_on plan workers rule member events (moment_after plan workers rule from Turns) to leads.1 counted)

pub ends_are_single : EndsAreSingle
ends_are_single plan workers rule events moment member leads =
    single_on plan workers rule member events (first_moment plan) moment leads (length-replicate (length plan.installs) Waiting)
