-- The course of a change goes on.
use Rattle.std.proofs.Common.{◌≡◌, ℕ, List, [], ◌∷◌, ◌++◌, sym, ap, refl, ◌∙◌, subst, All, slice_get, append-nil}
use Rattle.std.specs.Prelude.{Bool}
use Rattle.std.specs.declared.option.Option.{Option}
use Rattle.std.specs.declared.option.Option.TheVariants.{Some}
use Rattle.std.proofs.lemmas.List.{map_push}
use Rattle.std.proofs.lemmas.List.Concat.{flat_map-append}
use Rattle.std.proofs.lemmas.List.Elements.{All-nil, All-push}
use Rattle.opam_package.specs.declared.package.Member.{Member}
use Rattle.outside_io.specs.Shops.{Told}
use Rattle.outside_io.specs.declared.workshop.Fate.{Fate}
use Rattle.outside_io.specs.declared.workshop.Job.{Job}
use Rattle.package_vars.specs.declared.facts.Facts.{Facts}
use Rattle.action_graph.specs.declared.plan.Plan.{Plan}
use Rattle.child_pool.specs.Crews.{TellsFate}
use Rattle.child_pool.specs.declared.crew.Event.{Event}
use Rattle.child_pool.specs.declared.crew.Event.TheVariants.{Start, End}
use Rattle.change_floor.specs.Decisions.{Decision, Rule, decided_next, done_in}
use Rattle.change_floor.specs.FloorLaws.{FromBeginning}
use Rattle.change_floor.specs.Floors.{FloorState, IsDecidable, floor_begun, next_turn, progress_of, with_decision, with_job}
use Rattle.change_floor.specs.Machine.{Ends, FloorEvent, IsAllowed, Leads, MayStart, Moment, Starts, Turns, first_moment, floor_at, moment_after}
use Rattle.change_floor.specs.declared.progress.Progress.TheVariants.{Running, Ended}
use Rattle.change_floor.specs.declared.turn.Turn.{Turn}
use Rattle.change_jobs.specs.Courses.{AreInTime, CrewState, IsCourse, IsInTime, EndIsTold, crew_event, crew_events, heard_in, heard_of, heard_with, moment_of}
use Rattle.change_jobs.specs.PackageJobs.{IsJobOf}
use Rattle.change_jobs.specs.declared.jobs.Heard.{Heard}
use Rattle.change_jobs.specs.declared.jobs.Jobs.{Jobs}
use Rattle.change_jobs.proofs.Floored.{IsNext}

-- the same over plain parts
pub record Coursing (members : List Member) (facts : Facts) (rule : Rule) (decisions : List Decision) (floor : FloorState) (heard : List Heard) (shop : Option Told) (events : List Event) : Type 0 where
  pub course : List FloorEvent
  pub leads : FromBeginning floor.plan floor.workers rule course (moment_of decisions floor)
  pub decided : floor.decided ≡ done_in decisions
  pub in_time : AreInTime floor.plan floor.workers rule (first_moment floor.plan) course
  pub told : All (EndIsTold members facts shop) course
  pub had : events ≡ crew_events course
  pub known : heard ≡ heard_in members course

abbrev pub CoursingOf : List Member → Facts → Rule → List Decision → Jobs → CrewState → Type 0
CoursingOf members facts rule decisions jobs crew = Coursing members facts rule decisions jobs.floor jobs.heard.items crew.told crew.events

pub coursing_of : (members : List Member) (facts : Facts) (rule : Rule) (decisions : List Decision) (jobs : Jobs) (crew : CrewState) → IsCourse members facts rule decisions jobs crew → CoursingOf members facts rule decisions jobs crew
coursing_of members facts rule decisions jobs crew is = record {
  course = is.course;
  leads = is.leads;
  decided = is.decided;
  in_time = is.in_time;
  told = is.told;
  had = is.events;
  known = is.heard;
}

pub course_of : (members : List Member) (facts : Facts) (rule : Rule) (decisions : List Decision) (jobs : Jobs) (crew : CrewState) → CoursingOf members facts rule decisions jobs crew → IsCourse members facts rule decisions jobs crew
course_of members facts rule decisions jobs crew is = record {
  course = is.course;
  leads = is.leads;
  decided = is.decided;
  in_time = is.in_time;
  told = is.told;
  events = is.had;
  heard = is.known;
}

pub coursing_same : (members : List Member) (facts : Facts) (rule : Rule) (decisions : List Decision) {floor floor' : FloorState} {heard heard' : List Heard} {shop shop' : Option Told} {events events' : List Event}
    → floor' ≡ floor → heard' ≡ heard → shop' ≡ shop → events' ≡ events → Coursing members facts rule decisions floor heard shop events → Coursing members facts rule decisions floor' heard' shop' events'
coursing_same members facts rule decisions {floor} {floor'} {heard} {heard'} {shop} {shop'} {events} {events'} a b c d is =
    subst (λ (x : FloorState). Coursing members facts rule decisions x heard' shop' events') (sym a)
    (subst (λ (x : List Heard). Coursing members facts rule decisions floor x shop' events') (sym b)
    (subst (λ (x : Option Told). Coursing members facts rule decisions floor heard x events') (sym c)
    (subst (λ (x : List Event). Coursing members facts rule decisions floor heard shop x) (sym d) is)))

-- ---- one event more

-- the machine's floor is the floor
pub floor_is : (floor : FloorState) (decisions : List Decision) → floor.decided ≡ done_in decisions → floor_at floor.plan floor.workers (moment_of decisions floor) ≡ floor
floor_is floor decisions is = ap (λ (d : List Bool). record { plan = floor.plan; workers = floor.workers; decided = d; jobs = floor.jobs }) (sym is)

pub leads_on : (plan : Plan) (workers : ℕ) (rule : Rule) (events : List FloorEvent) (from mid : Moment) (event : FloorEvent) → Leads plan workers rule from events mid → IsAllowed (floor_at plan workers mid) event
    → Leads plan workers rule from (events ++ event ∷ []) (moment_after plan workers rule mid event)
leads_on plan workers rule [] from mid event leads allowed =
    let P : Moment → Type 0 = λ m. IsAllowed (floor_at plan workers m) event in
    (subst P leads allowed, ap (λ (m : Moment). moment_after plan workers rule m event) leads)
leads_on plan workers rule (first ∷ events) from mid event leads allowed =
    (leads.0, leads_on plan workers rule events (moment_after plan workers rule from first) mid event leads.1 allowed)

pub in_time_on : (plan : Plan) (workers : ℕ) (rule : Rule) (events : List FloorEvent) (from mid : Moment) (event : FloorEvent) → Leads plan workers rule from events mid → AreInTime plan workers rule from events
    → IsInTime (floor_at plan workers mid) event → AreInTime plan workers rule from (events ++ event ∷ [])
in_time_on plan workers rule [] from mid event leads are is =
    let P : Moment → Type 0 = λ m. IsInTime (floor_at plan workers m) event in (subst P leads is, tt)
in_time_on plan workers rule (first ∷ events) from mid event leads are is =
    (are.0, in_time_on plan workers rule events (moment_after plan workers rule from first) mid event leads.1 are.1 is)

pub events_push : (events : List FloorEvent) (event : FloorEvent) → crew_events (events ++ event ∷ []) ≡ crew_events events ++ crew_event event
events_push events event = flat_map-append crew_event events (event ∷ []) ∙ ap (λ (l : List Event). crew_events events ++ l) (append-nil (crew_event event))

pub heard_push : (members : List Member) (events : List FloorEvent) (event : FloorEvent) → heard_in members (events ++ event ∷ []) ≡ heard_in members events ++ heard_of members event
heard_push members events event = flat_map-append (heard_of members) events (event ∷ []) ∙ ap (λ (l : List Heard). heard_in members events ++ l) (append-nil (heard_of members event))

-- ---- a start, an end, a decision

pub course_started : (members : List Member) (facts : Facts) (rule : Rule) (decisions : List Decision) (floor : FloorState) (heard : List Heard) (shop : Option Told) (events : List Event) (id : ℕ)
    → Coursing members facts rule decisions floor heard shop events → IsNext floor id → (IsDecidable (next_turn floor) → ⊥)
    → Coursing members facts rule decisions (with_job floor id Running) heard shop (events ++ Start id ∷ [])
course_started members facts rule decisions floor heard shop events id is next waits =
    let here = floor_is floor decisions is.decided in
    let may : MayStart (floor_at floor.plan floor.workers (moment_of decisions floor)) id = subst (λ (f : FloorState). MayStart f id) (sym here) next.may in
    let timely : IsInTime (floor_at floor.plan floor.workers (moment_of decisions floor)) (Starts id) = subst (λ (f : FloorState). IsInTime f (Starts id)) (sym here) waits in
    record {
      course = is.course ++ Starts id ∷ [];
      leads = leads_on floor.plan floor.workers rule is.course (first_moment floor.plan) (moment_of decisions floor) (Starts id) is.leads may;
      decided = is.decided;
      in_time = in_time_on floor.plan floor.workers rule is.course (first_moment floor.plan) (moment_of decisions floor) (Starts id) is.leads is.in_time timely;
      told = All-push (EndIsTold members facts shop) is.course (Starts id) is.told tt;
      had = ap (λ (l : List Event). l ++ Start id ∷ []) is.had ∙ sym (events_push is.course (Starts id));
      known = is.known ∙ sym (append-nil (heard_in members is.course)) ∙ sym (heard_push members is.course (Starts id));
    }

-- what is heard of the end of a member that stands there
pub heard_one : (members : List Member) (id : ℕ) (fate : Fate) (member : Member) → slice_get members id ≡ Some member → heard_of members (Ends id fate) ≡ record { pkg = member.package.pkg; fate = fate } ∷ []
heard_one members id fate member is = ap (heard_with fate) is

pub course_ended : (members : List Member) (facts : Facts) (rule : Rule) (decisions : List Decision) (floor : FloorState) (heard : List Heard) (shop : Option Told) (events : List Event) (id : ℕ) (fate : Fate) (job : Job)
    → Coursing members facts rule decisions floor heard shop events → progress_of floor id ≡ Running → (IsDecidable (next_turn floor) → ⊥) → ((other : ℕ) → MayStart floor other → ⊥)
    → (own : IsJobOf members facts id job) → TellsFate shop job fate
    → Coursing members facts rule decisions (with_job floor id (Ended fate)) (heard ++ record { pkg = own.built.package.pkg; fate = fate } ∷ []) shop (events ++ End id ∷ [])
course_ended members facts rule decisions floor heard shop events id fate job is runs waits none own told =
    let here = floor_is floor decisions is.decided in
    let timely : IsInTime (floor_at floor.plan floor.workers (moment_of decisions floor)) (Ends id fate) = subst (λ (f : FloorState). IsInTime f (Ends id fate)) (sym here) (waits, none) in
    record {
      course = is.course ++ Ends id fate ∷ [];
      leads = leads_on floor.plan floor.workers rule is.course (first_moment floor.plan) (moment_of decisions floor) (Ends id fate) is.leads runs;
      decided = is.decided;
      in_time = in_time_on floor.plan floor.workers rule is.course (first_moment floor.plan) (moment_of decisions floor) (Ends id fate) is.leads is.in_time timely;
      told = All-push (EndIsTold members facts shop) is.course (Ends id fate) is.told (job, own, told);
      had = ap (λ (l : List Event). l ++ End id ∷ []) is.had ∙ sym (events_push is.course (Ends id fate));
      known = ap (λ (l : List Heard). l ++ record { pkg = own.built.package.pkg; fate = fate } ∷ []) is.known
          ∙ ap (λ (l : List Heard). heard_in members is.course ++ l) (sym (heard_one members id fate own.built own.stands)) ∙ sym (heard_push members is.course (Ends id fate));
    }

pub course_decided : (members : List Member) (facts : Facts) (rule : Rule) (decisions : List Decision) (floor : FloorState) (heard : List Heard) (shop : Option Told) (events : List Event)
    → Coursing members facts rule decisions floor heard shop events → IsDecidable (next_turn floor)
    → Coursing members facts rule (decided_next rule decisions (next_turn floor)) (with_decision floor (rule decisions (next_turn floor))) heard shop events
course_decided members facts rule decisions floor heard shop events is may =
    let here = floor_is floor decisions is.decided in
    let turn : Turn = next_turn floor in
    let last : Decision = record { turn = turn; done = rule decisions turn } in
    let allowed : IsAllowed (floor_at floor.plan floor.workers (moment_of decisions floor)) Turns = subst (λ (f : FloorState). IsDecidable (next_turn f)) (sym here) may in
    let made = leads_on floor.plan floor.workers rule is.course (first_moment floor.plan) (moment_of decisions floor) Turns is.leads allowed in
    record {
      course = is.course ++ Turns ∷ [];
      leads = subst (λ (f : FloorState). FromBeginning floor.plan floor.workers rule (is.course ++ Turns ∷ []) (record { decisions = decided_next rule decisions (next_turn f); jobs = floor.jobs })) here made;
      decided = ap (λ (l : List Bool). l ++ rule decisions turn ∷ []) is.decided ∙ sym (map_push (λ (decision : Decision). decision.done) decisions last);
      in_time = in_time_on floor.plan floor.workers rule is.course (first_moment floor.plan) (moment_of decisions floor) Turns is.leads is.in_time tt;
      told = All-push (EndIsTold members facts shop) is.course Turns is.told tt;
      had = is.had ∙ sym (append-nil (crew_events is.course)) ∙ sym (events_push is.course Turns);
      known = is.known ∙ sym (append-nil (heard_in members is.course)) ∙ sym (heard_push members is.course Turns);
    }

-- ---- before all

pub course_begun : (members : List Member) (facts : Facts) (rule : Rule) (plan : Plan) (workers : ℕ) (shop : Option Told) → Coursing members facts rule [] (floor_begun plan workers) [] shop []
course_begun members facts rule plan workers shop = record {
  course = [];
  leads = refl;
  decided = refl;
  in_time = tt;
  told = All-nil (EndIsTold members facts shop);
  had = refl;
  known = refl;
}
