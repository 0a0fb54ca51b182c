-- Which jobs have ended once nothing is left.
use Rattle.std.proofs.Common.{◌≡◌, ◌≢◌, ℕ, zero, suc, ◌+◌, ◌-◌, ◌<◌, ◌≤◌, inl, inr, Bool, true, false, cond, List, [], ◌∷◌, length, get_or, replicate, set, take, sym, ap, refl, ◌∙◌, arith, subst, eqb, All, slice_get}
use Rattle.std.specs.Prelude.{MatchOption, count_by}
use Rattle.std.specs.declared.option.Option.{Option}
use Rattle.std.specs.declared.option.Option.TheVariants.{None, Some}
use Rattle.std.proofs.lemmas.Bool.{cases_Bool, cases_eq, cases_lt, eq-eqb, eqb-true, true≢false}
use Rattle.std.proofs.lemmas.List.{get_or-set_same, get_or-set_other, get_or_past, length-map, length-replicate, set_past}
use Rattle.std.proofs.lemmas.List.Elements.{All-nil, All-push, All-weaker}
use Rattle.std.proofs.lemmas.List.Sums.{sum_by-cons}
use Rattle.std.proofs.lemmas.Option.{slice_get-get_or, slice_get_within}
use Rattle.outside_io.specs.declared.workshop.Fate.{Fate}
use Rattle.action_graph.specs.declared.plan.Plan.{Plan}
use Rattle.action_graph.specs.declared.plan.Step.{Step}
use Rattle.change_floor.specs.Decisions.{Decision, Rule, done_in}
use Rattle.change_floor.specs.FloorLaws.{EachOnce, FromBeginning, NeedsStandBefore}
use Rattle.change_floor.specs.Floors.{IsDecidable, fate_at, fate_in, first_turn, install_place, install_turn, is_waiting, lacking, next_turn, turn_at}
use Rattle.change_floor.specs.Machine.{Ends, FloorEvent, Leads, Moment, Starts, Turns, first_moment, floor_at, is_start_of, moment_after}
use Rattle.change_floor.specs.declared.progress.Progress.{Progress}
use Rattle.change_floor.specs.declared.progress.Progress.TheVariants.{Waiting, Running, Ended}
use Rattle.change_floor.specs.declared.turn.Turn.{Turn}
use Rattle.change_floor.specs.declared.turn.Turn.TheVariants.{Abort, Decide, Done, Remove, Wait}
use Rattle.change_floor.proofs.Keeping.{aborted_never_start, keeps, none_past}
use Rattle.change_floor.proofs.Standing.{own_place, place_is}
use Rattle.change_floor.proofs.Starting.{counted_start, job_at, readied}
use Rattle.change_jobs.specs.CourseLaws.{EndsAreDecided, is_by_fate, is_end_of, is_turn_by_fate}
use Rattle.change_jobs.proofs.Floored.{one_stands, stands}
use Rattle.change_jobs.proofs.Runners.{all_at}

-- ---- marks that come with an event and stay

-- 1 where a job has ended
abbrev ended_mark : Progress → ℕ
ended_mark Waiting = 0
ended_mark Running = 0
ended_mark (Ended fate) = 1

-- 1 where a job was started
abbrev started_mark : Progress → ℕ
started_mark Waiting = 0
started_mark Running = 1
started_mark (Ended fate) = 1

waits_of : (job : Progress) → is_waiting job ≡ true → job ≡ Waiting
waits_of Waiting on = refl
waits_of Running on = absurd cc
waits_of (Ended fate) on = absurd cc

-- a mark that an event leaves as it is at its own place, or gives
mark_set : (mark : Progress → ℕ) (jobs : List Progress) (at place : ℕ) (job : Progress) → at ≢ place → mark (job_at (set jobs at job) place) ≡ mark (job_at jobs place)
mark_set mark jobs at place job apart = ap mark (get_or-set_other jobs at place job Waiting (λ same. apart (sym same)))

mark_here : (mark : Progress → ℕ) (jobs : List Progress) (at place : ℕ) (job : Progress) → mark job ≡ mark (job_at jobs at) → mark (job_at (set jobs at job) place) ≡ mark (job_at jobs place)
mark_here mark jobs at place job same = elim (cases_eq place at) [
  | inr apart ↦ mark_set mark jobs at place job (λ e. apart (sym e))
  | inl here ↦ (let P : ℕ → Type 0 = λ p. mark (job_at (set jobs at job) p) ≡ mark (job_at jobs p) in
      subst P (sym here) (elim (cases_lt at (length jobs)) [
        | inl below ↦ ap mark (get_or-set_same jobs at job Waiting below) ∙ same
        | inr past ↦ ap (λ (js : List Progress). mark (job_at js at)) (set_past jobs at job past)
      ]))
]

module _ (plan : Plan) (workers : ℕ) (rule : Rule) (member : ℕ) where
  abbrev own : ℕ
  own = install_place plan.installs member

  apart_from : (other : ℕ) → install_place plan.installs other < length plan.installs → eqb other member ≡ false → install_place plan.installs other ≢ own
  apart_from other below apart same = true≢false (sym (eq-eqb other member (sym (one_stands plan.installs other member below (sym same)))) ∙ apart)

  ends_one : (event : FloorEvent) (events : List FloorEvent) → count_by (is_end_of member) (event ∷ events) ≡ cond (is_end_of member event) 1 0 + count_by (is_end_of member) events
  ends_one event events = sum_by-cons (λ (e : FloorEvent). cond (is_end_of member e) 1 0) event events

  starts_one : (event : FloorEvent) (events : List FloorEvent) → count_by (is_start_of member) (event ∷ events) ≡ cond (is_start_of member event) 1 0 + count_by (is_start_of member) events
  starts_one event events = sum_by-cons (λ (e : FloorEvent). cond (is_start_of member e) 1 0) event events

  -- ends are counted by who has ended
  ends_counted : (events : List FloorEvent) (from to : Moment) → Leads plan workers rule from events to → length from.jobs ≡ length plan.installs
      → count_by (is_end_of member) events + ended_mark (job_at from.jobs own) ≡ ended_mark (job_at to.jobs own)
  ends_counted [] from to leads counted = let same = ap (λ (m : Moment). ended_mark (job_at m.jobs own)) leads in omega (arith, same)
  ends_counted (Starts other ∷ events) from to leads counted =
      let waits = waits_of (job_at from.jobs (install_place plan.installs other)) (readied (floor_at plan workers from) other leads.0).waits in
      let same = mark_here ended_mark from.jobs (install_place plan.installs other) own Running (sym (ap ended_mark waits)) in
      let rest = ends_counted events (moment_after plan workers rule from (Starts other)) to leads.1 (counted_start plan from (install_place plan.installs other) Running counted) in
      omega (arith, rest, same, ends_one (Starts other) events)
  ends_counted (Ends other fate ∷ events) from to leads counted =
      let below = stands (floor_at plan workers from) other counted leads.0 in
      let rest = ends_counted events (moment_after plan workers rule from (Ends other fate)) to leads.1 (counted_start plan from (install_place plan.installs other) (Ended fate) counted) in
      elim (cases_Bool (eqb other member)) [
        | inl same ↦
            (let P : ℕ → Type 0 = λ m. job_at from.jobs (install_place plan.installs m) ≡ Running in
            let Q : ℕ → Type 0 = λ m. job_at (set from.jobs (install_place plan.installs other) (Ended fate)) (install_place plan.installs m) ≡ Ended fate in
            let was = ap ended_mark (subst P (eqb-true other member same) leads.0) in
            let is = ap ended_mark (subst Q (eqb-true other member same) (get_or-set_same from.jobs (install_place plan.installs other) (Ended fate) Waiting (omega (arith, below, counted)))) in
            let one = ends_one (Ends other fate) events ∙ ap (λ (b : Bool). cond b 1 0 + count_by (is_end_of member) events) same in
            omega (arith, rest, was, is, one))
        | inr apart ↦
            (let still = mark_set ended_mark from.jobs (install_place plan.installs other) own (Ended fate) (apart_from other below apart) in
            let one = ends_one (Ends other fate) events ∙ ap (λ (b : Bool). cond b 1 0 + count_by (is_end_of member) events) apart in
            omega (arith, rest, still, one))
      ]
  ends_counted (Turns ∷ events) from to leads counted =
      let rest = ends_counted events (moment_after plan workers rule from Turns) to leads.1 counted in omega (arith, rest, ends_one Turns events)

  -- starts by who was started
  starts_counted : (events : List FloorEvent) (from to : Moment) → Leads plan workers rule from events to → length from.jobs ≡ length plan.installs
      → count_by (is_start_of member) events + started_mark (job_at from.jobs own) ≡ started_mark (job_at to.jobs own)
  starts_counted [] from to leads counted = let same = ap (λ (m : Moment). started_mark (job_at m.jobs own)) leads in omega (arith, same)
  starts_counted (Starts other ∷ events) from to leads counted =
      let ready = readied (floor_at plan workers from) other leads.0 in
      let below = slice_get_within plan.installs (install_place plan.installs other) ready.step ready.is_step in
      let rest = starts_counted events (moment_after plan workers rule from (Starts other)) to leads.1 (counted_start plan from (install_place plan.installs other) Running counted) in
      elim (cases_Bool (eqb other member)) [
        | inl same ↦
            (let P : ℕ → Type 0 = λ m. is_waiting (job_at from.jobs (install_place plan.installs m)) ≡ true in
            let Q : ℕ → Type 0 = λ m. job_at (set from.jobs (install_place plan.installs other) Running) (install_place plan.installs m) ≡ Running in
            let was = ap started_mark (waits_of (job_at from.jobs own) (subst P (eqb-true other member same) ready.waits)) in
            let is = ap started_mark (subst Q (eqb-true other member same) (get_or-set_same from.jobs (install_place plan.installs other) Running Waiting (omega (arith, below, counted)))) in
            let one = starts_one (Starts other) events ∙ ap (λ (b : Bool). cond b 1 0 + count_by (is_start_of member) events) same in
            omega (arith, rest, was, is, one))
        | inr apart ↦
            (let still = mark_set started_mark from.jobs (install_place plan.installs other) own Running (apart_from other below apart) in
            let one = starts_one (Starts other) events ∙ ap (λ (b : Bool). cond b 1 0 + count_by (is_start_of member) events) apart in
            omega (arith, rest, still, one))
      ]
  starts_counted (Ends other fate ∷ events) from to leads counted =
      let same = mark_here started_mark from.jobs (install_place plan.installs other) own (Ended fate) (sym (ap started_mark leads.0)) in
      let rest = starts_counted events (moment_after plan workers rule from (Ends other fate)) to leads.1 (counted_start plan from (install_place plan.installs other) (Ended fate) counted) in
      omega (arith, rest, same, starts_one (Ends other fate) events)
  starts_counted (Turns ∷ events) from to leads counted =
      let rest = starts_counted events (moment_after plan workers rule from Turns) to leads.1 counted in omega (arith, rest, starts_one Turns events)

-- ---- what decisions were made by

by_install : (m : ℕ) (o : Option ℕ) (f : Option Fate) (id : ℕ) (fate : Fate) → install_turn m o f ≡ Decide id fate → (m ≡ id) × (f ≡ Some fate)
by_install m (Some n) f id fate is = absurd cc
by_install m None (Some g) id fate is = (cc, cc)
by_install m None None id fate is = absurd cc

decided_at : (e : Option ℕ) (s : Option Step) (plan : Plan) (decided : List Bool) (f : Option Fate) (id : ℕ) (fate : Fate) → first_turn e (turn_at s plan decided f) ≡ Decide id fate
    → (step : Step) × (s ≡ Some step) × (step.member ≡ id) × (f ≡ Some fate) × (e ≡ None)
decided_at (Some entry) s plan decided f id fate is = absurd cc
decided_at None None plan decided f id fate is = absurd cc
decided_at None (Some step) plan decided f id fate is = let parts = by_install step.member (lacking plan decided step.needs) f id fate is in (step, refl, parts.0, parts.1, refl)

-- the fate by which a turn decides is that with which its job has ended
abbrev FateKept : Plan → List Progress → Turn → Type 0
FateKept plan jobs (Remove entry) = Unit {0}
FateKept plan jobs (Abort id need) = Unit {0}
FateKept plan jobs (Decide id fate) = job_at jobs (install_place plan.installs id) ≡ Ended fate
FateKept plan jobs Wait = Unit {0}
FateKept plan jobs Done = Unit {0}

record IsWell (plan : Plan) (jobs : List Progress) (decision : Decision) : Type 0 where
  may : IsDecidable decision.turn
  kept : FateKept plan jobs decision.turn

fate_known : (job : Progress) (fate : Fate) → fate_in job ≡ Some fate → job ≡ Ended fate
fate_known Waiting fate is = absurd cc
fate_known Running fate is = absurd cc
fate_known (Ended other) fate is = let e : other ≡ fate = cc in ap Ended e

-- a job that has ended stays so while another one's progress changes
still_ended : (jobs : List Progress) (at place : ℕ) (job : Progress) (fate : Fate) → ended_mark (job_at jobs at) ≡ 0 → job_at jobs place ≡ Ended fate → job_at (set jobs at job) place ≡ Ended fate
still_ended jobs at place job fate none ended = elim (cases_eq place at) [
  | inl same ↦ (let P : ℕ → Type 0 = λ p. job_at jobs p ≡ Ended fate in
      let one : 1 ≡ ended_mark (job_at jobs at) = sym (ap ended_mark (subst P same ended)) in absurd (omega (arith, one, none)))
  | inr apart ↦ get_or-set_other jobs at place job Waiting apart ∙ ended
]

fate_still : (plan : Plan) (jobs : List Progress) (at : ℕ) (job : Progress) (turn : Turn) → ended_mark (job_at jobs at) ≡ 0 → FateKept plan jobs turn → FateKept plan (set jobs at job) turn
fate_still plan jobs at job (Remove entry) none kept = tt
fate_still plan jobs at job (Abort id need) none kept = tt
fate_still plan jobs at job (Decide id fate) none kept = still_ended jobs at (install_place plan.installs id) job fate none kept
fate_still plan jobs at job Wait none kept = tt
fate_still plan jobs at job Done none kept = tt

fate_next : (plan : Plan) (workers : ℕ) (from : Moment) → EachOnce plan.installs → (turn : Turn) → next_turn (floor_at plan workers from) ≡ turn → FateKept plan from.jobs turn
fate_next plan workers from once (Remove entry) is = tt
fate_next plan workers from once (Abort id need) is = tt
fate_next plan workers from once (Decide id fate) is =
    let decided : List Bool = done_in from.decisions in
    let place : ℕ = length decided - length plan.removals in
    let at = decided_at (slice_get plan.removals (length decided)) (slice_get plan.installs place) plan decided (fate_at from.jobs place) id fate is in
    let stands_at = place_is plan once place at.0 at.1 in
    ap (λ (m : ℕ). job_at from.jobs (install_place plan.installs m)) (sym at.2) ∙ ap (job_at from.jobs) stands_at ∙ fate_known (job_at from.jobs place) fate at.3
fate_next plan workers from once Wait is = tt
fate_next plan workers from once Done is = tt

well_on : (plan : Plan) (workers : ℕ) (rule : Rule) (events : List FloorEvent) (from to : Moment) → EachOnce plan.installs → Leads plan workers rule from events to → All (IsWell plan from.jobs) from.decisions → All (IsWell plan to.jobs) to.decisions
well_on plan workers rule [] from to once leads well = let P : Moment → Type 0 = λ m. All (IsWell plan m.jobs) m.decisions in subst P (sym leads) well
well_on plan workers rule (Starts other ∷ events) from to once leads well =
    let at : ℕ = install_place plan.installs other in
    let none = ap ended_mark (waits_of (job_at from.jobs at) (readied (floor_at plan workers from) other leads.0).waits) in
    well_on plan workers rule events (moment_after plan workers rule from (Starts other)) to once leads.1
    (All-weaker (IsWell plan from.jobs) (IsWell plan (set from.jobs at Running)) (λ d is. record { may = is.may; kept = fate_still plan from.jobs at Running d.turn none is.kept }) from.decisions well)
well_on plan workers rule (Ends other fate ∷ events) from to once leads well =
    let at : ℕ = install_place plan.installs other in
    let none = ap ended_mark leads.0 in
    well_on plan workers rule events (moment_after plan workers rule from (Ends other fate)) to once leads.1
    (All-weaker (IsWell plan from.jobs) (IsWell plan (set from.jobs at (Ended fate))) (λ d is. record { may = is.may; kept = fate_still plan from.jobs at (Ended fate) d.turn none is.kept }) from.decisions well)
well_on plan workers rule (Turns ∷ events) from to once leads well =
    let turn : Turn = next_turn (floor_at plan workers from) in
    well_on plan workers rule events (moment_after plan workers rule from Turns) to once leads.1
    (All-push (IsWell plan from.jobs) from.decisions (record { turn = turn; done = rule from.decisions turn }) well (record { may = leads.0; kept = fate_next plan workers from once turn refl }))

-- ---- once nothing is left

all_over : (e : Option ℕ) (s : Option Step) (plan : Plan) (decided : List Bool) (f : Option Fate) → first_turn e (turn_at s plan decided f) ≡ Done → (e ≡ None) × (s ≡ None)
all_over (Some entry) s plan decided f is = absurd cc
all_over None None plan decided f is = (refl, refl)
all_over None (Some step) plan decided f is = absurd (not_done (lacking plan decided step.needs) f is)
  where
    not_done : (o : Option ℕ) (g : Option Fate) → install_turn step.member o g ≡ Done → ⊥
    not_done (Some need) g same = cc
    not_done None (Some fate) same = cc
    not_done None None same = cc

count_none : {X : Type 0} (p : X → Bool) (xs : List X) → ((i : ℕ) (x : X) → slice_get xs i ≡ Some x → p x ≡ false) → count_by p xs ≡ 0
count_none p [] off = refl
count_none p (x ∷ xs) off =
    let here = ap (λ (b : Bool). cond b 1 0 + count_by p xs) (off 0 x refl) in
    let rest = count_none p xs (λ i y is. off (suc i) y is) in
    omega (arith, sum_by-cons (λ (y : _). cond (p y) 1 0) x xs, here, rest)

count_at : {X : Type 0} (p : X → Bool) (xs : List X) (at : ℕ) (one : X) → slice_get xs at ≡ Some one → ((i : ℕ) (x : X) → slice_get xs i ≡ Some x → i ≢ at → p x ≡ false) → count_by p xs ≡ cond (p one) 1 0
count_at p [] at one is off = cc
count_at p (x ∷ xs) zero one is off =
    let same : x ≡ one = cc in
    let rest = count_none p xs (λ i y there. off (suc i) y there (λ e. absurd (omega (arith, e)))) in
    let here = ap {B = ℕ} (λ (y : _). cond (p y) 1 0) same in
    omega (arith, sum_by-cons (λ (y : _). cond (p y) 1 0) x xs, rest, here)
count_at p (x ∷ xs) (suc at) one is off =
    let here = ap (λ (b : Bool). cond b 1 0 + count_by p xs) (off 0 x refl (λ e. absurd (omega (arith, e)))) in
    let rest = count_at p xs at one is (λ i y there apart. off (suc i) y there (λ e. apart (omega (arith, e)))) in
    omega (arith, sum_by-cons (λ (y : _). cond (p y) 1 0) x xs, here, rest)

turn_by_fate : (member : ℕ) (turn : Turn) → is_turn_by_fate member turn ≡ true → (id : ℕ) × (fate : Fate) × (turn ≡ Decide id fate) × (id ≡ member)
turn_by_fate member (Remove entry) on = absurd cc
turn_by_fate member (Abort id need) on = absurd cc
turn_by_fate member (Decide id fate) on = (id, fate, refl, eqb-true id member on)
turn_by_fate member Wait on = absurd cc
turn_by_fate member Done on = absurd cc

abort_or : (member : ℕ) (m : ℕ) (o : Option ℕ) (f : Option Fate) (turn : Turn) → turn ≡ install_turn m o f → m ≡ member → IsDecidable turn → is_turn_by_fate member turn ≡ false → (need : ℕ) × (turn ≡ Abort member need)
abort_or member m (Some need) f turn is here may off = (need, is ∙ ap (λ (n : ℕ). Abort n need) here)
abort_or member m None (Some fate) turn is here may off = absurd (true≢false (sym (ap (is_turn_by_fate member) is ∙ eq-eqb m member here) ∙ off))
abort_or member m None None turn is here may off = let P : Turn → Type 0 = λ t. IsDecidable t in absurd (subst P is may)

not_started : (job : Progress) → started_mark job ≡ 0 → ended_mark job ≡ 0
not_started Waiting none = refl
not_started Running none = refl
not_started (Ended fate) none = absurd (omega (arith, none))

first_waits : (n place : ℕ) → job_at (replicate n Waiting) place ≡ Waiting
first_waits zero place = refl
first_waits (suc n) zero = refl
first_waits (suc n) (suc place) = first_waits n place

module _ (plan : Plan) (workers : ℕ) (rule : Rule) (events : List FloorEvent) (moment : Moment) (member : ℕ) (once : EachOnce plan.installs) (first : NeedsStandBefore plan) (leads : FromBeginning plan workers rule events moment)
    (over : next_turn (floor_at plan workers moment) ≡ Done) where
  abbrev at_own : ℕ
  at_own = length plan.removals + install_place plan.installs member

  -- only the decision at its place is made by its fate
  its_place : (j : ℕ) (one : Decision) → slice_get moment.decisions j ≡ Some one → is_by_fate member one ≡ true → (j ≡ at_own) × (install_place plan.installs member < length plan.installs)
  its_place j one is on =
      let by = turn_by_fate member one.turn on in
      let had = (keeps plan workers rule events moment leads).turned j one is in
      let at = decided_at (slice_get plan.removals j) (slice_get plan.installs (j - length plan.removals)) plan (take j (done_in moment.decisions)) had.0 by.0 by.1 (sym had.1 ∙ by.2) in
      let past = none_past plan.removals j at.4 in
      let place = place_is plan once (j - length plan.removals) at.0 at.1 in
      let same : install_place plan.installs member ≡ j - length plan.removals = ap (install_place plan.installs) (sym (at.2 ∙ by.3)) ∙ place in
      let inside = slice_get_within plan.installs (j - length plan.removals) at.0 at.1 in
      (omega (arith, past, same), omega (arith, same, inside))

  other_decisions : (j : ℕ) (one : Decision) → slice_get moment.decisions j ≡ Some one → j ≢ at_own → is_by_fate member one ≡ false
  other_decisions j one is apart = elim (cases_Bool (is_by_fate member one)) [
    | inl on ↦ absurd (apart (its_place j one is on).0)
    | inr off ↦ off
  ]

  all_decided : length moment.decisions ≡ length plan.removals + length plan.installs
  all_decided =
      let count : ℕ = length (done_in moment.decisions) in
      let gone = all_over (slice_get plan.removals count) (slice_get plan.installs (count - length plan.removals)) plan (done_in moment.decisions) (fate_at moment.jobs (count - length plan.removals)) over in
      let a = none_past plan.removals count gone.0 in
      let b = none_past plan.installs (count - length plan.removals) gone.1 in
      omega (arith, a, b, (keeps plan workers rule events moment leads).within, length-map moment.decisions (λ (decision : Decision). decision.done))

  ends_marked : count_by (is_end_of member) events ≡ ended_mark (job_at moment.jobs (install_place plan.installs member))
  ends_marked =
      let counted = ends_counted plan workers rule member events (first_moment plan) moment leads (length-replicate (length plan.installs) Waiting) in
      let none = ap ended_mark (first_waits (length plan.installs) (install_place plan.installs member)) in
      omega (arith, counted, none)

  starts_marked : count_by (is_start_of member) events ≡ started_mark (job_at moment.jobs (install_place plan.installs member))
  starts_marked =
      let counted = starts_counted plan workers rule member events (first_moment plan) moment leads (length-replicate (length plan.installs) Waiting) in
      let none = ap started_mark (first_waits (length plan.installs) (install_place plan.installs member)) in
      omega (arith, counted, none)

  -- an install, by how it was decided
  by_decision : (one : Decision) → slice_get moment.decisions at_own ≡ Some one → install_place plan.installs member < length plan.installs
      → ended_mark (job_at moment.jobs (install_place plan.installs member)) ≡ cond (is_by_fate member one) 1 0
  by_decision one is below =
      let well = all_at (IsWell plan moment.jobs) moment.decisions at_own one (well_on plan workers rule events (first_moment plan) moment once leads (All-nil (IsWell plan (first_moment plan).jobs))) is in
      elim (cases_Bool (is_by_fate member one)) [
        | inl on ↦
            (let by = turn_by_fate member one.turn on in
            let P : Turn → Type 0 = λ t. FateKept plan moment.jobs t in
            let Q : ℕ → Type 0 = λ m. job_at moment.jobs (install_place plan.installs m) ≡ Ended by.1 in
            let ended = subst Q by.3 (subst P by.2 well.kept) in
            ap ended_mark ended ∙ sym (ap (λ (b : Bool). cond b 1 0) on))
        | inr off ↦
            (let had = (keeps plan workers rule events moment leads).turned at_own one is in
            let d : Step = record { member = member; needs = [] } in
            let step : Step = get_or plan.installs (install_place plan.installs member) d in
            let stands_there = slice_get-get_or plan.installs (install_place plan.installs member) d below in
            let here : at_own - length plan.removals ≡ install_place plan.installs member = omega arith in
            let there : slice_get plan.installs (at_own - length plan.removals) ≡ Some step = ap (slice_get plan.installs) here ∙ stands_there in
            let decided : List Bool = take at_own (done_in moment.decisions) in
            let no_removal : slice_get plan.removals at_own ≡ None = none_there plan.removals at_own (omega arith) in
            let turn : one.turn ≡ install_turn step.member (lacking plan decided step.needs) had.0 =
            had.1 ∙ ap (λ (e : Option ℕ). first_turn e (turn_at (slice_get plan.installs (at_own - length plan.removals)) plan decided had.0)) no_removal ∙ ap (λ (s : Option Step). turn_at s plan decided had.0) there in
            let abort = abort_or member step.member (lacking plan decided step.needs) had.0 one.turn turn (own_place plan.installs member step stands_there) well.may off in
            let P : Option Decision → Type 0 = λ o. MatchOption o ⊥ (λ (decision : Decision). decision.turn ≡ Abort member abort.0) in
            let never = aborted_never_start plan workers rule events moment at_own member abort.0 once first leads (subst P (sym is) abort.1) in
            not_started (job_at moment.jobs (install_place plan.installs member)) (sym starts_marked ∙ never) ∙ sym (ap (λ (b : Bool). cond b 1 0) off))
      ]
    where
      none_there : (xs : List ℕ) (i : ℕ) → length xs ≤ i → slice_get xs i ≡ None
      none_there [] i past = refl
      none_there (x ∷ xs) zero past = absurd (omega (arith, past))
      none_there (x ∷ xs) (suc i) past = none_there xs i (omega (arith, past))

  decided_ends : count_by (is_end_of member) events ≡ count_by (is_by_fate member) moment.decisions
  decided_ends = elim (cases_lt (install_place plan.installs member) (length plan.installs)) [
    | inl below ↦
        (let d : Decision = record { turn = Done; done = false } in
        let one : Decision = get_or moment.decisions at_own d in
        let is = slice_get-get_or moment.decisions at_own d (omega (arith, below, all_decided)) in
        ends_marked ∙ by_decision one is below ∙ sym (count_at (is_by_fate member) moment.decisions at_own one is other_decisions))
    | inr past ↦
        (let kept = keeps plan workers rule events moment leads in
        let waits : job_at moment.jobs (install_place plan.installs member) ≡ Waiting = get_or_past moment.jobs (install_place plan.installs member) Waiting (omega (arith, past, kept.counted)) in
        let none = count_none (is_by_fate member) moment.decisions (λ j one is. elim (cases_Bool (is_by_fate member one)) [
          | inl on ↦ (let inside = (its_place j one is on).1 in absurd (omega (arith, inside, past)))
          | inr off ↦ off
        ]) in
        ends_marked ∙ ap ended_mark waits ∙ sym none)
  ]

pub ends_are_decided : EndsAreDecided
ends_are_decided plan workers rule events moment member once first leads over = decided_ends plan workers rule events moment member once first leads over
