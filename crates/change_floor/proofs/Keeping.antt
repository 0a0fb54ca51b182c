-- What holds at each moment: whose needs are installed, and what was decided when.
use Rattle.std.proofs.Common.{◌≡◌, ◌≢◌, ℕ, zero, suc, ◌+◌, ◌-◌, ◌<◌, ◌≤◌, ◌⊎◌, inl, inr, Bool, true, false, List, [], ◌∷◌, ◌++◌, length, get_or, set, take, replicate, sym, ap, refl, ◌∙◌, arith, subst}
use Rattle.std.specs.Prelude.{MatchOption, slice_get}
use Rattle.std.specs.List.{list_all}
use Rattle.std.specs.declared.option.Option.{Option}
use Rattle.std.specs.declared.option.Option.TheVariants.{None, Some}
use Rattle.std.proofs.lemmas.List.{length-map, length_push, map_push, get_or_append_left, get_or_push, get_or-set_other, get_or_past, get_or-replicate, length-replicate, take-append-le, get_or-take}
use Rattle.std.proofs.lemmas.Option.{slice_get_cases, slice_get_within, slice_get-get_or, get_or_from_slice_get}
use Rattle.std.proofs.lemmas.Bool.{cases_eq, cases_lt, true≢false, or_cases, or_left, or_parts, true_from_ne_false}
use Rattle.outside_io.specs.declared.workshop.Fate.{Fate}
use Rattle.action_graph.specs.Places.{IsIn}
use Rattle.action_graph.specs.Reach.{Reached, started, stepped}
use Rattle.action_graph.specs.declared.plan.Plan.{Plan}
use Rattle.action_graph.specs.declared.plan.Step.{Step}
use Rattle.change_floor.specs.declared.progress.Progress.{Progress}
use Rattle.change_floor.specs.declared.progress.Progress.TheVariants.{Waiting, Running, Ended}
use Rattle.change_floor.specs.declared.turn.Turn.{Turn}
use Rattle.change_floor.specs.declared.turn.Turn.TheVariants.{Abort}
use Rattle.change_floor.specs.Floors.{FloorState, IsDecidable, first_turn, install_turn, is_done_at, has_installed, is_there, is_waiting, progress_of, fate_at, lacking, next_turn, install_place, turn_at, turn_of}
use Rattle.change_floor.specs.Decisions.{Decision, Rule, done_in}
use Rattle.change_floor.specs.Machine.{FloorEvent, Starts, Ends, Turns, Leads, Moment, Runs, moment_after, first_moment, floor_at}
use Rattle.change_floor.specs.FloorLaws.{AbortedNeverStart, AbortsNothingDone, EventsAreCalls, FromBeginning, IsWithinNeeds, JobsSeeTheirViews, NeedsStandBefore, install_members, install_needs, step_needs}
use Rattle.change_floor.proofs.Folding.{decidable_within}
use Rattle.change_floor.proofs.Standing.{all_in, all_more, installed_more, lacks_none, lacks_some, member_at, own_place, place_is}
use Rattle.change_floor.proofs.Starting.{Readied, counted_start, job_at, none_started, readied}

-- the needs of each job that was started are installed
abbrev pub AllMet : Plan → List Bool → List Progress → Type 0
AllMet plan decided jobs = (place : ℕ) → is_waiting (job_at jobs place) ≡ false → list_all (has_installed plan decided) (install_needs plan place) ≡ true

-- the turn of a decision was the next one, by what was decided before it
abbrev HadTurn : Plan → List Decision → ℕ → Decision → Type 0
HadTurn plan decisions i one = (f : Option Fate) × (one.turn ≡ first_turn (slice_get plan.removals i) (turn_at (slice_get plan.installs (i - length plan.removals)) plan (take i (done_in decisions)) f))

pub record Keeps (plan : Plan) (moment : Moment) : Type 0 where
  pub counted : length moment.jobs ≡ length plan.installs
  pub within : length moment.decisions ≤ length plan.removals + length plan.installs
  pub met : AllMet plan (done_in moment.decisions) moment.jobs
  pub turned : (i : ℕ) (one : Decision) → slice_get moment.decisions i ≡ Some one → HadTurn plan moment.decisions i one

met_set : (plan : Plan) (decided : List Bool) (jobs : List Progress) (at : ℕ) (job : Progress) → list_all (has_installed plan decided) (install_needs plan at) ≡ true → AllMet plan decided jobs
    → AllMet plan decided (set jobs at job)
met_set plan decided jobs at job here met = λ place off. elim (cases_eq place at) [
  | inl same ↦ (let P : ℕ → Type 0 = λ p. list_all (has_installed plan decided) (install_needs plan p) ≡ true in subst P (sym same) here)
  | inr apart ↦ met place (ap is_waiting (sym (get_or-set_other jobs at place job Waiting apart)) ∙ off)
]

met_more : (plan : Plan) (decided : List Bool) (one : Bool) (needs : List ℕ) → list_all (has_installed plan decided) needs ≡ true → list_all (has_installed plan (decided ++ one ∷ [])) needs ≡ true
met_more plan decided one needs all = all_more (has_installed plan decided) (has_installed plan (decided ++ one ∷ [])) needs (installed_more plan decided one) all

done_push : (decisions : List Decision) (last : Decision) → done_in (decisions ++ last ∷ []) ≡ done_in decisions ++ last.done ∷ []
done_push decisions last = map_push (λ (decision : Decision). decision.done) decisions last

turned_before : (plan : Plan) (decisions : List Decision) (last one : Decision) (i : ℕ) → i < length decisions → slice_get (decisions ++ last ∷ []) i ≡ Some one
    → ((j : ℕ) (d : Decision) → slice_get decisions j ≡ Some d → HadTurn plan decisions j d) → HadTurn plan (decisions ++ last ∷ []) i one
turned_before plan decisions last one i below is turned =
    let e = sym (get_or_append_left decisions (last ∷ []) one i below) ∙ get_or_from_slice_get (decisions ++ last ∷ []) i one one is in
    let was = turned i one (slice_get-get_or decisions i one below ∙ ap (λ (d : Decision). Some d) e) in
    let shorter : i ≤ length (done_in decisions) = omega (arith, below, length-map decisions (λ (decision : Decision). decision.done)) in
    let same = ap (λ ds. take i ds) (done_push decisions last) ∙ take-append-le i (done_in decisions) (last.done ∷ []) shorter in
    let P : List Bool → Type 0 = λ ds. one.turn ≡ first_turn (slice_get plan.removals i) (turn_at (slice_get plan.installs (i - length plan.removals)) plan ds was.0) in
    (was.0, subst P (sym same) was.1)

turned_last : (plan : Plan) (decisions : List Decision) (last one : Decision) (fates : ℕ → Option Fate) (i : ℕ) → length decisions ≤ i → slice_get (decisions ++ last ∷ []) i ≡ Some one
    → last.turn ≡ turn_of plan (done_in decisions) fates → HadTurn plan (decisions ++ last ∷ []) i one
turned_last plan decisions last one fates i past is had =
    let inside = slice_get_within (decisions ++ last ∷ []) i one is in
    let here : length decisions ≡ i = omega (arith, past, inside, length_push decisions last) in
    let same_one : last ≡ one = sym (get_or_push decisions last one i here) ∙ get_or_from_slice_get (decisions ++ last ∷ []) i one one is in
    let here_too : length (done_in decisions) ≡ i = omega (arith, here, length-map decisions (λ (decision : Decision). decision.done)) in
    let all : take i (done_in (decisions ++ last ∷ [])) ≡ done_in decisions = ap (λ ds. take i ds) (done_push decisions last) ∙ front (done_in decisions) last.done i here_too in
    let f : Option Fate = fates (length (done_in decisions) - length plan.removals) in
    let P : List Bool → Type 0 = λ ds. one.turn ≡ first_turn (slice_get plan.removals i) (turn_at (slice_get plan.installs (i - length plan.removals)) plan ds f) in
    let Q : ℕ → Type 0 = λ n. one.turn ≡ first_turn (slice_get plan.removals n) (turn_at (slice_get plan.installs (n - length plan.removals)) plan (done_in decisions) f) in
    (f, subst P (sym all) (subst Q here_too (ap (λ (d : Decision). d.turn) (sym same_one) ∙ had)))
  where
    front : (ds : List Bool) (d : Bool) (n : ℕ) → length ds ≡ n → take n (ds ++ d ∷ []) ≡ ds
    front ds d n e = take-append-le n ds (d ∷ []) (omega (arith, e)) ∙ whole ds n e
      where
        whole : (xs : List Bool) (n : ℕ) → length xs ≡ n → take n xs ≡ xs
        whole [] zero same = refl
        whole [] (suc n) same = refl
        whole (x ∷ xs) zero same = absurd (omega (arith, same))
        whole (x ∷ xs) (suc n) same = ap (λ ys. x ∷ ys) (whole xs n (omega (arith, same)))

keeps_turn : (plan : Plan) (workers : ℕ) (rule : Rule) (from : Moment) → IsDecidable (next_turn (floor_at plan workers from)) → Keeps plan from → Keeps plan (moment_after plan workers rule from Turns)
keeps_turn plan workers rule from may keeps =
    let turn : Turn = next_turn (floor_at plan workers from) in
    let last : Decision = record { turn = turn; done = rule from.decisions turn } in
    let P : List Bool → Type 0 = λ ds. AllMet plan ds from.jobs in
    let below = decidable_within plan (done_in from.decisions) (fate_at from.jobs) may in
    record {
      counted = keeps.counted;
      within = omega (arith, below, length_push from.decisions last, length-map from.decisions (λ (decision : Decision). decision.done));
      met = subst P (sym (done_push from.decisions last)) (λ place off. met_more plan (done_in from.decisions) last.done (install_needs plan place) (keeps.met place off));
      turned = λ i one is. elim (cases_lt i (length from.decisions)) [
        | inl before ↦ turned_before plan from.decisions last one i before is keeps.turned
        | inr past ↦ turned_last plan from.decisions last one (fate_at from.jobs) i past is refl
      ];
    }

needs_at_step : (plan : Plan) (place : ℕ) (step : Step) → slice_get plan.installs place ≡ Some step → install_needs plan place ≡ step.needs
needs_at_step plan place step is = ap step_needs is

keeps_start : (plan : Plan) (workers : ℕ) (rule : Rule) (from : Moment) (member : ℕ) → Readied (floor_at plan workers from) member → Keeps plan from → Keeps plan (moment_after plan workers rule from (Starts member))
keeps_start plan workers rule from member ready keeps =
    let P : List ℕ → Type 0 = λ needs. list_all (has_installed plan (done_in from.decisions)) needs ≡ true in
    record {
      counted = counted_start plan from (install_place plan.installs member) Running keeps.counted;
      within = keeps.within;
      met = met_set plan (done_in from.decisions) from.jobs (install_place plan.installs member) Running (subst P (sym (needs_at_step plan (install_place plan.installs member) ready.step ready.is_step)) ready.met) keeps.met;
      turned = keeps.turned;
    }

keeps_end : (plan : Plan) (workers : ℕ) (rule : Rule) (from : Moment) (member : ℕ) (fate : Fate) → Runs (floor_at plan workers from) member → Keeps plan from → Keeps plan (moment_after plan workers rule from (Ends member fate))
keeps_end plan workers rule from member fate runs keeps = record {
  counted = counted_start plan from (install_place plan.installs member) (Ended fate) keeps.counted;
  within = keeps.within;
  met = met_set plan (done_in from.decisions) from.jobs (install_place plan.installs member) (Ended fate) (keeps.met (install_place plan.installs member) (ap is_waiting runs)) keeps.met;
  turned = keeps.turned;
}

keeps_on : (plan : Plan) (workers : ℕ) (rule : Rule) (events : List FloorEvent) (from to : Moment) → Leads plan workers rule from events to → Keeps plan from → Keeps plan to
keeps_on plan workers rule [] from to leads keeps = let P : Moment → Type 0 = λ m. Keeps plan m in subst P (sym leads) keeps
keeps_on plan workers rule (Starts member ∷ events) from to leads keeps =
    keeps_on plan workers rule events (moment_after plan workers rule from (Starts member)) to leads.1 (keeps_start plan workers rule from member (readied (floor_at plan workers from) member leads.0) keeps)
keeps_on plan workers rule (Ends member fate ∷ events) from to leads keeps =
    keeps_on plan workers rule events (moment_after plan workers rule from (Ends member fate)) to leads.1 (keeps_end plan workers rule from member fate leads.0 keeps)
keeps_on plan workers rule (Turns ∷ events) from to leads keeps =
    keeps_on plan workers rule events (moment_after plan workers rule from Turns) to leads.1 (keeps_turn plan workers rule from leads.0 keeps)

none_begun : (n place : ℕ) → is_waiting (job_at (replicate n Waiting) place) ≡ true
none_begun n place = elim (cases_lt place n) [
  | inl below ↦ ap is_waiting (get_or-replicate n place Waiting Waiting below)
  | inr past ↦ ap is_waiting (get_or_past (replicate n Waiting) place Waiting (omega (arith, past, length-replicate n Waiting)))
]

keeps_first : (plan : Plan) → Keeps plan (first_moment plan)
keeps_first plan = record {
  counted = length-replicate (length plan.installs) Waiting;
  within = omega arith;
  met = λ place off. absurd (true≢false (sym (none_begun (length plan.installs) place) ∙ off));
  turned = λ i one is. absurd (no_first i one is);
}
  where
    no_first : (i : ℕ) (one : Decision) → slice_get {X = Decision} [] i ≡ Some one → ⊥
    no_first i one is = cc

pub keeps : (plan : Plan) (workers : ℕ) (rule : Rule) (events : List FloorEvent) (moment : Moment) → FromBeginning plan workers rule events moment → Keeps plan moment
keeps plan workers rule events moment leads = keeps_on plan workers rule events (first_moment plan) moment leads (keeps_first plan)

by_install : (m : ℕ) (o : Option ℕ) (f : Option Fate) (member need : ℕ) → install_turn m o f ≡ Abort member need → (m ≡ member) × (o ≡ Some need)
by_install m (Some n) f member need is = (cc, cc)
by_install m None (Some fate) member need is = absurd cc
by_install m None None member need is = absurd cc

aborted_at : (e : Option ℕ) (s : Option Step) (plan : Plan) (decided : List Bool) (f : Option Fate) (member need : ℕ) → first_turn e (turn_at s plan decided f) ≡ Abort member need
    → (step : Step) × (s ≡ Some step) × (step.member ≡ member) × (lacking plan decided step.needs ≡ Some need) × (e ≡ None)
aborted_at (Some entry) s plan decided f member need is = absurd cc
aborted_at None None plan decided f member need is = absurd cc
aborted_at None (Some step) plan decided f member need is = let parts = by_install step.member (lacking plan decided step.needs) f member need is in (step, refl, parts.0, parts.1, refl)

pub none_past : {X : Type 0} (xs : List X) (i : ℕ) → slice_get xs i ≡ None → length xs ≤ i
none_past xs i none = elim ((slice_get_cases xs i).1) [
  | inl at ↦ absurd (both (at.0) (slice_get xs i) at.2 none)
  | inr past ↦ past.0
]
  where
    both : {Y : Type 0} (y : Y) (o : Option Y) → o ≡ Some y → o ≡ None → ⊥
    both y o some no_one = cc

pub done_within : (plan : Plan) (decided : List Bool) (place : ℕ) → is_done_at plan decided place ≡ true → length plan.removals + place < length decided
done_within plan decided place is = elim (cases_lt (length plan.removals + place) (length decided)) [
  | inl below ↦ below
  | inr past ↦ absurd (true≢false (sym is ∙ get_or_past decided (length plan.removals + place) false past))
]

-- what is installed later was so before, where it stands before
never_met : (plan : Plan) (decided : List Bool) (i : ℕ) (step : Step) (need : ℕ) → NeedsStandBefore plan → length plan.removals ≤ i → slice_get plan.installs (i - length plan.removals) ≡ Some step
    → IsIn step.needs need → length decided ≤ length plan.removals + length plan.installs → has_installed plan (take i decided) need ≡ false → has_installed plan decided need ≡ true → ⊥
never_met plan decided i step need first past is is_need few off on =
    let place : ℕ = install_place plan.installs need in
    let parts = or_parts (is_there plan need) (is_done_at plan (take i decided) place) off in
    elim (or_cases (is_there plan need) (is_done_at plan decided place) on) [
      | inl there ↦ true≢false (sym there ∙ parts.0)
      | inr done ↦
          (let inside = done_within plan decided place done in
          let P : List ℕ → Type 0 = λ needs. IsIn needs need in
          let before = first (i - length plan.removals) need (subst P (sym (needs_at_step plan (i - length plan.removals) step is)) is_need) (omega (arith, inside, few)) in
          let at : length plan.removals + place < i = omega (arith, before, past) in
          true≢false (sym done ∙ sym (get_or-take i decided (length plan.removals + place) false at) ∙ parts.1))
    ]

found_in : {X : Type 0} (P : X → Type 0) (o : Option X) → MatchOption o ⊥ P → (x : X) × (o ≡ Some x) × P x
found_in P None is = absurd is
found_in P (Some x) is = (x, refl, is)

pub aborted_never_start : AbortedNeverStart
aborted_never_start plan workers rule events moment at member need once first leads aborted =
    let kept = keeps plan workers rule events moment leads in
    let one = found_in (λ (decision : Decision). decision.turn ≡ Abort member need) (slice_get moment.decisions at) aborted in
    let had = kept.turned at one.0 one.1 in
    let is = aborted_at (slice_get plan.removals at) (slice_get plan.installs (at - length plan.removals)) plan (take at (done_in moment.decisions)) had.0 member need (sym had.1 ∙ one.2) in
    let step : Step = is.0 in
    let lacks = lacks_some plan (take at (done_in moment.decisions)) step.needs need is.3 in
    let past = none_past plan.removals at is.4 in
    let place = place_is plan once (at - length plan.removals) step is.1 in
    let here : install_place plan.installs member ≡ at - length plan.removals = ap (install_place plan.installs) (sym is.2) ∙ place in
    let few : length (done_in moment.decisions) ≤ length plan.removals + length plan.installs = omega (arith, kept.within, length-map moment.decisions (λ (decision : Decision). decision.done)) in
    let P : ℕ → Type 0 = λ p. is_waiting (job_at moment.jobs p) ≡ true in
    let Q : List ℕ → Type 0 = λ needs. list_all (has_installed plan (done_in moment.decisions)) needs ≡ true in
    let waits = true_from_ne_false (is_waiting (job_at moment.jobs (at - length plan.removals)))
    (λ off. never_met plan (done_in moment.decisions) at step need first past is.1 lacks.is_need few lacks.is_lacking
    (all_in (has_installed plan (done_in moment.decisions)) step.needs need (subst Q (needs_at_step plan (at - length plan.removals) step is.1) (kept.met (at - length plan.removals) off)) lacks.is_need)) in
    none_started plan workers rule member events (first_moment plan) moment leads (length-replicate (length plan.installs) Waiting) (subst P (sym here) waits)

-- what was done had its needs
abbrev AllOwed : Plan → List Bool → Type 0
AllOwed plan decided = (place : ℕ) → place < length plan.installs → is_done_at plan decided place ≡ true → list_all (has_installed plan decided) (install_needs plan place) ≡ true

pub some_or_none : {X : Type 0} (o : Option X) → ((x : X) × (o ≡ Some x)) ⊎ (o ≡ None)
some_or_none None = inr refl
some_or_none (Some x) = inl (x, refl)

owed_push : (plan : Plan) (decided : List Bool) (one : Bool) → AllOwed plan decided
    → ((place : ℕ) → place < length plan.installs → length plan.removals + place ≡ length decided → one ≡ true → list_all (has_installed plan decided) (install_needs plan place) ≡ true)
    → AllOwed plan (decided ++ one ∷ [])
owed_push plan decided one owed here = λ place below done. met_more plan decided one (install_needs plan place) (elim (cases_lt (length plan.removals + place) (length decided)) [
  | inl before ↦ owed place below (sym (get_or_append_left decided (one ∷ []) false (length plan.removals + place) before) ∙ done)
  | inr past ↦
      (let inside = done_within plan (decided ++ one ∷ []) place done in
      let at : length plan.removals + place ≡ length decided = omega (arith, past, inside, length_push decided one) in
      here place below at (sym (get_or_push decided one false (length plan.removals + place) (sym at)) ∙ done))
])

owed_turn : (plan : Plan) (workers : ℕ) (rule : Rule) (from : Moment) → AbortsNothingDone rule → AllOwed plan (done_in from.decisions) → AllOwed plan (done_in (moment_after plan workers rule from Turns).decisions)
owed_turn plan workers rule from nothing owed =
    let turn : Turn = next_turn (floor_at plan workers from) in
    let last : Decision = record { turn = turn; done = rule from.decisions turn } in
    let decided : List Bool = done_in from.decisions in
    let P : List Bool → Type 0 = λ ds. AllOwed plan ds in
    subst P (sym (done_push from.decisions last)) (owed_push plan decided last.done owed (λ place below at done.
    (let Q : ℕ → Type 0 = λ p. list_all (has_installed plan decided) (install_needs plan p) ≡ true in
    let where_at : length decided - length plan.removals ≡ place = omega (arith, at) in
    subst Q where_at (elim (some_or_none (slice_get plan.removals (length decided))) [
      | inl entry ↦ absurd (omega (arith, slice_get_within plan.removals (length decided) entry.0 entry.1, at))
      | inr no_entry ↦ elim (some_or_none (slice_get plan.installs (length decided - length plan.removals))) [
        | inl step ↦
            (let R : List ℕ → Type 0 = λ needs. list_all (has_installed plan decided) needs ≡ true in
            subst R (sym (needs_at_step plan (length decided - length plan.removals) step.0 step.1)) (elim (some_or_none (lacking plan decided step.0.needs)) [
              | inl need ↦
                  (let f : Option Fate = fate_at from.jobs (length decided - length plan.removals) in
                  let is_abort : turn ≡ Abort step.0.member need.0 =
                  ap (λ e. first_turn e (turn_at (slice_get plan.installs (length decided - length plan.removals)) plan decided f)) no_entry
                  ∙ ap (λ s. turn_at s plan decided f) step.1 ∙ ap (λ o. install_turn step.0.member o f) need.1 in
                  absurd (true≢false (sym done ∙ ap (λ t. rule from.decisions t) is_abort ∙ nothing from.decisions step.0.member need.0)))
              | inr none ↦ lacks_none plan decided step.0.needs none
            ]))
        | inr no_step ↦ absurd (omega (arith, none_past plan.installs (length decided - length plan.removals) no_step, where_at, below))
      ]
    ]))))

owed_on : (plan : Plan) (workers : ℕ) (rule : Rule) (events : List FloorEvent) (from to : Moment) → AbortsNothingDone rule → Leads plan workers rule from events to → AllOwed plan (done_in from.decisions)
    → AllOwed plan (done_in to.decisions)
owed_on plan workers rule [] from to nothing leads owed = let P : Moment → Type 0 = λ m. AllOwed plan (done_in m.decisions) in subst P (sym leads) owed
owed_on plan workers rule (Starts member ∷ events) from to nothing leads owed = owed_on plan workers rule events (moment_after plan workers rule from (Starts member)) to nothing leads.1 owed
owed_on plan workers rule (Ends member fate ∷ events) from to nothing leads owed = owed_on plan workers rule events (moment_after plan workers rule from (Ends member fate)) to nothing leads.1 owed
owed_on plan workers rule (Turns ∷ events) from to nothing leads owed = owed_on plan workers rule events (moment_after plan workers rule from Turns) to nothing leads.1 (owed_turn plan workers rule from nothing owed)

owed_first : (plan : Plan) → AllOwed plan []
owed_first plan = λ place below done. absurd (omega (arith, done_within plan [] place done))

-- all that is reached from installed needs is installed
seen : (plan : Plan) (decided : List Bool) (leads : ℕ → List ℕ) (place : ℕ) → IsWithinNeeds plan leads → AllOwed plan decided → length decided ≤ length plan.removals + length plan.installs
    → list_all (has_installed plan decided) (install_needs plan place) ≡ true → (member : ℕ) → Reached (IsIn (install_needs plan place)) (λ from. IsIn (leads from)) member → has_installed plan decided member ≡ true
seen plan decided leads place inside owed few all member (started to is) = all_in (has_installed plan decided) (install_needs plan place) to all is
seen plan decided leads place inside owed few all member (stepped from to before is) =
    let at : ℕ = install_place plan.installs from in
    elim (or_cases (is_there plan from) (is_done_at plan decided at) (seen plan decided leads place inside owed few all from before)) [
      | inl there ↦ or_left (is_there plan to) (is_done_at plan decided (install_place plan.installs to)) (inside.others from there to is)
      | inr done ↦
          (let below : at < length plan.installs = omega (arith, done_within plan decided at done, few) in
          elim (some_or_none (slice_get plan.installs at)) [
            | inl step ↦
                (let own = own_place plan.installs from step.0 step.1 in
                let e = member_at plan.installs at step.0 below ∙ ap (λ (s : Step). s.member) (get_or_from_slice_get plan.installs at step.0 step.0 step.1) ∙ own in
                let P : ℕ → Type 0 = λ m. IsIn (leads m) to in
                all_in (has_installed plan decided) (install_needs plan at) to (owed at below done) (inside.installs at below to (subst P (sym e) is)))
            | inr none ↦ absurd (omega (arith, none_past plan.installs at none, below))
          ])
    ]

not_waiting : (job : Progress) → job ≢ Waiting → is_waiting job ≡ false
not_waiting Waiting apart = absurd (apart refl)
not_waiting Running apart = refl
not_waiting (Ended fate) apart = refl

pub jobs_see_their_views : JobsSeeTheirViews
jobs_see_their_views plan workers rule events moment leads place once nothing inside run below apart member reached =
    let kept = keeps plan workers rule events moment run in
    let decided : List Bool = done_in moment.decisions in
    let few : length decided ≤ length plan.removals + length plan.installs = omega (arith, kept.within, length-map moment.decisions (λ (decision : Decision). decision.done)) in
    let owed = owed_on plan workers rule events (first_moment plan) moment nothing run (owed_first plan) in
    elim (some_or_none (slice_get plan.installs place)) [
      | inl step ↦
          (let here = place_is plan once place step.0 step.1 in
          let e = member_at plan.installs place step.0 below ∙ ap (λ (s : Step). s.member) (get_or_from_slice_get plan.installs place step.0 step.0 step.1) in
          let at = ap (install_place plan.installs) e ∙ here in
          let P : ℕ → Type 0 = λ p. is_waiting (job_at moment.jobs p) ≡ false in
          let off = subst P at (not_waiting (progress_of (floor_at plan workers moment) (get_or (install_members plan.installs) place 0)) apart) in
          seen plan decided leads place inside owed few (kept.met place off) member reached)
      | inr none ↦ absurd (omega (arith, none_past plan.installs place none, below))
    ]

pub events_are_calls : EventsAreCalls
events_are_calls plan workers rule moment =
    let turn : Turn = next_turn (floor_at plan workers moment) in
    let seen : List Bool → FloorState = λ decided. record { plan = plan; workers = workers; decided = decided; jobs = moment.jobs } in
    record {
      begins = refl;
      starts = λ member. refl;
      ends = λ member fate. refl;
      turns = ap seen (done_push moment.decisions (record { turn = turn; done = rule moment.decisions turn }));
    }
