-- Whatever events come, the decisions are those of the fold.
use Rattle.std.proofs.Common.{◌≡◌, ℕ, zero, suc, ◌+◌, ◌-◌, ◌<◌, ◌≤◌, inl, inr, Bool, List, [], ◌∷◌, ◌++◌, length, set, replicate, sym, ap, refl, ◌∙◌, arith, subst, append_assoc}
use Rattle.std.specs.Prelude.{MatchOption, slice_get}
use Rattle.std.specs.declared.option.Option.{Option}
use Rattle.std.specs.declared.option.Option.TheVariants.{None, Some}
use Rattle.std.proofs.lemmas.List.{append-nil, length-map, length_push, get_or-set_same, get_or-set_other, set_past, get_or_past, get_or-replicate, length-replicate}
use Rattle.std.proofs.lemmas.Option.{slice_get_cases}
use Rattle.std.proofs.lemmas.Bool.{cases_eq, cases_lt}
use Rattle.outside_io.specs.declared.workshop.Fate.{Fate}
use Rattle.action_graph.specs.declared.plan.Plan.{Plan}
use Rattle.action_graph.specs.declared.plan.Step.{Step}
use Rattle.change_floor.specs.declared.progress.Progress.{Progress}
use Rattle.change_floor.specs.declared.progress.Progress.TheVariants.{Waiting, Running, Ended}
use Rattle.change_floor.specs.declared.turn.Turn.{Turn}
use Rattle.change_floor.specs.declared.turn.Turn.TheVariants.{Decide, Done}
use Rattle.change_floor.specs.Floors.{IsDecidable, fate_in, first_turn, install_turn, fate_at, lacking, next_turn, install_place, turn_at, turn_of}
use Rattle.change_floor.specs.Decisions.{Decision, Rule, decided_next, decisions_of, done_in, outcome_of}
use Rattle.change_floor.specs.Machine.{EndsAsTold, FloorEvent, Starts, Ends, Turns, Leads, Moment, moment_after, first_moment, floor_at}
use Rattle.change_floor.specs.FloorLaws.{IsFrontOf, ScheduleDoesNotDecide}

-- by what is told the turn is the same as by what is known, where nothing is waited for
same_install : (member : ℕ) (o : Option ℕ) (f : Option Fate) (g : Fate) → MatchOption f (Unit {0}) (λ x. x ≡ g) → IsDecidable (install_turn member o f)
    → install_turn member o f ≡ install_turn member o (Some g)
same_install member (Some need) f g kept may = refl
same_install member None (Some f) g kept may = ap (λ x. Decide member x) kept
same_install member None None g kept may = absurd may

same_at : (s : Option Step) (plan : Plan) (decided : List Bool) (f : Option Fate) (g : Fate) → MatchOption f (Unit {0}) (λ x. x ≡ g) → IsDecidable (turn_at s plan decided f)
    → turn_at s plan decided f ≡ turn_at s plan decided (Some g)
same_at None plan decided f g kept may = absurd may
same_at (Some step) plan decided f g kept may = same_install step.member (lacking plan decided step.needs) f g kept may

same_first : (e : Option ℕ) (s : Option Step) (plan : Plan) (decided : List Bool) (f : Option Fate) (g : Fate) → MatchOption f (Unit {0}) (λ x. x ≡ g)
    → IsDecidable (first_turn e (turn_at s plan decided f)) → first_turn e (turn_at s plan decided f) ≡ first_turn e (turn_at s plan decided (Some g))
same_first (Some entry) s plan decided f g kept may = refl
same_first None s plan decided f g kept may = same_at s plan decided f g kept may

-- what is known is what is told
abbrev IsKeptAsTold : List Progress → (ℕ → Fate) → Type 0
IsKeptAsTold jobs told = (place : ℕ) → MatchOption (fate_at jobs place) (Unit {0}) (λ fate. fate ≡ told place)

same_turn : (plan : Plan) (decided : List Bool) (jobs : List Progress) (told : ℕ → Fate) → IsKeptAsTold jobs told → IsDecidable (turn_of plan decided (fate_at jobs))
    → turn_of plan decided (fate_at jobs) ≡ turn_of plan decided (λ place. Some (told place))
same_turn plan decided jobs told kept may =
    let place : ℕ = length decided - length plan.removals in
    same_first (slice_get plan.removals (length decided)) (slice_get plan.installs place) plan decided (fate_at jobs place) (told place) (kept place) may

neither : (e : Option ℕ) (s : Option Step) (plan : Plan) (decided : List Bool) (f : Option Fate) → e ≡ None → s ≡ None → IsDecidable (first_turn e (turn_at s plan decided f)) → ⊥
neither (Some entry) s plan decided f first second may = cc
neither None (Some step) plan decided f first second may = cc
neither None None plan decided f first second may = may

pub decidable_within : (plan : Plan) (decided : List Bool) (fates : ℕ → Option Fate) → IsDecidable (turn_of plan decided fates) → length decided < length plan.removals + length plan.installs
decidable_within plan decided fates may =
    let place : ℕ = length decided - length plan.removals in
    elim ((slice_get_cases plan.removals (length decided)).1) [
      | inl at ↦ omega (arith, at.1)
      | inr past ↦ elim ((slice_get_cases plan.installs place).1) [
        | inl at ↦ omega (arith, at.1)
        | inr over ↦ absurd (neither (slice_get plan.removals (length decided)) (slice_get plan.installs place) plan decided (fates place) past.1 over.1 may)
      ]
    ]

not_done : (member : ℕ) (o : Option ℕ) (f : Option Fate) → install_turn member o f ≡ Done → ⊥
not_done member (Some need) f over = cc
not_done member None (Some f) over = cc
not_done member None None over = cc

both_none : (e : Option ℕ) (s : Option Step) (plan : Plan) (decided : List Bool) (f : Option Fate) → first_turn e (turn_at s plan decided f) ≡ Done → (e ≡ None) × (s ≡ None)
both_none (Some entry) s plan decided f over = absurd cc
both_none None (Some step) plan decided f over = absurd (not_done step.member (lacking plan decided step.needs) f over)
both_none None None plan decided f over = (refl, refl)

some_or_none : {X : Type 0} (x : X) (o : Option X) → o ≡ Some x → o ≡ None → ⊥
some_or_none x o one other = cc

pub done_past : (plan : Plan) (decided : List Bool) (fates : ℕ → Option Fate) → turn_of plan decided fates ≡ Done → length plan.removals + length plan.installs ≤ length decided
done_past plan decided fates over =
    let place : ℕ = length decided - length plan.removals in
    let none = both_none (slice_get plan.removals (length decided)) (slice_get plan.installs place) plan decided (fates place) over in
    elim ((slice_get_cases plan.removals (length decided)).1) [
      | inl at ↦ absurd (some_or_none at.0 (slice_get plan.removals (length decided)) at.2 none.0)
      | inr past ↦ elim ((slice_get_cases plan.installs place).1) [
        | inl at ↦ absurd (some_or_none at.0 (slice_get plan.installs place) at.2 none.1)
        | inr beyond ↦ omega (arith, past.0, beyond.0)
      ]
    ]

pub length_decisions : (plan : Plan) (rule : Rule) (told : ℕ → Fate) (n : ℕ) → length (decisions_of plan rule told n) ≡ n
length_decisions plan rule told zero = refl
length_decisions plan rule told (suc n) =
    let e = length_push (decisions_of plan rule told n) (record { turn = turn_of plan (done_in (decisions_of plan rule told n)) (λ place. Some (told place)); done = rule (decisions_of plan rule told n) (turn_of plan (done_in (decisions_of plan rule told n)) (λ place. Some (told place))) }) in
    omega (arith, e, length_decisions plan rule told n)

record Follows (plan : Plan) (rule : Rule) (told : ℕ → Fate) (moment : Moment) : Type 0 where
  same : moment.decisions ≡ decisions_of plan rule told (length moment.decisions)
  kept : IsKeptAsTold moment.jobs told
  within : length moment.decisions ≤ length plan.removals + length plan.installs

kept_set : (jobs : List Progress) (at : ℕ) (job : Progress) (told : ℕ → Fate) → MatchOption (fate_in job) (Unit {0}) (λ fate. fate ≡ told at) → IsKeptAsTold jobs told → IsKeptAsTold (set jobs at job) told
kept_set jobs at job told true_to kept = λ place. elim (cases_eq place at) [
  | inl same ↦ elim (cases_lt at (length jobs)) [
    | inl below ↦
        (let P : ℕ → Type 0 = λ p. MatchOption (fate_at (set jobs at job) p) (Unit {0}) (λ fate. fate ≡ told p) in
        let Q : Progress → Type 0 = λ j. MatchOption (fate_in j) (Unit {0}) (λ fate. fate ≡ told at) in
        subst P (sym same) (subst Q (sym (get_or-set_same jobs at job Waiting below)) true_to))
    | inr past ↦
        (let P : List Progress → Type 0 = λ js. MatchOption (fate_at js place) (Unit {0}) (λ fate. fate ≡ told place) in
        subst P (sym (set_past jobs at job past)) (kept place))
  ]
  | inr apart ↦
      (let Q : Progress → Type 0 = λ j. MatchOption (fate_in j) (Unit {0}) (λ fate. fate ≡ told place) in
      subst Q (sym (get_or-set_other jobs at place job Waiting apart)) (kept place))
]

follows_turn : (plan : Plan) (workers : ℕ) (rule : Rule) (told : ℕ → Fate) (moment : Moment) → IsDecidable (next_turn (floor_at plan workers moment)) → Follows plan rule told moment
    → Follows plan rule told (moment_after plan workers rule moment Turns)
follows_turn plan workers rule told moment may follows =
    let decisions : List Decision = moment.decisions in
    let turn : Turn = next_turn (floor_at plan workers moment) in
    let e = length_push decisions (record { turn = turn; done = rule decisions turn }) in
    let longer : length (decided_next rule decisions turn) ≡ suc (length decisions) = omega (arith, e) in
    let told_turn = same_turn plan (done_in decisions) moment.jobs told follows.kept may in
    let first = ap (λ t. decided_next rule decisions t) told_turn in
    let second = ap (λ ds. decided_next rule ds (turn_of plan (done_in ds) (λ place. Some (told place)))) follows.same in
    let third = ap (λ n. decisions_of plan rule told n) longer in
    let below = decidable_within plan (done_in decisions) (fate_at moment.jobs) may in
    record {
      same = first ∙ second ∙ sym third;
      kept = follows.kept;
      within = omega (arith, longer, below, length-map decisions (λ (decision : Decision). decision.done));
    }

follows_on : (plan : Plan) (workers : ℕ) (rule : Rule) (told : ℕ → Fate) (events : List FloorEvent) (from to : Moment) → Leads plan workers rule from events to → EndsAsTold plan told events
    → Follows plan rule told from → Follows plan rule told to
follows_on plan workers rule told [] from to leads ends follows = let P : Moment → Type 0 = λ m. Follows plan rule told m in subst P (sym leads) follows
follows_on plan workers rule told (Starts member ∷ events) from to leads ends follows =
    follows_on plan workers rule told events (moment_after plan workers rule from (Starts member)) to leads.1 ends (record {
      same = follows.same;
      kept = kept_set from.jobs (install_place plan.installs member) Running told tt follows.kept;
      within = follows.within;
    })
follows_on plan workers rule told (Ends member fate ∷ events) from to leads ends follows =
    follows_on plan workers rule told events (moment_after plan workers rule from (Ends member fate)) to leads.1 ends.1 (record {
      same = follows.same;
      kept = kept_set from.jobs (install_place plan.installs member) (Ended fate) told ends.0 follows.kept;
      within = follows.within;
    })
follows_on plan workers rule told (Turns ∷ events) from to leads ends follows =
    follows_on plan workers rule told events (moment_after plan workers rule from Turns) to leads.1 ends (follows_turn plan workers rule told from leads.0 follows)

none_known : (n place : ℕ) → fate_at (replicate n Waiting) place ≡ None
none_known n place = elim (cases_lt place n) [
  | inl below ↦ ap fate_in (get_or-replicate n place Waiting Waiting below)
  | inr past ↦ ap fate_in (get_or_past (replicate n Waiting) place Waiting (omega (arith, past, length-replicate n Waiting)))
]

follows_first : (plan : Plan) (rule : Rule) (told : ℕ → Fate) → Follows plan rule told (first_moment plan)
follows_first plan rule told = record {
  same = refl;
  kept = λ place. (let P : Option Fate → Type 0 = λ o. MatchOption o (Unit {0}) (λ fate. fate ≡ told place) in subst P (sym (none_known (length plan.installs) place)) tt);
  within = omega arith;
}

-- the first decisions begin more of them
begins_more : (plan : Plan) (rule : Rule) (told : ℕ → Fate) (n m : ℕ) → n ≤ m → IsFrontOf (decisions_of plan rule told n) (decisions_of plan rule told m)
begins_more plan rule told n zero within =
    let e : 0 ≡ n = omega (arith, within) in
    ([], ap (λ k. decisions_of plan rule told k) e ∙ sym (append-nil (decisions_of plan rule told n)))
begins_more plan rule told n (suc m) within = elim (cases_lt m n) [
  | inl above ↦
      (let e : suc m ≡ n = omega (arith, within, above) in
      ([], ap (λ k. decisions_of plan rule told k) e ∙ sym (append-nil (decisions_of plan rule told n))))
  | inr below ↦
      (let before = begins_more plan rule told n m below in
      let turn : Turn = turn_of plan (done_in (decisions_of plan rule told m)) (λ place. Some (told place)) in
      let last : Decision = record { turn = turn; done = rule (decisions_of plan rule told m) turn } in
      (before.0 ++ last ∷ [], ap (λ ds. ds ++ last ∷ []) before.1 ∙ append_assoc (decisions_of plan rule told n) before.0 (last ∷ [])))
]

pub schedule_does_not_decide : ScheduleDoesNotDecide
schedule_does_not_decide plan workers rule told events moment leads ends =
    let follows = follows_on plan workers rule told events (first_moment plan) moment leads ends (follows_first plan rule told) in
    let P : List Decision → Type 0 = λ ds. IsFrontOf ds (outcome_of plan rule told) in
    record {
      so_far = follows.same;
      begins = subst P (sym follows.same) (begins_more plan rule told (length moment.decisions) (length plan.removals + length plan.installs) follows.within);
      whole = λ over.
          (let past = done_past plan (done_in moment.decisions) (fate_at moment.jobs) over in
          let e : length moment.decisions ≡ length plan.removals + length plan.installs = omega (arith, past, follows.within, length-map moment.decisions (λ (decision : Decision). decision.done)) in
          follows.same ∙ ap (λ n. decisions_of plan rule told n) e);
    }
