-- As long as something is left, something may come.
use Rattle.std.proofs.Common.{◌≡◌, ℕ, suc, ◌-◌, ◌<◌, ◌≤◌, ◌⊎◌, inl, inr, true, cond, List, [], ◌∷◌, length, sym, ap, refl, ◌∙◌, arith, subst, ltb, leb}
use Rattle.std.specs.Prelude.{MatchOption, IsSomeAnd, IsTrue, slice_get, find, option_map}
use Rattle.std.specs.List.{list_all, position_or_len}
use Rattle.std.specs.declared.option.Option.{Option}
use Rattle.std.specs.declared.option.Option.TheVariants.{None, Some}
use Rattle.std.proofs.lemmas.List.Sums.{sum_by-cons, passes_at_first, fails_before_first}
use Rattle.std.proofs.lemmas.List.Folds.{find_at}
use Rattle.std.proofs.lemmas.Option.{slice_get_within, get_or_from_slice_get}
use Rattle.std.proofs.lemmas.Bool.{and_from, cases_Bool, cases_lt, lt-ltb, le-leb, true≢false}
use Rattle.outside_io.specs.declared.workshop.Fate.{Fate}
use Rattle.action_graph.specs.declared.plan.Step.{Step}
use Rattle.change_floor.specs.declared.progress.Progress.{Progress}
use Rattle.change_floor.specs.declared.progress.Progress.TheVariants.{Waiting, Running, Ended}
use Rattle.change_floor.specs.declared.turn.Turn.{Turn}
use Rattle.change_floor.specs.Floors.{FloorState, IsDecidable, fate_in, first_turn, has_room, install_turn, has_installed, is_ready, is_running, is_waiting, progress_of, fate_at, lacking, next_start, install_place, running, turn_at}
use Rattle.change_floor.specs.Machine.{MayStart, floor_at}
use Rattle.change_floor.specs.FloorLaws.{CanGoOn, EachOnce, FirstStartIsAllowed, NeverStuck, is_over, may_turn, may_start, may_end}
use Rattle.change_floor.proofs.Standing.{lacks_none, place_is}
use Rattle.change_floor.proofs.Starting.{job_at}
use Rattle.change_floor.proofs.Keeping.{keeps, none_past, some_or_none}

-- an install that is ready may start
may_from_ready : (floor : FloorState) (place : ℕ) (step : Step) → EachOnce floor.plan.installs → has_room floor ≡ true → slice_get floor.plan.installs place ≡ Some step → is_ready floor step ≡ true → MayStart floor step.member
may_from_ready floor place step once room is ready =
    let P : Option Step → Type 0 = λ o. IsSomeAnd o (λ s. IsTrue (is_ready floor s)) in
    (room, subst P (sym (ap (slice_get floor.plan.installs) (place_is floor.plan once place step is) ∙ is)) ready)

some_of : {X : Type 0} (P : X → Type 0) (o : Option X) → IsSomeAnd o P → (x : X) × (o ≡ Some x) × P x
some_of P None is = absurd is
some_of P (Some x) is = (x, refl, is)

pub first_start_is_allowed : FirstStartIsAllowed
first_start_is_allowed floor once = elim (cases_Bool (has_room floor)) [
  | inr off ↦
      (let P : Option ℕ → Type 0 = λ o. MatchOption o ((member : ℕ) → MayStart floor member → ⊥) (MayStart floor) in
      subst P (sym (ap (λ b. cond b (option_map (λ (step : Step). step.member) (find (is_ready floor) floor.plan.installs)) None) off)) (λ member may. true≢false (sym may.0 ∙ off)))
  | inl room ↦
      (let P : Option ℕ → Type 0 = λ o. MatchOption o ((member : ℕ) → MayStart floor member → ⊥) (MayStart floor) in
      let Q : Option Step → Type 0 = λ o. P (option_map (λ (step : Step). step.member) o) in
      let installs : List Step = floor.plan.installs in
      subst P (sym (ap (λ b. cond b (option_map (λ (step : Step). step.member) (find (is_ready floor) installs)) None) room))
      (subst Q (sym (find_at (is_ready floor) installs)) (elim (some_or_none (slice_get installs (position_or_len (is_ready floor) installs))) [
        | inl step ↦
            (let below = slice_get_within installs (position_or_len (is_ready floor) installs) step.0 step.1 in
            let e = get_or_from_slice_get installs (position_or_len (is_ready floor) installs) step.0 step.0 step.1 in
            let ready = ap (is_ready floor) (sym e) ∙ passes_at_first (is_ready floor) installs step.0 below in
            subst Q (sym step.1) (may_from_ready floor (position_or_len (is_ready floor) installs) step.0 once room step.1 ready))
        | inr none ↦ subst Q (sym none) (λ member may.
            (let found = some_of (λ s. IsTrue (is_ready floor s)) (slice_get installs (install_place installs member)) may.1 in
            let below = slice_get_within installs (install_place installs member) found.0 found.1 in
            let e = get_or_from_slice_get installs (install_place installs member) found.0 found.0 found.1 in
            let past = none_past installs (position_or_len (is_ready floor) installs) none in
            let fails = fails_before_first (is_ready floor) installs (install_place installs member) found.0 (omega (arith, below, past)) in
            true≢false (sym found.2 ∙ ap (is_ready floor) (sym e) ∙ fails)))
      ])))
]

-- where some run, one does
one_runs : (jobs : List Progress) → 0 < running jobs → (place : ℕ) × (place < length jobs) × (job_at jobs place ≡ Running)
one_runs [] some = absurd (omega (arith, some))
one_runs (Running ∷ jobs) some = (0, omega arith, refl)
one_runs (Waiting ∷ jobs) some =
    let rest = one_runs jobs (omega (arith, some, sum_by-cons (λ (job : Progress). cond (is_running job) 1 0) Waiting jobs)) in (suc rest.0, omega (arith, rest.1), rest.2)
one_runs (Ended fate ∷ jobs) some =
    let rest = one_runs jobs (omega (arith, some, sum_by-cons (λ (job : Progress). cond (is_running job) 1 0) (Ended fate) jobs)) in (suc rest.0, omega (arith, rest.1), rest.2)

-- how far a job is
state_of : (job : Progress) → ((fate : Fate) × (job ≡ Ended fate)) ⊎ ((job ≡ Waiting) ⊎ (job ≡ Running))
state_of (Ended fate) = inl (fate, refl)
state_of Waiting = inr (inl refl)
state_of Running = inr (inr refl)

some_runs : (floor : FloorState) → EachOnce floor.plan.installs → length floor.jobs ≡ length floor.plan.installs → (place : ℕ) → place < length floor.jobs → job_at floor.jobs place ≡ Running → CanGoOn floor
some_runs floor once counted place below runs = elim (some_or_none (slice_get floor.plan.installs place)) [
  | inl step ↦ may_end step.0.member (ap (job_at floor.jobs) (place_is floor.plan once place step.0 step.1) ∙ runs)
  | inr none ↦ absurd (omega (arith, none_past floor.plan.installs place none, below, counted))
]

by_start : (floor : FloorState) (o : Option ℕ) → next_start floor ≡ o → MatchOption o ((member : ℕ) → MayStart floor member → ⊥) (MayStart floor) → (member : ℕ) → MayStart floor member → CanGoOn floor
by_start floor None is none member may = absurd (none member may)
by_start floor (Some first) is allowed member may = may_start first is allowed

-- the next install has what it needs and waits
may_go : (floor : FloorState) (place : ℕ) (step : Step) → EachOnce floor.plan.installs → 0 < floor.workers → length floor.jobs ≡ length floor.plan.installs → length floor.plan.removals ≤ length floor.decided
    → slice_get floor.plan.installs place ≡ Some step → lacking floor.plan floor.decided step.needs ≡ None → job_at floor.jobs place ≡ Waiting → CanGoOn floor
may_go floor place step once some counted removed is met waits = elim (cases_lt (running floor.jobs) floor.workers) [
  | inl room ↦
      (let has = and_from (leb (length floor.plan.removals) (length floor.decided)) (ltb (running floor.jobs) floor.workers) (le-leb (length floor.plan.removals) (length floor.decided) removed) (lt-ltb (running floor.jobs) floor.workers room) in
      let unstarted = ap is_waiting (ap (job_at floor.jobs) (place_is floor.plan once place step is) ∙ waits) in
      let ready = and_from (is_waiting (progress_of floor step.member)) (list_all (has_installed floor.plan floor.decided) step.needs) unstarted (lacks_none floor.plan floor.decided step.needs met) in
      by_start floor (next_start floor) refl (first_start_is_allowed floor once) step.member (may_from_ready floor place step once has is ready))
  | inr full ↦
      (let one = one_runs floor.jobs (omega (arith, some, full)) in
      some_runs floor once counted one.0 one.1 one.2)
]

goes_on : (floor : FloorState) → EachOnce floor.plan.installs → 0 < floor.workers → length floor.jobs ≡ length floor.plan.installs → CanGoOn floor
goes_on floor once some counted =
    let at : ℕ = length floor.decided in
    let place : ℕ = at - length floor.plan.removals in
    let f : Option Fate = fate_at floor.jobs place in
    let D : Turn → Type 0 = λ t. IsDecidable t in
    elim (some_or_none (slice_get floor.plan.removals at)) [
      | inl entry ↦ may_turn (subst D (sym (ap (λ e. first_turn e (turn_at (slice_get floor.plan.installs place) floor.plan floor.decided f)) entry.1)) tt)
      | inr no_entry ↦
          (let first = ap (λ e. first_turn e (turn_at (slice_get floor.plan.installs place) floor.plan floor.decided f)) no_entry in
          elim (some_or_none (slice_get floor.plan.installs place)) [
            | inr none ↦ is_over (first ∙ ap (λ s. turn_at s floor.plan floor.decided f) none)
            | inl step ↦
                (let second = first ∙ ap (λ s. turn_at s floor.plan floor.decided f) step.1 in
                elim (some_or_none (lacking floor.plan floor.decided step.0.needs)) [
                  | inl need ↦ may_turn (subst D (sym (second ∙ ap (λ o. install_turn step.0.member o f) need.1)) tt)
                  | inr met ↦
                      (let third = second ∙ ap (λ o. install_turn step.0.member o f) met in
                      elim (state_of (job_at floor.jobs place)) [
                        | inl ended ↦ may_turn (subst D (sym (third ∙ ap (λ j. install_turn step.0.member None (fate_in j)) ended.1)) tt)
                        | inr other ↦ elim other [
                          | inl waits ↦ may_go floor place step.0 once some counted (none_past floor.plan.removals at no_entry) step.1 met waits
                          | inr runs ↦ some_runs floor once counted place (omega (arith, slice_get_within floor.plan.installs place step.0 step.1, counted)) runs
                        ]
                      ])
                ])
          ])
    ]

pub never_stuck : NeverStuck
never_stuck plan workers rule events moment once some leads =
    goes_on (floor_at plan workers moment) once some (keeps plan workers rule events moment leads).counted
