-- Where no action can be decided and no job may be started, a job runs.
use Rattle.std.proofs.Common.{◌≡◌, ℕ, zero, suc, ◌-◌, ◌<◌, ◌≤◌, ◌⊎◌, inl, inr, true, cond, List, [], ◌∷◌, length, sym, ap, refl, ◌∙◌, arith, subst, ltb, leb}
use Rattle.std.specs.Prelude.{IsSomeAnd, IsTrue, slice_get}
use Rattle.std.specs.List.{list_all}
use Rattle.std.specs.declared.option.Option.{Option}
use Rattle.std.specs.declared.option.Option.TheVariants.{None, Some}
use Rattle.std.proofs.lemmas.List.Sums.{sum_by-cons}
use Rattle.std.proofs.lemmas.Bool.{and_from, cases_lt, lt-ltb, le-leb}
use Rattle.outside_io.specs.declared.workshop.Fate.{Fate}
use Rattle.action_graph.specs.declared.plan.Step.{Step}
use Rattle.change_floor.specs.declared.progress.Progress.{Progress}
use Rattle.change_floor.specs.declared.progress.Progress.TheVariants.{Waiting, Running, Ended}
use Rattle.change_floor.specs.declared.turn.Turn.{Turn}
use Rattle.change_floor.specs.declared.turn.Turn.TheVariants.{Abort, Decide, Done, Remove, Wait}
use Rattle.change_floor.specs.FloorLaws.{EachOnce}
use Rattle.change_floor.specs.Floors.{FloorState, IsDecidable, fate_at, fate_in, first_turn, has_installed, has_room, install_turn, is_ready, is_running, is_waiting, lacking, next_start, next_turn, progress_of, running, turn_at}
use Rattle.change_floor.specs.Machine.{MayStart}
use Rattle.change_floor.proofs.Keeping.{none_past, some_or_none}
use Rattle.change_floor.proofs.Standing.{lacks_none, place_is}
use Rattle.change_floor.proofs.Starting.{job_at}
use Rattle.change_jobs.proofs.Floored.{none_next}

may_from_ready : (floor : FloorState) (place : ℕ) (step : Step) → EachOnce floor.plan.installs → has_room floor ≡ true → slice_get floor.plan.installs place ≡ Some step → is_ready floor step ≡ true → MayStart floor step.member
may_from_ready floor place step once room is ready =
    let P : Option Step → Type 0 = λ o. IsSomeAnd o (λ s. IsTrue (is_ready floor s)) in
    (room, subst P (sym (ap (slice_get floor.plan.installs) (place_is floor.plan once place step is) ∙ is)) ready)

abbrev one_if : Progress → ℕ
one_if job = cond (is_running job) 1 0

some_run : (jobs : List Progress) (place : ℕ) → job_at jobs place ≡ Running → 0 < running jobs
some_run [] place runs = cc
some_run (job ∷ jobs) zero runs = omega (arith, sum_by-cons one_if job jobs, ap one_if runs)
some_run (job ∷ jobs) (suc place) runs = let rest = some_run jobs place runs in omega (arith, rest, sum_by-cons one_if job jobs)

state_of : (job : Progress) → ((fate : Fate) × (job ≡ Ended fate)) ⊎ ((job ≡ Waiting) ⊎ (job ≡ Running))
state_of (Ended fate) = inl (fate, refl)
state_of Waiting = inr (inl refl)
state_of Running = inr (inr refl)

module _ (floor : FloorState) (once : EachOnce floor.plan.installs) (some : 0 < floor.workers) (none : next_start floor ≡ None) where
  -- the next install waits for nothing, and was not started
  full : (place : ℕ) (step : Step) → length floor.plan.removals ≤ length floor.decided → slice_get floor.plan.installs place ≡ Some step → lacking floor.plan floor.decided step.needs ≡ None → job_at floor.jobs place ≡ Waiting → 0 < running floor.jobs
  full place step removed is met waits = elim (cases_lt (running floor.jobs) floor.workers) [
    | inl room ↦
        (let has = and_from (leb (length floor.plan.removals) (length floor.decided)) (ltb (running floor.jobs) floor.workers) (le-leb (length floor.plan.removals) (length floor.decided) removed) (lt-ltb (running floor.jobs) floor.workers room) in
        let unstarted = ap is_waiting (ap (job_at floor.jobs) (place_is floor.plan once place step is) ∙ waits) in
        let ready = and_from (is_waiting (progress_of floor step.member)) (list_all (has_installed floor.plan floor.decided) step.needs) unstarted (lacks_none floor.plan floor.decided step.needs met) in
        absurd (none_next floor once none step.member (may_from_ready floor place step once has is ready)))
    | inr over ↦ omega (arith, some, over)
  ]

  pub some_jobs_run : next_turn floor ≡ Wait → 0 < running floor.jobs
  some_jobs_run wait =
      let at : ℕ = length floor.decided in
      let place : ℕ = at - length floor.plan.removals in
      let f : Option Fate = fate_at floor.jobs place in
      elim (some_or_none (slice_get floor.plan.removals at)) [
        | inl entry ↦ absurd (other_turn (Remove entry.0) (sym wait ∙ ap (λ e. first_turn e (turn_at (slice_get floor.plan.installs place) floor.plan floor.decided f)) entry.1) tt)
        | inr no_entry ↦
            (let first = sym wait ∙ ap (λ e. first_turn e (turn_at (slice_get floor.plan.installs place) floor.plan floor.decided f)) no_entry in
            elim (some_or_none (slice_get floor.plan.installs place)) [
              | inr end ↦ absurd (not_done (first ∙ ap (λ s. turn_at s floor.plan floor.decided f) end))
              | inl step ↦
                  (let second = first ∙ ap (λ s. turn_at s floor.plan floor.decided f) step.1 in
                  elim (some_or_none (lacking floor.plan floor.decided step.0.needs)) [
                    | inl need ↦ absurd (other_turn (Abort step.0.member need.0) (second ∙ ap (λ o. install_turn step.0.member o f) need.1) tt)
                    | inr met ↦
                        (let third = second ∙ ap (λ o. install_turn step.0.member o f) met in
                        elim (state_of (job_at floor.jobs place)) [
                          | inl ended ↦ absurd (other_turn (Decide step.0.member ended.0) (third ∙ ap (λ j. install_turn step.0.member None (fate_in j)) ended.1) tt)
                          | inr other ↦ elim other [
                            | inl waits ↦ full place step.0 (none_past floor.plan.removals at no_entry) step.1 met waits
                            | inr runs ↦ some_run floor.jobs place runs
                          ]
                        ])
                  ])
            ])
      ]
    where
      other_turn : (turn : Turn) → Wait ≡ turn → IsDecidable turn → ⊥
      other_turn turn same may = let P : Turn → Type 0 = λ t. IsDecidable t in subst P (sym same) may

      not_done : Wait ≡ Done → ⊥
      not_done same = cc

-- a wait is no decision
pub wait_is_none : (floor : FloorState) → next_turn floor ≡ Wait → IsDecidable (next_turn floor) → ⊥
wait_is_none floor wait may = let P : Turn → Type 0 = λ t. IsDecidable t in subst P wait may
