-- Whose turn it is and who may start, by what a floor keeps.
use Rattle.std.proofs.Common.{◌≡◌, ℕ, ◌<◌, ◌≤◌, inl, inr, Bool, true, false, not, cond, List, [], ◌∷◌, length, get_or, sym, ap, refl, ◌∙◌, arith, ltb, leb}
use Rattle.std.specs.Prelude.{Vec, slice_get, find, option_map}
use Rattle.std.specs.List.{list_all, position_or_len}
use Rattle.std.specs.BinaryHeap.{heap_items}
use Rattle.std.specs.declared.option.Option.{Option}
use Rattle.std.specs.declared.option.Option.TheVariants.{None, Some}
use Rattle.std.proofs.lemmas.List.{get_or_past}
use Rattle.std.proofs.lemmas.List.Sums.{sum_by-cons, position_or_len_is}
use Rattle.std.proofs.lemmas.List.Folds.{find_at}
use Rattle.std.proofs.lemmas.Option.{slice_get-get_or, slice_get_past, slice_get_within}
use Rattle.std.proofs.lemmas.Bool.{and_from, and_left, and_parts, and_right, cases_Bool, cases_eq, cases_lt, cond-true, cond-false, eq-eqb, ne_eqb, le-leb, le-ltb, lt-leb, lt-ltb, false_from_ne_true}
use Rattle.action_graph.specs.declared.plan.Plan.{Plan}
use Rattle.action_graph.specs.declared.plan.Step.{Step}
use Rattle.change_floor.specs.declared.index.Index.{Index}
use Rattle.change_floor.specs.declared.queue.Queue.{Queue}
use Rattle.change_floor.specs.declared.progress.Progress.{Progress}
use Rattle.change_floor.specs.declared.progress.Progress.TheVariants.{Waiting}
use Rattle.change_floor.specs.Floors.{FloorState, has_room, has_installed, is_ready, is_waiting, next_start, install_place, running}
use Rattle.change_floor.specs.FloorLaws.{step_needs}
use Rattle.change_floor.specs.Keeping.{FloorKeeps, ready_times, unmet}
use Rattle.change_floor.specs.Queues.{IsFirstReady, is_free, left_of, times_in}
use Rattle.change_floor.proofs.Standing.{place_is}

-- nothing is unmet just where all needs are installed
all_met : (plan : Plan) (decided : List Bool) (needs : List ℕ) → unmet plan decided needs ≡ 0 → list_all (has_installed plan decided) needs ≡ true
all_met plan decided [] none = refl
all_met plan decided (x ∷ xs) none =
    let e = sum_by-cons (λ need. cond (not (has_installed plan decided need)) 1 0) x xs in
    elim (cases_Bool (has_installed plan decided x)) [
      | inl on ↦
          (let f = ap (λ b. cond {A = ℕ} (not b) 1 0) on in
          and_from (has_installed plan decided x) (list_all (has_installed plan decided) xs) on (all_met plan decided xs (omega (arith, none, e, f))))
      | inr off ↦ (let f = ap (λ b. cond {A = ℕ} (not b) 1 0) off in absurd (omega (arith, none, e, f)))
    ]

none_unmet : (plan : Plan) (decided : List Bool) (needs : List ℕ) → list_all (has_installed plan decided) needs ≡ true → unmet plan decided needs ≡ 0
none_unmet plan decided [] all = refl
none_unmet plan decided (x ∷ xs) all =
    let parts = and_parts (has_installed plan decided x) (list_all (has_installed plan decided) xs) all in
    let e = sum_by-cons (λ need. cond (not (has_installed plan decided need)) 1 0) x xs in
    let f = ap (λ b. cond {A = ℕ} (not b) 1 0) parts.0 in
    omega (arith, e, f, none_unmet plan decided xs parts.1)

-- a floor as clauses see it
abbrev pub seen_as : {Z : Type 0} → Plan → ℕ → Vec Bool Z → List Progress → FloorState
seen_as plan workers decided jobs = record { plan = plan; workers = workers; decided = decided.items; jobs = jobs }

-- who stands in the heap waits for nothing, and was not started
pub free_there : (jobs : List Progress) (left : List ℕ) (place times : ℕ) → times ≡ ready_times jobs left place → 0 < times → (is_waiting (get_or jobs place Waiting) ≡ true) × (left_of left place ≡ 0)
free_there jobs left place times is some = elim (cases_Bool (is_waiting (get_or jobs place Waiting))) [
  | inr off ↦ (let f = is ∙ cond-false (is_waiting (get_or jobs place Waiting)) (is_free (left_of left place)) 0 off in absurd (omega (arith, f, some)))
  | inl on ↦
      (let f = is ∙ cond-true (is_waiting (get_or jobs place Waiting)) (is_free (left_of left place)) 0 on in
      elim (cases_eq (left_of left place) 0) [
        | inl none ↦ (on, none)
        | inr waits ↦ (let g : is_free (left_of left place) ≡ 0 = ap (λ b. cond b 1 0) (ne_eqb (left_of left place) 0 waits) in absurd (omega (arith, f, g, some)))
      ])
]

within_there : (left : List ℕ) (place : ℕ) → left_of left place ≡ 0 → place < length left
within_there left place none = elim (cases_lt place (length left)) [
  | inl below ↦ below
  | inr past ↦ absurd (omega (arith, none, get_or_past left place 1 past))
]

pub ready_on : {Z : Type 0} (plan : Plan) (workers : ℕ) (decided : Vec Bool Z) (jobs : List Progress) (busy : ℕ) (lacks : Option ℕ) (index : Index) (dependents : List (List ℕ)) (queue : Queue) (place : ℕ) (step : Step)
    → FloorKeeps plan decided jobs busy lacks index dependents queue → slice_get plan.installs place ≡ Some step → 0 < times_in place (heap_items queue.ready) → is_ready (seen_as plan workers decided jobs) step ≡ true
ready_on plan workers decided jobs busy lacks index dependents queue place step holds is some =
    let free = free_there jobs queue.left place (times_in place (heap_items queue.ready)) (holds.readied place) some in
    let below = slice_get_within plan.installs place step is in
    let none : unmet plan decided.items step.needs ≡ 0 = sym (ap (λ s. unmet plan decided.items (step_needs s)) is) ∙ sym (holds.counts place below) ∙ free.1 in
    let at = place_is plan holds.once place step is in
    and_from (is_waiting (get_or jobs (install_place plan.installs step.member) Waiting)) (list_all (has_installed plan decided.items) step.needs)
    (ap (λ p. is_waiting (get_or jobs p Waiting)) at ∙ free.0) (all_met plan decided.items step.needs none)

pub ready_off : {Z : Type 0} (plan : Plan) (workers : ℕ) (decided : Vec Bool Z) (jobs : List Progress) (busy : ℕ) (lacks : Option ℕ) (index : Index) (dependents : List (List ℕ)) (queue : Queue) (place : ℕ) (step : Step)
    → FloorKeeps plan decided jobs busy lacks index dependents queue → slice_get plan.installs place ≡ Some step → times_in place (heap_items queue.ready) ≡ 0 → is_ready (seen_as plan workers decided jobs) step ≡ false
ready_off plan workers decided jobs busy lacks index dependents queue place step holds is none =
    false_from_ne_true (is_ready (seen_as plan workers decided jobs) step) (λ ready.
    (let parts = and_parts (is_waiting (get_or jobs (install_place plan.installs step.member) Waiting)) (list_all (has_installed plan decided.items) step.needs) ready in
    let at = place_is plan holds.once place step is in
    let below = slice_get_within plan.installs place step is in
    let on = sym (ap (λ p. is_waiting (get_or jobs p Waiting)) at) ∙ parts.0 in
    let left : left_of queue.left place ≡ 0 = holds.counts place below ∙ ap (λ s. unmet plan decided.items (step_needs s)) is ∙ none_unmet plan decided.items step.needs parts.1 in
    let free : is_free (left_of queue.left place) ≡ 1 = ap (λ b. cond b 1 0) (eq-eqb (left_of queue.left place) 0 left) in
    let e = holds.readied place ∙ cond-true (is_waiting (get_or jobs place Waiting)) (is_free (left_of queue.left place)) 0 on in
    omega (arith, none, e, free)))

pub record Found (plan : Plan) (floor : FloorState) (place : ℕ) (step : Step) : Type 0 where
  pub below : place < length plan.installs
  pub is : slice_get plan.installs place ≡ Some step
  pub found : find (is_ready floor) plan.installs ≡ Some step

pub first_found : {Z : Type 0} (plan : Plan) (workers : ℕ) (decided : Vec Bool Z) (jobs : List Progress) (busy : ℕ) (lacks : Option ℕ) (index : Index) (dependents : List (List ℕ)) (queue : Queue) (place : ℕ) (d : Step)
    → FloorKeeps plan decided jobs busy lacks index dependents queue → IsFirstReady (heap_items queue.ready) place → Found plan (seen_as plan workers decided jobs) place (get_or plan.installs place d)
first_found plan workers decided jobs busy lacks index dependents queue place d holds first =
    let free = free_there jobs queue.left place (times_in place (heap_items queue.ready)) (holds.readied place) first.stands in
    let below : place < length plan.installs = omega (arith, within_there queue.left place free.1, holds.lefts) in
    let is = slice_get-get_or plan.installs place d below in
    let p : Step → Bool = is_ready (seen_as plan workers decided jobs) in
    let at = position_or_len_is p plan.installs place d (omega (arith, below))
    (λ k before. ready_off plan workers decided jobs busy lacks index dependents queue k (get_or plan.installs k d) holds (slice_get-get_or plan.installs k d (omega (arith, before, below)))
    (none_before k before))
    (λ inside. ready_on plan workers decided jobs busy lacks index dependents queue place (get_or plan.installs place d) holds is first.stands) in
    record {
      below = below;
      is = is;
      found = find_at p plan.installs ∙ ap (slice_get plan.installs) at ∙ is;
    }
  where
    none_before : (k : ℕ) → k < place → times_in k (heap_items queue.ready) ≡ 0
    none_before k before = elim (cases_eq (times_in k (heap_items queue.ready)) 0) [
      | inl none ↦ none
      | inr some ↦ absurd (omega (arith, before, first.least k (omega (arith, some))))
    ]

pub none_found : {Z : Type 0} (plan : Plan) (workers : ℕ) (decided : Vec Bool Z) (jobs : List Progress) (busy : ℕ) (lacks : Option ℕ) (index : Index) (dependents : List (List ℕ)) (queue : Queue)
    → FloorKeeps plan decided jobs busy lacks index dependents queue → ((place : ℕ) → times_in place (heap_items queue.ready) ≡ 0) → find (is_ready (seen_as plan workers decided jobs)) plan.installs ≡ None
none_found plan workers decided jobs busy lacks index dependents queue holds none =
    let p : Step → Bool = is_ready (seen_as plan workers decided jobs) in
    let at : position_or_len p plan.installs ≡ length plan.installs = all_fail plan.installs refl in
    find_at p plan.installs ∙ ap (slice_get plan.installs) at ∙ slice_get_past plan.installs (length plan.installs) (omega arith)
  where
    all_fail : (installs : List Step) → installs ≡ plan.installs → position_or_len (is_ready (seen_as plan workers decided jobs)) installs ≡ length installs
    all_fail [] same = refl
    all_fail (x ∷ xs) same =
        position_or_len_is (is_ready (seen_as plan workers decided jobs)) (x ∷ xs) (length (x ∷ xs)) x (omega arith)
        (λ k before. ready_off plan workers decided jobs busy lacks index dependents queue k (get_or (x ∷ xs) k x) holds (ap (λ is. slice_get is k) (sym same) ∙ slice_get-get_or (x ∷ xs) k x before) (none k))
        (λ inside. absurd (omega (arith, inside)))

-- who may start next
pub start_closed : (floor : FloorState) → has_room floor ≡ false → None ≡ next_start floor
start_closed floor off = sym (cond-false (has_room floor) (option_map (λ (step : Step). step.member) (find (is_ready floor) floor.plan.installs)) None off)

pub start_open : (floor : FloorState) (o : Option Step) → has_room floor ≡ true → find (is_ready floor) floor.plan.installs ≡ o → option_map (λ (step : Step). step.member) o ≡ next_start floor
start_open floor o on is = ap (option_map (λ (step : Step). step.member)) (sym is) ∙ sym (cond-true (has_room floor) (option_map (λ (step : Step). step.member) (find (is_ready floor) floor.plan.installs)) None on)

pub early : (floor : FloorState) → length floor.decided < length floor.plan.removals → has_room floor ≡ false
early floor before = and_left (leb (length floor.plan.removals) (length floor.decided)) (ltb (running floor.jobs) floor.workers) (lt-leb (length floor.plan.removals) (length floor.decided) before)

pub full : (floor : FloorState) → floor.workers ≤ running floor.jobs → has_room floor ≡ false
full floor past = and_right (leb (length floor.plan.removals) (length floor.decided)) (ltb (running floor.jobs) floor.workers) (le-ltb (running floor.jobs) floor.workers past)

pub roomy : (floor : FloorState) → length floor.plan.removals ≤ length floor.decided → running floor.jobs < floor.workers → has_room floor ≡ true
roomy floor past below =
    and_from (leb (length floor.plan.removals) (length floor.decided)) (ltb (running floor.jobs) floor.workers) (le-leb (length floor.plan.removals) (length floor.decided) past) (lt-ltb (running floor.jobs) floor.workers below)
