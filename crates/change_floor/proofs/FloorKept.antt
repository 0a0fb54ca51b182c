-- What a floor keeps, through each call.
use Rattle.std.proofs.Common.{◌≡◌, ◌≢◌, ℕ, ◌+◌, ◌-◌, ◌^◌, ◌<◌, ◌≤◌, inl, inr, Bool, true, false, cond, List, [], ◌∷◌, ◌++◌, length, get_or, set, map, replicate, sym, ap, refl, ◌∙◌, arith, subst, eqb, ltb}
use Rattle.std.specs.Prelude.{Vec, vec_capacity, count_by}
use Rattle.std.specs.BinaryHeap.{IsHeap, heap_capacity, heap_items, heap_len}
use Rattle.std.specs.declared.option.Option.{Option}
use Rattle.std.specs.declared.option.Option.TheVariants.{None, Some}
use Rattle.std.proofs.lemmas.List.{get_or-map, get_or-replicate, get_or-set_other, get_or-set_same, get_or_past, length-map, length-replicate, length-set, length_push}
use Rattle.std.proofs.lemmas.List.Sums.{sum_by-set}
use Rattle.std.proofs.lemmas.List.Folds.{sum_by-replicate}
use Rattle.std.proofs.lemmas.Option.{slice_get-get_or}
use Rattle.std.proofs.lemmas.Bool.{cases_Bool, cases_eq, cases_lt, cond-true, cond-false, eq-eqb, ne_eqb, false≢true, true≢false}
use Rattle.outside_io.specs.declared.workshop.Fate.{Fate}
use Rattle.action_graph.specs.declared.plan.Plan.{Plan}
use Rattle.action_graph.specs.declared.plan.Step.{Step}
use Rattle.change_floor.specs.declared.index.Index.{Index}
use Rattle.change_floor.specs.declared.queue.Queue.{Queue}
use Rattle.change_floor.specs.declared.progress.Progress.{Progress}
use Rattle.change_floor.specs.declared.progress.Progress.TheVariants.{Waiting, Running, Ended}
use Rattle.change_floor.specs.Floors.{FloorState, has_room, is_running, is_waiting, lacking, next_start, install_place}
use Rattle.change_floor.specs.FloorLaws.{EachOnce, install_needs, step_needs}
use Rattle.change_floor.specs.Keeping.{CountsUnmet, FloorKeeps, Indexes, Settles, Turned, ready_times, standing, unmet}
use Rattle.change_floor.specs.Queues.{Fits, IsFirstReady, Readies, is_free, least_first, left_of, times_in}
use Rattle.change_floor.proofs.Standing.{place_is}
use Rattle.change_floor.proofs.Turning.{stands_nowhere}
use Rattle.change_floor.proofs.FloorTurns.{first_found, free_there, none_found, seen_as, start_closed, start_open}

some_step : Step
some_step = record { member = 0; needs = [] }

-- how far jobs are, after one went on
waits_other : (jobs : List Progress) (place : ℕ) (job : Progress) (k : ℕ) → k ≢ place → is_waiting (get_or (set jobs place job) k Waiting) ≡ is_waiting (get_or jobs k Waiting)
waits_other jobs place job k apart = ap is_waiting (get_or-set_other jobs place k job Waiting apart)

waits_same : (jobs : List Progress) (place : ℕ) (job : Progress) (k : ℕ) → place < length jobs → is_waiting job ≡ is_waiting (get_or jobs place Waiting) → is_waiting (get_or (set jobs place job) k Waiting) ≡ is_waiting (get_or jobs k Waiting)
waits_same jobs place job k below same = elim (cases_eq k place) [
  | inl here ↦
      (let P : ℕ → Type 0 = λ p. is_waiting (get_or (set jobs place job) p Waiting) ≡ is_waiting (get_or jobs p Waiting) in
      subst P (sym here) (ap is_waiting (get_or-set_same jobs place job Waiting below) ∙ same))
  | inr apart ↦ waits_other jobs place job k apart
]

abbrev one_if_runs : Progress → ℕ
one_if_runs job = cond (is_running job) 1 0

-- a job has ended
pub ended_holds : {Z : Type 0} (plan : Plan) (decided : Vec Bool Z) (jobs more : List Progress) (busy : ℕ) (lacks : Option ℕ) (index : Index) (dependents : List (List ℕ)) (queue : Queue) (place : ℕ) (fate : Fate)
    → FloorKeeps plan decided jobs busy lacks index dependents queue → place < length plan.installs → get_or jobs place Waiting ≡ Running → more ≡ set jobs place (Ended fate)
    → FloorKeeps plan decided more (busy - 1) lacks index dependents queue
ended_holds {Z} plan decided jobs more busy lacks index dependents queue place fate holds below runs written =
    let P : List Progress → Type 0 = λ js. FloorKeeps plan decided js (busy - 1) lacks index dependents queue in
    let inside : place < length jobs = omega (arith, below, holds.counted) in
    let off : is_waiting (Ended fate) ≡ is_waiting (get_or jobs place Waiting) = sym (ap is_waiting runs) in
    let sums = sum_by-set one_if_runs jobs place (Ended fate) Waiting inside in
    let one : one_if_runs (get_or jobs place Waiting) ≡ 1 = ap one_if_runs runs in
    let waits = λ (k : ℕ). waits_same jobs place (Ended fate) k inside off in
    subst P (sym written) (record {
      once = holds.once;
      known = holds.known;
      small = holds.small;
      spare = holds.spare;
      within = holds.within;
      counted = length-set jobs place (Ended fate) ∙ holds.counted;
      runs = omega (arith, holds.runs, sums, one);
      lack = holds.lack;
      turned = holds.turned;
      lefts = holds.lefts;
      counts = holds.counts;
      fits = holds.fits;
      readied = λ k. holds.readied k ∙ ap (λ b. cond b (is_free (left_of queue.left k)) 0) (sym (waits k));
      freed = λ k less started. holds.freed k less (sym (waits k) ∙ started);
    })

-- the next start is that of the first place in the heap
pub start_of : {Z : Type 0} (plan : Plan) (workers : ℕ) (decided : Vec Bool Z) (jobs : List Progress) (busy : ℕ) (lacks : Option ℕ) (index : Index) (dependents : List (List ℕ)) (queue : Queue) (place id : ℕ)
    → FloorKeeps plan decided jobs busy lacks index dependents queue → IsFirstReady (heap_items queue.ready) place → next_start (seen_as plan workers decided jobs) ≡ Some id → (install_place plan.installs id ≡ place) × (place < length plan.installs)
start_of plan workers decided jobs busy lacks index dependents queue place id holds first is =
    let floor : FloorState = seen_as plan workers decided jobs in
    let found = first_found plan workers decided jobs busy lacks index dependents queue place some_step holds first in
    elim (cases_Bool (has_room floor)) [
      | inr off ↦ absurd (no_some id (start_closed floor off ∙ is))
      | inl on ↦
          (let e = same_some (get_or plan.installs place some_step).member id (start_open floor (Some (get_or plan.installs place some_step)) on found.found ∙ is) in
          (ap (install_place plan.installs) (sym e) ∙ place_is plan holds.once place (get_or plan.installs place some_step) found.is, found.below))
    ]
  where
    no_some : (n : ℕ) → None ≡ Some n → ⊥
    no_some n same = cc

    same_some : (m n : ℕ) → Some m ≡ Some n → m ≡ n
    same_some m n same = cc

pub no_start : {Z : Type 0} (plan : Plan) (workers : ℕ) (decided : Vec Bool Z) (jobs : List Progress) (busy : ℕ) (lacks : Option ℕ) (index : Index) (dependents : List (List ℕ)) (queue : Queue) (id : ℕ)
    → FloorKeeps plan decided jobs busy lacks index dependents queue → ((place : ℕ) → times_in place (heap_items queue.ready) ≡ 0) → next_start (seen_as plan workers decided jobs) ≡ Some id → ⊥
no_start plan workers decided jobs busy lacks index dependents queue id holds none is =
    let floor : FloorState = seen_as plan workers decided jobs in
    elim (cases_Bool (has_room floor)) [
      | inr off ↦ no_some id (start_closed floor off ∙ is)
      | inl on ↦ no_some id (start_open floor None on (none_found plan workers decided jobs busy lacks index dependents queue holds none) ∙ is)
    ]
  where
    no_some : (n : ℕ) → None ≡ Some n → ⊥
    no_some n same = cc

idle : (job : Progress) → is_waiting job ≡ true → one_if_runs job ≡ 0
idle Waiting on = refl
idle Running on = absurd cc
idle (Ended fate) on = refl

-- a job was started
pub started_holds : {Z : Type 0} (plan : Plan) (decided : Vec Bool Z) (jobs more : List Progress) (busy : ℕ) (lacks : Option ℕ) (index : Index) (dependents : List (List ℕ)) (queue now : Queue) (place : ℕ)
    → FloorKeeps plan decided jobs busy lacks index dependents queue → IsFirstReady (heap_items queue.ready) place → place < length plan.installs → now.left ≡ queue.left → IsHeap least_first (heap_items now.ready)
    → heap_len now.ready + 1 ≡ heap_len queue.ready → heap_capacity now.ready ≡ heap_capacity queue.ready
    → ((other : ℕ) → cond (eqb place other) 1 0 + times_in other (heap_items now.ready) ≡ times_in other (heap_items queue.ready))
    → more ≡ set jobs place Running → FloorKeeps plan decided more (busy + 1) lacks index dependents now
started_holds {Z} plan decided jobs more busy lacks index dependents queue now place holds first below same ordered shorter wide times_are written =
    let P : List Progress → Type 0 = λ js. FloorKeeps plan decided js (busy + 1) lacks index dependents now in
    let L : List ℕ → Type 0 = λ left. CountsUnmet plan decided.items left in
    let inside : place < length jobs = omega (arith, below, holds.counted) in
    let free = free_there jobs queue.left place (times_in place (heap_items queue.ready)) (holds.readied place) first.stands in
    let sums = sum_by-set one_if_runs jobs place Running Waiting inside in
    let none : one_if_runs (get_or jobs place Waiting) ≡ 0 = idle (get_or jobs place Waiting) free.0 in
    let lefts = λ (k : ℕ). ap (λ ls. left_of ls k) same in
    subst P (sym written) (record {
      once = holds.once;
      known = holds.known;
      small = holds.small;
      spare = holds.spare;
      within = holds.within;
      counted = length-set jobs place Running ∙ holds.counted;
      runs = omega (arith, holds.runs, sums, none);
      lack = holds.lack;
      turned = holds.turned;
      lefts = ap length same ∙ holds.lefts;
      counts = subst L (sym same) holds.counts;
      fits = record { ordered = ordered; room = omega (arith, holds.fits.room, shorter, wide, ap (λ ls. count_by (λ one. ltb 0 one) ls) same) };
      readied = λ k. elim (cases_eq k place) [
        | inl here ↦
            (let Q : ℕ → Type 0 = λ p. times_in p (heap_items now.ready) ≡ ready_times (set jobs place Running) now.left p in
            let one = ap (λ b. cond {A = ℕ} b 1 0) (eq-eqb place place refl) in
            let was = holds.readied place ∙ cond-true (is_waiting (get_or jobs place Waiting)) (is_free (left_of queue.left place)) 0 free.0 ∙ ap is_free free.1 in
            let off = ap (λ j. cond (is_waiting j) (is_free (left_of now.left place)) 0) (get_or-set_same jobs place Running Waiting inside) in
            subst Q (sym here) (omega (arith, one, was, off, times_are place)))
        | inr apart ↦
            (let none_here = ap (λ b. cond {A = ℕ} b 1 0) (ne_eqb place k (λ e. apart (sym e))) in
            let kept = ap (λ j. cond (is_waiting j) (is_free (left_of now.left k)) 0) (get_or-set_other jobs place k Running Waiting apart) in
            let lower = ap (λ n. cond (is_waiting (get_or jobs k Waiting)) (is_free n) 0) (lefts k) in
            omega (arith, none_here, times_are k, holds.readied k, kept, lower))
      ];
      freed = λ k less off. elim (cases_eq k place) [
        | inl here ↦ lefts k ∙ ap (left_of queue.left) here ∙ free.1
        | inr apart ↦ lefts k ∙ holds.freed k less (sym (waits_other jobs place Running k apart) ∙ off)
      ];
    })

-- the next action is decided
pub decided_holds : {Z : Type 0} (plan : Plan) (decided more : Vec Bool Z) (seen later : List Bool) (good : Bool) (jobs : List Progress) (busy : ℕ) (lacks lacks_now : Option ℕ) (index : Index) (dependents : List (List ℕ)) (queue now : Queue)
    → FloorKeeps plan decided jobs busy lacks index dependents queue → seen ≡ decided.items → more.items ≡ decided.items ++ good ∷ [] → vec_capacity more ≡ vec_capacity decided
    → length decided.items < length plan.removals + length plan.installs → Settles plan seen good queue now → later ≡ more.items
    → (length plan.removals ≤ length later → lacks_now ≡ lacking plan later (install_needs plan (length later - length plan.removals))) → FloorKeeps plan more jobs busy lacks_now index dependents now
decided_holds {Z} plan decided more seen later good jobs busy lacks lacks_now index dependents queue now holds same pushed wide below settles moment_after lack =
    let S : List Bool → Type 0 = λ ds. CountsUnmet plan (ds ++ good ∷ []) now.left in
    let M : List Bool → Type 0 = λ ds. CountsUnmet plan ds now.left in
    let A : List Bool → Type 0 = λ ds. length plan.removals ≤ length ds → lacks_now ≡ lacking plan ds (install_needs plan (length ds - length plan.removals)) in
    record {
      once = holds.once;
      known = holds.known;
      small = holds.small;
      spare = omega (arith, holds.spare, wide);
      within = omega (arith, below, ap length pushed, length_push decided.items good);
      counted = holds.counted;
      runs = holds.runs;
      lack = subst A moment_after lack;
      turned = holds.turned;
      lefts = settles.counted ∙ holds.lefts;
      counts = subst M (sym pushed) (subst S same settles.counts);
      fits = settles.fits;
      readied = λ k. elim (cases_Bool (is_waiting (get_or jobs k Waiting))) [
        | inl on ↦
            (let was = holds.readied k ∙ cond-true (is_waiting (get_or jobs k Waiting)) (is_free (left_of queue.left k)) 0 on in
            let is = cond-true (is_waiting (get_or jobs k Waiting)) (is_free (left_of now.left k)) 0 on in
            omega (arith, was, is, settles.readied k))
        | inr off ↦
            (let was = holds.readied k ∙ cond-false (is_waiting (get_or jobs k Waiting)) (is_free (left_of queue.left k)) 0 off in
            let is = cond-false (is_waiting (get_or jobs k Waiting)) (is_free (left_of now.left k)) 0 off in
            let none = holds.freed k (started_within k off) off in
            let none_now : left_of now.left k ≡ 0 = omega (arith, none, settles.fewer k) in
            let one = ap is_free none in
            let one_now = ap is_free none_now in
            omega (arith, was, is, one, one_now, settles.readied k))
      ];
      freed = λ k less off. omega (arith, holds.freed k less off, settles.fewer k);
    }
  where
    started_within : (k : ℕ) → is_waiting (get_or jobs k Waiting) ≡ false → k < length plan.installs
    started_within k off = elim (cases_lt k (length plan.installs)) [
      | inl less ↦ less
      | inr past ↦ absurd (false≢true (sym off ∙ ap is_waiting (get_or_past jobs k Waiting (omega (arith, past, holds.counted)))))
    ]

-- a new floor
counts_first : (plan : Plan) (decided : List Bool) (left : List ℕ) → left ≡ map (λ (step : Step). unmet plan decided step.needs) plan.installs → CountsUnmet plan decided left
counts_first plan decided left are = λ k below.
    let x : Step = get_or plan.installs k some_step in
    let found = slice_get-get_or plan.installs k some_step below in
    ap (λ ls. left_of ls k) are ∙ get_or-map (λ (step : Step). unmet plan decided step.needs) plan.installs k some_step 1 below ∙ sym (ap (λ s. unmet plan decided (step_needs s)) found)

all_wait : (n k : ℕ) → is_waiting (get_or (replicate n Waiting) k Waiting) ≡ true
all_wait n k = elim (cases_lt k n) [
  | inl below ↦ ap is_waiting (get_or-replicate n k Waiting Waiting below)
  | inr past ↦ ap is_waiting (get_or_past (replicate n Waiting) k Waiting (omega (arith, past, length-replicate n Waiting)))
]

pub new_holds : {Z : Type 0} (plan own : Plan) (decided : Vec Bool Z) (jobs : List Progress) (count : ℕ) (lacks : Option ℕ) (index : Index) (dependents : List (List ℕ)) (left : List ℕ) (queue : Queue) (seen later : List Bool)
    → own ≡ plan → EachOnce plan.installs → Indexes plan index → length plan.removals + length plan.installs < 2 ^ 64 → length plan.removals + length plan.installs ≤ vec_capacity decided → decided.items ≡ []
    → count ≡ length plan.installs → jobs ≡ replicate count Waiting → seen ≡ decided.items → (length plan.removals ≤ length seen → lacks ≡ lacking plan seen (install_needs plan (length seen - length plan.removals)))
    → Turned plan dependents → later ≡ decided.items → left ≡ map (λ (step : Step). unmet plan later step.needs) plan.installs → queue.left ≡ left → Fits left queue.ready → Readies left (heap_items queue.ready)
    → FloorKeeps own decided jobs 0 lacks index dependents queue
new_holds {Z} plan own decided jobs count lacks index dependents left queue seen later same once known small spare empty counted written is lack turned is_too counts taken fits ready =
    let P : Plan → Type 0 = λ p. FloorKeeps p decided jobs 0 lacks index dependents queue in
    let J : List Progress → Type 0 = λ js. FloorKeeps plan decided js 0 lacks index dependents queue in
    let A : List Bool → Type 0 = λ ds. length plan.removals ≤ length ds → lacks ≡ lacking plan ds (install_needs plan (length ds - length plan.removals)) in
    let C : List Bool → Type 0 = λ ds. CountsUnmet plan ds queue.left in
    let F : List ℕ → Type 0 = λ ls. Fits ls queue.ready in
    let R : List ℕ → Type 0 = λ ls. Readies ls (heap_items queue.ready) in
    let readies = subst R (sym taken) ready in
    let no_runs = sum_by-replicate one_if_runs count Waiting in
    subst P (sym same) (subst J (sym written) (record {
      once = once;
      known = known;
      small = small;
      spare = spare;
      within = omega (arith, ap length empty);
      counted = length-replicate count Waiting ∙ counted;
      runs = omega (arith, no_runs);
      lack = subst A is lack;
      turned = turned;
      lefts = ap length (taken ∙ counts) ∙ length-map plan.installs (λ (step : Step). unmet plan later step.needs);
      counts = subst C is_too (counts_first plan later queue.left (taken ∙ counts));
      fits = subst F (sym taken) fits;
      readied = λ k. readies k ∙ sym (cond-true (is_waiting (get_or (replicate count Waiting) k Waiting)) (is_free (left_of queue.left k)) 0 (all_wait count k));
      freed = λ k less off. absurd (true≢false (sym (all_wait count k) ∙ off));
    }))

-- what is no install does not run
pub runs_nowhere : (plan : Plan) (jobs : List Progress) (id : ℕ) → standing plan.installs id ≡ None → length jobs ≡ length plan.installs → false ≡ is_running (get_or jobs (install_place plan.installs id) Waiting)
runs_nowhere plan jobs id is counted = sym (ap is_running (get_or_past jobs (install_place plan.installs id) Waiting (omega (arith, stands_nowhere plan.installs id is, counted))))
