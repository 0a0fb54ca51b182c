-- What a decision changes for those that wait.
use Rattle.std.proofs.Common.{◌≡◌, ℕ, ◌+◌, ◌<◌, ◌≤◌, ◌⊎◌, inl, inr, Bool, true, false, not, ◌&&◌, ◌||◌, cond, List, [], ◌∷◌, ◌++◌, length, get_or, sym, ap, refl, ◌∙◌, arith, subst, eqb, leb}
use Rattle.std.specs.Prelude.{count_by}
use Rattle.std.specs.List.{list_any}
use Rattle.std.proofs.lemmas.List.{get_or_append_left, get_or_push, get_or_past, length_push}
use Rattle.std.proofs.lemmas.List.Sums.{sum_by-cons, get_or-le-sum_by}
use Rattle.std.proofs.lemmas.Option.{slice_get_past}
use Rattle.std.proofs.lemmas.Bool.{cases_eq, cases_lt, eq-eqb, ne_eqb, lt-leb}
use Rattle.action_graph.specs.declared.plan.Plan.{Plan}
use Rattle.change_floor.specs.declared.queue.Queue.{Queue}
use Rattle.change_floor.specs.Floors.{is_done_at, has_installed, is_there, install_place}
use Rattle.change_floor.specs.FloorLaws.{install_needs, step_needs}
use Rattle.change_floor.specs.Keeping.{CountsUnmet, Settles, Turned, needed, row_at, unmet}
use Rattle.change_floor.specs.Queues.{Fits, Lowers, left_of, times}

abbrev one_if : Bool → ℕ
one_if b = cond b 1 0

-- counts of tests that say the same, and of a test that falls apart
count_same : (p q : ℕ → Bool) (xs : List ℕ) → ((x : ℕ) → p x ≡ q x) → count_by p xs ≡ count_by q xs
count_same p q [] same = refl
count_same p q (x ∷ xs) same =
    let e = sum_by-cons (λ y. cond (p y) 1 0) x xs in
    let f = sum_by-cons (λ y. cond (q y) 1 0) x xs in
    let h = ap one_if (same x) in omega (arith, e, f, h, count_same p q xs same)

count_parts : (p q s : ℕ → Bool) (xs : List ℕ) → ((x : ℕ) → one_if (p x) ≡ one_if (q x) + one_if (s x)) → count_by p xs ≡ count_by q xs + count_by s xs
count_parts p q s [] parts = refl
count_parts p q s (x ∷ xs) parts =
    let e = sum_by-cons (λ y. cond (p y) 1 0) x xs in
    let f = sum_by-cons (λ y. cond (q y) 1 0) x xs in
    let g = sum_by-cons (λ y. cond (s y) 1 0) x xs in
    omega (arith, e, f, g, parts x, count_parts p q s xs parts)

-- a decision that sets nobody free
done_same : (plan : Plan) (decided : List Bool) (done : Bool) → (done ≡ false) ⊎ (length decided < length plan.removals) → (place : ℕ) → is_done_at plan decided place ≡ is_done_at plan (decided ++ done ∷ []) place
done_same plan decided done quiet place = elim (cases_lt (length plan.removals + place) (length decided)) [
  | inl below ↦ sym (get_or_append_left decided (done ∷ []) false (length plan.removals + place) below)
  | inr past ↦ elim (cases_eq (length decided) (length plan.removals + place)) [
    | inl here ↦ elim quiet [
      | inl off ↦ get_or_past decided (length plan.removals + place) false past ∙ sym off ∙ sym (get_or_push decided done false (length plan.removals + place) here)
      | inr early ↦ absurd (omega (arith, early, here))
    ]
    | inr apart ↦
        (get_or_past decided (length plan.removals + place) false past
        ∙ sym (get_or_past (decided ++ done ∷ []) (length plan.removals + place) false (omega (arith, past, apart, length_push decided done))))
  ]
]

unmet_same : (plan : Plan) (decided : List Bool) (done : Bool) (needs : List ℕ) → (done ≡ false) ⊎ (length decided < length plan.removals) → unmet plan decided needs ≡ unmet plan (decided ++ done ∷ []) needs
unmet_same plan decided done needs quiet =
    count_same (λ need. not (has_installed plan decided need)) (λ need. not (has_installed plan (decided ++ done ∷ []) need)) needs
    (λ need. ap (λ d. not (is_there plan need || d)) (done_same plan decided done quiet (install_place plan.installs need)))

pub settles_quiet : (plan : Plan) (decided : List Bool) (done : Bool) (queue : Queue) → (done ≡ false) ⊎ (length decided < length plan.removals) → Fits queue.left queue.ready → CountsUnmet plan decided queue.left
    → Settles plan decided done queue queue
settles_quiet plan decided done queue quiet fits counts = record {
  counted = refl;
  counts = λ place below. counts place below ∙ unmet_same plan decided done (install_needs plan place) quiet;
  fewer = λ place. omega arith;
  readied = λ place. refl;
  fits = fits;
}

-- an install is done: one need less for each that needs it
unmet_less : (plan : Plan) (decided : List Bool) (place : ℕ) (needs : List ℕ) → length plan.removals + place ≡ length decided → place < length plan.installs
    → unmet plan decided needs ≡ unmet plan (decided ++ true ∷ []) needs + needed plan.installs place needs
unmet_less plan decided place needs here below =
    count_parts (λ need. not (has_installed plan decided need)) (λ need. not (has_installed plan (decided ++ true ∷ []) need)) (λ need. eqb (install_place plan.installs need) place) needs
    (λ need. by need)
  where
    old_off : (at : ℕ) → at ≡ place → is_done_at plan decided at ≡ false
    old_off at same = get_or_past decided (length plan.removals + at) false (omega (arith, same, here))

    new_on : (at : ℕ) → at ≡ place → is_done_at plan (decided ++ true ∷ []) at ≡ true
    new_on at same = get_or_push decided true false (length plan.removals + at) (omega (arith, same, here))

    others : (at : ℕ) → (at ≡ place → ⊥) → is_done_at plan decided at ≡ is_done_at plan (decided ++ true ∷ []) at
    others at apart = elim (cases_lt (length plan.removals + at) (length decided)) [
      | inl before ↦ sym (get_or_append_left decided (true ∷ []) false (length plan.removals + at) before)
      | inr past ↦
          (get_or_past decided (length plan.removals + at) false past
          ∙ sym (get_or_past (decided ++ true ∷ []) (length plan.removals + at) false (omega (arith, past, apart, here, length_push decided true))))
    ]

    own : (a d e : Bool) → a ≡ false → d ≡ false → e ≡ true → one_if (not (a || d)) ≡ one_if (not (a || e)) + 1
    own true d e one two three = absurd cc
    own false true e one two three = absurd cc
    own false false true one two three = refl
    own false false false one two three = absurd cc

    by : (need : ℕ) → one_if (not (has_installed plan decided need)) ≡ one_if (not (has_installed plan (decided ++ true ∷ []) need)) + one_if (eqb (install_place plan.installs need) place)
    by need = elim (cases_eq (install_place plan.installs need) place) [
      | inl same ↦
          (let one : one_if (eqb (install_place plan.installs need) place) ≡ 1 = ap one_if (eq-eqb (install_place plan.installs need) place same) in
          let not_there : is_there plan need ≡ false = and_off (leb (length plan.installs) (install_place plan.installs need)) (not (list_any (eqb need) plan.missing)) (lt-leb (length plan.installs) (install_place plan.installs need) (omega (arith, same, below))) in
          let e = own (is_there plan need) (is_done_at plan decided (install_place plan.installs need)) (is_done_at plan (decided ++ true ∷ []) (install_place plan.installs need)) not_there
          (old_off (install_place plan.installs need) same) (new_on (install_place plan.installs need) same) in
          omega (arith, e, one))
      | inr apart ↦
          (let none : one_if (eqb (install_place plan.installs need) place) ≡ 0 = ap one_if (ne_eqb (install_place plan.installs need) place apart) in
          let e = ap (λ d. one_if (not (is_there plan need || d))) (others (install_place plan.installs need) apart) in
          omega (arith, e, none))
    ]
      where
        and_off : (a b : Bool) → a ≡ false → (a && b) ≡ false
        and_off true b off = absurd cc
        and_off false b off = refl

no_needs : (plan : Plan) (place : ℕ) → length plan.installs ≤ place → install_needs plan place ≡ []
no_needs plan place past = ap step_needs (slice_get_past plan.installs place past)

-- the row of an install has no place past the last
pub row_within : (plan : Plan) (rows : List (List ℕ)) (place : ℕ) (row : List ℕ) (i : ℕ) → Turned plan rows → place < length plan.installs → row ≡ row_at rows place → i < length row → get_or row i 0 < length plan.installs
row_within plan rows place row i turned below is inside = elim (cases_lt (get_or row i 0) (length plan.installs)) [
  | inl less ↦ less
  | inr past ↦
      (let k : ℕ = get_or row i 0 in
      let one : one_if (eqb k k) ≡ 1 = ap one_if (eq-eqb k k refl) in
      let some = get_or-le-sum_by (λ y. cond (eqb y k) 1 0) row i 0 inside in
      let e = ap (times k) is ∙ turned.those place k below ∙ ap (needed plan.installs place) (no_needs plan k past) in
      absurd (omega (arith, one, some, e)))
]

pub row_waits : (plan : Plan) (decided : List Bool) (rows : List (List ℕ)) (place : ℕ) (row left : List ℕ) → Turned plan rows → length plan.removals + place ≡ length decided → place < length plan.installs → row ≡ row_at rows place
    → length left ≡ length plan.installs → CountsUnmet plan decided left → (other : ℕ) → times other row ≤ left_of left other
row_waits plan decided rows place row left turned here below is counted counts other =
    let e = ap (times other) is ∙ turned.those place other below in
    elim (cases_lt other (length plan.installs)) [
      | inl inside ↦ omega (arith, e, counts other inside, unmet_less plan decided place (install_needs plan other) here below)
      | inr past ↦
          (let f = ap (needed plan.installs place) (no_needs plan other past) in
          omega (arith, e, f))
    ]

pub settles_done : (plan : Plan) (decided : List Bool) (done : Bool) (rows : List (List ℕ)) (place : ℕ) (row : List ℕ) (before now : Queue) → done ≡ true → Turned plan rows → length plan.removals + place ≡ length decided
    → place < length plan.installs → row ≡ row_at rows place → length before.left ≡ length plan.installs → CountsUnmet plan decided before.left → Lowers before.left before.ready row now.left now.ready
    → Settles plan decided done before now
settles_done plan decided done rows place row before now good turned here below is counted counts lowers = record {
  counted = lowers.counted;
  counts = λ other inside.
      (let e = ap (times other) is ∙ turned.those place other below in
      let P : Bool → Type 0 = λ d. left_of now.left other ≡ unmet plan (decided ++ d ∷ []) (install_needs plan other) in
      subst P (sym good) (omega (arith, e, lowers.lowered other, counts other inside, unmet_less plan decided place (install_needs plan other) here below)));
  fewer = λ other. omega (arith, lowers.lowered other);
  readied = lowers.readied;
  fits = lowers.fits;
}
