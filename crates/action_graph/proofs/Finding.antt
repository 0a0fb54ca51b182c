-- What is marked stands once among what was found.
use Rattle.std.proofs.Common.{◌≡◌, ℕ, zero, suc, ◌+◌, ◌<◌, ◌≤◌, ◌⊎◌, inl, inr, Bool, true, false, cond, List, [], ◌∷◌, ◌++◌, length, get_or, set, take, replicate, sym, ap, refl, ◌∙◌, arith, subst}
use Rattle.std.proofs.lemmas.List.{get_or_append_left, get_or_push, length_push, length-set, get_or-set_same, get_or-set_other, set-get_or, get_or_past, get_or-replicate, length-replicate, take_more}
use Rattle.std.proofs.lemmas.Bool.{cases_lt, cases_eq, cases_Bool, true≢false}
use Rattle.action_graph.specs.Places.{IsIn}
use Rattle.action_graph.specs.Found.{Adds, Coheres, IsPut, count_marked, marked}
use Rattle.action_graph.proofs.Membership.{in_last, in_left}

pub count_below : (marks : List Bool) → count_marked marks ≤ length marks
count_below [] = omega arith
count_below (true ∷ marks) = omega (arith, count_below marks)
count_below (false ∷ marks) = omega (arith, count_below marks)

count_set : (marks : List Bool) (place : ℕ) → place < length marks → marked marks place ≡ false → count_marked (set marks place true) ≡ count_marked marks + 1
count_set [] place within off = absurd (omega (arith, within))
count_set (true ∷ marks) zero within off = absurd cc
count_set (false ∷ marks) zero within off = refl
count_set (true ∷ marks) (suc place) within off = ap (λ n. n + 1) (count_set marks place (omega (arith, within)) off)
count_set (false ∷ marks) (suc place) within off = count_set marks place (omega (arith, within)) off

pub set_kept : (marks : List Bool) (at place : ℕ) → place < length marks → marked marks at ≡ true → marked (set marks place true) at ≡ true
set_kept marks at place within on = elim (cases_eq at place) [
  | inl same ↦ let P : ℕ → Type 0 = λ n. marked (set marks place true) n ≡ true in subst P (sym same) (get_or-set_same marks place true false within)
  | inr apart ↦ get_or-set_other marks place at true false apart ∙ on
]

pub set_marked : (marks : List Bool) (at place : ℕ) → marked (set marks place true) at ≡ true → (at ≡ place) ⊎ (marked marks at ≡ true)
set_marked marks at place on = elim (cases_eq at place) [
  | inl same ↦ inl same
  | inr apart ↦ inr (sym (get_or-set_other marks place at true false apart) ∙ on)
]

pub marked_within : (marks : List Bool) (at : ℕ) → marked marks at ≡ true → at < length marks
marked_within marks at on = elim (cases_lt at (length marks)) [
  | inl below ↦ below
  | inr past ↦ absurd (true≢false (sym on ∙ get_or_past marks at false past))
]

pub coheres_none : (count : ℕ) → Coheres (replicate count false) []
coheres_none count = record {
  listed = λ place on. absurd (true≢false (sym on ∙ get_or-replicate count place false false (let h = marked_within (replicate count false) place on in omega (arith, h, length-replicate count false))));
  marked_all = λ i below. absurd (omega (arith, below));
  counted = none count;
}
  where
    none : (n : ℕ) → 0 ≡ count_marked (replicate n false)
    none zero = refl
    none (suc n) = none n

-- one that was not marked is put
pub coheres_put : (marks : List Bool) (places : List ℕ) (place : ℕ) → place < length marks → marked marks place ≡ false → Coheres marks places
    → Coheres (set marks place true) (places ++ place ∷ [])
coheres_put marks places place within off coheres = record {
  listed = λ at on. elim (set_marked marks at place on) [
    | inl same ↦ (let P : ℕ → Type 0 = λ n. IsIn (places ++ place ∷ []) n in subst P (sym same) (in_last places place))
    | inr before ↦ in_left places (place ∷ []) at (coheres.listed at before)
  ];
  marked_all = λ i below. elim (cases_lt i (length places)) [
    | inl front ↦ (let P : ℕ → Type 0 = λ n. marked (set marks place true) n ≡ true in subst P (sym (get_or_append_left places (place ∷ []) 0 i front)) (set_kept marks (get_or places i 0) place within (coheres.marked_all i front)))
    | inr last ↦ (let P : ℕ → Type 0 = λ n. marked (set marks place true) n ≡ true in subst P (sym (get_or_push places place 0 i (omega (arith, below, last, length_push places place)))) (get_or-set_same marks place true false within))
  ];
  counted = length_push places place ∙ ap (λ n. n + 1) coheres.counted ∙ sym (count_set marks place within off);
}

pub adds_none : (marks : List Bool) (places : List ℕ) → Coheres marks places → Adds marks places [] marks places
adds_none marks places coheres = record {
  coheres = coheres;
  same_length = refl;
  longer = omega arith;
  front = λ i below. refl;
  back = λ i past below. absurd (omega (arith, past, below));
  kept = λ place on. on;
  covered = λ i below. absurd (omega (arith, below));
}

-- it was marked
adds_old : (marks : List Bool) (places added : List ℕ) (place : ℕ) (now : List Bool) (all : List ℕ) → Adds marks places added now all → place < length marks
    → marked now place ≡ true → Adds marks places (added ++ place ∷ []) (set now place true) all
adds_old marks places added place now all adds within on = let same : now ≡ set now place true = sym (ap (λ b. set now place b) (sym on) ∙ set-get_or now place false) in
    let P : List Bool → Type 0 = λ m. Adds marks places (added ++ place ∷ []) m all in subst P same (record {
      coheres = adds.coheres;
      same_length = adds.same_length;
      longer = adds.longer;
      front = adds.front;
      back = λ i past below. in_left added (place ∷ []) (get_or all i 0) (adds.back i past below);
      kept = adds.kept;
      covered = λ i below. elim (cases_lt i (length added)) [
        | inl front ↦ (let Q : ℕ → Type 0 = λ n. marked now n ≡ true in subst Q (sym (get_or_append_left added (place ∷ []) 0 i front)) (adds.covered i front))
        | inr last ↦ (let Q : ℕ → Type 0 = λ n. marked now n ≡ true in subst Q (sym (get_or_push added place 0 i (omega (arith, below, last, length_push added place)))) on)
      ];
    })

adds_new : (marks : List Bool) (places added : List ℕ) (place : ℕ) (now : List Bool) (all : List ℕ) → Adds marks places added now all → place < length marks
    → marked now place ≡ false → Adds marks places (added ++ place ∷ []) (set now place true) (all ++ place ∷ [])
adds_new marks places added place now all adds within off = let inside : place < length now = omega (arith, within, adds.same_length) in record {
  coheres = coheres_put now all place inside off adds.coheres;
  same_length = length-set now place true ∙ adds.same_length;
  longer = omega (arith, adds.longer, length_push all place);
  front = λ i below. get_or_append_left all (place ∷ []) 0 i (omega (arith, below, adds.longer)) ∙ adds.front i below;
  back = λ i past below. elim (cases_lt i (length all)) [
    | inl front ↦ (let Q : ℕ → Type 0 = λ n. IsIn (added ++ place ∷ []) n in subst Q (sym (get_or_append_left all (place ∷ []) 0 i front)) (in_left added (place ∷ []) (get_or all i 0) (adds.back i past front)))
    | inr last ↦ (let Q : ℕ → Type 0 = λ n. IsIn (added ++ place ∷ []) n in subst Q (sym (get_or_push all place 0 i (omega (arith, below, last, length_push all place)))) (in_last added place))
  ];
  kept = λ at on. set_kept now at place inside (adds.kept at on);
  covered = λ i below. elim (cases_lt i (length added)) [
    | inl front ↦ (let Q : ℕ → Type 0 = λ n. marked (set now place true) n ≡ true in subst Q (sym (get_or_append_left added (place ∷ []) 0 i front)) (set_kept now (get_or added i 0) place inside (adds.covered i front)))
    | inr last ↦ (let Q : ℕ → Type 0 = λ n. marked (set now place true) n ≡ true in subst Q (sym (get_or_push added place 0 i (omega (arith, below, last, length_push added place)))) (get_or-set_same now place true false inside))
  ];
}

pub adds_put : (marks : List Bool) (places added : List ℕ) (place : ℕ) (now : List Bool) (all : List ℕ) (next : List Bool) (more : List ℕ)
    → Adds marks places added now all → place < length marks → IsPut now all place next more → Adds marks places (added ++ place ∷ []) next more
adds_put marks places added place now all next more adds within put = elim (cases_Bool (marked now place)) [
  | inl on ↦ (let P : List Bool → Type 0 = λ m. Adds marks places (added ++ place ∷ []) m more in subst P (sym put.0)
      (let Q : List ℕ → Type 0 = λ ps. Adds marks places (added ++ place ∷ []) (set now place true) ps in subst Q (sym (put.1 ∙ ap (λ b. cond b all (all ++ place ∷ [])) on)) (adds_old marks places added place now all adds within on)))
  | inr off ↦ (let P : List Bool → Type 0 = λ m. Adds marks places (added ++ place ∷ []) m more in subst P (sym put.0)
      (let Q : List ℕ → Type 0 = λ ps. Adds marks places (added ++ place ∷ []) (set now place true) ps in subst Q (sym (put.1 ∙ ap (λ b. cond b all (all ++ place ∷ [])) off)) (adds_new marks places added place now all adds within off)))
]

pub coheres_below : (marks : List Bool) (places : List ℕ) → Coheres marks places → length places ≤ length marks
coheres_below marks places coheres = omega (arith, coheres.counted, count_below marks)

-- the next of a list is put
pub adds_next : (marks : List Bool) (places added : List ℕ) (i : ℕ) (now : List Bool) (all : List ℕ) (next : List Bool) (more : List ℕ)
    → Adds marks places (take i added) now all → i < length added → get_or added i 0 < length marks → IsPut now all (get_or added i 0) next more
    → Adds marks places (take (i + 1) added) next more
adds_next marks places added i now all next more adds below within put =
    let P : List ℕ → Type 0 = λ xs. Adds marks places xs next more in
    subst P (sym (take_more added i 0 below)) (adds_put marks places (take i added) (get_or added i 0) now all next more adds within put)

pub coheres_first : (count : ℕ) (marks : List Bool) (places : List ℕ) → marks ≡ replicate count false → places ≡ [] → Coheres marks places
coheres_first count marks places unmarked empty =
    let P : List Bool → Type 0 = λ m. Coheres m places in
    let Q : List ℕ → Type 0 = λ p. Coheres (replicate count false) p in
    subst P (sym unmarked) (subst Q (sym empty) (coheres_none count))
