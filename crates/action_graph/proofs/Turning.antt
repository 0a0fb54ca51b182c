-- Rows of places, and for each place those in whose rows it stands.
use Rattle.std.proofs.Common.{◌≡◌, ℕ, ◌+◌, ◌<◌, ◌≤◌, ◌⊎◌, inl, inr, List, [], ◌∷◌, ◌++◌, length, get_or, set, map, take, replicate, sym, ap, refl, ◌∙◌, arith, subst}
use Rattle.std.proofs.lemmas.List.{get_or-set_same, get_or-set_other, get_or-map, map-set, length-set, length-map, take_more, get_or-replicate, get_or_past, length-replicate}
use Rattle.std.proofs.lemmas.Bool.{cases_eq, cases_lt}
use Rattle.action_graph.specs.Places.{IsIn}
use Rattle.action_graph.specs.Listing.{AddsTo, RowsWithin, Turns, TurnsBelow, row}
use Rattle.action_graph.proofs.Membership.{in_last, in_left, in_push, none_in_nil}

rows_set_here : {V : Type 0} (f : V → List ℕ) (xs : List V) (at place : ℕ) (old new : V) → at < length xs → old ≡ get_or xs at old → f new ≡ f old ++ place ∷ []
    → map f (set xs at new) ≡ set (map f xs) at (row (map f xs) at ++ place ∷ [])
rows_set_here f xs at place old new within is added =
    map-set f xs at new
    ∙ ap (λ r. set (map f xs) at r) (added ∙ ap (λ r. r ++ place ∷ []) (ap f is ∙ sym (get_or-map f xs at old [] within)))

pub rows_set : {V : Type 0} (f : V → List ℕ) (xs : List V) (seen : List (List ℕ)) (at place : ℕ) (old new : V) → seen ≡ map f xs → at < length seen → old ≡ get_or xs at old → f new ≡ f old ++ place ∷ []
    → map f (set xs at new) ≡ set seen at (row seen at ++ place ∷ [])
rows_set f xs seen at place old new view within is added =
    let P : List (List ℕ) → Type 0 = λ s. map f (set xs at new) ≡ set s at (row s at ++ place ∷ []) in
    subst P (sym view) (rows_set_here f xs at place old new (omega (arith, within, ap length view, length-map xs f)) is added)

one_kept : (now : List (List ℕ)) (at place other x : ℕ) → at < length now → IsIn (row now other) x → IsIn (row (set now at (row now at ++ place ∷ [])) other) x
one_kept now at place other x within is = elim (cases_eq other at) [
  | inl same ↦
      (let P : List ℕ → Type 0 = λ r. IsIn r x in
      let Q : ℕ → Type 0 = λ o. IsIn (row (set now at (row now at ++ place ∷ [])) o) x in
      let R : ℕ → Type 0 = λ o. IsIn (row now o) x in
      subst Q (sym same) (subst P (sym (get_or-set_same now at (row now at ++ place ∷ []) [] within)) (in_left (row now at) (place ∷ []) x (subst R same is))))
  | inr apart ↦ (let P : List ℕ → Type 0 = λ r. IsIn r x in subst P (sym (get_or-set_other now at other (row now at ++ place ∷ []) [] apart)) is)
]

one_added : (now : List (List ℕ)) (at place : ℕ) → at < length now → IsIn (row (set now at (row now at ++ place ∷ [])) at) place
one_added now at place within =
    let P : List ℕ → Type 0 = λ r. IsIn r place in subst P (sym (get_or-set_same now at (row now at ++ place ∷ []) [] within)) (in_last (row now at) place)

one_only : (now : List (List ℕ)) (at place other x : ℕ) → at < length now → IsIn (row (set now at (row now at ++ place ∷ [])) other) x → IsIn (row now other) x ⊎ ((x ≡ place) × (other ≡ at))
one_only now at place other x within is = elim (cases_eq other at) [
  | inl same ↦
      (let P : List ℕ → Type 0 = λ r. IsIn r x in
      let Q : ℕ → Type 0 = λ o. IsIn (row (set now at (row now at ++ place ∷ [])) o) x in
      let R : ℕ → Type 0 = λ o. IsIn (row now o) x in
      elim (in_push (row now at) place x (subst P (get_or-set_same now at (row now at ++ place ∷ []) [] within) (subst Q same is))) [
        | inl before ↦ inl (subst R (sym same) before)
        | inr new ↦ inr (sym new, same)
      ])
  | inr apart ↦ (let P : List ℕ → Type 0 = λ r. IsIn r x in inl (subst P (get_or-set_other now at other (row now at ++ place ∷ []) [] apart) is))
]

pub adds_to_none : (before : List (List ℕ)) (place : ℕ) → AddsTo before before [] place
adds_to_none before place = record {
  counted = refl;
  kept = λ at other is. is;
  added = λ at is. absurd (none_in_nil at is);
  only = λ at other is. inl is;
}

adds_to_one : (before now : List (List ℕ)) (done : List ℕ) (at place : ℕ) → AddsTo before now done place → at < length before
    → AddsTo before (set now at (row now at ++ place ∷ [])) (done ++ at ∷ []) place
adds_to_one before now done at place adds below = let within : at < length now = omega (arith, below, adds.counted) in record {
  counted = length-set now at (row now at ++ place ∷ []) ∙ adds.counted;
  kept = λ p x is. one_kept now at place p x within (adds.kept p x is);
  added = λ p is. elim (in_push done at p is) [
    | inl before_it ↦ one_kept now at place p place within (adds.added p before_it)
    | inr same ↦ (let P : ℕ → Type 0 = λ o. IsIn (row (set now at (row now at ++ place ∷ [])) o) place in subst P same (one_added now at place within))
  ];
  only = λ p x is. elim (one_only now at place p x within is) [
    | inl was ↦ elim (adds.only p x was) [ inl earlier ↦ inl earlier | inr new ↦ inr (new.0, in_left done (at ∷ []) p new.1) ]
    | inr new ↦ inr (new.0, (let P : ℕ → Type 0 = IsIn (done ++ at ∷ []) in subst P (sym new.1) (in_last done at)))
  ];
}

pub adds_to_next : (before now next : List (List ℕ)) (rows_of : List ℕ) (i place : ℕ) → AddsTo before now (take i rows_of) place → i < length rows_of
    → get_or rows_of i 0 < length before → next ≡ set now (get_or rows_of i 0) (row now (get_or rows_of i 0) ++ place ∷ [])
    → AddsTo before next (take (i + 1) rows_of) place
adds_to_next before now next rows_of i place adds below within is =
    let P : List ℕ → Type 0 = λ done. AddsTo before next done place in
    let Q : List (List ℕ) → Type 0 = λ rows. AddsTo before rows (take i rows_of ++ get_or rows_of i 0 ∷ []) place in
    subst P (sym (take_more rows_of i 0 below)) (subst Q (sym is) (adds_to_one before now (take i rows_of) (get_or rows_of i 0) place adds within))

nothing_in_empty : (count at x : ℕ) → IsIn (row (replicate count []) at) x → ⊥
nothing_in_empty count at x is = let nil : List ℕ = [] in elim (cases_lt at count) [
  | inl below ↦ (let P : List ℕ → Type 0 = λ r. IsIn r x in none_in_nil x (subst P (get_or-replicate count at [] [] below) is))
  | inr past ↦ (let P : List ℕ → Type 0 = λ r. IsIn r x in none_in_nil x (subst P (get_or_past (replicate count []) at [] (omega (arith, past, length-replicate count nil))) is))
]

pub turns_none : (rows others : List (List ℕ)) → others ≡ replicate (length rows) [] → TurnsBelow 0 rows others
turns_none rows others is = let P : List (List ℕ) → Type 0 = λ r. TurnsBelow 0 rows r in subst P (sym is) (record {
  counted = length-replicate (length rows) [];
  back = λ from to below in_it. absurd (omega (arith, below));
  within = λ at x in_it. absurd (nothing_in_empty (length rows) at x in_it);
})

pub turns_next : (rows others next : List (List ℕ)) (added : List ℕ) (from : ℕ) → TurnsBelow from rows others → from < length rows → added ≡ row rows from
    → AddsTo others next added from → TurnsBelow (from + 1) rows next
turns_next rows others next added from turns below is adds = record {
  counted = adds.counted ∙ turns.counted;
  back = λ p to before in_it. elim (cases_lt p from) [
    | inl earlier ↦ adds.kept to p (turns.back p to earlier in_it)
    | inr now ↦
        (let same : p ≡ from = omega (arith, before, now) in
        let P : ℕ → Type 0 = λ q. IsIn (row rows q) to in
        let Q : ℕ → Type 0 = λ q. IsIn (row next to) q in
        let R : List ℕ → Type 0 = λ r. IsIn r to in
        subst Q (sym same) (adds.added to (subst R (sym is) (subst P same in_it))))
  ];
  within = λ at x in_it. elim (adds.only at x in_it) [
    | inl was ↦ turns.within at x was
    | inr new ↦ omega (arith, new.0, below)
  ];
}

pub turns_all : (rows others : List (List ℕ)) (done : ℕ) → TurnsBelow done rows others → length rows ≤ done → Turns rows others
turns_all rows others done turns all = record {
  counted = turns.counted;
  back = λ from to below in_it. turns.back from to (omega (arith, below, all)) in_it;
  within = turns.within;
}

pub row_within : (rows : List (List ℕ)) (from count : ℕ) (places : List ℕ) → places ≡ row rows from → RowsWithin rows count → (i : ℕ) → i < length places → get_or places i 0 < count
row_within rows from count places is within i below =
    let P : List ℕ → Type 0 = λ r. IsIn r (get_or places i 0) in
    within from (get_or places i 0) (subst P is (i, below, refl))
