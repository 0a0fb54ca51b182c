-- Numbers that stand in lists.
use Rattle.std.proofs.Common.{◌≡◌, ℕ, zero, suc, ◌+◌, ◌<◌, ◌≤◌, ◌⊎◌, inl, inr, Bool, false, List, [], ◌∷◌, ◌++◌, length, get_or, sym, ap, refl, ◌∙◌, arith, subst}
use Rattle.std.proofs.lemmas.List.{get_or_append_left, get_or_past, get_or_push, length_push, length-append}
use Rattle.std.proofs.lemmas.Bool.{cases_eq, cases_lt, true≢false}
use Rattle.action_graph.specs.Places.{ArePlaces, IsIn}
use Rattle.action_graph.specs.Found.{marked}
use Rattle.action_graph.specs.Listing.{IsMarked}

pub in_left : (xs ys : List ℕ) (x : ℕ) → IsIn xs x → IsIn (xs ++ ys) x
in_left xs ys x is = (is.0, omega (arith, is.1, length-append xs ys), get_or_append_left xs ys 0 is.0 is.1 ∙ is.2)

pub in_last : (xs : List ℕ) (x : ℕ) → IsIn (xs ++ x ∷ []) x
in_last xs x = (length xs, omega (arith, length_push xs x), get_or_push xs x 0 (length xs) refl)

pub in_push : (xs : List ℕ) (x y : ℕ) → IsIn (xs ++ x ∷ []) y → IsIn xs y ⊎ (x ≡ y)
in_push xs x y is = elim (cases_lt is.0 (length xs)) [
  | inl below ↦ inl (is.0, below, sym (get_or_append_left xs (x ∷ []) 0 is.0 below) ∙ is.2)
  | inr above ↦ inr (sym (get_or_push xs x 0 is.0 (omega (arith, is.1, length_push xs x, above))) ∙ is.2)
]

pub none_in_nil : (x : ℕ) → IsIn [] x → ⊥
none_in_nil x is = omega (arith, is.1)

-- a number stands in a list, or does not
pub in_or_not : (xs : List ℕ) (x : ℕ) → IsIn xs x ⊎ (IsIn xs x → ⊥)
in_or_not [] x = inr (none_in_nil x)
in_or_not (y ∷ ys) x = elim (cases_eq y x) [
  | inl same ↦ inl (0, omega arith, same)
  | inr apart ↦ elim (in_or_not ys x) [
    | inl is ↦ inl (suc is.0, omega (arith, is.1), is.2)
    | inr none ↦ inr (λ is. not_in is.0 is.1 is.2 apart none)
  ]
]
  where
    not_in : (i : ℕ) → i < length (y ∷ ys) → get_or (y ∷ ys) i 0 ≡ x → (y ≡ x → ⊥) → (IsIn ys x → ⊥) → ⊥
    not_in zero below is apart none = apart is
    not_in (suc i) below is apart none = none (i, omega (arith, below), is)

-- one more place in a list of places
pub are_push : (marks : List Bool) (places : List ℕ) (at : ℕ) → ArePlaces (λ place. (place < at) × IsMarked marks place) places → IsMarked marks at
    → ArePlaces (λ place. (place < at + 1) × IsMarked marks place) (places ++ at ∷ [])
are_push marks places at are on = record {
  rising = λ i j before below. elim (cases_lt j (length places)) [
    | inl front ↦
        (let e = get_or_append_left places (at ∷ []) 0 i (omega (arith, before, front)) in
        let f = get_or_append_left places (at ∷ []) 0 j front in
        let h = are.rising i j before front in omega (arith, e, f, h))
    | inr last ↦
        (let top : j ≡ length places = omega (arith, below, last, length_push places at) in
        let e = get_or_append_left places (at ∷ []) 0 i (omega (arith, before, top)) in
        let f = get_or_push places at 0 j (sym top) in
        let h = (are.those (get_or places i 0)).0 (i, omega (arith, before, top), refl) in omega (arith, e, f, h.0))
  ];
  those = λ place. (
    (λ is. elim (in_push places at place is) [
      | inl was ↦ (let h = (are.those place).0 was in (omega (arith, h.0), h.1))
      | inr same ↦ (omega (arith, same), (let P : ℕ → Type 0 = λ p. IsMarked marks p in subst P same on))
    ]),
    (λ holds. elim (cases_eq place at) [
      | inl same ↦ (let P : ℕ → Type 0 = λ p. IsIn (places ++ at ∷ []) p in subst P (sym same) (in_last places at))
      | inr apart ↦ in_left places (at ∷ []) place ((are.those place).1 (omega (arith, holds.0, apart), holds.1))
    ]),
  );
}

pub are_skip : (marks : List Bool) (places : List ℕ) (at : ℕ) → ArePlaces (λ place. (place < at) × IsMarked marks place) places → marked marks at ≡ false
    → ArePlaces (λ place. (place < at + 1) × IsMarked marks place) places
are_skip marks places at are off = record {
  rising = are.rising;
  those = λ place. (
    (λ is. let h = (are.those place).0 is in (omega (arith, h.0), h.1)),
    (λ holds. elim (cases_eq place at) [
      | inl same ↦ absurd (true≢false (sym holds.1 ∙ ap (marked marks) same ∙ off))
      | inr apart ↦ (are.those place).1 (omega (arith, holds.0, apart), holds.1)
    ]),
  );
}

pub are_none : (marks : List Bool) → ArePlaces (λ place. (place < 0) × IsMarked marks place) []
are_none marks = record {
  rising = λ i j before below. absurd (omega (arith, below));
  those = λ place. ((λ is. absurd (none_in_nil place is)), (λ holds. absurd (omega (arith, holds.0))));
}

pub are_all : (marks : List Bool) (places : List ℕ) (done : ℕ) → ArePlaces (λ place. (place < done) × IsMarked marks place) places → length marks ≤ done
    → ArePlaces (IsMarked marks) places
are_all marks places done are all = record {
  rising = are.rising;
  those = λ place. ((λ is. ((are.those place).0 is).1), (λ on. (are.those place).1 (omega (arith, marked_below marks place on, all), on)));
}
  where
    marked_below : (ms : List Bool) (p : ℕ) → IsMarked ms p → p < length ms
    marked_below ms p on = elim (cases_lt p (length ms)) [ inl below ↦ below | inr past ↦ absurd (true≢false (sym on ∙ get_or_past ms p false past)) ]

pub are_from : (marks : List Bool) (places : List ℕ) → places ≡ [] → ArePlaces (λ place. (place < 0) × IsMarked marks place) places
are_from marks places empty = let P : List ℕ → Type 0 = ArePlaces (λ place. (place < 0) × IsMarked marks place) in subst P (sym empty) (are_none marks)

pub are_pushed : (marks : List Bool) (places more : List ℕ) (at : ℕ) → ArePlaces (λ place. (place < at) × IsMarked marks place) places → IsMarked marks at → more ≡ places ++ at ∷ []
    → ArePlaces (λ place. (place < at + 1) × IsMarked marks place) more
are_pushed marks places more at are on is = let P : List ℕ → Type 0 = ArePlaces (λ place. (place < at + 1) × IsMarked marks place) in subst P (sym is) (are_push marks places at are on)

pub are_skipped : (marks : List Bool) (places more : List ℕ) (at : ℕ) → ArePlaces (λ place. (place < at) × IsMarked marks place) places → marked marks at ≡ false → more ≡ places
    → ArePlaces (λ place. (place < at + 1) × IsMarked marks place) more
are_skipped marks places more at are off is = let P : List ℕ → Type 0 = ArePlaces (λ place. (place < at + 1) × IsMarked marks place) in subst P (sym is) (are_skip marks places at are off)
