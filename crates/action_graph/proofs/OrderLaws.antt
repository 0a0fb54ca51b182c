-- An order is one, and each need stands before its user.
use Rattle.std.proofs.Common.{◌≡◌, ℕ, zero, suc, ◌<◌, List, [], ◌∷◌, ◌++◌, length, get_or, take, sym, ap, refl, ◌∙◌, arith, subst, append_assoc}
use Rattle.std.proofs.lemmas.List.{append-nil, get_or-take, length-take-le}
use Rattle.action_graph.specs.Places.{IsIn}
use Rattle.action_graph.specs.Reach.{started, stepped}
use Rattle.action_graph.specs.Order.{CanBeNext, GoesOn, IsNext, IsOrder, Stops}
use Rattle.action_graph.specs.GraphLaws.{NeedsComeFirst, OneOrder, OrdersKeepNeeds, HoldsOf, ReachedIsLeast}

-- both of two next ones are the same
same_next : (needs : ℕ → List ℕ) (wanted : ℕ → Type 0) (listed : List ℕ) (one other : ℕ) → IsNext needs wanted listed one → IsNext needs wanted listed other → one ≡ other
same_next needs wanted listed one other first second = let h = first.least other second.can in let k = second.least one first.can in omega (arith, h, k)

-- two lists of which one has all that are wanted, and the other has it or cannot go on
same_lists_on : (needs : ℕ → List ℕ) (wanted : ℕ → Type 0) (listed xs ys : List ℕ) → GoesOn needs wanted listed xs → GoesOn needs wanted listed ys
    → ((place : ℕ) → wanted place → IsIn (listed ++ xs) place) → ((place : ℕ) → CanBeNext needs wanted (listed ++ ys) place → ⊥) → xs ≡ ys
same_lists_on needs wanted listed [] [] one other whole ends = refl
same_lists_on needs wanted listed [] (y ∷ ys) one other whole ends =
    let P : List ℕ → Type 0 = λ l. IsIn l y in
    absurd (other.0.can.is_new (subst P (append-nil listed) (whole y other.0.can.is_wanted)))
same_lists_on needs wanted listed (x ∷ xs) [] one other whole ends =
    let P : List ℕ → Type 0 = λ l. CanBeNext needs wanted l x in
    absurd (ends x (subst P (sym (append-nil listed)) one.0.can))
same_lists_on needs wanted listed (x ∷ xs) (y ∷ ys) one other whole ends =
    let same : x ≡ y = same_next needs wanted listed x y one.0 other.0 in
    let G : ℕ → Type 0 = λ n. GoesOn needs wanted (listed ++ n ∷ []) ys in
    let W : List ℕ → Type 0 = λ l. (place : ℕ) → wanted place → IsIn l place in
    let E : List ℕ → Type 0 = λ l. (place : ℕ) → CanBeNext needs wanted l place → ⊥ in
    let E2 : ℕ → Type 0 = λ n. (place : ℕ) → CanBeNext needs wanted ((listed ++ n ∷ []) ++ ys) place → ⊥ in
    ap (λ n. n ∷ xs) same ∙ ap (λ l. y ∷ l) (same_lists_on needs wanted (listed ++ x ∷ []) xs ys one.1 (subst G (sym same) other.1)
    (subst W (sym (append_assoc listed (x ∷ []) xs)) whole)
    (subst E2 (sym same) (subst E (sym (append_assoc listed (y ∷ []) ys)) ends)))

-- what has all that are wanted cannot go on
whole_ends : (needs : ℕ → List ℕ) (wanted : ℕ → Type 0) (listed : List ℕ) → ((place : ℕ) → wanted place → IsIn listed place) → (place : ℕ) → CanBeNext needs wanted listed place → ⊥
whole_ends needs wanted listed whole place can = can.is_new (whole place can.is_wanted)

pub one_is : (needs : ℕ → List ℕ) (wanted : ℕ → Type 0) (order other : List ℕ) → IsOrder needs wanted order → IsOrder needs wanted other → order ≡ other
one_is needs wanted order other one second = same_lists_on needs wanted [] order other one.steps second.steps one.whole (whole_ends needs wanted other second.whole)

pub both_never : (needs : ℕ → List ℕ) (wanted : ℕ → Type 0) (order left : List ℕ) → IsOrder needs wanted order → Stops needs wanted left → ⊥
both_never needs wanted order left one stops = by left stops.others.those stops.some
  where
    by : (xs : List ℕ) → ((place : ℕ) → (IsIn xs place → wanted place × (IsIn stops.listed place → ⊥)) × (wanted place × (IsIn stops.listed place → ⊥) → IsIn xs place)) → (xs ≡ [] → ⊥) → ⊥
    by [] those some = some refl
    by (x ∷ xs) those some =
        let h = (those x).0 (0, omega arith, refl) in
        let same : order ≡ stops.listed = same_lists_on needs wanted [] order stops.listed one.steps stops.steps one.whole stops.ends in
        let P : List ℕ → Type 0 = λ l. IsIn l x in
        h.1 (subst P same (one.whole x h.0))

pub one_order : OneOrder
one_order = record {
  one = λ needs wanted. one_is needs (HoldsOf wanted);
  never_both = λ needs wanted. both_never needs (HoldsOf wanted);
}

-- what stands at a place could be next after those before it
next_at : (needs : ℕ → List ℕ) (wanted : ℕ → Type 0) (listed xs : List ℕ) → GoesOn needs wanted listed xs → (i : ℕ) → i < length xs → CanBeNext needs wanted (listed ++ take i xs) (get_or xs i 0)
next_at needs wanted listed [] goes i below = absurd (omega (arith, below))
next_at needs wanted listed (x ∷ xs) goes zero below =
    let P : List ℕ → Type 0 = λ l. CanBeNext needs wanted l x in subst P (sym (append-nil listed)) goes.0.can
next_at needs wanted listed (x ∷ xs) goes (suc i) below =
    let P : List ℕ → Type 0 = λ l. CanBeNext needs wanted l (get_or xs i 0) in
    subst P (append_assoc listed (x ∷ []) (take i xs)) (next_at needs wanted (listed ++ x ∷ []) xs goes.1 i (omega (arith, below)))

pub needs_first : (needs : ℕ → List ℕ) (wanted : ℕ → Type 0) (order : List ℕ) → GoesOn needs wanted [] order → NeedsComeFirst needs wanted order
needs_first needs wanted order goes = record {
  all_wanted = λ i below. (next_at needs wanted [] order goes i below).is_wanted;
  once = λ i j before below same.
      (next_at needs wanted [] order goes j below).is_new (i, omega (arith, before, below, length-take-le j order (omega (arith, below))), get_or-take j order i 0 before ∙ same);
  before = λ i below need is on.
      (let at = (next_at needs wanted [] order goes i below).is_met need is on in
      let inside : at.0 < i = omega (arith, at.1, length-take-le i order (omega (arith, below))) in
      (at.0, inside, sym (get_or-take i order at.0 0 inside) ∙ at.2));
}

pub orders_keep_needs : OrdersKeepNeeds
orders_keep_needs needs wanted order is = needs_first needs (HoldsOf wanted) order is.steps

pub reached_is_least : ReachedIsLeast
reached_is_least start test step begins closed place (started to is) = begins to is
reached_is_least start test step begins closed place (stepped from to before is) = closed from to (reached_is_least start test step begins closed from before) is
