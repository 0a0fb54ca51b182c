-- Members are listed, each after its needs, the least first.
use Rattle.std.proofs.Common.{◌≡◌, ◌≢◌, ℕ, ◌+◌, ◌<◌, ◌≤◌, inl, inr, Bool, true, false, cond, List, [], ◌∷◌, ◌++◌, length, get_or, set, take, replicate, sym, ap, refl, ◌∙◌, arith, subst, append_assoc}
use Rattle.std.proofs.lemmas.List.{append-nil, take_more, length-set, length_push, get_or-set_same, get_or-set_other, length-replicate}
use Rattle.std.proofs.lemmas.Bool.{true≢false, false_from_ne_true}
use Rattle.std.specs.BTreeSet.{BTreeSet}
use Rattle.action_graph.specs.Places.{ArePlaces, IsIn}
use Rattle.action_graph.specs.Found.{Coheres, IsPut, marked}
use Rattle.action_graph.specs.Order.{CanBeNext, GoesOn, IsNext}
use Rattle.action_graph.specs.Listing.{IsListed, IsMarked, IsMet, Lists, Looks, MayBeNext, MetBelow, TakesLeast, Turns, has, row}
use Rattle.action_graph.proofs.Membership.{in_or_not, in_push, none_in_nil}
use Rattle.action_graph.proofs.Finding.{coheres_below, coheres_first, coheres_put, marked_within, set_kept, set_marked}

-- one more that is next
goes_push : (needs : ℕ → List ℕ) (wanted : ℕ → Type 0) (listed order : List ℕ) (place : ℕ) → GoesOn needs wanted listed order
    → IsNext needs wanted (listed ++ order) place → GoesOn needs wanted listed (order ++ place ∷ [])
goes_push needs wanted listed [] place goes next =
    let P : List ℕ → Type 0 = λ l. IsNext needs wanted l place in (subst P (append-nil listed) next, tt)
goes_push needs wanted listed (first ∷ order) place goes next =
    let P : List ℕ → Type 0 = λ l. IsNext needs wanted l place in
    (goes.0, goes_push needs wanted (listed ++ first ∷ []) order place goes.1 (subst P (sym (append_assoc listed (first ∷ []) order)) next))

-- by marks and by the list so far
can_from_may : (needs : List (List ℕ)) (wanted listed : List Bool) (order : List ℕ) (place : ℕ) → Coheres listed order → MayBeNext needs wanted listed place
    → CanBeNext (row needs) (IsMarked wanted) order place
can_from_may needs wanted listed order place coheres may = record {
  is_wanted = may.is_wanted;
  is_new = λ is. (let P : ℕ → Type 0 = λ p. marked listed p ≡ true in true≢false (sym (subst P is.2 (coheres.marked_all is.0 is.1)) ∙ may.is_new));
  is_met = λ need is on.
      (let P : ℕ → Type 0 = λ n. IsMet wanted listed n in
      coheres.listed need (subst P is.2 (may.is_met is.0 is.1) on));
}

pub may_from_can : (needs : List (List ℕ)) (wanted listed : List Bool) (order : List ℕ) (place : ℕ) → Coheres listed order
    → CanBeNext (row needs) (IsMarked wanted) order place → MayBeNext needs wanted listed place
may_from_can needs wanted listed order place coheres can = record {
  is_wanted = can.is_wanted;
  is_new = false_from_ne_true (marked listed place) (λ on. can.is_new (coheres.listed place on));
  is_met = λ k below on.
      (let is = can.is_met (get_or (row needs place) k 0) (k, below, refl) on in
      let P : ℕ → Type 0 = λ p. marked listed p ≡ true in subst P is.2 (coheres.marked_all is.0 is.1));
}

-- what is met stays so
may_kept : (needs : List (List ℕ)) (wanted listed : List Bool) (place other : ℕ) → place < length listed → other ≢ place → MayBeNext needs wanted listed other
    → MayBeNext needs wanted (set listed place true) other
may_kept needs wanted listed place other within apart may = record {
  is_wanted = may.is_wanted;
  is_new = get_or-set_other listed place other true false apart ∙ may.is_new;
  is_met = λ k below on. set_kept listed (get_or (row needs other) k 0) place within (may.is_met k below on);
}

-- what did not wait for the new one was so before
may_before : (needs : List (List ℕ)) (wanted listed : List Bool) (place other : ℕ) → place < length listed → (IsIn (row needs other) place → ⊥)
    → MayBeNext needs wanted (set listed place true) other → MayBeNext needs wanted listed other
may_before needs wanted listed place other within apart may = record {
  is_wanted = may.is_wanted;
  is_new = false_from_ne_true (marked listed other) (λ on. true≢false (sym (set_kept listed other place within on) ∙ may.is_new));
  is_met = λ k below on. elim (set_marked listed (get_or (row needs other) k 0) place (may.is_met k below on)) [
    | inl same ↦ absurd (apart (k, below, same))
    | inr was ↦ was
  ];
}

new_is_not : (needs : List (List ℕ)) (wanted listed : List Bool) (place : ℕ) → place < length listed → MayBeNext needs wanted (set listed place true) place → ⊥
new_is_not needs wanted listed place within may = true≢false (sym (get_or-set_same listed place true false within) ∙ may.is_new)

pub met_kept : (needs : List (List ℕ)) (wanted listed : List Bool) (place : ℕ) (cursors : List ℕ) → place < length listed → MetBelow needs wanted listed cursors
    → MetBelow needs wanted (set listed place true) cursors
met_kept needs wanted listed place cursors within met = λ p k before below on.
    set_kept listed (get_or (row needs p) k 0) place within (met p k before below on)

pub looks_none : (needs : List (List ℕ)) (wanted listed : List Bool) (ready : BTreeSet ℕ) (cursors : List ℕ) → MetBelow needs wanted listed cursors
    → length cursors ≡ length wanted → Looks needs wanted listed ready ready [] cursors
looks_none needs wanted listed ready cursors met counted = record {
  only = λ place is. inl is;
  kept = λ place is. is;
  found = λ place is may. absurd (none_in_nil place is);
  met = met;
  counted = counted;
}

pub looks_next : (needs : List (List ℕ)) (wanted listed : List Bool) (before now next : BTreeSet ℕ) (places : List ℕ) (i : ℕ) (cursors more : List ℕ)
    → Looks needs wanted listed before now (take i places) cursors → i < length places → Looks needs wanted listed now next (get_or places i 0 ∷ []) more
    → Looks needs wanted listed before next (take (i + 1) places) more
looks_next needs wanted listed before now next places i cursors more looks below one =
    let P : List ℕ → Type 0 = λ done. Looks needs wanted listed before next done more in
    subst P (sym (take_more places i 0 below)) (record {
      only = λ place is. elim (one.only place is) [ inl was ↦ looks.only place was | inr may ↦ inr may ];
      kept = λ place is. one.kept place (looks.kept place is);
      found = λ place is may. elim (in_push (take i places) (get_or places i 0) place is) [
        | inl earlier ↦ one.kept place (looks.found place earlier may)
        | inr same ↦ one.found place (0, omega arith, same) may
      ];
      met = one.met;
      counted = one.counted;
    })

-- where the order begins
pub lists_first : (needs : List (List ℕ)) (wanted unmarked : List Bool) (empty : List ℕ) (none now : BTreeSet ℕ) (all : List ℕ) (cursors : List ℕ)
    → unmarked ≡ replicate (length wanted) false → empty ≡ [] → ((place : ℕ) → has none place ≡ false) → ArePlaces (IsMarked wanted) all
    → Looks needs wanted unmarked none now all cursors → Lists needs wanted unmarked empty now cursors
lists_first needs wanted unmarked empty none now all cursors are is_empty nothing places looks = record {
  coheres = coheres_first (length wanted) unmarked empty are is_empty;
  counted = ap length are ∙ length-replicate (length wanted) false;
  steps = (let P : List ℕ → Type 0 = GoesOn (row needs) (IsMarked wanted) [] in subst P (sym is_empty) tt);
  only = λ place is. elim (looks.only place is) [ inl was ↦ absurd (true≢false (sym was ∙ nothing place)) | inr may ↦ may ];
  all = λ place may. looks.found place ((places.those place).1 may.is_wanted) may;
  met = looks.met;
  cursors_counted = looks.counted;
}

-- the one that is taken is the next
taken_is_next : (needs : List (List ℕ)) (wanted listed : List Bool) (order : List ℕ) (ready now : BTreeSet ℕ) (cursors : List ℕ) (place : ℕ)
    → Lists needs wanted listed order ready cursors → TakesLeast ready now place → IsNext (row needs) (IsMarked wanted) order place
taken_is_next needs wanted listed order ready now cursors place lists takes = record {
  can = can_from_may needs wanted listed order place lists.coheres (lists.only place takes.was);
  least = λ other can. takes.least other (lists.all other (may_from_can needs wanted listed order other lists.coheres can));
}

lists_more : (needs dependents : List (List ℕ)) (wanted listed : List Bool) (order : List ℕ) (ready now next : BTreeSet ℕ) (cursors more deps : List ℕ) (place : ℕ)
    → Lists needs wanted listed order ready cursors → TakesLeast ready now place → length needs ≡ length wanted → Turns needs dependents → deps ≡ row dependents place
    → Looks needs wanted (set listed place true) now next deps more → Lists needs wanted (set listed place true) (order ++ place ∷ []) next more
lists_more needs dependents wanted listed order ready now next cursors more deps place lists takes rows turns is looks =
    let may = lists.only place takes.was in
    let inside = marked_within wanted place may.is_wanted in
    let within : place < length listed = omega (arith, inside, lists.counted) in
    record {
      coheres = coheres_put listed order place within may.is_new lists.coheres;
      counted = length-set listed place true ∙ lists.counted;
      steps = goes_push (row needs) (IsMarked wanted) [] order place lists.steps (taken_is_next needs wanted listed order ready now cursors place lists takes);
      only = λ other there. elim (looks.only other there) [
        | inl was ↦ may_kept needs wanted listed place other within
            (λ same. (let P : ℕ → Type 0 = λ p. has now p ≡ true in true≢false (sym (subst P same was) ∙ takes.gone)))
            (lists.only other (takes.only other was))
        | inr can ↦ can
      ];
      all = λ other can. elim (in_or_not (row needs other) place) [
        | inl waits ↦
            (let P : List ℕ → Type 0 = λ d. IsIn d other in
            looks.found other (subst P (sym is) (turns.back other place (omega (arith, marked_within wanted other can.is_wanted, rows)) waits)) can)
        | inr apart ↦
            looks.kept other (takes.kept other
            (λ same. (let P : ℕ → Type 0 = λ p. MayBeNext needs wanted (set listed place true) p in new_is_not needs wanted listed place within (subst P same can)))
            (lists.all other (may_before needs wanted listed place other within apart can)))
      ];
      met = looks.met;
      cursors_counted = looks.counted;
    }

put_new : (listed : List Bool) (order : List ℕ) (place : ℕ) (marks : List Bool) (all : List ℕ) → marked listed place ≡ false → IsPut listed order place marks all
    → (marks ≡ set listed place true) × (all ≡ order ++ place ∷ [])
put_new listed order place marks all off put = (put.0, put.1 ∙ ap (λ b. cond b order (order ++ place ∷ [])) off)

pub lists_next : (needs dependents : List (List ℕ)) (wanted listed : List Bool) (order : List ℕ) (ready now next : BTreeSet ℕ) (cursors more deps : List ℕ) (place : ℕ) (marks : List Bool) (all : List ℕ)
    → Lists needs wanted listed order ready cursors → TakesLeast ready now place → length needs ≡ length wanted → Turns needs dependents → deps ≡ row dependents place
    → IsPut listed order place marks all → Looks needs wanted marks now next deps more → Lists needs wanted marks all next more
lists_next needs dependents wanted listed order ready now next cursors more deps place marks all lists takes rows turns is put looks =
    let new = put_new listed order place marks all (lists.only place takes.was).is_new put in
    let P : List Bool → Type 0 = λ m. Looks needs wanted m now next deps more in
    let Q : List Bool → Type 0 = λ m. Lists needs wanted m all next more in
    let R : List ℕ → Type 0 = λ o. Lists needs wanted (set listed place true) o next more in
    subst Q (sym new.0) (subst R (sym new.1) (lists_more needs dependents wanted listed order ready now next cursors more deps place lists takes rows turns is (subst P new.0 looks)))

-- a place that is taken is one of the places, and the marks after it go on
pub taken_within : (needs : List (List ℕ)) (wanted listed : List Bool) (order : List ℕ) (ready now : BTreeSet ℕ) (cursors : List ℕ) (place : ℕ)
    → Lists needs wanted listed order ready cursors → TakesLeast ready now place → place < length wanted
taken_within needs wanted listed order ready now cursors place lists takes = marked_within wanted place (lists.only place takes.was).is_wanted

pub lists_shorter : (needs : List (List ℕ)) (wanted listed : List Bool) (order : List ℕ) (ready now : BTreeSet ℕ) (cursors : List ℕ) (place : ℕ) (marks : List Bool) (all : List ℕ)
    → Lists needs wanted listed order ready cursors → TakesLeast ready now place → IsPut listed order place marks all
    → (length all ≡ length order + 1) × (length all ≤ length wanted)
lists_shorter needs wanted listed order ready now cursors place marks all lists takes put =
    let may = lists.only place takes.was in
    let inside = marked_within wanted place may.is_wanted in
    let within : place < length listed = omega (arith, inside, lists.counted) in
    let new = put_new listed order place marks all may.is_new put in
    let most = coheres_below (set listed place true) (order ++ place ∷ []) (coheres_put listed order place within may.is_new lists.coheres) in
    (ap length new.1 ∙ length_push order place, omega (arith, most, ap length new.1, length-set listed place true, lists.counted))

pub lists_end : (needs : List (List ℕ)) (wanted listed : List Bool) (order : List ℕ) (ready : BTreeSet ℕ) (cursors : List ℕ)
    → Lists needs wanted listed order ready cursors → ((place : ℕ) → has ready place ≡ false) → IsListed needs wanted listed order
lists_end needs wanted listed order ready cursors lists nothing = record {
  coheres = lists.coheres;
  counted = lists.counted;
  steps = lists.steps;
  ends = λ place may. true≢false (sym (lists.all place may) ∙ nothing place);
}

-- the same by what the code was handed
pub lists_begin : (needs : List (List ℕ)) (wanted unmarked seen : List Bool) (empty : List ℕ) (none now : BTreeSet ℕ) (all places : List ℕ) (cursors : List ℕ)
    → unmarked ≡ replicate (length wanted) false → empty ≡ [] → ((place : ℕ) → has none place ≡ false) → ArePlaces (IsMarked wanted) all
    → seen ≡ unmarked → places ≡ all → Looks needs wanted seen none now places cursors → Lists needs wanted unmarked empty now cursors
lists_begin needs wanted unmarked seen empty none now all places cursors are is_empty nothing are_places same_marks same_places looks =
    let P : List Bool → Type 0 = λ m. Looks needs wanted m none now places cursors in
    let Q : List ℕ → Type 0 = λ p. Looks needs wanted unmarked none now p cursors in
    lists_first needs wanted unmarked empty none now all cursors are is_empty nothing are_places (subst Q same_places (subst P same_marks looks))

pub lists_on : (needs dependents : List (List ℕ)) (wanted listed seen : List Bool) (order : List ℕ) (ready now next : BTreeSet ℕ) (cursors more deps : List ℕ) (place : ℕ) (marks : List Bool) (all : List ℕ)
    → Lists needs wanted listed order ready cursors → TakesLeast ready now place → length needs ≡ length wanted → Turns needs dependents → deps ≡ row dependents place
    → IsPut listed order place marks all → seen ≡ marks → Looks needs wanted seen now next deps more → Lists needs wanted marks all next more
lists_on needs dependents wanted listed seen order ready now next cursors more deps place marks all lists takes rows turns is put same looks =
    let P : List Bool → Type 0 = λ m. Looks needs wanted m now next deps more in
    lists_next needs dependents wanted listed order ready now next cursors more deps place marks all lists takes rows turns is put (subst P same looks)
