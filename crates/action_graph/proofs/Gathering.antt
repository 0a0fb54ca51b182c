-- What is gathered of few places is marked as if all were written down.
use Rattle.std.proofs.Common.{◌≡◌, ℕ, zero, suc, ◌+◌, ◌<◌, inl, inr, Bool, true, false, not, cond, List, [], ◌∷◌, ◌++◌, length, get_or, set, replicate, sym, ap, refl, ◌∙◌, arith, subst}
use Rattle.std.specs.Prelude.{IfOk, Result, Ok, Err}
use Rattle.std.specs.BTreeSet.{BTreeSet}
use Rattle.std.proofs.lemmas.List.{get_or-set_same, get_or-set_other, length-set, same_lists}
use Rattle.std.proofs.lemmas.Bool.{cases_Bool, cases_eq}
use Rattle.opam_names.specs.declared.fault.OutOfMemory.{OutOfMemory}
use Rattle.action_graph.specs.Places.{ArePlaces, IsIn}
use Rattle.action_graph.specs.Found.{Coheres, IsPut, marked}
use Rattle.action_graph.specs.Gathering.{marks_from}
use Rattle.action_graph.specs.Listing.{IsMarked, PutsReady, has}
use Rattle.action_graph.specs.Looking.{IsInOrder}

pub count_of_marks : (of : BTreeSet ℕ) (at count : ℕ) → length (marks_from of at count) ≡ count
count_of_marks of at zero = refl
count_of_marks of at (suc count) = ap (λ n. suc n) (count_of_marks of (at + 1) count)

mark_at : (of : BTreeSet ℕ) (at count k : ℕ) (d : Bool) → k < count → get_or (marks_from of at count) k d ≡ has of (at + k)
mark_at of at zero k d below = absurd (omega (arith, below))
mark_at of at (suc count) zero d below = ap (has of) (let e : at ≡ at + 0 = omega arith in e)
mark_at of at (suc count) (suc k) d below =
    mark_at of (at + 1) count k d (omega (arith, below)) ∙ ap (has of) (let e : (at + 1) + k ≡ at + suc k = omega arith in e)

first_mark : (of : BTreeSet ℕ) (count k : ℕ) (d : Bool) → k < count → get_or (marks_from of 0 count) k d ≡ has of k
first_mark of count k d below = mark_at of 0 count k d below ∙ ap (has of) (let e : 0 + k ≡ k = omega arith in e)

-- one more is put into the set
has_put : (before now : BTreeSet ℕ) (place k : ℕ) → PutsReady before now place → ((k ≡ place) → has now k ≡ true) × ((k ≡ place → ⊥) → has now k ≡ has before k)
has_put before now place k puts = (
  (λ same. let P : ℕ → Type 0 = λ n. has now n ≡ true in subst P (sym same) puts.put),
  (λ apart. elim (cases_Bool (has before k)) [
    | inl on ↦ puts.kept k on ∙ sym on
    | inr off ↦ elim (cases_Bool (has now k)) [
      | inl here ↦ elim (puts.only k here) [
        | inl was ↦ here ∙ sym was
        | inr same ↦ absurd (apart same)
      ]
      | inr gone ↦ gone ∙ sym off
    ]
  ]),
)

marks_put : (before now : BTreeSet ℕ) (count place : ℕ) → place < count → PutsReady before now place
    → marks_from now 0 count ≡ set (marks_from before 0 count) place true
marks_put before now count place within puts =
    same_lists (marks_from now 0 count) (set (marks_from before 0 count) place true)
    (count_of_marks now 0 count ∙ sym (count_of_marks before 0 count) ∙ sym (length-set (marks_from before 0 count) place true))
    (λ k d below. let inside : k < count = omega (arith, below, count_of_marks now 0 count) in elim (cases_eq k place) [
      | inl same ↦ (
          let on = first_mark now count k d inside ∙ (has_put before now place k puts).0 same in
          let P : ℕ → Type 0 = λ n. get_or (set (marks_from before 0 count) place true) n d ≡ true in
          on ∙ sym (subst P (sym same) (get_or-set_same (marks_from before 0 count) place true d (omega (arith, within, count_of_marks before 0 count)))))
      | inr apart ↦
          first_mark now count k d inside ∙ (has_put before now place k puts).1 apart ∙ sym (first_mark before count k d inside)
          ∙ sym (get_or-set_other (marks_from before 0 count) place k true d apart)
    ])

new_marked : (before : BTreeSet ℕ) (count place : ℕ) (new : Bool) → place < count → new ≡ not (has before place) → marked (marks_from before 0 count) place ≡ not new
new_marked before count place new within is = first_mark before count place false within ∙ by (has before place) ∙ ap not (sym is)
  where
    by : (b : Bool) → b ≡ not (not b)
    by true = refl
    by false = refl

pub put_fresh : (before now : BTreeSet ℕ) (count place : ℕ) (places more : List ℕ) (new : Bool) → place < count → new ≡ not (has before place) → PutsReady before now place
    → new ≡ true → more ≡ places ++ place ∷ [] → IsPut (marks_from before 0 count) places place (marks_from now 0 count) more
put_fresh before now count place places more new within is puts fresh pushed = (
  marks_put before now count place within puts,
  pushed ∙ sym (ap (λ b. cond b places (places ++ place ∷ [])) (new_marked before count place new within is ∙ ap not fresh)),
)

pub put_again : (before now : BTreeSet ℕ) (count place : ℕ) (places : List ℕ) (new : Bool) → place < count → new ≡ not (has before place) → PutsReady before now place
    → new ≡ false → IsPut (marks_from before 0 count) places place (marks_from now 0 count) places
put_again before now count place places new within is puts old = (
  marks_put before now count place within puts,
  sym (ap (λ b. cond b places (places ++ place ∷ [])) (new_marked before count place new within is ∙ ap not old)),
)

-- none stands in an empty set
pub none_marked : (of : BTreeSet ℕ) (count : ℕ) → ((place : ℕ) → has of place ≡ false) → marks_from of 0 count ≡ replicate count false
none_marked of count none = by 0 count
  where
    by : (at n : ℕ) → marks_from of at n ≡ replicate n false
    by at zero = refl
    by at (suc n) = ap (λ b. b ∷ marks_from of (at + 1) n) (none at) ∙ ap (λ bs. false ∷ bs) (by (at + 1) n)

-- one more mark is written down
pub marks_more : (of : BTreeSet ℕ) (count : ℕ) → marks_from of 0 (count + 1) ≡ marks_from of 0 count ++ has of count ∷ []
marks_more of count = by 0 count ∙ ap (λ n. marks_from of 0 count ++ has of n ∷ []) (let e : 0 + count ≡ count = omega arith in e)
  where
    by : (at n : ℕ) → marks_from of at (n + 1) ≡ marks_from of at n ++ has of (at + n) ∷ []
    by at zero = ap (λ k. has of k ∷ []) (let e : at ≡ at + 0 = omega arith in e)
    by at (suc n) = ap (marks_from of at) (let e : suc n + 1 ≡ suc (n + 1) = omega arith in e) ∙ ap (λ bs. has of at ∷ bs) (by (at + 1) n ∙ ap (λ k. marks_from of (at + 1) n ++ has of k ∷ []) (let e : (at + 1) + n ≡ at + suc n = omega arith in e))

-- what was found, put into order, are the places that are marked
pub gathered_places : (marks : List Bool) (found places : List ℕ) → Coheres marks found → IsInOrder found places → ArePlaces (IsMarked marks) places
gathered_places marks found places coheres order = record {
  rising = order.rising;
  those = λ place. (
    (λ is. let was = order.only place is in let P : ℕ → Type 0 = λ n. marked marks n ≡ true in subst P was.2 (coheres.marked_all was.0 was.1)),
    (λ on. order.kept place (coheres.listed place on)),
  );
}

pub all_ok : {X : Type 0} (P : X → Type 0) (x : X) (result : Result X OutOfMemory) → P x → IfOk result (λ y. y ≡ x) → IfOk result P
all_ok P x (Ok y) holds is = subst P (sym is) holds
all_ok P x (Err fault) holds is = tt
