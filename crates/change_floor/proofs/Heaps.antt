-- A heap of places, by how often each stands in it.
use Rattle.std.proofs.Common.{◌≡◌, ℕ, ◌+◌, ◌<◌, ◌≤◌, inl, inr, Bool, true, false, cond, List, [], ◌∷◌, length, get_or, sym, ap, refl, ◌∙◌, arith, subst, eqb, ltb}
use Rattle.std.specs.Prelude.{IfSome, IfNone}
use Rattle.std.specs.Ordering.{is_lt, nat_cmp}
use Rattle.std.specs.declared.cmp.Ordering.TheVariants.{Less, Equal, Greater}
use Rattle.std.specs.List.Sorted.{IsPermutation}
use Rattle.std.specs.BinaryHeap.{IsHeap, IsUpperBound, PopsGreatest}
use Rattle.std.specs.declared.cmp.Reverse.{Reverse}
use Rattle.std.specs.declared.option.Option.{Option}
use Rattle.std.specs.declared.option.Option.TheVariants.{None, Some}
use Rattle.std.proofs.lemmas.List.Sums.{sum_by-cons, get_or-le-sum_by}
use Rattle.std.proofs.lemmas.List.Sorted.{sum_by_pushed, sum_by_popped}
use Rattle.std.proofs.lemmas.Bool.{cases_Bool, cases_lt, eqb-true, eq-eqb, lt-ltb}
use Rattle.change_floor.specs.Queues.{IsFirstReady, least_first, times_in}

-- one item, as a number of times
abbrev one_of : ℕ → Reverse ℕ → ℕ
one_of place item = cond (eqb item.0 place) 1 0

not_below : (x y : ℕ) → is_lt (nat_cmp y x) ≡ false → x ≤ y
not_below x y off = elim (cases_lt y x) [
  | inl under ↦ absurd (no (ltb y x) (eqb y x) (lt-ltb y x under) off)
  | inr over ↦ over
]
  where
    no : (a b : Bool) → a ≡ true → is_lt (cond a Less (cond b Equal Greater)) ≡ false → ⊥
    no true b on is = cc
    no false b on is = cc

below_all : (items : List (Reverse ℕ)) (first : Reverse ℕ) → IsUpperBound least_first first items → (other : ℕ) → 0 < times_in other items → first.0 ≤ other
below_all [] first bound other some = absurd (omega (arith, some))
below_all (item ∷ items) first bound other some = elim (cases_Bool (eqb item.0 other)) [
  | inl same ↦ (let h = not_below first.0 item.0 bound.0 in omega (arith, h, eqb-true item.0 other same))
  | inr apart ↦ below_all items first bound.1 other (let e = sum_by-cons (one_of other) item items ∙ ap (λ b. cond b 1 0 + times_in other items) apart in omega (arith, e, some))
]

pub first_is : (items : List (Reverse ℕ)) (first : Reverse ℕ) → first ≡ get_or items 0 first → 0 < length items → IsUpperBound least_first first items → IsFirstReady items first.0
first_is items first is some bound = record {
  stands =
      (let e : one_of first.0 (get_or items 0 first) ≡ 1 = ap (one_of first.0) (sym is) ∙ ap (λ b. cond b 1 0) (eq-eqb first.0 first.0 refl) in
      omega (arith, e, get_or-le-sum_by (one_of first.0) items 0 first some));
  least = below_all items first bound;
}

pub pushed_is : (old new : List (Reverse ℕ)) (item : Reverse ℕ) → IsPermutation (item ∷ old) new → (other : ℕ) → times_in other new ≡ cond (eqb item.0 other) 1 0 + times_in other old
pushed_is old new item moved other = sum_by_pushed (one_of other) item old new moved

some_stand : (items : List (Reverse ℕ)) (place : ℕ) → 0 < times_in place items → 0 < length items
some_stand [] place some = some
some_stand (item ∷ items) place some = omega arith

pub taken_is : (o : Option (Reverse ℕ)) (old new : List (Reverse ℕ)) (place count : ℕ) → IsHeap least_first old → IsFirstReady old place → count ≡ length old → IfNone o (count ≡ 0)
    → IfSome o (λ x. x ≡ get_or old 0 x) → IfSome o (λ x. IsPermutation old (x ∷ new)) → IfSome o (λ x. PopsGreatest least_first old x new)
    → (other : ℕ) → cond (eqb place other) 1 0 + times_in other new ≡ times_in other old
taken_is None old new place count heap first counted none top moved pops = absurd (omega (arith, none, counted, some_stand old place first.stands))
taken_is (Some x) old new place count heap first counted none top moved pops = λ other.
    let mine = first_is old x top (some_stand old place first.stands) (pops heap).1 in
    let under = mine.least place first.stands in
    let over = first.least x.0 mine.stands in
    let same : x.0 ≡ place = omega (arith, under, over) in
    let P : ℕ → Type 0 = λ p. cond (eqb p other) 1 0 + times_in other new ≡ times_in other old in
    let e = sum_by_popped (one_of other) x old new moved in
    subst P same (omega (arith, e))
