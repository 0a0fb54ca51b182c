-- What installs wait for, while needs are installed.
use Rattle.std.proofs.Common.{◌≡◌, ℕ, ◌+◌, ◌-◌, ◌<◌, ◌≤◌, inl, inr, Bool, true, false, cond, List, [], ◌∷◌, length, get_or, set, take, sym, ap, refl, ◌∙◌, arith, subst, eqb, ltb}
use Rattle.std.specs.BinaryHeap.{IsHeap, heap_capacity, heap_items, heap_len}
use Rattle.std.specs.declared.collections.BinaryHeap.{BinaryHeap}
use Rattle.std.specs.declared.cmp.Reverse.{Reverse}
use Rattle.std.proofs.lemmas.List.{length-set, get_or-set_same, get_or-set_other, get_or_past, get_or_default, length-take-le, get_or-take, take_all}
use Rattle.std.proofs.lemmas.List.Sums.{sum_by-set, sum_by_more, sum_by-take-le}
use Rattle.std.proofs.lemmas.Bool.{cases_eq, cases_lt, eq-eqb, ne_eqb, lt-ltb, le-ltb}
use Rattle.change_floor.specs.Queues.{Fills, Fits, Lowers, Readies, is_free, least_first, left_of, times, times_in, waiting_in}

abbrev one_if : Bool → ℕ
one_if b = cond b 1 0

-- one place more of a row
pub times_more : (place : ℕ) (row : List ℕ) (i : ℕ) → i < length row → times place (take (i + 1) row) ≡ times place (take i row) + cond (eqb (get_or row i 0) place) 1 0
times_more place row i below = sum_by_more (λ y. cond (eqb y place) 1 0) row i 0 below

pub lowers_none : {Z : Type 0} (left : List ℕ) (ready : BinaryHeap (Reverse ℕ) Z) → Fits left ready → Lowers left ready [] left ready
lowers_none left ready fits = record {
  counted = refl;
  lowered = λ place. omega arith;
  readied = λ place. refl;
  fits = fits;
}

pub lowers_next : {Z : Type 0} (before now next : List ℕ) (was is will : BinaryHeap (Reverse ℕ) Z) (row : List ℕ) (i : ℕ) → i < length row → Lowers before was (take i row) now is
    → Lowers now is (get_or row i 0 ∷ []) next will → Lowers before was (take (i + 1) row) next will
lowers_next before now next was is will row i below first second = record {
  counted = second.counted ∙ first.counted;
  lowered = λ place. omega (arith, first.lowered place, second.lowered place, times_more place row i below);
  readied = λ place. omega (arith, first.readied place, second.readied place);
  fits = second.fits;
}

pub waits_at : (before now row : List ℕ) (i : ℕ) → i < length row → ((place : ℕ) → left_of now place + times place (take i row) ≡ left_of before place) → ((place : ℕ) → times place row ≤ left_of before place)
    → 0 < left_of now (get_or row i 0)
waits_at before now row i below lowered enough =
    let place : ℕ = get_or row i 0 in
    let more = times_more place row i below in
    let one : one_if (eqb place place) ≡ 1 = ap (λ b. cond b 1 0) (eq-eqb place place refl) in
    let part = sum_by-take-le (λ y. cond (eqb y place) 1 0) row (i + 1) in
    omega (arith, more, one, part, enough place, lowered place)

pub lowers_all : {Z : Type 0} (before now : List ℕ) (was is : BinaryHeap (Reverse ℕ) Z) (row : List ℕ) (i : ℕ) → length row ≤ i → Lowers before was (take i row) now is → Lowers before was row now is
lowers_all before now was is row i past lowers = let P : List ℕ → Type 0 = λ r. Lowers before was r now is in subst P (take_all i row past) lowers

waiting_less : (left : List ℕ) (place now : ℕ) → place < length left → 0 < left_of left place → now + 1 ≡ left_of left place → waiting_in (set left place now) + is_free now ≡ waiting_in left
waiting_less left place now below waits lower =
    let e = sum_by-set (λ one. cond (ltb 0 one) 1 0) left place now 1 below in
    let was : one_if (ltb 0 (get_or left place 1)) ≡ 1 = ap (λ b. cond b 1 0) (lt-ltb 0 (get_or left place 1) waits) in
    elim (cases_eq now 0) [
      | inl none ↦
          (let f : one_if (ltb 0 now) ≡ 0 = ap (λ b. cond b 1 0) (le-ltb 0 now (omega (arith, none))) in
          let g : is_free now ≡ 1 = ap (λ b. cond b 1 0) (eq-eqb now 0 none) in omega (arith, e, was, f, g))
      | inr some ↦
          (let f : one_if (ltb 0 now) ≡ 1 = ap (λ b. cond b 1 0) (lt-ltb 0 now (omega (arith, some))) in
          let g : is_free now ≡ 0 = ap (λ b. cond b 1 0) (ne_eqb now 0 some) in omega (arith, e, was, f, g))
    ]

left_set : (left : List ℕ) (place now : ℕ) → place < length left → now + 1 ≡ left_of left place → (other : ℕ) → left_of (set left place now) other + times other (place ∷ []) ≡ left_of left other
left_set left place now below lower other = elim (cases_eq other place) [
  | inl same ↦
      (let P : ℕ → Type 0 = λ p. left_of (set left place now) p + times p (place ∷ []) ≡ left_of left p in
      subst P (sym same) (let one : one_if (eqb place place) ≡ 1 = ap (λ b. cond b 1 0) (eq-eqb place place refl) in omega (arith, get_or-set_same left place now 1 below, one, lower)))
  | inr apart ↦
      (let none : one_if (eqb place other) ≡ 0 = ap (λ b. cond b 1 0) (ne_eqb place other (λ same. apart (sym same))) in
      omega (arith, get_or-set_other left place other now 1 apart, none))
]

-- as much came into the heap as now waits for nothing
pub lowers_one : {Z : Type 0} (left now : List ℕ) (was is : BinaryHeap (Reverse ℕ) Z) (place less : ℕ) → Fits left was → place < length left → 0 < left_of left place → less + 1 ≡ left_of left place
    → now ≡ set left place less → IsHeap least_first (heap_items is) → heap_len is ≡ heap_len was + is_free less → heap_capacity was ≤ heap_capacity is
    → ((other : ℕ) → times_in other (heap_items is) ≡ cond (eqb place other) (is_free less) 0 + times_in other (heap_items was)) → Lowers left was (place ∷ []) now is
lowers_one left now was is place less fits below waits lower written ordered counted wider times_are =
    let P : List ℕ → Type 0 = λ ls. Lowers left was (place ∷ []) ls is in
    subst P (sym written) (record {
      counted = length-set left place less;
      lowered = left_set left place less below lower;
      readied = λ other. elim (cases_eq other place) [
        | inl same ↦
            (let Q : ℕ → Type 0 = λ p. times_in p (heap_items is) + is_free (left_of left p) ≡ times_in p (heap_items was) + is_free (left_of (set left place less) p) in
            let here = times_are place ∙ ap (λ b. cond b (is_free less) 0 + times_in place (heap_items was)) (eq-eqb place place refl) in
            let old : is_free (left_of left place) ≡ 0 = ap (λ b. cond b 1 0) (ne_eqb (left_of left place) 0 (λ none. no_waits none)) in
            let new = ap is_free (get_or-set_same left place less 1 below) in
            subst Q (sym same) (omega (arith, here, old, new)))
        | inr apart ↦
            (let here = times_are other ∙ ap (λ b. cond b (is_free less) 0 + times_in other (heap_items was)) (ne_eqb place other (λ same. apart (sym same))) in
            let new = ap is_free (get_or-set_other left place other less 1 apart) in
            omega (arith, here, new))
      ];
      fits = record {
        ordered = ordered;
        room = omega (arith, counted, wider, fits.room, waiting_less left place less below waits lower);
      };
    })
  where
    no_waits : left_of left place ≡ 0 → ⊥
    no_waits none = omega (arith, none, waits)

-- the first places are looked at
take_left : (left : List ℕ) (place : ℕ) → place < length left → (other : ℕ) → left_of (take (place + 1) left) other ≡ cond (eqb place other) (left_of left place) (left_of (take place left) other)
take_left left place below other = elim (cases_eq place other) [
  | inl same ↦
      (let P : ℕ → Type 0 = λ p. left_of (take (place + 1) left) p ≡ cond (eqb place p) (left_of left place) (left_of (take place left) p) in
      subst P same (get_or-take (place + 1) left place 1 (omega arith) ∙ sym (ap (λ b. cond b (left_of left place) (left_of (take place left) place)) (eq-eqb place place refl))))
  | inr apart ↦ elim (cases_lt other place) [
    | inl before ↦
        (get_or-take (place + 1) left other 1 (omega (arith, before)) ∙ sym (get_or-take place left other 1 before)
        ∙ sym (ap (λ b. cond b (left_of left place) (left_of (take place left) other)) (ne_eqb place other apart)))
    | inr past ↦
        (get_or_past (take (place + 1) left) other 1 (omega (arith, past, apart, length-take-le (place + 1) left (omega (arith, below))))
        ∙ sym (get_or_past (take place left) other 1 (omega (arith, past, length-take-le place left (omega (arith, below)))))
        ∙ sym (ap (λ b. cond b (left_of left place) (left_of (take place left) other)) (ne_eqb place other apart)))
  ]
]

waiting_more : (left : List ℕ) (place : ℕ) → place < length left → waiting_in (take (place + 1) left) + is_free (left_of left place) ≡ waiting_in (take place left) + 1
waiting_more left place below =
    let e = sum_by_more (λ one. cond (ltb 0 one) 1 0) left place 1 below in
    elim (cases_eq (left_of left place) 0) [
      | inl none ↦
          (let f : one_if (ltb 0 (left_of left place)) ≡ 0 = ap (λ b. cond b 1 0) (le-ltb 0 (left_of left place) (omega (arith, none))) in
          let g : is_free (left_of left place) ≡ 1 = ap (λ b. cond b 1 0) (eq-eqb (left_of left place) 0 none) in omega (arith, e, f, g))
      | inr some ↦
          (let f : one_if (ltb 0 (left_of left place)) ≡ 1 = ap (λ b. cond b 1 0) (lt-ltb 0 (left_of left place) (omega (arith, some))) in
          let g : is_free (left_of left place) ≡ 0 = ap (λ b. cond b 1 0) (ne_eqb (left_of left place) 0 some) in omega (arith, e, f, g))
    ]

pub fills_first : {Z : Type 0} (left : List ℕ) (ready : BinaryHeap (Reverse ℕ) Z) → heap_items ready ≡ [] → heap_len ready ≡ 0 → length left ≤ heap_capacity ready → IsHeap least_first (heap_items ready) → Fills left 0 ready
fills_first left ready empty none wide ordered = record {
  ordered = ordered;
  room = omega (arith, none);
  wide = wide;
  stands = λ place. ap (times_in place) empty;
}

-- one place more, which came into the heap where it waits for nothing
pub fills_next : {Z : Type 0} (left : List ℕ) (place : ℕ) (was is : BinaryHeap (Reverse ℕ) Z) → place < length left → Fills left place was → IsHeap least_first (heap_items is)
    → heap_len is ≡ heap_len was + is_free (left_of left place) → heap_capacity was ≤ heap_capacity is
    → ((other : ℕ) → times_in other (heap_items is) ≡ cond (eqb place other) (is_free (left_of left place)) 0 + times_in other (heap_items was)) → Fills left (place + 1) is
fills_next left place was is below fills ordered counted wider times_are = record {
  ordered = ordered;
  room = omega (arith, fills.room, counted, waiting_more left place below);
  wide = omega (arith, fills.wide, wider);
  stands = λ other. elim (cases_eq place other) [
    | inl same ↦
        (let here = times_are other ∙ ap (λ b. cond b (is_free (left_of left place)) 0 + times_in other (heap_items was)) (eq-eqb place other same) in
        let there = fills.stands other in
        let none = ap is_free (get_or_past (take place left) other 1 (omega (arith, same, length-take-le place left (omega (arith, below))))) in
        let now = ap is_free (take_left left place below other ∙ ap (λ b. cond b (left_of left place) (left_of (take place left) other)) (eq-eqb place other same)) in
        omega (arith, here, there, none, now))
    | inr apart ↦
        (let here = times_are other ∙ ap (λ b. cond b (is_free (left_of left place)) 0 + times_in other (heap_items was)) (ne_eqb place other apart) in
        let now = ap is_free (take_left left place below other ∙ ap (λ b. cond b (left_of left place) (left_of (take place left) other)) (ne_eqb place other apart)) in
        omega (arith, here, fills.stands other, now))
  ];
}

pub fills_free : {Z : Type 0} (left : List ℕ) (place now : ℕ) (was is : BinaryHeap (Reverse ℕ) Z) → place < length left → now ≡ left_of left place → now ≡ 0 → Fills left place was → IsHeap least_first (heap_items is)
    → heap_len is ≡ heap_len was + 1 → heap_capacity was ≤ heap_capacity is → ((other : ℕ) → times_in other (heap_items is) ≡ cond (eqb place other) 1 0 + times_in other (heap_items was)) → Fills left (place + 1) is
fills_free left place now was is below here none fills ordered counted wider times_are =
    let one : is_free (left_of left place) ≡ 1 = ap (λ b. cond b 1 0) (eq-eqb (left_of left place) 0 (sym here ∙ none)) in
    fills_next left place was is below fills ordered (counted ∙ ap (λ n. heap_len was + n) (sym one)) wider
    (λ other. times_are other ∙ ap (λ n. cond (eqb place other) n 0 + times_in other (heap_items was)) (sym one))

pub fills_waits : {Z : Type 0} (left : List ℕ) (place now : ℕ) (was : BinaryHeap (Reverse ℕ) Z) → place < length left → now ≡ left_of left place → (now ≡ 0 → ⊥) → Fills left place was → Fills left (place + 1) was
fills_waits left place now was below here some fills =
    let none : is_free (left_of left place) ≡ 0 = ap (λ b. cond b 1 0) (ne_eqb (left_of left place) 0 (λ zero_left. some (here ∙ zero_left))) in
    fills_next left place was was below fills fills.ordered (omega (arith, none)) (omega arith)
    (λ other. nothing (eqb place other) (is_free (left_of left place)) none (times_in other (heap_items was)))
  where
    nothing : (b : Bool) (n : ℕ) → n ≡ 0 → (m : ℕ) → m ≡ cond b n 0 + m
    nothing true n e m = omega (arith, e)
    nothing false n e m = omega arith

pub fills_all : {Z : Type 0} (left : List ℕ) (place : ℕ) (ready : BinaryHeap (Reverse ℕ) Z) → place ≡ length left → Fills left place ready → Fits left ready × Readies left (heap_items ready)
fills_all left place ready all fills =
    let whole = take_all place left (omega (arith, all)) in
    let P : List ℕ → Type 0 = λ ls. heap_len ready + waiting_in ls ≤ place in
    let Q : List ℕ → Type 0 = λ ls. Readies ls (heap_items ready) in
    let room = subst P whole fills.room in
    (record { ordered = fills.ordered; room = omega (arith, room, fills.wide, all) }, subst Q whole fills.stands)

pub one_less : (left seen : List ℕ) (place : ℕ) → seen ≡ left → place < length left → 0 < left_of left place → (get_or seen place 0 - 1) + 1 ≡ left_of left place
one_less left seen place same below waits =
    let e = get_or_default left place 1 0 below in
    let P : List ℕ → Type 0 = λ ls. (get_or ls place 0 - 1) + 1 ≡ left_of left place in
    subst P (sym same) (omega (arith, e, waits))

pub lowers_free : {Z : Type 0} (left now : List ℕ) (was is : BinaryHeap (Reverse ℕ) Z) (place less : ℕ) → less ≡ 0 → Fits left was → place < length left → 0 < left_of left place → less + 1 ≡ left_of left place
    → now ≡ set left place less → IsHeap least_first (heap_items is) → heap_len is ≡ heap_len was + 1 → heap_capacity was ≤ heap_capacity is
    → ((other : ℕ) → times_in other (heap_items is) ≡ cond (eqb place other) 1 0 + times_in other (heap_items was)) → Lowers left was (place ∷ []) now is
lowers_free left now was is place less none fits below waits lower written ordered counted wider times_are =
    let one : is_free less ≡ 1 = ap (λ b. cond b 1 0) (eq-eqb less 0 none) in
    lowers_one left now was is place less fits below waits lower written ordered (counted ∙ ap (λ n. heap_len was + n) (sym one)) wider
    (λ other. times_are other ∙ ap (λ n. cond (eqb place other) n 0 + times_in other (heap_items was)) (sym one))

pub lowers_waits : {Z : Type 0} (left now : List ℕ) (was : BinaryHeap (Reverse ℕ) Z) (place less : ℕ) → (less ≡ 0 → ⊥) → Fits left was → place < length left → 0 < left_of left place → less + 1 ≡ left_of left place
    → now ≡ set left place less → Lowers left was (place ∷ []) now was
lowers_waits left now was place less some fits below waits lower written =
    let none : is_free less ≡ 0 = ap (λ b. cond b 1 0) (ne_eqb less 0 some) in
    lowers_one left now was was place less fits below waits lower written fits.ordered (omega (arith, none)) (omega arith)
    (λ other. nothing_more (eqb place other) (is_free less) none (times_in other (heap_items was)))
  where
    nothing_more : (b : Bool) (n : ℕ) → n ≡ 0 → (m : ℕ) → m ≡ cond b n 0 + m
    nothing_more true n e m = omega (arith, e)
    nothing_more false n e m = omega arith

pub filled : {Z : Type 0} (left : List ℕ) (place : ℕ) (joined is : BinaryHeap (Reverse ℕ) Z) → joined ≡ is → Fills left place is → Fills left place joined
filled {Z} left place joined is same fills = let P : BinaryHeap (Reverse ℕ) Z → Type 0 = λ h. Fills left place h in subst P (sym same) fills
