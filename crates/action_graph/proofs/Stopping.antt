-- An order has all that are wanted, or stops.
use Rattle.std.proofs.Common.{◌≡◌, ℕ, zero, suc, ◌+◌, ◌<◌, ◌&&◌, not, inl, inr, Bool, true, false, List, [], ◌∷◌, ◌++◌, length, map, sym, ap, refl, ◌∙◌, arith, subst}
use Rattle.std.specs.Prelude.{◌↔◌, slice_get, IsTrue, IfOk, IfErr, Result, Ok, Err}
use Rattle.action_graph.specs.declared.plan.PlanFault.{PlanFault}
use Rattle.action_graph.specs.declared.plan.PlanFault.TheVariants.{Cycle, Memory}
use Rattle.std.proofs.lemmas.List.{length-map, length_push, get_or_append_left, get_or_push}
use Rattle.std.proofs.lemmas.Bool.{cases_lt, cases_Bool, true≢false, and_parts, not-true, false_from_ne_true}
use Rattle.opam_package.specs.declared.package.Member.{Member}
use Rattle.action_graph.specs.declared.plan.Step.{Step}
use Rattle.action_graph.specs.Places.{ArePlaces, IsIn, at_places}
use Rattle.action_graph.specs.Found.{Coheres, IsLeft, marked}
use Rattle.action_graph.specs.Links.{member_names, need_places, needs_at, member_needs}
use Rattle.action_graph.specs.Order.{CanBeNext, GoesOn, IsOrder, Stops}
use Rattle.action_graph.specs.Plans.{AreSteps, IsNamed, IsStopOf, bears_name, step_of}
use Rattle.action_graph.specs.Listing.{IsListed, IsMarked, RowsWithin, named_marks, need_rows, row, step_in}
use Rattle.action_graph.proofs.Finding.{marked_within}
use Rattle.action_graph.proofs.Orders.{may_from_can}
use Rattle.action_graph.proofs.Placing.{needs_within}
use Rattle.action_graph.proofs.Membership.{none_in_nil}

-- words that say the same of each place
can_same : (one other : ℕ → List ℕ) (P Q : ℕ → Type 0) → ((p : ℕ) → one p ≡ other p) → ((p : ℕ) → P p ↔ Q p) → (listed : List ℕ) (place : ℕ)
    → CanBeNext one P listed place → CanBeNext other Q listed place
can_same one other P Q needs wanted listed place can = record {
  is_wanted = (wanted place).0 can.is_wanted;
  is_new = can.is_new;
  is_met = λ need is on. (let R : List ℕ → Type 0 = λ l. IsIn l need in can.is_met need (subst R (sym (needs place)) is) ((wanted need).1 on));
}

flip : (P Q : ℕ → Type 0) → ((p : ℕ) → P p ↔ Q p) → (p : ℕ) → Q p ↔ P p
flip P Q same p = ((same p).1, (same p).0)

goes_same : (one other : ℕ → List ℕ) (P Q : ℕ → Type 0) → ((p : ℕ) → one p ≡ other p) → ((p : ℕ) → P p ↔ Q p) → (listed order : List ℕ)
    → GoesOn one P listed order → GoesOn other Q listed order
goes_same one other P Q needs wanted listed [] goes = tt
goes_same one other P Q needs wanted listed (place ∷ more) goes = (
  record {
    can = can_same one other P Q needs wanted listed place goes.0.can;
    least = λ next can. goes.0.least next (can_same other one Q P (λ p. sym (needs p)) (flip P Q wanted) listed next can);
  },
  goes_same one other P Q needs wanted (listed ++ place ∷ []) more goes.1,
)

pub order_same : (needs : ℕ → List ℕ) (P Q : ℕ → Type 0) → ((p : ℕ) → P p ↔ Q p) → (order : List ℕ) → IsOrder needs P order → IsOrder needs Q order
order_same needs P Q wanted order is = record {
  steps = goes_same needs needs P Q (λ p. refl) wanted [] order is.steps;
  whole = λ place on. is.whole place ((wanted place).1 on);
}

pub are_same : (P Q : ℕ → Type 0) → ((p : ℕ) → P p ↔ Q p) → (places : List ℕ) → ArePlaces P places → ArePlaces Q places
are_same P Q same places are = record {
  rising = are.rising;
  those = λ place. ((λ is. (same place).0 ((are.those place).0 is)), (λ on. (are.those place).1 ((same place).1 on)));
}

pub stops_same : (needs : ℕ → List ℕ) (P Q : ℕ → Type 0) → ((p : ℕ) → P p ↔ Q p) → (left : List ℕ) → Stops needs P left → Stops needs Q left
stops_same needs P Q wanted left stops = record {
  listed = stops.listed;
  steps = goes_same needs needs P Q (λ p. refl) wanted [] stops.listed stops.steps;
  ends = λ place can. stops.ends place (can_same needs needs Q P (λ p. refl) (flip P Q wanted) stops.listed place can);
  others = are_same (λ p. P p × (¬ IsIn stops.listed p)) (λ p. Q p × (¬ IsIn stops.listed p))
      (λ p. ((λ h. ((wanted p).0 h.0, h.1)), (λ h. ((wanted p).1 h.0, h.1)))) left stops.others;
  some = stops.some;
}

pub steps_same : (members : List Member) (P Q : ℕ → Type 0) → ((p : ℕ) → P p ↔ Q p) → (steps : List Step) → AreSteps members P steps → AreSteps members Q steps
steps_same members P Q wanted steps are = (are.0, order_same (needs_at members) P Q wanted are.0 are.1, are.2)

-- the row of a member is what it needs
pub row_is : (all members : List Member) (p : ℕ) → row (need_rows members all) p ≡ member_needs (slice_get members p) all
row_is all [] p = refl
row_is all (m ∷ ms) zero = refl
row_is all (m ∷ ms) (suc p) = row_is all ms p

pub rows_within : (all members : List Member) → RowsWithin (need_rows members all) (length all)
rows_within all [] p at is = absurd (none_in_nil at is)
rows_within all (m ∷ ms) zero at is = needs_within m.package all at is
rows_within all (m ∷ ms) (suc p) at is = rows_within all ms p at is

pub needs_are : (members : List Member) (p : ℕ) → row (need_rows members members) p ≡ needs_at members p
needs_are members p = row_is members members p

-- none is left
whole_order : (wanted listed left : List Bool) (order places : List ℕ) → Coheres listed order → IsLeft wanted listed (length wanted) left → ArePlaces (IsMarked left) places → places ≡ []
    → (place : ℕ) → IsMarked wanted place → IsIn order place
whole_order wanted listed left order places coheres is_left are none place on = elim (cases_Bool (marked listed place)) [
  | inl there ↦ coheres.listed place there
  | inr absent ↦
      (let Q : List ℕ → Type 0 = λ xs. IsIn xs place in
      absurd (none_in_nil place (subst Q none ((are.those place).1
      (is_left.those place (marked_within wanted place on) ∙ ap (λ b. b && not (marked listed place)) on ∙ ap not absent)))))
]

pub steps_done : (members : List Member) (wanted listed left : List Bool) (order places given : List ℕ) (steps : List Step) (rows : List (List ℕ)) → rows ≡ need_rows members members
    → IsListed rows wanted listed order → IsLeft wanted listed (length wanted) left → ArePlaces (IsMarked left) places → places ≡ [] → given ≡ order → steps ≡ map (step_in rows) given
    → AreSteps members (IsMarked wanted) steps
steps_done members wanted listed left order places given steps rows are_rows listing is_left are none same made =
    let L : List (List ℕ) → Type 0 = λ r. IsListed r wanted listed order in
    let here : IsListed (need_rows members members) wanted listed order = subst L are_rows listing in (
      order,
      record {
        steps = goes_same (row (need_rows members members)) (needs_at members) (IsMarked wanted) (IsMarked wanted) (needs_are members) (λ p. ((λ h. h), (λ h. h))) [] order here.steps;
        whole = whole_order wanted listed left order places here.coheres is_left are none;
      },
      made ∙ ap (map (step_in rows)) same ∙ ap (λ r. map (step_in r) order) are_rows ∙ map_same order,
    )
  where
    map_same : (xs : List ℕ) → map (step_in (need_rows members members)) xs ≡ map (step_of members) xs
    map_same [] = refl
    map_same (x ∷ xs) = ap (λ n. record { member = x; needs = n } ∷ map (step_in (need_rows members members)) xs) (needs_are members x) ∙ ap (λ more. step_of members x ∷ more) (map_same xs)

-- some are left
left_is : (wanted listed left : List Bool) (order : List ℕ) → length listed ≡ length wanted → Coheres listed order → IsLeft wanted listed (length wanted) left
    → (place : ℕ) → IsMarked left place ↔ (IsMarked wanted place × (¬ IsIn order place))
left_is wanted listed left order counted coheres is_left place = (
  (λ on.
      let within : place < length wanted = omega (arith, marked_within left place on, is_left.counted) in
      let both = and_parts (marked wanted place) (not (marked listed place)) (sym (is_left.those place within) ∙ on) in
      (both.0, λ is. (let P : ℕ → Type 0 = λ p. marked listed p ≡ true in true≢false (sym (subst P is.2 (coheres.marked_all is.0 is.1)) ∙ not-true (marked listed place) both.1)))),
  (λ h.
      is_left.those place (marked_within wanted place h.0) ∙ ap (λ b. b && not (marked listed place)) h.0
      ∙ ap not (false_from_ne_true (marked listed place) (λ on. h.1 (coheres.listed place on)))),
)

pub stops_here : (members : List Member) (wanted listed left : List Bool) (order places : List ℕ) (rows : List (List ℕ)) → rows ≡ need_rows members members
    → IsListed rows wanted listed order → IsLeft wanted listed (length wanted) left → ArePlaces (IsMarked left) places → (places ≡ [] → ⊥)
    → Stops (needs_at members) (IsMarked wanted) places
stops_here members wanted listed left order places rows are_rows listing is_left are some =
    let L : List (List ℕ) → Type 0 = λ r. IsListed r wanted listed order in
    let here : IsListed (need_rows members members) wanted listed order = subst L are_rows listing in
    record {
      listed = order;
      steps = goes_same (row (need_rows members members)) (needs_at members) (IsMarked wanted) (IsMarked wanted) (needs_are members) (λ p. ((λ h. h), (λ h. h))) [] order here.steps;
      ends = λ place can. here.ends place (may_from_can (need_rows members members) wanted listed order place here.coheres
          (can_same (needs_at members) (row (need_rows members members)) (IsMarked wanted) (IsMarked wanted) (λ p. sym (needs_are members p)) (λ p. ((λ h. h), (λ h. h))) order place can));
      others = are_same (IsMarked left) (λ p. IsMarked wanted p × (¬ IsIn order p)) (left_is wanted listed left order here.counted here.coheres is_left) places are;
      some = some;
    }

-- one more mark
pub left_next : (wanted listed left more : List Bool) (at : ℕ) → IsLeft wanted listed at left → more ≡ left ++ (marked wanted at && not (marked listed at)) ∷ [] → IsLeft wanted listed (at + 1) more
left_next wanted listed left more at is pushed = let P : List Bool → Type 0 = IsLeft wanted listed (at + 1) in subst P (sym pushed) (record {
  counted = length_push left (marked wanted at && not (marked listed at)) ∙ ap (λ n. n + 1) is.counted;
  those = λ p below. elim (cases_lt p at) [
    | inl before ↦ get_or_append_left left ((marked wanted at && not (marked listed at)) ∷ []) false p (omega (arith, before, is.counted)) ∙ is.those p before
    | inr now ↦
        (let same : at ≡ p = omega (arith, below, now) in
        get_or_push left (marked wanted at && not (marked listed at)) false p (is.counted ∙ same) ∙ ap (λ q. marked wanted q && not (marked listed q)) same)
  ];
})

pub named_is : (names : List (List ℕ)) (members : List Member) (p : ℕ) → marked (named_marks names members) p ≡ bears_name names (slice_get members p)
named_is names [] p = refl
named_is names (m ∷ ms) zero = refl
named_is names (m ∷ ms) (suc p) = named_is names ms p

pub named_same : (names : List (List ℕ)) (members : List Member) (marks : List Bool) → marks ≡ named_marks names members → (p : ℕ) → IsMarked marks p ↔ IsNamed names members p
named_same names members marks are p =
    ((λ on. sym (ap (λ ms. marked ms p) are ∙ named_is names members p) ∙ on), (λ on. ap (λ ms. marked ms p) are ∙ named_is names members p ∙ on))

-- the same by what the code was handed
pub steps_given : (members : List Member) (wanted marks seen left given_left : List Bool) (order given places : List ℕ) (steps : List Step) (rows : List (List ℕ)) → rows ≡ need_rows members members
    → IsListed rows wanted marks order → seen ≡ marks → IsLeft wanted seen (length wanted) left → given_left ≡ left → ArePlaces (IsMarked given_left) places → places ≡ [] → given ≡ order
    → steps ≡ map (step_in rows) given → AreSteps members (IsMarked wanted) steps
steps_given members wanted marks seen left given_left order given places steps rows are_rows listing same_marks is_left same_left are none same made =
    let P : List Bool → Type 0 = λ m. IsLeft wanted m (length wanted) left in
    let Q : List Bool → Type 0 = λ l. ArePlaces (IsMarked l) places in
    steps_done members wanted marks left order places given steps rows are_rows listing (subst P same_marks is_left) (subst Q same_left are) none same made

pub stops_given : (members : List Member) (wanted marks seen left given_left : List Bool) (order given places : List ℕ) (names : List (List ℕ)) (rows : List (List ℕ)) → rows ≡ need_rows members members
    → IsListed rows wanted marks order → seen ≡ marks → IsLeft wanted seen (length wanted) left → given_left ≡ left → ArePlaces (IsMarked given_left) places → (places ≡ [] → ⊥) → given ≡ places
    → names ≡ at_places (member_names members) given → (x : List ℕ) × Stops (needs_at members) (IsMarked wanted) x × (names ≡ at_places (member_names members) x)
stops_given members wanted marks seen left given_left order given places names rows are_rows listing same_marks is_left same_left are some same told =
    let P : List Bool → Type 0 = λ m. IsLeft wanted m (length wanted) left in
    let Q : List Bool → Type 0 = λ l. ArePlaces (IsMarked l) places in
    (places, stops_here members wanted marks left order places rows are_rows listing (subst P same_marks is_left) (subst Q same_left are) some, told ∙ ap (at_places (member_names members)) same)

pub none_by : (b : Bool) (P : Type 0) → (IsTrue b ↔ P) → b ≡ true → P
none_by true P is on = is.0 refl
none_by false P is on = absurd cc

pub some_by : (b : Bool) (P : Type 0) → (IsTrue b ↔ P) → b ≡ false → P → ⊥
some_by true P is off p = absurd cc
some_by false P is off p = (let h : false ≡ true = is.1 p in cc)

pub rows_fit : (members : List Member) (wanted : List Bool) (rows : List (List ℕ)) → rows ≡ need_rows members members → length wanted ≡ length members → RowsWithin rows (length wanted)
rows_fit members wanted rows are counted = λ place at is.
    let P : List (List ℕ) → Type 0 = λ r. IsIn (row r place) at in
    let h = rows_within members members place at (subst P are is) in omega (arith, h, counted)

pub order_ok : (members given : List Member) (names : List (List ℕ)) (marks seen : List Bool) (result : Result (List Step) PlanFault) → given ≡ members → seen ≡ marks → marks ≡ named_marks names given
    → IfOk result (AreSteps given (IsMarked seen)) → IfOk result (AreSteps members (IsNamed names members))
order_ok members given names marks seen (Ok steps) same same_marks are is =
    let P : List Member → Type 0 = λ ms. AreSteps ms (IsMarked seen) steps in
    steps_same members (IsMarked seen) (IsNamed names members) (named_same names members seen (same_marks ∙ are ∙ ap (named_marks names) same)) steps (subst P same is)
order_ok members given names marks seen (Err fault) same same_marks are is = tt

pub stop_same : (members : List Member) (P Q : ℕ → Type 0) → ((p : ℕ) → P p ↔ Q p) → (fault : PlanFault) → IsStopOf members P fault → IsStopOf members Q fault
stop_same members P Q wanted (Cycle names) is = (is.0, stops_same (needs_at members) P Q wanted is.0 is.1, is.2)
stop_same members P Q wanted Memory is = tt

pub order_err : (members given : List Member) (names : List (List ℕ)) (marks seen : List Bool) (result : Result (List Step) PlanFault) → given ≡ members → seen ≡ marks → marks ≡ named_marks names given
    → IfErr result (IsStopOf given (IsMarked seen)) → IfErr result (IsStopOf members (IsNamed names members))
order_err members given names marks seen (Ok steps) same same_marks are is = tt
order_err members given names marks seen (Err fault) same same_marks are is =
    let P : List Member → Type 0 = λ ms. IsStopOf ms (IsMarked seen) fault in
    stop_same members (IsMarked seen) (IsNamed names members) (named_same names members seen (same_marks ∙ are ∙ ap (named_marks names) same)) fault (subst P same is)

pub need_rows_length : (all members : List Member) → length (need_rows members all) ≡ length members
need_rows_length all members = length-map members (λ (member : Member). need_places member.package all)
