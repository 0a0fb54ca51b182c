-- Rows of those that need each install, while they are made.
use Rattle.std.proofs.Common.{◌≡◌, ℕ, ◌+◌, ◌<◌, ◌≤◌, inl, inr, Bool, cond, List, [], ◌∷◌, ◌++◌, length, get_or, set, take, map, replicate, sym, ap, refl, ◌∙◌, arith, subst, eqb, ltb}
use Rattle.std.specs.Prelude.{slice_get}
use Rattle.std.specs.declared.option.Option.TheVariants.{None, Some}
use Rattle.std.proofs.lemmas.List.{length-map, length-set, map-set, get_or-map, get_or-set_same, get_or-set_other, get_or-replicate, length-replicate, take_all}
use Rattle.std.proofs.lemmas.List.Sums.{sum_by_more, sum_by_push}
use Rattle.std.proofs.lemmas.Option.{slice_get-get_or, slice_get_past}
use Rattle.std.proofs.lemmas.Bool.{cases_eq, cases_lt, cond-true, cond-false, eq-eqb, ne_eqb, lt-ltb, le-ltb}
use Rattle.action_graph.specs.declared.plan.Plan.{Plan}
use Rattle.action_graph.specs.declared.plan.Step.{Step}
use Rattle.change_floor.specs.Floors.{install_place}
use Rattle.change_floor.specs.FloorLaws.{install_needs, step_needs}
use Rattle.change_floor.specs.Keeping.{Notes, Turned, TurnedBelow, needed, row_at, standing}
use Rattle.change_floor.specs.Queues.{times}

abbrev one_if : Bool → ℕ
one_if b = cond b 1 0

some_is : {X : Type 0} (a b : X) → Some a ≡ Some b → a ≡ b
some_is a b same = cc

none_is_not : {X : Type 0} (a : X) → None ≡ Some a → ⊥
none_is_not a same = cc

some_is_not : {X : Type 0} (a : X) → Some a ≡ None → ⊥
some_is_not a same = cc

-- what a table's answer says of the place
pub stands_at : (installs : List Step) (member place : ℕ) → standing installs member ≡ Some place → (install_place installs member ≡ place) × (place < length installs)
stands_at installs member place is = elim (cases_lt (install_place installs member) (length installs)) [
  | inl below ↦
      (let e = some_is (install_place installs member) place (sym (cond-true (ltb (install_place installs member) (length installs)) (Some (install_place installs member)) None (lt-ltb (install_place installs member) (length installs) below)) ∙ is) in
      (e, omega (arith, e, below)))
  | inr past ↦ absurd (none_is_not place (sym (cond-false (ltb (install_place installs member) (length installs)) (Some (install_place installs member)) None (le-ltb (install_place installs member) (length installs) past)) ∙ is))
]

pub stands_nowhere : (installs : List Step) (member : ℕ) → standing installs member ≡ None → length installs ≤ install_place installs member
stands_nowhere installs member is = elim (cases_lt (install_place installs member) (length installs)) [
  | inl below ↦ absurd (some_is_not (install_place installs member) (sym (cond-true (ltb (install_place installs member) (length installs)) (Some (install_place installs member)) None (lt-ltb (install_place installs member) (length installs) below)) ∙ is))
  | inr past ↦ past
]

pub stands_so : (installs : List Step) (member : ℕ) → install_place installs member < length installs → standing installs member ≡ Some (install_place installs member)
stands_so installs member below = cond-true (ltb (install_place installs member) (length installs)) (Some (install_place installs member)) None (lt-ltb (install_place installs member) (length installs) below)

needed_more : (installs : List Step) (place : ℕ) (needs : List ℕ) (i : ℕ) → i < length needs
    → needed installs place (take (i + 1) needs) ≡ needed installs place (take i needs) + one_if (eqb (install_place installs (get_or needs i 0)) place)
needed_more installs place needs i below = sum_by_more (λ need. cond (eqb (install_place installs need) place) 1 0) needs i 0 below

pub notes_none : (plan : Plan) (rows : List (List ℕ)) (dependent : ℕ) → Notes plan rows [] dependent rows
notes_none plan rows dependent = record {
  counted = refl;
  own = λ place below. omega arith;
  others = λ place other below apart. refl;
}

-- the next need is no install
pub notes_skip : (plan : Plan) (before now : List (List ℕ)) (needs : List ℕ) (i dependent : ℕ) (joined : List (List ℕ)) → joined ≡ now → i < length needs → length plan.installs ≤ install_place plan.installs (get_or needs i 0)
    → Notes plan before (take i needs) dependent now → Notes plan before (take (i + 1) needs) dependent joined
notes_skip plan before now needs i dependent joined same below past notes =
    let P : List (List ℕ) → Type 0 = λ rows. Notes plan before (take (i + 1) needs) dependent rows in
    subst P (sym same) (record {
      counted = notes.counted;
      own = λ place inside.
          (let none : one_if (eqb (install_place plan.installs (get_or needs i 0)) place) ≡ 0 = ap one_if (ne_eqb (install_place plan.installs (get_or needs i 0)) place (λ e. apart e inside)) in
          omega (arith, notes.own place inside, needed_more plan.installs place needs i below, none));
      others = notes.others;
    })
  where
    apart : {place : ℕ} → install_place plan.installs (get_or needs i 0) ≡ place → place < length plan.installs → ⊥
    apart e inside = omega (arith, e, inside, past)

-- the next need is an install: it comes into its row
pub notes_add : (plan : Plan) (before now : List (List ℕ)) (needs : List ℕ) (i dependent at : ℕ) (joined : List (List ℕ)) → joined ≡ set now at (row_at now at ++ dependent ∷ []) → i < length needs
    → install_place plan.installs (get_or needs i 0) ≡ at → at < length now → Notes plan before (take i needs) dependent now → Notes plan before (take (i + 1) needs) dependent joined
notes_add plan before now needs i dependent at joined same below here inside notes =
    let P : List (List ℕ) → Type 0 = λ rows. Notes plan before (take (i + 1) needs) dependent rows in
    let row : List ℕ = row_at now at in
    let pushed = λ (other : ℕ). sum_by_push (λ y. cond (eqb y other) 1 0) row dependent in
    subst P (sym same) (record {
      counted = length-set now at (row ++ dependent ∷ []) ∙ notes.counted;
      own = λ place within. elim (cases_eq place at) [
        | inl own ↦
            (let Q : ℕ → Type 0 = λ p. times dependent (row_at (set now at (row ++ dependent ∷ [])) p) ≡ times dependent (row_at before p) + needed plan.installs p (take (i + 1) needs) in
            let one : one_if (eqb dependent dependent) ≡ 1 = ap one_if (eq-eqb dependent dependent refl) in
            let hit : one_if (eqb (install_place plan.installs (get_or needs i 0)) at) ≡ 1 = ap one_if (eq-eqb (install_place plan.installs (get_or needs i 0)) at here) in
            let was = notes.own at (omega (arith, within, own)) in
            subst Q (sym own) (ap (times dependent) (get_or-set_same now at (row ++ dependent ∷ []) [] inside)
            ∙ omega (arith, pushed dependent, one, hit, was, needed_more plan.installs at needs i below)))
        | inr apart ↦
            (let miss : one_if (eqb (install_place plan.installs (get_or needs i 0)) place) ≡ 0 = ap one_if (ne_eqb (install_place plan.installs (get_or needs i 0)) place (λ e. apart (sym e ∙ here))) in
            ap (times dependent) (get_or-set_other now at place (row ++ dependent ∷ []) [] apart)
            ∙ omega (arith, miss, notes.own place within, needed_more plan.installs place needs i below))
      ];
      others = λ place other within differs. elim (cases_eq place at) [
        | inl own ↦
            (let Q : ℕ → Type 0 = λ p. times other (row_at (set now at (row ++ dependent ∷ [])) p) ≡ times other (row_at before p) in
            let none : one_if (eqb dependent other) ≡ 0 = ap one_if (ne_eqb dependent other (λ e. differs (sym e))) in
            let was = notes.others at other (omega (arith, within, own)) differs in
            subst Q (sym own) (ap (times other) (get_or-set_same now at (row ++ dependent ∷ []) [] inside) ∙ omega (arith, pushed other, none, was)))
        | inr apart ↦ ap (times other) (get_or-set_other now at place (row ++ dependent ∷ []) [] apart) ∙ notes.others place other within differs
      ];
    })

pub notes_all : (plan : Plan) (before now : List (List ℕ)) (needs : List ℕ) (i dependent : ℕ) → length needs ≤ i → Notes plan before (take i needs) dependent now → Notes plan before needs dependent now
notes_all plan before now needs i dependent past notes = let P : List ℕ → Type 0 = λ ns. Notes plan before ns dependent now in subst P (take_all i needs past) notes

pub turned_none : (plan : Plan) (rows : List (List ℕ)) → rows ≡ replicate (length plan.installs) [] → TurnedBelow plan 0 rows
turned_none plan rows is =
    let P : List (List ℕ) → Type 0 = λ rs. TurnedBelow plan 0 rs in
    subst P (sym is) (record {
      counted = length-replicate (length plan.installs) [];
      first = λ place dependent below before. absurd (omega (arith, before));
      rest = λ place dependent below past. ap (times dependent) (get_or-replicate (length plan.installs) place [] [] below);
    })

pub turned_next : (plan : Plan) (before now : List (List ℕ)) (done : ℕ) (needs : List ℕ) → needs ≡ install_needs plan done → TurnedBelow plan done before → Notes plan before needs done now → TurnedBelow plan (done + 1) now
turned_next plan before now done needs is turned notes = record {
  counted = notes.counted ∙ turned.counted;
  first = λ place dependent below within. elim (cases_eq dependent done) [
    | inl same ↦
        (let Q : ℕ → Type 0 = λ d. times d (row_at now place) ≡ needed plan.installs place (install_needs plan d) in
        let e = ap (needed plan.installs place) is in
        subst Q (sym same) (omega (arith, notes.own place below, turned.rest place done below (omega arith), e)))
    | inr apart ↦ notes.others place dependent below apart ∙ turned.first place dependent below (omega (arith, within, apart))
  ];
  rest = λ place dependent below past. notes.others place dependent below (λ same. too_far same past) ∙ turned.rest place dependent below (omega (arith, past));
}
  where
    too_far : {d : ℕ} → d ≡ done → done + 1 ≤ d → ⊥
    too_far same past = omega (arith, same, past)

pub turned_all : (plan : Plan) (rows : List (List ℕ)) (done : ℕ) → length plan.installs ≤ done → TurnedBelow plan done rows → Turned plan rows
turned_all plan rows done past turned = record {
  counted = turned.counted;
  those = λ place dependent below. elim (cases_lt dependent done) [
    | inl before ↦ turned.first place dependent below before
    | inr beyond ↦
        (let none : needed plan.installs place (install_needs plan dependent) ≡ 0 = ap (λ s. needed plan.installs place (step_needs s)) (slice_get_past plan.installs dependent (omega (arith, beyond, past))) in
        omega (arith, turned.rest place dependent below beyond, none))
  ];
}

pub needs_are : (plan : Plan) (seen : List Step) (i : ℕ) (x : Step) (needs : List ℕ) → seen ≡ plan.installs → i < length seen → needs ≡ (get_or seen i x).needs → needs ≡ install_needs plan i
needs_are plan seen i x needs same below are =
    let e = ap (λ xs. slice_get xs i) (sym same) ∙ slice_get-get_or seen i x below in
    are ∙ sym (ap step_needs e)

-- a row longer by one
rows_set_here : {V : Type 0} (f : V → List ℕ) (xs : List V) (at place : ℕ) (old new : V) → at < length xs → old ≡ get_or xs at old → f new ≡ f old ++ place ∷ []
    → map f (set xs at new) ≡ set (map f xs) at (row_at (map f xs) at ++ place ∷ [])
rows_set_here f xs at place old new within is added =
    map-set f xs at new
    ∙ ap (λ r. set (map f xs) at r) (added ∙ ap (λ r. r ++ place ∷ []) (ap f is ∙ sym (get_or-map f xs at old [] within)))

pub rows_set : {V : Type 0} (f : V → List ℕ) (xs : List V) (seen : List (List ℕ)) (at place : ℕ) (old new : V) → seen ≡ map f xs → at < length seen → old ≡ get_or xs at old → f new ≡ f old ++ place ∷ []
    → map f (set xs at new) ≡ set seen at (row_at seen at ++ place ∷ [])
rows_set f xs seen at place old new view within is added =
    let P : List (List ℕ) → Type 0 = λ s. map f (set xs at new) ≡ set s at (row_at s at ++ place ∷ []) in
    subst P (sym view) (rows_set_here f xs at place old new (omega (arith, within, ap length view, length-map xs f)) is added)
