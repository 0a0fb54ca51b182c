-- Where members stand, and what is installed.
use Rattle.std.proofs.Common.{◌≡◌, ℕ, zero, suc, ◌+◌, ◌<◌, ◌≤◌, ◌⊎◌, inl, inr, Bool, true, false, not, cond, List, [], ◌∷◌, ◌++◌, length, get_or, sym, ap, refl, ◌∙◌, arith, subst, eqb}
use Rattle.std.specs.Prelude.{MatchOption, slice_get, filter, min}
use Rattle.std.specs.List.{list_all}
use Rattle.std.specs.declared.option.Option.{Option}
use Rattle.std.specs.declared.option.Option.TheVariants.{None, Some}
use Rattle.std.proofs.lemmas.List.{get_or-map, get_or_append_left, get_or_past}
use Rattle.std.proofs.lemmas.List.Sums.{position_or_len_is, passes_at_first}
use Rattle.std.proofs.lemmas.Option.{slice_get_within, get_or_from_slice_get}
use Rattle.std.proofs.lemmas.Bool.{and_parts, and_from, cases_Bool, cases_lt, eq-eqb, eqb-true, ne_eqb, true≢false, not-true, or_cases, or_left, or_right}
use Rattle.action_graph.specs.Places.{IsIn}
use Rattle.action_graph.specs.declared.plan.Plan.{Plan}
use Rattle.action_graph.specs.declared.plan.Step.{Step}
use Rattle.change_floor.specs.Floors.{is_done_at, has_installed, is_there, lacking, least_of, least_with, install_place}
use Rattle.change_floor.specs.FloorLaws.{AbortsNameTheLeast, EachOnce, NamesTheLeast, install_members}

-- the install at the place of a member is that member
pub own_place : (installs : List Step) (member : ℕ) (step : Step) → slice_get installs (install_place installs member) ≡ Some step → step.member ≡ member
own_place installs member step is =
    let below = slice_get_within installs (install_place installs member) step is in
    let found = eqb-true (get_or installs (install_place installs member) step).member member (passes_at_first (λ (s : Step). eqb s.member member) installs step below) in
    let e = get_or_from_slice_get installs (install_place installs member) step step is in
    sym (ap (λ (s : Step). s.member) e) ∙ found

pub member_at : (installs : List Step) (i : ℕ) (d : Step) → i < length installs → get_or (install_members installs) i 0 ≡ (get_or installs i d).member
member_at installs i d below = get_or-map (λ (s : Step). s.member) installs i d 0 below

-- where each stands once, a member is found where it stands
pub place_is : (plan : Plan) → EachOnce plan.installs → (i : ℕ) (step : Step) → slice_get plan.installs i ≡ Some step → install_place plan.installs step.member ≡ i
place_is plan once i step is =
    let below = slice_get_within plan.installs i step is in
    let e = get_or_from_slice_get plan.installs i step step is in
    position_or_len_is (λ (s : Step). eqb s.member step.member) plan.installs i step (omega (arith, below))
    (λ k before. ne_eqb (get_or plan.installs k step).member step.member
    (λ same. once k i before below (member_at plan.installs k step (omega (arith, before, below)) ∙ same ∙ sym (ap (λ (s : Step). s.member) e) ∙ sym (member_at plan.installs i step below))))
    (λ within. eq-eqb (get_or plan.installs i step).member step.member (ap (λ (s : Step). s.member) e))

-- one decision more leaves what is installed
pub done_more : (plan : Plan) (decided : List Bool) (one : Bool) (place : ℕ) → is_done_at plan decided place ≡ true → is_done_at plan (decided ++ one ∷ []) place ≡ true
done_more plan decided one place is = elim (cases_lt (length plan.removals + place) (length decided)) [
  | inl below ↦ get_or_append_left decided (one ∷ []) false (length plan.removals + place) below ∙ is
  | inr past ↦ absurd (true≢false (sym is ∙ get_or_past decided (length plan.removals + place) false past))
]

pub installed_more : (plan : Plan) (decided : List Bool) (one : Bool) (member : ℕ) → has_installed plan decided member ≡ true → has_installed plan (decided ++ one ∷ []) member ≡ true
installed_more plan decided one member is = elim (or_cases (is_there plan member) (is_done_at plan decided (install_place plan.installs member)) is) [
  | inl there ↦ or_left (is_there plan member) (is_done_at plan (decided ++ one ∷ []) (install_place plan.installs member)) there
  | inr done ↦ or_right (is_there plan member) (is_done_at plan (decided ++ one ∷ []) (install_place plan.installs member)) (done_more plan decided one (install_place plan.installs member) done)
]

pub all_more : (p q : ℕ → Bool) (xs : List ℕ) → ((x : ℕ) → p x ≡ true → q x ≡ true) → list_all p xs ≡ true → list_all q xs ≡ true
all_more p q [] more all = refl
all_more p q (x ∷ xs) more all = let parts = and_parts (p x) (list_all p xs) all in and_from (q x) (list_all q xs) (more x parts.0) (all_more p q xs more parts.1)

pub all_in : (p : ℕ → Bool) (xs : List ℕ) (x : ℕ) → list_all p xs ≡ true → IsIn xs x → p x ≡ true
all_in p xs x all is = at xs all is.0 is.1 is.2
  where
    at : (ys : List ℕ) → list_all p ys ≡ true → (i : ℕ) → i < length ys → get_or ys i 0 ≡ x → p x ≡ true
    at [] every i below same = absurd (omega (arith, below))
    at (y ∷ ys) every zero below same = let P : ℕ → Type 0 = λ n. p n ≡ true in subst P same (and_parts (p y) (list_all p ys) every).0
    at (y ∷ ys) every (suc i) below same = at ys (and_parts (p y) (list_all p ys) every).1 i (omega (arith, below)) same

in_there : (xs : List ℕ) (y x : ℕ) → IsIn xs x → IsIn (y ∷ xs) x
in_there xs y x is = (suc is.0, omega (arith, is.1), is.2)

-- the least of a list, and of those of a list that pass a test
pub record IsLeastOf (p : ℕ → Bool) (xs : List ℕ) (least : ℕ) : Type 0 where
  pub is_in : IsIn xs least
  pub passes : p least ≡ true
  pub below : (other : ℕ) → IsIn xs other → p other ≡ true → least ≤ other

abbrev pub IsFiltered : (p : ℕ → Bool) → List ℕ → Option ℕ → Type 0
IsFiltered p xs least = MatchOption least ((x : ℕ) → IsIn xs x → p x ≡ false) (IsLeastOf p xs)

head_in : (y : ℕ) (ys : List ℕ) → IsIn (y ∷ ys) y
head_in y ys = (0, omega arith, refl)

in_cons : (y : ℕ) (ys : List ℕ) (x : ℕ) → IsIn (y ∷ ys) x → (y ≡ x) ⊎ IsIn ys x
in_cons y ys x is = by is.0 is.1 is.2
  where
    by : (i : ℕ) → i < length (y ∷ ys) → get_or (y ∷ ys) i 0 ≡ x → (y ≡ x) ⊎ IsIn ys x
    by zero below same = inl same
    by (suc i) below same = inr (i, omega (arith, below), same)

pub least_skip : (p : ℕ → Bool) (x : ℕ) (xs : List ℕ) → p x ≡ false → (o : Option ℕ) → IsFiltered p xs o → IsFiltered p (x ∷ xs) o
least_skip p x xs off None none = λ other is. elim (in_cons x xs other is) [
  | inl same ↦ (let P : ℕ → Type 0 = λ n. p n ≡ false in subst P same off)
  | inr rest ↦ none other rest
]
least_skip p x xs off (Some least) is_least = record {
  is_in = in_there xs x least is_least.is_in;
  passes = is_least.passes;
  below = λ other is on. elim (in_cons x xs other is) [
    | inl same ↦ absurd (true≢false (sym on ∙ sym (ap p same) ∙ off))
    | inr rest ↦ is_least.below other rest on
  ];
}

pub least_put : (p : ℕ → Bool) (x : ℕ) (xs : List ℕ) → p x ≡ true → (o : Option ℕ) → IsFiltered p xs o → IsLeastOf p (x ∷ xs) (least_with x o)
least_put p x xs on None none = record {
  is_in = head_in x xs;
  passes = on;
  below = λ other is passes. elim (in_cons x xs other is) [
    | inl same ↦ omega (arith, same)
    | inr rest ↦ absurd (true≢false (sym passes ∙ none other rest))
  ];
}
least_put p x xs on (Some least) is_least = elim (cases_lt least x) [
  | inl under ↦
      (let e : least ≡ min x least = omega (arith, under) in
      let P : ℕ → Type 0 = λ n. IsLeastOf p (x ∷ xs) n in subst P e (record {
        is_in = in_there xs x least is_least.is_in;
        passes = is_least.passes;
        below = λ other is passes. elim (in_cons x xs other is) [
          | inl same ↦ omega (arith, same, under)
          | inr rest ↦ is_least.below other rest passes
        ];
      }))
  | inr over ↦
      (let e : x ≡ min x least = omega (arith, over) in
      let P : ℕ → Type 0 = λ n. IsLeastOf p (x ∷ xs) n in subst P e (record {
        is_in = head_in x xs;
        passes = on;
        below = λ other is passes. elim (in_cons x xs other is) [
          | inl same ↦ omega (arith, same)
          | inr rest ↦ (let h = is_least.below other rest passes in omega (arith, h, over))
        ];
      }))
]

pub least_filtered : (p : ℕ → Bool) (xs : List ℕ) → IsFiltered p xs (least_of (filter p xs))
least_filtered p [] = λ x is. absurd (omega (arith, is.1))
least_filtered p (x ∷ xs) = elim (cases_Bool (p x)) [
  | inl on ↦
      (let P : Bool → Type 0 = λ b. IsFiltered p (x ∷ xs) (least_of (cond b (x ∷ filter p xs) (filter p xs))) in
      subst P (sym on) (least_put p x xs on (least_of (filter p xs)) (least_filtered p xs)))
  | inr off ↦
      (let P : Bool → Type 0 = λ b. IsFiltered p (x ∷ xs) (least_of (cond b (x ∷ filter p xs) (filter p xs))) in
      subst P (sym off) (least_skip p x xs off (least_of (filter p xs)) (least_filtered p xs)))
]

named : (plan : Plan) (decided : List Bool) (needs : List ℕ) (o : Option ℕ) → IsFiltered (λ need. not (has_installed plan decided need)) needs o
    → MatchOption o ((need : ℕ) → IsIn needs need → has_installed plan decided need ≡ true) (NamesTheLeast plan decided needs)
named plan decided needs None none = λ need is. back (has_installed plan decided need) (none need is)
  where
    back : (b : Bool) → not b ≡ false → b ≡ true
    back true off = refl
    back false off = absurd cc
named plan decided needs (Some need) is_least = record {
  is_need = is_least.is_in;
  is_lacking = not-true (has_installed plan decided need) is_least.passes;
  least = λ other is off. is_least.below other is (ap not off);
}

pub aborts_name_the_least : AbortsNameTheLeast
aborts_name_the_least plan decided needs = named plan decided needs (lacking plan decided needs) (least_filtered (λ need. not (has_installed plan decided need)) needs)

-- where none is lacking all are installed, and the other way round
pub lacks_none : (plan : Plan) (decided : List Bool) (needs : List ℕ) → lacking plan decided needs ≡ None → list_all (has_installed plan decided) needs ≡ true
lacks_none plan decided needs none =
    let P : Option ℕ → Type 0 = λ o. MatchOption o ((need : ℕ) → IsIn needs need → has_installed plan decided need ≡ true) (NamesTheLeast plan decided needs) in
    all_of (has_installed plan decided) needs (subst P none (aborts_name_the_least plan decided needs))
  where
    all_of : (p : ℕ → Bool) (xs : List ℕ) → ((x : ℕ) → IsIn xs x → p x ≡ true) → list_all p xs ≡ true
    all_of p [] every = refl
    all_of p (x ∷ xs) every = and_from (p x) (list_all p xs) (every x (head_in x xs)) (all_of p xs (λ y is. every y (in_there xs x y is)))

pub lacks_some : (plan : Plan) (decided : List Bool) (needs : List ℕ) (need : ℕ) → lacking plan decided needs ≡ Some need → NamesTheLeast plan decided needs need
lacks_some plan decided needs need some =
    let P : Option ℕ → Type 0 = λ o. MatchOption o ((n : ℕ) → IsIn needs n → has_installed plan decided n ≡ true) (NamesTheLeast plan decided needs) in
    subst P some (aborts_name_the_least plan decided needs)
