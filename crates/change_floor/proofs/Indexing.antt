-- Where members stand, as a table says it that is made one install after another.
use Rattle.std.proofs.Common.{◌≡◌, ℕ, ◌+◌, ◌<◌, ◌≤◌, inl, inr, Bool, true, false, not, ◌||◌, cond, List, [], ◌∷◌, ◌++◌, length, get_or, take, sym, ap, refl, ◌∙◌, arith, subst, eqb, ltb}
use Rattle.std.specs.Prelude.{position}
use Rattle.std.specs.List.{list_any, position_or_len}
use Rattle.std.specs.Ordering.{is_eq, nat_cmp}
use Rattle.std.specs.BTreeMap.{BTreeMap, get, is_at}
use Rattle.std.specs.BTreeSet.{BTreeSet, contains}
use Rattle.std.specs.declared.cmp.Ordering.TheVariants.{Less, Equal, Greater}
use Rattle.std.specs.declared.option.Option.TheVariants.{None, Some}
use Rattle.std.proofs.lemmas.List.{get_or_default, get_or-take, length-take-le, length_push, take_all, take_more}
use Rattle.std.proofs.lemmas.List.Folds.{list_any_more, position_or_len_push}
use Rattle.std.proofs.lemmas.List.Sums.{position_or_len_is, prefix_len-le-length}
use Rattle.std.proofs.lemmas.Bool.{cases_Bool, cases_eq, cases_lt, cond-true, cond-false, eq-eqb, ne_eqb, lt-ltb, le-ltb}
use Rattle.action_graph.specs.declared.plan.Step.{Step}
use Rattle.change_floor.specs.FloorLaws.{EachOnce}
use Rattle.change_floor.specs.Keeping.{KnowsMissing, KnowsPlaces, standing}
use Rattle.change_floor.proofs.Standing.{member_at}

is_key : (a b : ℕ) → is_eq (nat_cmp a b) ≡ eqb a b
is_key a b = elim (cases_eq a b) [
  | inl same ↦ equal (ltb a b) (eqb a b) (le-ltb a b (omega (arith, same))) (eq-eqb a b same)
  | inr apart ↦ other (ltb a b) (eqb a b) (ne_eqb a b apart)
]
  where
    equal : (l e : Bool) → l ≡ false → e ≡ true → is_eq (cond l Less (cond e Equal Greater)) ≡ e
    equal true e off on = absurd cc
    equal false true off on = refl
    equal false false off on = refl

    other : (l e : Bool) → e ≡ false → is_eq (cond l Less (cond e Equal Greater)) ≡ e
    other true true off = absurd cc
    other true false off = refl
    other false true off = refl
    other false false off = refl

-- the place of one element more
at_end : (len at more longer : ℕ) (b : Bool) → at ≤ len → longer ≡ len + 1 → more ≡ cond (eqb at len) (len + cond b 0 1) at
    → cond (ltb more longer) (Some more) None ≡ cond (ltb at len) (Some at) (cond b (Some len) None)
at_end len at more longer b within one is = elim (cases_lt at len) [
  | inl below ↦
      (let same : more ≡ at = is ∙ cond-false (eqb at len) (len + cond b 0 1) at (ne_eqb at len (λ e. apart below e)) in
      cond-true (ltb more longer) (Some more) None (lt-ltb more longer (omega (arith, same, below, one))) ∙ ap (λ n. Some n) same ∙ sym (cond-true (ltb at len) (Some at) (cond b (Some len) None) (lt-ltb at len below)))
  | inr past ↦
      (let here : more ≡ len + cond b 0 1 = is ∙ cond-true (eqb at len) (len + cond b 0 1) at (eq-eqb at len (omega (arith, within, past))) in
      elim (cases_Bool b) [
        | inl on ↦
            (let same : more ≡ len = here ∙ ap (λ c. len + cond c 0 1) on ∙ omega arith in
            cond-true (ltb more longer) (Some more) None (lt-ltb more longer (omega (arith, same, one))) ∙ ap (λ n. Some n) same
            ∙ sym (cond-false (ltb at len) (Some at) (cond b (Some len) None) (le-ltb at len past) ∙ cond-true b (Some len) None on))
        | inr off ↦
            (let same : more ≡ len + 1 = here ∙ ap (λ c. len + cond c 0 1) off in
            cond-false (ltb more longer) (Some more) None (le-ltb more longer (omega (arith, same, one)))
            ∙ sym (cond-false (ltb at len) (Some at) (cond b (Some len) None) (le-ltb at len past) ∙ cond-false b (Some len) None off))
      ])
]
  where
    apart : {m n : ℕ} → m < n → m ≡ n → ⊥
    apart less same = omega (arith, less, same)

position_more : {X : Type 0} (p : X → Bool) (xs : List X) (y : X) → position p (xs ++ y ∷ []) ≡ cond (ltb (position_or_len p xs) (length xs)) (Some (position_or_len p xs)) (cond (p y) (Some (length xs)) None)
position_more p xs y =
    at_end (length xs) (position_or_len p xs) (position_or_len p (xs ++ y ∷ [])) (length (xs ++ y ∷ [])) (p y) (prefix_len-le-length (λ x. not (p x)) xs) (length_push xs y) (position_or_len_push p xs y)

none_before : (installs : List Step) (i : ℕ) (x : Step) (member : ℕ) → EachOnce installs → i < length installs → get_or installs i x ≡ x → x.member ≡ member
    → position_or_len (λ (step : Step). eqb step.member member) (take i installs) ≡ i
none_before installs i x member once below is same =
    let long = length-take-le i installs (omega (arith, below)) in
    position_or_len_is (λ (step : Step). eqb step.member member) (take i installs) i x (omega (arith, long))
    (λ k before. ne_eqb (get_or (take i installs) k x).member member
    (λ e. once k i before below
    (member_at installs k x (omega (arith, before, below)) ∙ sym (ap (λ (s : Step). s.member) (get_or-take i installs k x before)) ∙ e ∙ sym same ∙ sym (ap (λ (s : Step). s.member) is) ∙ sym (member_at installs i x below))))
    (λ inside. absurd (omega (arith, inside, long)))

-- one install more
knows_next : (installs : List Step) (before now : BTreeMap ℕ ℕ) (i : ℕ) (x : Step) → EachOnce installs → i < length installs → get_or installs i x ≡ x → KnowsPlaces (take i installs) before
    → ((q : ℕ) → get nat_cmp now q ≡ cond (is_at (nat_cmp x.member) q) (Some i) (get nat_cmp before q)) → KnowsPlaces (take (i + 1) installs) now
knows_next installs before now i x once below is knows updates = λ q.
    let p : Step → Bool = λ step. eqb step.member q in
    let front : List Step = take i installs in
    let long : length front ≡ i = length-take-le i installs (omega (arith, below)) in
    let more = ap (λ xs. standing xs q) (take_more installs i x below ∙ ap (λ s. front ++ s ∷ []) is) ∙ position_more p front x in
    let told = updates q ∙ ap (λ b. cond b (Some i) (get nat_cmp before q)) (is_key x.member q) in
    elim (cases_eq x.member q) [
      | inl same ↦
          (let pos : position_or_len p front ≡ i = none_before installs i x q once below is same in
          told ∙ cond-true (eqb x.member q) (Some i) (get nat_cmp before q) (eq-eqb x.member q same) ∙ ap (λ n. Some n) (sym long)
          ∙ sym (more ∙ cond-false (ltb (position_or_len p front) (length front)) (Some (position_or_len p front)) (cond (p x) (Some (length front)) None) (le-ltb (position_or_len p front) (length front) (omega (arith, pos, long)))
          ∙ cond-true (p x) (Some (length front)) None (eq-eqb x.member q same)))
      | inr apart ↦
          told ∙ cond-false (eqb x.member q) (Some i) (get nat_cmp before q) (ne_eqb x.member q apart) ∙ knows q
          ∙ sym (more ∙ ap (λ o. cond (ltb (position_or_len p front) (length front)) (Some (position_or_len p front)) o) (cond-false (p x) (Some (length front)) None (ne_eqb x.member q apart)))
    ]

pub knows_all : (installs : List Step) (places : BTreeMap ℕ ℕ) (i : ℕ) → length installs ≤ i → KnowsPlaces (take i installs) places → KnowsPlaces installs places
knows_all installs places i past knows = let P : List Step → Type 0 = λ xs. KnowsPlaces xs places in subst P (take_all i installs past) knows

eqb_turned : (a b : ℕ) → eqb a b ≡ eqb b a
eqb_turned a b = elim (cases_eq a b) [
  | inl same ↦ eq-eqb a b same ∙ sym (eq-eqb b a (sym same))
  | inr apart ↦ ne_eqb a b apart ∙ sym (ne_eqb b a (λ same. apart (sym same)))
]

-- one missing member more
pub missing_next : (members : List ℕ) (before now : BTreeSet ℕ) (i : ℕ) → i < length members → KnowsMissing (take i members) before
    → ((q : ℕ) → contains nat_cmp now q ≡ cond (is_at (nat_cmp (get_or members i 0)) q) true (contains nat_cmp before q)) → KnowsMissing (take (i + 1) members) now
missing_next members before now i below knows updates = λ q.
    let x : ℕ = get_or members i 0 in
    let told = updates q ∙ ap (λ b. cond b true (contains nat_cmp before q)) (is_key x q ∙ eqb_turned x q) ∙ ap (λ b. cond (eqb q x) true b) (knows q) in
    told ∙ either (eqb q x) (list_any (eqb q) (take i members)) ∙ sym (list_any_more (eqb q) members i 0 below)
  where
    either : (a b : Bool) → cond a true b ≡ (b || a)
    either true true = refl
    either true false = refl
    either false true = refl
    either false false = refl

pub knows_at : (installs : List Step) (before now : BTreeMap ℕ ℕ) (i : ℕ) (x : Step) → EachOnce installs → i < length installs → KnowsPlaces (take i installs) before
    → ((q : ℕ) → get nat_cmp now q ≡ cond (is_at (nat_cmp (get_or installs i x).member) q) (Some i) (get nat_cmp before q)) → KnowsPlaces (take (i + 1) installs) now
knows_at installs before now i x once below knows updates =
    knows_next installs before now i (get_or installs i x) once below (get_or_default installs i (get_or installs i x) x below) knows updates
