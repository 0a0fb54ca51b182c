-- What is lacking, and how much, as it is found need by need.
use Rattle.std.proofs.Common.{◌≡◌, ℕ, zero, suc, ◌+◌, ◌<◌, ◌≤◌, inl, inr, Bool, true, false, not, ◌&&◌, ◌||◌, List, [], ◌∷◌, ◌++◌, length, get_or, take, map, sym, ap, refl, ◌∙◌, arith, subst, eqb, leb}
use Rattle.std.specs.Prelude.{filter}
use Rattle.std.specs.List.{list_any}
use Rattle.std.specs.declared.option.Option.{Option}
use Rattle.std.specs.declared.option.Option.TheVariants.{None, Some}
use Rattle.std.proofs.lemmas.List.{get_or_append_left, get_or_push, get_or_past, length_push, take_all, take_more, map_more}
use Rattle.std.proofs.lemmas.Option.{slice_get_past}
use Rattle.std.proofs.lemmas.Bool.{cases_lt, le-leb, lt-leb, true≢false}
use Rattle.action_graph.specs.Places.{IsIn}
use Rattle.action_graph.specs.declared.plan.Plan.{Plan}
use Rattle.action_graph.specs.declared.plan.Step.{Step}
use Rattle.change_floor.specs.Floors.{is_done_at, has_installed, lacking, least_of, least_with, install_place}
use Rattle.change_floor.specs.FloorLaws.{install_needs, step_needs}
use Rattle.change_floor.specs.Keeping.{standing, unmet}
use Rattle.change_floor.proofs.Standing.{IsFiltered, least_filtered, least_put, least_skip}
use Rattle.change_floor.proofs.Turning.{stands_at, stands_nowhere}

-- by what the table says, a member is installed
pub installed_at : (plan : Plan) (decided : List Bool) (member place : ℕ) → standing plan.installs member ≡ Some place → get_or decided (length plan.removals + place) false ≡ has_installed plan decided member
installed_at plan decided member place is =
    let at = stands_at plan.installs member place is in
    let P : ℕ → Type 0 = λ p. get_or decided (length plan.removals + p) false ≡ has_installed plan decided member in
    subst P at.0 (by (leb (length plan.installs) (install_place plan.installs member)) (not (list_any (eqb member) plan.missing)) (is_done_at plan decided (install_place plan.installs member))
    (lt-leb (length plan.installs) (install_place plan.installs member) (omega (arith, at.0, at.1))))
  where
    by : (a b d : Bool) → a ≡ false → d ≡ ((a && b) || d)
    by true b d off = absurd cc
    by false b true off = refl
    by false b false off = refl

pub installed_else : (plan : Plan) (decided : List Bool) (member : ℕ) → length decided ≤ length plan.removals + length plan.installs → standing plan.installs member ≡ None
    → not (list_any (eqb member) plan.missing) ≡ has_installed plan decided member
installed_else plan decided member few is =
    let past = stands_nowhere plan.installs member is in
    by (leb (length plan.installs) (install_place plan.installs member)) (not (list_any (eqb member) plan.missing)) (is_done_at plan decided (install_place plan.installs member))
    (le-leb (length plan.installs) (install_place plan.installs member) past) (get_or_past decided (length plan.removals + install_place plan.installs member) false (omega (arith, past, few)))
  where
    by : (a b d : Bool) → a ≡ true → d ≡ false → b ≡ ((a && b) || d)
    by false b d on off = absurd cc
    by true b true on off = absurd cc
    by true true false on off = refl
    by true false false on off = refl

-- one need more at the end
in_front : (xs : List ℕ) (x y : ℕ) → IsIn (xs ++ x ∷ []) y → IsIn (x ∷ xs) y
in_front xs x y is = elim (cases_lt is.0 (length xs)) [
  | inl below ↦ (suc is.0, omega (arith, below), sym (get_or_append_left xs (x ∷ []) 0 is.0 below) ∙ is.2)
  | inr past ↦ (0, omega arith, sym (get_or_push xs x 0 is.0 (omega (arith, past, is.1, length_push xs x))) ∙ is.2)
]

in_back : (xs : List ℕ) (x y : ℕ) → IsIn (x ∷ xs) y → IsIn (xs ++ x ∷ []) y
in_back xs x y is = by is.0 is.1 is.2
  where
    by : (i : ℕ) → i < length (x ∷ xs) → get_or (x ∷ xs) i 0 ≡ y → IsIn (xs ++ x ∷ []) y
    by zero below same = (length xs, omega (arith, length_push xs x), get_or_push xs x 0 (length xs) refl ∙ same)
    by (suc i) below same = (i, omega (arith, below, length_push xs x), get_or_append_left xs (x ∷ []) 0 i (omega (arith, below)) ∙ same)

moved : (p : ℕ → Bool) (xs : List ℕ) (x : ℕ) (o : Option ℕ) → IsFiltered p (x ∷ xs) o → IsFiltered p (xs ++ x ∷ []) o
moved p xs x None none = λ y is. none y (in_front xs x y is)
moved p xs x (Some least) is_least = record {
  is_in = in_back xs x least is_least.is_in;
  passes = is_least.passes;
  below = λ other is on. is_least.below other (in_front xs x other is) on;
}

pub lacks_first : (p : ℕ → Bool) → IsFiltered p [] None
lacks_first p = λ x is. absurd (omega (arith, is.1))

pub lacks_more : (p : ℕ → Bool) (needs : List ℕ) (i : ℕ) (o joined : Option ℕ) → i < length needs → p (get_or needs i 0) ≡ true → joined ≡ Some (least_with (get_or needs i 0) o) → IsFiltered p (take i needs) o
    → IsFiltered p (take (i + 1) needs) joined
lacks_more p needs i o joined below on is filtered =
    let x : ℕ = get_or needs i 0 in
    let P : List ℕ → Type 0 = λ xs. IsFiltered p xs joined in
    let Q : Option ℕ → Type 0 = λ l. IsFiltered p (take i needs ++ x ∷ []) l in
    subst P (sym (take_more needs i 0 below)) (subst Q (sym is) (moved p (take i needs) x (Some (least_with x o)) (least_put p x (take i needs) on o filtered)))

pub lacks_same : (p : ℕ → Bool) (needs : List ℕ) (i : ℕ) (o joined : Option ℕ) → i < length needs → p (get_or needs i 0) ≡ false → joined ≡ o → IsFiltered p (take i needs) o → IsFiltered p (take (i + 1) needs) joined
lacks_same p needs i o joined below off is filtered =
    let x : ℕ = get_or needs i 0 in
    let P : List ℕ → Type 0 = λ xs. IsFiltered p xs joined in
    let Q : Option ℕ → Type 0 = λ l. IsFiltered p (take i needs ++ x ∷ []) l in
    subst P (sym (take_more needs i 0 below)) (subst Q (sym is) (moved p (take i needs) x o (least_skip p x (take i needs) off o filtered)))

one_least : (p : ℕ → Bool) (xs : List ℕ) (o l : Option ℕ) → IsFiltered p xs o → IsFiltered p xs l → o ≡ l
one_least p xs None None one other = refl
one_least p xs None (Some l) one other = absurd (true≢false (sym other.passes ∙ one l other.is_in))
one_least p xs (Some o) None one other = absurd (true≢false (sym one.passes ∙ other o one.is_in))
one_least p xs (Some o) (Some l) one other =
    let h = one.below l other.is_in other.passes in
    let k = other.below o one.is_in one.passes in
    let same : o ≡ l = omega (arith, h, k) in ap (λ n. Some n) same

pub lacks_all : (plan : Plan) (decided : List Bool) (needs : List ℕ) (i : ℕ) (o : Option ℕ) → length needs ≤ i → IsFiltered (λ need. not (has_installed plan decided need)) (take i needs) o → o ≡ lacking plan decided needs
lacks_all plan decided needs i o past filtered =
    let p : ℕ → Bool = λ need. not (has_installed plan decided need) in
    let P : List ℕ → Type 0 = λ xs. IsFiltered p xs o in
    one_least p needs o (least_of (filter p needs)) (subst P (take_all i needs past) filtered) (least_filtered p needs)

-- the needs of the install at a place
pub lacks_there : (plan : Plan) (decided : List Bool) (place : ℕ) (needs : List ℕ) (o : Option ℕ) → needs ≡ install_needs plan place → o ≡ lacking plan decided needs → o ≡ lacking plan decided (install_needs plan place)
lacks_there plan decided place needs o same is = is ∙ ap (lacking plan decided) same

pub lacks_past : (plan : Plan) (decided : List Bool) (place : ℕ) → length plan.installs ≤ place → None ≡ lacking plan decided (install_needs plan place)
lacks_past plan decided place past = sym (ap (λ s. lacking plan decided (step_needs s)) (slice_get_past plan.installs place past))

pub counts_more : (plan : Plan) (decided : List Bool) (installs : List Step) (counts more : List ℕ) (i count : ℕ) (x : Step) (needs : List ℕ) → i < length installs → needs ≡ (get_or installs i x).needs → count ≡ unmet plan decided needs
    → more ≡ counts ++ count ∷ [] → counts ≡ map (λ (step : Step). unmet plan decided step.needs) (take i installs) → more ≡ map (λ (step : Step). unmet plan decided step.needs) (take (i + 1) installs)
counts_more plan decided installs counts more i count x needs below are is pushed before =
    pushed ∙ ap (λ cs. cs ++ count ∷ []) before ∙ ap (λ n. map (λ (step : Step). unmet plan decided step.needs) (take i installs) ++ n ∷ []) (is ∙ ap (unmet plan decided) are)
    ∙ sym (map_more (λ (step : Step). unmet plan decided step.needs) installs i x below)

pub counts_all : (plan : Plan) (decided : List Bool) (installs : List Step) (counts : List ℕ) (i : ℕ) → installs ≡ plan.installs → length installs ≤ i → counts ≡ map (λ (step : Step). unmet plan decided step.needs) (take i installs)
    → counts ≡ map (λ (step : Step). unmet plan decided step.needs) plan.installs
counts_all plan decided installs counts i same past are = are ∙ ap (map (λ (step : Step). unmet plan decided step.needs)) (take_all i installs past ∙ same)
