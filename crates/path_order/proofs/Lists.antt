-- Lists of paths that are apart, and places in them.
use Rattle.std.proofs.Common.{◌≡◌, ◌≢◌, ℕ, suc, ◌+◌, ◌-◌, ◌<◌, ◌≤◌, inl, inr, true, false, List, [], ◌∷◌, ◌++◌, length, map, take, get_or, sym, ◌∙◌, ap, subst, arith}
use Rattle.std.specs.List.{AllByRecursion, IsDistinct}
use Rattle.std.specs.List.Sorted.{IsStrictlySortedBy}
use Rattle.std.specs.declared.cmp.Ordering.TheVariants.{Less}
use Rattle.std.proofs.lemmas.Bool.{cases_order, false≢true}
use Rattle.std.proofs.lemmas.Cmp.{nat_list_cmp_total}
use Rattle.std.proofs.lemmas.List.{get_or-map, get_or-take, length-map, length-take, take-map}
use Rattle.std.proofs.lemmas.Map.Keys.{Less-from_sorted, apart_from_distinct}
use Rattle.opam_names.specs.Paths.{IsPath, is_above}
use Rattle.opam_names.specs.ByteOrders.{byte_order}
use Rattle.path_order.specs.Apart.{AreApart}
use Rattle.path_order.specs.Parting.{StandsLast, common_len}
use Rattle.path_order.proofs.Fronts.{C, IsParent, above_less, is_false, not_above, not_back, not_itself, parent}

abbrev Rise : List (List ℕ) → Type 0
Rise texts = IsStrictlySortedBy byte_order texts

abbrev pub nth : List (List ℕ) → ℕ → List ℕ
nth paths k = get_or paths k []

pub rise_at : (paths : List (List ℕ)) (i j : ℕ) → Rise paths → i < j → j < length paths → C (nth paths i) (nth paths j) ≡ Less
rise_at paths i j rise before within = Less-from_sorted byte_order paths i j [] rise before within

-- ---- the search by halves

-- all up to the middle stand before the text
pub before_more : (paths : List (List ℕ)) (text : List ℕ) (middle : ℕ) → Rise paths → middle < length paths → C (nth paths middle) text ≡ Less → (k : ℕ) → k < middle + 1 → C (nth paths k) text ≡ Less
before_more paths text middle rise within less k under = elim (cases_order k middle) [
  | inl e ↦ let P : ℕ → Type 0 = λ n. C (nth paths n) text ≡ Less in subst P (sym e) less
  | inr (inl lower) ↦ nat_list_cmp_total.trans (nth paths k) (nth paths middle) text (rise_at paths k middle rise lower within) less
  | inr (inr higher) ↦ absurd (omega arith)
]

-- none from the middle on does
pub from_more : (paths : List (List ℕ)) (text : List ℕ) (middle : ℕ) → Rise paths → (C (nth paths middle) text ≡ Less → ⊥) → (k : ℕ) → middle ≤ k → k < length paths → C (nth paths k) text ≡ Less → ⊥
from_more paths text middle rise not_less k from within less = elim (cases_order k middle) [
  | inl e ↦ let P : ℕ → Type 0 = λ n. C (nth paths n) text ≡ Less in not_less (subst P e less)
  | inr (inl lower) ↦ absurd (omega arith)
  | inr (inr higher) ↦ not_less (nat_list_cmp_total.trans (nth paths middle) (nth paths k) text (rise_at paths middle k rise higher within) less)
]

-- ---- the path above another

abbrev pub NoneAbove : List (List ℕ) → List ℕ → Type 0
NoneAbove paths path = (k : ℕ) → k < length paths → is_above (nth paths k) path ≡ false

-- no path stands before it
pub none_before : (paths : List (List ℕ)) (path : List ℕ) → ((k : ℕ) → 0 ≤ k → k < length paths → C (nth paths k) path ≡ Less → ⊥) → NoneAbove paths path
none_before paths path from k within = not_above (nth paths k) path (from k (omega arith) within)

-- one that is above ends where the last path before parts from it
pub parent_at : (paths : List (List ℕ)) (path : List ℕ) (place : ℕ) → AreApart paths → 0 < place → place ≤ length paths → IsPath (nth paths (place - 1))
    → C (nth paths (place - 1)) path ≡ Less → ((k : ℕ) → place ≤ k → k < length paths → C (nth paths k) path ≡ Less → ⊥)
    → (k : ℕ) → k < length paths → is_above (nth paths k) path ≡ true → IsParent (nth paths k) (nth paths (place - 1)) path
parent_at paths path place apart some most valid last from k within above = elim (cases_order k (place - 1)) [
  | inl e ↦
      let P : ℕ → Type 0 = λ n. is_above (nth paths n) path ≡ true in
      let Q : ℕ → Type 0 = λ n. IsParent (nth paths n) (nth paths (place - 1)) path in
      subst Q (sym e) (parent (nth paths (place - 1)) (nth paths (place - 1)) path (subst P e above) (not_itself (nth paths (place - 1))) last (not_above (nth paths (place - 1)) (nth paths (place - 1)) (not_itself (nth paths (place - 1)))) valid)
  | inr (inl lower) ↦
      let under : place - 1 < length paths = omega arith in
      let less = rise_at paths k (place - 1) apart.rise lower under in
      parent (nth paths k) (nth paths (place - 1)) path above (not_back (nth paths k) (nth paths (place - 1)) less) last (apart_from_distinct is_above paths k (place - 1) [] apart.apart lower under) valid
  | inr (inr higher) ↦ absurd (from k (omega arith) within (above_less (nth paths k) path above))
]

-- it is not where a slash would have to stand
pub none_parts : (paths : List (List ℕ)) (path o : List ℕ) → ((k : ℕ) → k < length paths → is_above (nth paths k) path ≡ true → IsParent (nth paths k) o path)
    → ((common_len o path < length path → get_or path (common_len o path) 0 ≡ 47 → ⊥)) → NoneAbove paths path
none_parts paths path o parents no_slash k within = is_false (is_above (nth paths k) path) (λ above. let p = parents k within above in no_slash p.within p.slash)

-- it is not at the one place where it could stand
pub none_there : (paths : List (List ℕ)) (path o : List ℕ) (above : ℕ) → Rise paths → ((k : ℕ) → k < length paths → is_above (nth paths k) path ≡ true → IsParent (nth paths k) o path)
    → ((k : ℕ) → k < above → C (nth paths k) (take (common_len o path) path) ≡ Less) → ((k : ℕ) → above ≤ k → k < length paths → C (nth paths k) (take (common_len o path) path) ≡ Less → ⊥)
    → (above < length paths → is_above (nth paths above) path ≡ false) → NoneAbove paths path
none_there paths path o above rise parents before from free k within = is_false (is_above (nth paths k) path) (λ is.
    let p = parents k within is in
    let P : List ℕ → Type 0 = λ x. C (nth paths k) x ≡ Less in
    let Q : List ℕ → Type 0 = λ x. C (nth paths above) x ≡ Less in
    elim (cases_order k above) [
      | inl e ↦ let R : ℕ → Type 0 = λ n. is_above (nth paths n) path ≡ true in false≢true (sym (free (omega arith)) ∙ subst R e is)
      | inr (inl lower) ↦ not_itself (nth paths k) (subst P (sym p.front) (before k lower))
      | inr (inr higher) ↦ from above (omega arith) (omega arith) (subst Q p.front (rise_at paths above k rise higher within))
    ])

-- ---- one more path

all_push : {A : Type 0} (P : A → Type 0) (xs : List A) (x : A) → AllByRecursion P xs → P x → AllByRecursion P (xs ++ x ∷ [])
all_push P [] x all one = (one, all)
all_push P (y ∷ xs) x all one = (all.0, all_push P xs x all.1 one)

rise_push : (paths : List (List ℕ)) (path : List ℕ) → Rise paths → ((k : ℕ) → k < length paths → C (nth paths k) path ≡ Less) → Rise (paths ++ path ∷ [])
unfolding IsStrictlySortedBy
rise_push [] path rise after = (tt, tt)
rise_push (p ∷ paths) path rise after =
    (all_push (λ q. byte_order p q ≡ Less) paths path rise.0 (after 0 (omega arith)), rise_push paths path rise.1 (λ k within. after (suc k) (omega (arith, within))))

apart_push : (paths : List (List ℕ)) (path : List ℕ) → IsDistinct is_above paths → ((k : ℕ) → k < length paths → is_above (nth paths k) path ≡ false) → IsDistinct is_above (paths ++ path ∷ [])
unfolding IsDistinct
apart_push [] path apart free = (tt, tt)
apart_push (p ∷ paths) path apart free =
    (all_push (λ q. is_above p q ≡ false) paths path apart.0 (free 0 (omega arith)), apart_push paths path apart.1 (λ k within. free (suc k) (omega (arith, within))))

pub are_apart_push : (paths : List (List ℕ)) (path : List ℕ) → AreApart paths → StandsLast paths path → AreApart (paths ++ path ∷ [])
are_apart_push paths path apart last = record { rise = rise_push paths path apart.rise last.after; apart = apart_push paths path apart.apart last.free }

pub apart_none : AreApart []
unfolding IsStrictlySortedBy IsDistinct
apart_none = record { rise = tt; apart = tt }

-- each path stands last among those up to it
pub stands_at : (paths : List (List ℕ)) (i : ℕ) → AreApart paths → i < length paths → StandsLast (take i paths) (nth paths i)
stands_at paths i apart within =
    let len : length (take i paths) ≤ i = omega (arith, length-take i paths) in
    record {
      after = λ k under. let lower : k < i = omega arith in rw (get_or-take i paths k [] lower) (rise_at paths k i apart.rise lower within);
      free = λ k under. let lower : k < i = omega arith in rw (get_or-take i paths k [] lower) (apart_from_distinct is_above paths k i [] apart.apart lower within);
    }

-- after the last of them
pub after_last : (paths : List (List ℕ)) (path : List ℕ) → Rise paths → 0 < length paths → C (nth paths (length paths - 1)) path ≡ Less → (k : ℕ) → k < length paths → C (nth paths k) path ≡ Less
after_last paths path rise some less k within = before_more paths path (length paths - 1) rise (omega arith) less k (omega arith)

-- ---- a list of values at their paths

pub path_at : {T : Type 0} (path : T → List ℕ) (list : List T) (i : ℕ) (value : T) → i < length list → value ≡ get_or list i value → path value ≡ nth (map path list) i
path_at path list i value within is = ap path is ∙ sym (get_or-map path list i value [] within)

pub apart_first : (paths : List (List ℕ)) → AreApart (take 1 paths)
unfolding IsStrictlySortedBy IsDistinct
apart_first [] = record { rise = tt; apart = tt }
apart_first (p ∷ paths) = record { rise = (tt, tt); apart = (tt, tt) }

-- what is above a text ends where the value before it parts from it, seen from a search in a list of values
pub parents_of : {T : Type 0} (path : T → List ℕ) (list : List T) (text : List ℕ) (place : ℕ) (value : T) (o : List ℕ) → AreApart (map path list) → place ≤ length list → (place ≡ 0 → ⊥)
    → ((k : ℕ) → k < place → C (nth (map path list) k) text ≡ Less) → ((k : ℕ) → place ≤ k → k < length list → C (nth (map path list) k) text ≢ Less)
    → value ≡ get_or list (place - 1) value → o ≡ path value → IsPath o → (k : ℕ) → k < length (map path list) → is_above (nth (map path list) k) text ≡ true → IsParent (nth (map path list) k) o text
parents_of path list text place value o apart most some before from value-is o-is valid k within above =
    let paths = map path list in
    let len : length paths ≡ length list = length-map list path in
    let some' : 0 < place = omega arith in
    let last : place - 1 < length list = omega (arith, most, some') in
    let is : o ≡ nth paths (place - 1) = o-is ∙ path_at path list (place - 1) value last value-is in
    let P : List ℕ → Type 0 = λ x. IsParent (nth paths k) x text in
    let Q : List ℕ → Type 0 = λ x. IsPath x in
    subst P (sym is) (parent_at paths text place apart some' (omega (arith, most, len)) (subst Q is valid) (before (place - 1) (omega (arith, some'))) (λ j low under. from j low (omega (arith, under, len))) k within above)

-- the front of the list and the value after it, seen as paths
pub stands_over : {T : Type 0} (path : T → List ℕ) (list : List T) (i : ℕ) (front : List T) (q : List ℕ) → front ≡ take i list → q ≡ nth (map path list) i → StandsLast (map path front) q
    → StandsLast (take i (map path list)) (nth (map path list) i)
stands_over path list i front q front-is q-is stands =
    let paths-is : map path front ≡ take i (map path list) = ap (map path) front-is ∙ sym (take-map path i list) in
    let P : List (List ℕ) → Type 0 = λ x. StandsLast x q in
    let Q : List ℕ → Type 0 = λ x. StandsLast (take i (map path list)) x in
    subst Q q-is (subst P paths-is stands)

pub stands_under : {T : Type 0} (path : T → List ℕ) (list : List T) (i : ℕ) (front : List T) (q : List ℕ) → front ≡ take i list → q ≡ nth (map path list) i → StandsLast (take i (map path list)) (nth (map path list) i)
    → StandsLast (map path front) q
stands_under path list i front q front-is q-is stands =
    let paths-is : take i (map path list) ≡ map path front = sym (ap (map path) front-is ∙ sym (take-map path i list)) in
    let P : List (List ℕ) → Type 0 = λ x. StandsLast x q in
    let Q : List ℕ → Type 0 = λ x. StandsLast (take i (map path list)) x in
    subst P paths-is (subst Q (sym q-is) stands)
