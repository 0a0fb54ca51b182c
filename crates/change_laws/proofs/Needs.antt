-- What a member needs in a target, and members by their places.
use Rattle.std.proofs.Common.{◌≡◌, ◌∙◌, ℕ, zero, suc, ◌+◌, ◌<◌, List, [], ◌∷◌, length, map, Bool, true, false, cond, Option, Some, refl, sym, ap, subst, arith}
use Rattle.std.specs.Prelude.{◌&&◌, ◌||◌, Contains, bytes_eq, slice_get, slice_index_or}
use Rattle.std.specs.List.{All, AllByRecursion, IsDistinct, list_all, list_any}
use Rattle.std.proofs.lemmas.Bool.{false≢true}
use Rattle.std.proofs.lemmas.List.Elements.{All-head, All-tail}
use Rattle.std.proofs.lemmas.Slice.Eq.{bytes_eq-Decides}
use Rattle.opam_names.specs.declared.packages.Pkg.{Pkg}
use Rattle.opam_package.specs.Dependencies.{is_built_with, is_edge, is_need, is_other, is_run_with, meets_one, names_it}
use Rattle.opam_package.specs.declared.package.Member.{Member}
use Rattle.opam_package.specs.declared.package.Need.{Need}
use Rattle.opam_package.specs.declared.package.Package.{Package}
use Rattle.action_graph.specs.Links.{member_needs, needs_at}
use Rattle.action_graph.specs.Places.{places_from}
use Rattle.switch_state.specs.Sound.{Agree, NamesDiffer, is_against, member_pkg, name_of}
use Rattle.change_outcome.proofs.Lists.{and_left, and_right, neither, or_left, or_right}
use Rattle.change_outcome.proofs.Returning.{or_second}

-- ---- lists by their places

module _ {X : Type 0} where
  pub any_place : (t : X → Bool) (xs : List X) → list_any t xs ≡ true → (k : ℕ) × (x : X) × (slice_get xs k ≡ Some x) × (t x ≡ true)
  any_place t [] is = absurd (false≢true is)
  any_place t (x ∷ xs) is = by (t x) refl is (any_place t xs)
    where
      by : (b : Bool) → t x ≡ b → (b || list_any t xs) ≡ true → (list_any t xs ≡ true → (k : ℕ) × (y : X) × (slice_get xs k ≡ Some y) × (t y ≡ true)) → (k : ℕ) × (y : X) × (slice_get (x ∷ xs) k ≡ Some y) × (t y ≡ true)
      by true here is later = (0, x, refl, here)
      by false here is later = (let it = later is in (suc it.0, it.1, it.2, it.3))

  pub place_any : (t : X → Bool) (xs : List X) (k : ℕ) (x : X) → slice_get xs k ≡ Some x → t x ≡ true → list_any t xs ≡ true
  place_any t [] k x is here = absurd cc
  place_any t (y ∷ xs) zero x is here = (let e : y ≡ x = cc in let f = ap t e ∙ here in rw f refl)
  place_any t (y ∷ xs) (suc k) x is here = or_second (t y) (list_any t xs) (place_any t xs k x is here)

  pub none_at : (t : X → Bool) (xs : List X) (k : ℕ) (x : X) → list_any t xs ≡ false → slice_get xs k ≡ Some x → t x ≡ false
  none_at t [] k x none is = absurd cc
  none_at t (y ∷ xs) zero x none is = (let e : y ≡ x = cc in ap t (sym e) ∙ or_left (t y) (list_any t xs) none)
  none_at t (y ∷ xs) (suc k) x none is = none_at t xs k x (or_right (t y) (list_any t xs) none) is

  pub all_place : (P : X → Type 0) (xs : List X) (k : ℕ) (x : X) → All P xs → slice_get xs k ≡ Some x → P x
  all_place P [] k x all is = absurd cc
  all_place P (y ∷ xs) zero x all is = (let e : y ≡ x = cc in subst P e (All-head P y xs all))
  all_place P (y ∷ xs) (suc k) x all is = all_place P xs k x (All-tail P y xs all) is

  pub all_false : (P : X → Type 0) (t : X → Bool) (xs : List X) → ((x : X) → P x → t x ≡ false) → All P xs → list_any t xs ≡ false
  all_false P t [] less all = refl
  all_false P t (x ∷ xs) less all = neither (t x) (list_any t xs) (less x (All-head P x xs all)) (all_false P t xs less (All-tail P x xs all))

  get_of : (xs : List X) (k : ℕ) (d : X) → k < length xs → slice_get xs k ≡ Some (slice_index_or xs k d)
  get_of [] k d within = absurd (omega (arith, within))
  get_of (x ∷ xs) zero d within = refl
  get_of (x ∷ xs) (suc k) d within = get_of xs k d (omega (arith, within))

  pub contains_place : (xs : List X) (x : X) → Contains xs x → (k : ℕ) × (slice_get xs k ≡ Some x)
  contains_place xs x there = (there.0, get_of xs there.0 x there.1 ∙ ap (λ y. Some y) there.2)

  pub some_same : (x y : X) (o : Option X) → o ≡ Some x → o ≡ Some y → x ≡ y
  some_same x y o one two = (let e = sym one ∙ two in cc)

-- ---- names that differ

differ_at : (name : List ℕ) (members : List Member) (j : ℕ) (m : Member) → AllByRecursion (λ y. bytes_eq name y ≡ false) (map name_of members) → slice_get members j ≡ Some m → bytes_eq name (name_of m) ≡ false
differ_at name [] j m all is = absurd cc
differ_at name (x ∷ members) zero m all is = (let e : x ≡ m = cc in ap (λ (k : Member). bytes_eq name (name_of k)) (sym e) ∙ all.0)
differ_at name (x ∷ members) (suc j) m all is = differ_at name members j m all.1 is

-- two of one name stand at one place
pub one_place : (members : List Member) (i j : ℕ) (a b : Member) → NamesDiffer members → slice_get members i ≡ Some a → slice_get members j ≡ Some b → name_of a ≡ name_of b → i ≡ j
unfolding IsDistinct
one_place [] i j a b differ one two same = absurd cc
one_place (x ∷ members) zero zero a b differ one two same = refl
one_place (x ∷ members) zero (suc j) a b differ one two same = absurd (false≢true (sym (differ_at (name_of x) members j b differ.0 two) ∙ ap (λ n. bytes_eq n (name_of b)) (ap name_of (let e : x ≡ a = cc in e) ∙ same) ∙ same_name (name_of b)))
  where
    same_name : (n : List ℕ) → bytes_eq n n ≡ true
    same_name n = (bytes_eq-Decides n n).1 refl
one_place (x ∷ members) (suc i) zero a b differ one two same = absurd (false≢true (sym (differ_at (name_of x) members i a differ.0 one) ∙ ap (λ n. bytes_eq n (name_of a)) (ap name_of (let e : x ≡ b = cc in e) ∙ sym same) ∙ same_name (name_of a)))
  where
    same_name : (n : List ℕ) → bytes_eq n n ≡ true
    same_name n = (bytes_eq-Decides n n).1 refl
one_place (x ∷ members) (suc i) (suc j) a b differ one two same = ap suc (one_place members i j a b differ.1 one two same)

-- ---- needs

run_is_built : (needs : List Need) (name : List ℕ) → is_run_with needs name ≡ true → is_built_with needs name ≡ true
run_is_built [] name is = absurd (false≢true is)
run_is_built (need ∷ needs) name is = by (names_it name need.runtime) is (run_is_built needs name)
  where
    by : (b : Bool) → (b || is_run_with needs name) ≡ true → (is_run_with needs name ≡ true → is_built_with needs name ≡ true) → ((b || names_it name need.building) || is_built_with needs name) ≡ true
    by true is later = refl
    by false is later = or_second (names_it name need.building) (is_built_with needs name) (later is)

or_wider : (a b c : Bool) → (a ≡ true → b ≡ true) → (a || c) ≡ true → (b || c) ≡ true
or_wider true b c more is = (let e = more refl in rw e refl)
or_wider false b c more is = or_second b c is

pub edge_is_need : (dependent : Package) (other : Pkg) → is_edge dependent other ≡ true → is_need dependent other ≡ true
edge_is_need dependent other is = by (is_other dependent other) is
  where
    by : (b : Bool) → (b && (is_run_with dependent.items other.name || meets_one dependent.depopts other)) ≡ true → (b && (is_built_with dependent.items other.name || meets_one dependent.depopts other)) ≡ true
    by true is = or_wider (is_run_with dependent.items other.name) (is_built_with dependent.items other.name) (meets_one dependent.depopts other) (run_is_built dependent.items other.name) is
    by false is = is

-- another package that is named where it runs is needed
pub run_is_need : (dependent : Package) (other : Pkg) → is_other dependent other ≡ true → is_run_with dependent.items other.name ≡ true → is_need dependent other ≡ true
run_is_need dependent other another is =
    edge_is_need dependent other (let e = another in let f = is in rw (e, f) refl)

all_from : {X : Type 0} (P : ℕ → Bool) (test : X → Bool) (at : ℕ) (xs : List X) (k : ℕ) (x : X) → list_all P (places_from test at xs) ≡ true → slice_get xs k ≡ Some x → test x ≡ true → P (at + k) ≡ true
all_from P test at [] k x all is here = absurd cc
all_from P test at (y ∷ xs) zero x all is here =
    (let e : y ≡ x = cc in let f = ap test e ∙ here in let g : at ≡ at + 0 = omega arith in
    subst (λ n. P n ≡ true) g (by (test y) f all))
  where
    by : (b : Bool) → b ≡ true → list_all P (cond b (at ∷ places_from test (at + 1) xs) (places_from test (at + 1) xs)) ≡ true → P at ≡ true
    by true is all = and_left (P at) (list_all P (places_from test (at + 1) xs)) all
    by false is all = absurd (false≢true is)
all_from P test at (y ∷ xs) (suc k) x all is here =
    (let g : at + 1 + k ≡ at + suc k = omega arith in subst (λ n. P n ≡ true) g (all_from P test (at + 1) xs k x (by (test y) all) is here))
  where
    by : (b : Bool) → list_all P (cond b (at ∷ places_from test (at + 1) xs) (places_from test (at + 1) xs)) ≡ true → list_all P (places_from test (at + 1) xs) ≡ true
    by true all = and_right (P at) (list_all P (places_from test (at + 1) xs)) all
    by false all = all

-- what holds of all needs of a member holds of each that it needs
pub all_needs : (P : ℕ → Bool) (members : List Member) (at k : ℕ) (m q : Member) → slice_get members at ≡ Some m → list_all P (needs_at members at) ≡ true → slice_get members k ≡ Some q → is_need m.package (member_pkg q) ≡ true → P k ≡ true
all_needs P members at k m q there all is here =
    (let e : 0 + k ≡ k = omega arith in
    subst (λ n. P n ≡ true) e
    (all_from P (λ (other : Member). is_need m.package other.package.pkg) 0 members k q (ap (λ o. list_all P (member_needs o members)) (sym there) ∙ all) is here))

-- ---- members that agree

pub two_agree : (members : List Member) (i j : ℕ) (a b : Member) → Agree members → slice_get members i ≡ Some a → slice_get members j ≡ Some b → is_against a.package b.package ≡ false
two_agree members i j a b agree one two =
    none_at (λ (other : Member). is_against a.package other.package) members j b
    (none_at (λ (one : Member). list_any (λ (other : Member). is_against one.package other.package) members) members i a agree one) two
