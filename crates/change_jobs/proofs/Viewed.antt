-- The view of a member is one list, and its names rise.
use Rattle.std.proofs.Common.{◌≡◌, ℕ, zero, suc, ◌<◌, inl, inr, ◌⊎◌, false, List, [], ◌∷◌, length, get_or, map, sym, ap, refl, ◌∙◌, arith, subst}
use Rattle.std.specs.Prelude.{Result, Ok, Err, IfOk, slice_get}
use Rattle.std.specs.List.{AllByRecursion, cons_option}
use Rattle.std.specs.List.Sorted.{IsStrictlySortedBy}
use Rattle.std.specs.Ordering.{is_lt, ordering_reverse}
use Rattle.std.specs.declared.cmp.Ordering.TheVariants.{Less}
use Rattle.std.specs.declared.option.Option.{Option}
use Rattle.std.specs.declared.option.Option.TheVariants.{None, Some}
use Rattle.std.proofs.lemmas.Cmp.{nat_list_cmp_total}
use Rattle.std.proofs.lemmas.Simd.{map-map}
use Rattle.opam_names.specs.ByteOrders.{NeverFallsBy, RisesBy, byte_order, precedes}
use Rattle.opam_names.specs.declared.fault.OutOfMemory.{OutOfMemory}
use Rattle.opam_names.specs.declared.packages.Pkg.{Pkg}
use Rattle.opam_package.specs.declared.package.Member.{Member}
use Rattle.outside_io.specs.declared.workshop.Job.{Job}
use Rattle.package_vars.specs.declared.facts.Facts.{Facts}
use Rattle.package_vars.specs.declared.facts.View.{View}
use Rattle.action_graph.specs.Leaving.{name_of}
use Rattle.action_graph.specs.Links.{member_pkgs}
use Rattle.action_graph.specs.Places.{ArePlaces, IsIn, at_places}
use Rattle.action_graph.specs.Views.{IsView, IsViewed}
use Rattle.build_env.specs.Jobs.{build_job}
use Rattle.build_env.specs.declared.export.Export.{Export}
use Rattle.change_jobs.specs.CourseLaws.{JobIsOne}
use Rattle.change_jobs.specs.PackageJobs.{IsJobOf, exports_in, name_of_pkg}

-- ---- numbers that rise

abbrev Up : List ℕ → Type 0
Up [] = Unit {0}
Up (x ∷ xs) = ((y : ℕ) → IsIn xs y → x < y) × Up xs

none_in_nil : (x : ℕ) → IsIn [] x → ⊥
none_in_nil x is = omega (arith, is.1)

in_cons : (y : ℕ) (ys : List ℕ) (x : ℕ) → IsIn (y ∷ ys) x → (y ≡ x) ⊎ IsIn ys x
in_cons y ys x is = by is.0 is.1 is.2
  where
    by : (i : ℕ) → i < length (y ∷ ys) → get_or (y ∷ ys) i 0 ≡ x → (y ≡ x) ⊎ IsIn ys x
    by zero below same = inl same
    by (suc i) below same = inr (i, omega (arith, below), same)

up_of : (xs : List ℕ) → ((i j : ℕ) → i < j → j < length xs → get_or xs i 0 < get_or xs j 0) → Up xs
up_of [] rising = tt
up_of (x ∷ xs) rising =
    ((λ y is. (let P : ℕ → Type 0 = λ n. x < n in subst P is.2 (rising 0 (suc is.0) (omega arith) (omega (arith, is.1))))), up_of xs (λ i j less below. rising (suc i) (suc j) (omega (arith, less)) (omega (arith, below))))

up_same : (xs ys : List ℕ) → Up xs → Up ys → ((p : ℕ) → IsIn xs p → IsIn ys p) → ((p : ℕ) → IsIn ys p → IsIn xs p) → xs ≡ ys
up_same [] [] up over one other = refl
up_same [] (y ∷ ys) up over one other = absurd (none_in_nil y (other y (0, omega arith, refl)))
up_same (x ∷ xs) [] up over one other = absurd (none_in_nil x (one x (0, omega arith, refl)))
up_same (x ∷ xs) (y ∷ ys) up over one other =
    let same : x ≡ y = elim (in_cons y ys x (one x (0, omega arith, refl))) [
      | inl here ↦ sym here
      | inr later ↦ elim (in_cons x xs y (other y (0, omega arith, refl))) [
        | inl here ↦ here
        | inr there ↦ (let a = over.0 x later in let b = up.0 y there in absurd (omega (arith, a, b)))
      ]
    ] in
    let tails : xs ≡ ys = up_same xs ys up.1 over.1
    (λ p is. elim (in_cons y ys p (one p (suc is.0, omega (arith, is.1), is.2))) [
      | inl here ↦ (let a = up.0 p is in absurd (omega (arith, a, here, same)))
      | inr later ↦ later
    ])
    (λ p is. elim (in_cons x xs p (other p (suc is.0, omega (arith, is.1), is.2))) [
      | inl here ↦ (let a = over.0 p is in absurd (omega (arith, a, here, same)))
      | inr later ↦ later
    ]) in
    ap (λ n. n ∷ xs) same ∙ ap (λ l. y ∷ l) tails

one_places : (holds : ℕ → Type 0) (xs ys : List ℕ) → ArePlaces holds xs → ArePlaces holds ys → xs ≡ ys
one_places holds xs ys one other =
    up_same xs ys (up_of xs one.rising) (up_of ys other.rising) (λ p is. (other.those p).1 ((one.those p).0 is)) (λ p is. (one.those p).1 ((other.those p).0 is))

-- ---- the view is one

one_view : (members : List Member) (place : ℕ) (one other : List Pkg) → IsView members place one → IsView members place other → one ≡ other
one_view members place one other first second =
    first.2 ∙ ap (at_places (member_pkgs members)) (one_places (IsViewed members place) first.0 second.0 first.1 second.1) ∙ sym second.2

some_same : {X : Type 0} (x y : X) → Some x ≡ Some y → x ≡ y
some_same x y same = cc

pub job_is_one : JobIsOne
job_is_one members facts place one other first second =
    let built = some_same first.built second.built (sym first.stands ∙ second.stands) in
    let view = one_view members place first.view second.view first.sees second.sees in
    first.made ∙ ap (λ (b : Member). build_job b.package (record { members = first.view }) (exports_in members first.view) facts) built
    ∙ ap (λ (v : List Pkg). build_job second.built.package (record { members = v }) (exports_in members v) facts) view ∙ sym second.made

-- ---- its names rise

turned : (a b : List ℕ) → byte_order a b ≡ Less → precedes b a ≡ false
turned a b is = ap is_lt (nat_list_cmp_total.antisymm b a ∙ ap ordering_reverse is)

at_all : {X : Type 0} (key : X → List ℕ) (P : List ℕ → Type 0) (xs : List X) (i : ℕ) (x : X) → AllByRecursion P (map key xs) → slice_get xs i ≡ Some x → P (key x)
at_all key P [] i x all at = cc
at_all {X} key P (y ∷ xs) zero x all at = let same : y ≡ x = cc in let Q : X → Type 0 = λ z. P (key z) in subst Q same all.0
at_all key P (y ∷ xs) (suc i) x all at = at_all key P xs i x all.1 at

later_less : {X : Type 0} (key : X → List ℕ) (xs : List X) (i j : ℕ) (x y : X) → RisesBy key xs → i < j → slice_get xs i ≡ Some x → slice_get xs j ≡ Some y → byte_order (key x) (key y) ≡ Less
unfolding IsStrictlySortedBy
later_less key [] i j x y rises less here there = cc
later_less key (z ∷ xs) i zero x y rises less here there = absurd (omega (arith, less))
later_less {X} key (z ∷ xs) zero (suc j) x y rises less here there =
    let same : z ≡ x = cc in
    let Q : X → Type 0 = λ w. byte_order (key w) (key y) ≡ Less in
    subst Q same (at_all key (λ k. byte_order (key z) k ≡ Less) xs j y rises.0 there)
later_less key (z ∷ xs) (suc i) (suc j) x y rises less here there = later_less key xs i j x y rises.1 (omega (arith, less)) here there

module _ {X : Type 0} (key : X → List ℕ) (xs : List X) (rises : RisesBy key xs) where
  none_precede : (p : ℕ) (x : X) (qs : List ℕ) → slice_get xs p ≡ Some x → ((q : ℕ) → IsIn qs q → p < q) → AllByRecursion (λ y. precedes (key y) (key x) ≡ false) (at_places xs qs)
  none_precede p x [] here later = tt
  none_precede p x (q ∷ qs) here later = by (none_precede p x qs here (λ r is. later r (suc is.0, omega (arith, is.1), is.2))) (slice_get xs q) refl
    where
      by : AllByRecursion (λ y. precedes (key y) (key x) ≡ false) (at_places xs qs) → (o : Option X) → slice_get xs q ≡ o → AllByRecursion (λ y. precedes (key y) (key x) ≡ false) (cons_option o (at_places xs qs))
      by rest None none = rest
      by rest (Some y) there = (turned (key x) (key y) (later_less key xs p q x y rises (later q (0, omega arith, refl)) here there), rest)

  never_falls : (places : List ℕ) → Up places → NeverFallsBy key (at_places xs places)
  never_falls [] up = tt
  never_falls (p ∷ ps) up = by (never_falls ps up.1) (slice_get xs p) refl
    where
      by : NeverFallsBy key (at_places xs ps) → (o : Option X) → slice_get xs p ≡ o → NeverFallsBy key (cons_option o (at_places xs ps))
      by rest None none = rest
      by rest (Some x) here = (none_precede p x ps here up.0, rest)

-- the packages of a view stand in the byte order of their names
pub view_in_order : (members : List Member) (place : ℕ) (view : List Pkg) → RisesBy name_of members → IsView members place view → NeverFallsBy name_of_pkg view
view_in_order members place view rises sees =
    let keys : map name_of members ≡ map name_of_pkg (member_pkgs members) = sym (map-map name_of_pkg (λ (member : Member). member.package.pkg) members) in
    let P : List (List ℕ) → Type 0 = λ names. IsStrictlySortedBy byte_order names in
    let Q : List Pkg → Type 0 = λ pkgs. NeverFallsBy name_of_pkg pkgs in
    subst Q (sym sees.2) (never_falls name_of_pkg (member_pkgs members) (subst P keys rises) sees.0 (up_of sees.0 sees.1.rising))

-- what is made for the view with its exports is the job
pub job_made : (result : Result Job OutOfMemory) (members : List Member) (facts : Facts) (place : ℕ) (built : Member) (view : View) (exports : List Export) → slice_get members place ≡ Some built → IsView members place view.members
    → exports ≡ exports_in members view.members → IfOk result (λ made. made ≡ build_job built.package view exports facts) → IfOk result (IsJobOf members facts place)
job_made (Err refused) members facts place built view exports stands sees same made = tt
job_made (Ok job) members facts place built view exports stands sees same made =
    record { built = built; stands = stands; view = view.members; sees = sees; made = made ∙ ap (λ (e : List Export). build_job built.package view e facts) same }
