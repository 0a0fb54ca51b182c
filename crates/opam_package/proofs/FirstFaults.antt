-- The first of several faults, and lists of them put together.
use Rattle.std.proofs.Common.{◌≡◌, ℕ, Bool, true, false, nat_lt, ◌==◌, ◌&&◌, ◌||◌, if◌then◌else◌, List, [], ◌∷◌, ◌++◌, ◌+◌, ◌<◌, length, get_or, drop, sym, ap, refl, ◌∙◌, arith}
use Rattle.std.specs.List.{flat_map}
use Rattle.std.specs.declared.option.Option.{Option}
use Rattle.std.specs.declared.option.Option.TheVariants.{None, Some}
use Rattle.std.proofs.lemmas.Bool.Decides.{nat_tests}
use Rattle.std.proofs.lemmas.List.{drop_more}
use Rattle.opam_package.specs.declared.fault.PackageFault.{PackageFault}
use Rattle.opam_package.specs.PackageFaults.{fault_start, fault_rank, is_sooner, sooner, first_fault}

-- by place, and then by rank
abbrev pub stands_below : ℕ → ℕ → ℕ → ℕ → Bool
stands_below x p y q = nat_lt x y || (x == y && nat_lt p q)

-- the order goes on from one to the next
below_on : (x p y q z r : ℕ) → stands_below x p y q ≡ true → stands_below y q z r ≡ true → stands_below x p z r ≡ true
below_on x p y q z r first second = grind (arith, nat_tests)

-- so does what is not in order
not_below_on : (x p y q z r : ℕ) → stands_below x p y q ≡ false → stands_below y q z r ≡ false → stands_below x p z r ≡ false
not_below_on x p y q z r first second = grind (arith, nat_tests)

not_itself : (x p : ℕ) → stands_below x p x p ≡ false
not_itself x p = grind (arith, nat_tests)

not_back : (x p y q : ℕ) → stands_below x p y q ≡ true → stands_below y q x p ≡ false
not_back x p y q h = grind (arith, nat_tests)

-- the same of faults
pub sooner_on : (a b c : PackageFault) → is_sooner c b ≡ true → is_sooner b a ≡ true → is_sooner c a ≡ true
sooner_on a b c = below_on (fault_start c) (fault_rank c) (fault_start b) (fault_rank b) (fault_start a) (fault_rank a)

pub not_sooner_on : (a b c : PackageFault) → is_sooner c b ≡ false → is_sooner b a ≡ false → is_sooner c a ≡ false
not_sooner_on a b c = not_below_on (fault_start c) (fault_rank c) (fault_start b) (fault_rank b) (fault_start a) (fault_rank a)

-- no fault comes before itself
pub sooner_itself : (a : PackageFault) → is_sooner a a ≡ false
sooner_itself a = not_itself (fault_start a) (fault_rank a)

-- of two faults one at most comes before the other
pub sooner_back : (a b : PackageFault) → is_sooner b a ≡ true → is_sooner a b ≡ false
sooner_back a b = not_back (fault_start b) (fault_rank b) (fault_start a) (fault_rank a)

-- which of three comes first, by the answers of the three tests
first_of_three : (a b c : PackageFault) (x y z : Bool) → (y ≡ true → x ≡ true → z ≡ true) → (y ≡ false → x ≡ false → z ≡ false)
    → (if x then (if y then Some c else Some b) else (if z then Some c else Some a)) ≡ (if y then (if z then Some c else Some a) else (if x then Some b else Some a))
first_of_three a b c true true z on off = ap (λ t. if t then Some c else Some a) (sym (on refl refl))
first_of_three a b c true false z on off = refl
first_of_three a b c false true z on off = refl
first_of_three a b c false false z on off = ap (λ t. if t then Some c else Some a) (off refl refl)

-- a choice of two, joined with nothing or with a third
joined_none : (x : Bool) (a b : PackageFault) → sooner (if x then Some b else Some a) None ≡ (if x then Some b else Some a)
joined_none true a b = refl
joined_none false a b = refl

-- from the left
joined_left : (x : Bool) (a b c : PackageFault) → sooner (if x then Some b else Some a) (Some c)
    ≡ (if x then (if is_sooner c b then Some c else Some b) else (if is_sooner c a then Some c else Some a))
joined_left true a b c = refl
joined_left false a b c = refl

-- from the right
joined_right : (y : Bool) (a b c : PackageFault) → sooner (Some a) (if y then Some c else Some b)
    ≡ (if y then (if is_sooner c a then Some c else Some a) else (if is_sooner b a then Some b else Some a))
joined_right true a b c = refl
joined_right false a b c = refl

-- faults may be joined from either end
pub sooner_assoc : (a b c : Option PackageFault) → sooner (sooner a b) c ≡ sooner a (sooner b c)
sooner_assoc None b c = refl
sooner_assoc (Some a) None c = refl
sooner_assoc (Some a) (Some b) None = joined_none (is_sooner b a) a b
sooner_assoc (Some a) (Some b) (Some c) =
    joined_left (is_sooner b a) a b c
    ∙ first_of_three a b c (is_sooner b a) (is_sooner c b) (is_sooner c a) (sooner_on a b c) (not_sooner_on a b c)
    ∙ sym (joined_right (is_sooner c b) a b c)

-- nothing comes after
pub sooner_none : (a : Option PackageFault) → sooner a None ≡ a
sooner_none None = refl
sooner_none (Some a) = refl

-- the first of two lists
pub first_of_both : (one other : List PackageFault) → first_fault (one ++ other) ≡ sooner (first_fault one) (first_fault other)
first_of_both [] other = refl
first_of_both (fault ∷ more) other = ap (sooner (Some fault)) (first_of_both more other) ∙ sym (sooner_assoc (Some fault) (first_fault more) (first_fault other))

-- the first of three lists
pub first_of_lists : (one other third : List PackageFault)
    → first_fault (one ++ other ++ third) ≡ sooner (sooner (first_fault one) (first_fault other)) (first_fault third)
first_of_lists one other third = first_of_both (one ++ other) third ∙ ap (λ f. sooner f (first_fault third)) (first_of_both one other)

-- the first so far, then that of the next, and then of those that are left
pub first_with_next : {X : Type 0} (faults : X → List PackageFault) (so_far next : Option PackageFault) (xs : List X) (i : ℕ) (x : X) → i < length xs → x ≡ get_or xs i x
    → next ≡ first_fault (faults x) → sooner (sooner so_far next) (first_fault (flat_map faults (drop (i + 1) xs))) ≡ sooner so_far (first_fault (flat_map faults (drop i xs)))
first_with_next faults so_far next xs i x within is that =
    ap (λ f. sooner (sooner so_far f) (first_fault (flat_map faults (drop (i + 1) xs)))) (that ∙ ap (λ y. first_fault (faults y)) is)
    ∙ sooner_assoc so_far (first_fault (faults (get_or xs i x))) (first_fault (flat_map faults (drop (i + 1) xs)))
    ∙ ap (sooner so_far) (sym (first_of_both (faults (get_or xs i x)) (flat_map faults (drop (i + 1) xs))) ∙ ap (λ ys. first_fault (flat_map faults ys)) (sym (drop_more xs i x within)))

-- the same of two lists
pub first_then : (so_far : Option PackageFault) (next more : List PackageFault)
    → sooner (sooner so_far (first_fault next)) (first_fault more) ≡ sooner so_far (first_fault (next ++ more))
first_then so_far next more = sooner_assoc so_far (first_fault next) (first_fault more) ∙ ap (sooner so_far) (sym (first_of_both next more))
