-- The first of several faults, and lists of them put together.
use Rattle.std.proofs.Common.{◌≡◌, ℕ, Bool, true, false, nat_lt, if◌then◌else◌, List, [], ◌∷◌, ◌++◌, sym, ap, refl, ◌∙◌, arith}
use Rattle.std.specs.declared.option.Option.{Option}
use Rattle.std.specs.declared.option.Option.TheVariants.{None, Some}
use Rattle.std.proofs.lemmas.Bool.Decides.{nat_tests}
use Rattle.install_sections.specs.declared.fault.InstallFault.{InstallFault}
use Rattle.install_sections.specs.InstallFaults.{fault_start, sooner, first_fault}

-- places go on from one to the next
below_on : (x y z : ℕ) → nat_lt x y ≡ true → nat_lt y z ≡ true → nat_lt x z ≡ true
below_on x y z first second = grind (arith, nat_tests)

not_below_on : (x y z : ℕ) → nat_lt x y ≡ false → nat_lt y z ≡ false → nat_lt x z ≡ false
not_below_on x y z first second = grind (arith, nat_tests)

-- whether the second of two begins further left
abbrev pub is_sooner : InstallFault → InstallFault → Bool
is_sooner one other = nat_lt (fault_start one) (fault_start other)

-- which of three comes first, by the answers of the three tests
first_of_three : (a b c : InstallFault) (x y z : Bool) → (y ≡ true → x ≡ true → z ≡ true) → (y ≡ false → x ≡ false → z ≡ false)
    → (if x then (if y then Some c else Some b) else (if z then Some c else Some a)) ≡ (if y then (if z then Some c else Some a) else (if x then Some b else Some a))
first_of_three a b c true true z on off = ap (λ t. if t then Some c else Some a) (sym (on refl refl))
first_of_three a b c true false z on off = refl
first_of_three a b c false true z on off = refl
first_of_three a b c false false z on off = ap (λ t. if t then Some c else Some a) (off refl refl)

-- a choice of two, joined with nothing or with a third
joined_none : (x : Bool) (a b : InstallFault) → sooner (if x then Some b else Some a) None ≡ (if x then Some b else Some a)
joined_none true a b = refl
joined_none false a b = refl

-- from the left
joined_left : (x : Bool) (a b c : InstallFault) → sooner (if x then Some b else Some a) (Some c)
    ≡ (if x then (if is_sooner c b then Some c else Some b) else (if is_sooner c a then Some c else Some a))
joined_left true a b c = refl
joined_left false a b c = refl

-- from the right
joined_right : (y : Bool) (a b c : InstallFault) → sooner (Some a) (if y then Some c else Some b)
    ≡ (if y then (if is_sooner c a then Some c else Some a) else (if is_sooner b a then Some b else Some a))
joined_right true a b c = refl
joined_right false a b c = refl

-- faults may be joined from either end
pub sooner_assoc : (a b c : Option InstallFault) → sooner (sooner a b) c ≡ sooner a (sooner b c)
sooner_assoc None b c = refl
sooner_assoc (Some a) None c = refl
sooner_assoc (Some a) (Some b) None = joined_none (is_sooner b a) a b
sooner_assoc (Some a) (Some b) (Some c) =
    joined_left (is_sooner b a) a b c
    ∙ first_of_three a b c (is_sooner b a) (is_sooner c b) (is_sooner c a)
    (below_on (fault_start c) (fault_start b) (fault_start a)) (not_below_on (fault_start c) (fault_start b) (fault_start a))
    ∙ sym (joined_right (is_sooner c b) a b c)

-- nothing comes after
pub sooner_none : (a : Option InstallFault) → sooner a None ≡ a
sooner_none None = refl
sooner_none (Some a) = refl

-- the first of two lists
pub first_of_both : (one other : List InstallFault) → first_fault (one ++ other) ≡ sooner (first_fault one) (first_fault other)
first_of_both [] other = refl
first_of_both (fault ∷ more) other =
    ap (sooner (Some fault)) (first_of_both more other) ∙ sym (sooner_assoc (Some fault) (first_fault more) (first_fault other))
