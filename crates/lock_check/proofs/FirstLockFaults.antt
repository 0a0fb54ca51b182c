-- The first of several faults, and lists of them put together.
use Rattle.std.proofs.Common.{◌≡◌, ℕ, Bool, true, false, ◌+◌, ◌<◌, nat_lt, if◌then◌else◌, List, [], ◌∷◌, ◌++◌, length, get_or, drop, sym, ap, refl, ◌∙◌, arith}
use Rattle.std.specs.List.{flat_map}
use Rattle.std.specs.declared.option.Option.{Option}
use Rattle.std.specs.declared.option.Option.TheVariants.{None, Some}
use Rattle.std.proofs.lemmas.Bool.Decides.{nat_tests}
use Rattle.std.proofs.lemmas.List.{drop_more}
use Rattle.lock_check.specs.declared.lock_fault.LockFault.{LockFault}
use Rattle.lock_check.specs.LockFaults.{lock_fault_start, sooner_lock_fault, first_lock_fault}

-- places go on from one to the next
below_on : (x y z : ℕ) → nat_lt x y ≡ true → nat_lt y z ≡ true → nat_lt x z ≡ true
below_on x y z first second = grind (arith, nat_tests)

not_below_on : (x y z : ℕ) → nat_lt x y ≡ false → nat_lt y z ≡ false → nat_lt x z ≡ false
not_below_on x y z first second = grind (arith, nat_tests)

-- whether the second of two begins further left
abbrev pub is_sooner : LockFault → LockFault → Bool
is_sooner one other = nat_lt (lock_fault_start one) (lock_fault_start other)

-- which of three comes first, by the answers of the three tests
first_of_three : (a b c : LockFault) (x y z : Bool) → (y ≡ true → x ≡ true → z ≡ true) → (y ≡ false → x ≡ false → z ≡ false)
    → (if x then (if y then Some c else Some b) else (if z then Some c else Some a)) ≡ (if y then (if z then Some c else Some a) else (if x then Some b else Some a))
first_of_three a b c true true z on off = ap (λ t. if t then Some c else Some a) (sym (on refl refl))
first_of_three a b c true false z on off = refl
first_of_three a b c false true z on off = refl
first_of_three a b c false false z on off = ap (λ t. if t then Some c else Some a) (off refl refl)

-- a choice of two, joined with nothing or with a third
joined_none : (x : Bool) (a b : LockFault) → sooner_lock_fault (if x then Some b else Some a) None ≡ (if x then Some b else Some a)
joined_none true a b = refl
joined_none false a b = refl

-- from the left
joined_left : (x : Bool) (a b c : LockFault) → sooner_lock_fault (if x then Some b else Some a) (Some c)
    ≡ (if x then (if is_sooner c b then Some c else Some b) else (if is_sooner c a then Some c else Some a))
joined_left true a b c = refl
joined_left false a b c = refl

-- from the right
joined_right : (y : Bool) (a b c : LockFault) → sooner_lock_fault (Some a) (if y then Some c else Some b)
    ≡ (if y then (if is_sooner c a then Some c else Some a) else (if is_sooner b a then Some b else Some a))
joined_right true a b c = refl
joined_right false a b c = refl

-- faults may be joined from either end
pub sooner_assoc : (a b c : Option LockFault) → sooner_lock_fault (sooner_lock_fault a b) c ≡ sooner_lock_fault a (sooner_lock_fault b c)
sooner_assoc None b c = refl
sooner_assoc (Some a) None c = refl
sooner_assoc (Some a) (Some b) None = joined_none (is_sooner b a) a b
sooner_assoc (Some a) (Some b) (Some c) =
    joined_left (is_sooner b a) a b c
    ∙ first_of_three a b c (is_sooner b a) (is_sooner c b) (is_sooner c a)
    (below_on (lock_fault_start c) (lock_fault_start b) (lock_fault_start a)) (not_below_on (lock_fault_start c) (lock_fault_start b) (lock_fault_start a))
    ∙ sym (joined_right (is_sooner c b) a b c)

-- nothing comes after
pub sooner_none : (a : Option LockFault) → sooner_lock_fault a None ≡ a
sooner_none None = refl
sooner_none (Some a) = refl

-- the first of two lists
pub first_of_both : (one other : List LockFault) → first_lock_fault (one ++ other) ≡ sooner_lock_fault (first_lock_fault one) (first_lock_fault other)
first_of_both [] other = refl
first_of_both (fault ∷ more) other =
    ap (sooner_lock_fault (Some fault)) (first_of_both more other) ∙ sym (sooner_assoc (Some fault) (first_lock_fault more) (first_lock_fault other))

-- where no fault is told there is none
chosen : (b : Bool) (one other : LockFault) → (if b then Some other else Some one) ≡ None → ⊥
chosen true one other is = cc
chosen false one other is = cc

joined : (one : LockFault) (other : Option LockFault) → sooner_lock_fault (Some one) other ≡ None → ⊥
joined one None is = cc
joined one (Some other) is = chosen (nat_lt (lock_fault_start other) (lock_fault_start one)) one other is

pub none_told : (faults : List LockFault) → first_lock_fault faults ≡ None → faults ≡ []
none_told [] is = refl
none_told (fault ∷ more) is = absurd (joined fault (first_lock_fault more) is)

-- the first so far, then that of the next, and then of those that are left
pub first_with_next : {X : Type 0} (faults : X → List LockFault) (so_far next : Option LockFault) (xs : List X) (i : ℕ) (x : X) → i < length xs → x ≡ get_or xs i x
    → next ≡ first_lock_fault (faults x)
    → sooner_lock_fault (sooner_lock_fault so_far next) (first_lock_fault (flat_map faults (drop (i + 1) xs))) ≡ sooner_lock_fault so_far (first_lock_fault (flat_map faults (drop i xs)))
first_with_next faults so_far next xs i x within is that =
    ap (λ f. sooner_lock_fault (sooner_lock_fault so_far f) (first_lock_fault (flat_map faults (drop (i + 1) xs)))) (that ∙ ap (λ y. first_lock_fault (faults y)) is)
    ∙ sooner_assoc so_far (first_lock_fault (faults (get_or xs i x))) (first_lock_fault (flat_map faults (drop (i + 1) xs)))
    ∙ ap (sooner_lock_fault so_far) (sym (first_of_both (faults (get_or xs i x)) (flat_map faults (drop (i + 1) xs))) ∙ ap (λ ys. first_lock_fault (flat_map faults ys)) (sym (drop_more xs i x within)))
