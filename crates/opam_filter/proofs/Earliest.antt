-- The first of several faults.
use Rattle.std.proofs.Common.{◌≡◌, ℕ, Bool, true, false, nat_lt, ◌==◌, ◌&&◌, ◌||◌, if◌then◌else◌, sym, ap, refl, ◌∙◌, arith}
use Rattle.std.specs.declared.option.Option.{Option}
use Rattle.std.specs.declared.option.Option.TheVariants.{None, Some}
use Rattle.std.proofs.lemmas.Bool.Decides.{nat_tests}
use Rattle.syntax_trees.specs.declared.tree.Span.{Span}
use Rattle.opam_filter.specs.declared.fault.FilterFault.{FilterFault}
use Rattle.opam_filter.specs.declared.fault.FilterFault.TheVariants.{NotAFilter}
use Rattle.opam_filter.specs.Faults.{place_of, rank_of, comes_before, earlier, no_filter}

-- by place, and then by rank
abbrev pub below : ℕ → ℕ → ℕ → ℕ → Bool
below x p y q = nat_lt x y || (x == y && nat_lt p q)

-- the order goes on from one to the next
below_on : (x p y q z r : ℕ) → below x p y q ≡ true → below y q z r ≡ true → below x p z r ≡ true
below_on x p y q z r first second = grind (arith, nat_tests)

-- so does what is not in order
not_below_on : (x p y q z r : ℕ) → below x p y q ≡ false → below y q z r ≡ false → below x p z r ≡ false
not_below_on x p y q z r first second = grind (arith, nat_tests)

-- the same of faults
before_on : (a b c : FilterFault) → comes_before c b ≡ true → comes_before b a ≡ true → comes_before c a ≡ true
before_on a b c = below_on (place_of c) (rank_of c) (place_of b) (rank_of b) (place_of a) (rank_of a)

-- and of faults
pub not_before_on : (a b c : FilterFault) → comes_before c b ≡ false → comes_before b a ≡ false → comes_before c a ≡ false
not_before_on a b c = not_below_on (place_of c) (rank_of c) (place_of b) (rank_of b) (place_of a) (rank_of a)

-- which of three comes first, by the answers of the three tests
first_of_three : (a b c : FilterFault) (x y z : Bool) → (y ≡ true → x ≡ true → z ≡ true) → (y ≡ false → x ≡ false → z ≡ false)
    → (if x then (if y then Some c else Some b) else (if z then Some c else Some a)) ≡ (if y then (if z then Some c else Some a) else (if x then Some b else Some a))
first_of_three a b c true true z on off = ap (λ t. if t then Some c else Some a) (sym (on refl refl))
first_of_three a b c true false z on off = refl
first_of_three a b c false true z on off = refl
first_of_three a b c false false z on off = ap (λ t. if t then Some c else Some a) (off refl refl)

-- a choice of two, joined with nothing or with a third
joined_none : (x : Bool) (a b : FilterFault) → earlier (if x then Some b else Some a) None ≡ (if x then Some b else Some a)
joined_none true a b = refl
joined_none false a b = refl

-- from the left
joined_left : (x : Bool) (a b c : FilterFault) → earlier (if x then Some b else Some a) (Some c)
    ≡ (if x then (if comes_before c b then Some c else Some b) else (if comes_before c a then Some c else Some a))
joined_left true a b c = refl
joined_left false a b c = refl

-- from the right
joined_right : (y : Bool) (a b c : FilterFault) → earlier (Some a) (if y then Some c else Some b)
    ≡ (if y then (if comes_before c a then Some c else Some a) else (if comes_before b a then Some b else Some a))
joined_right true a b c = refl
joined_right false a b c = refl

-- faults may be joined from either end
pub earlier_assoc : (a b c : Option FilterFault) → earlier (earlier a b) c ≡ earlier a (earlier b c)
earlier_assoc None b c = refl
earlier_assoc (Some a) None c = refl
earlier_assoc (Some a) (Some b) None = joined_none (comes_before b a) a b
earlier_assoc (Some a) (Some b) (Some c) =
    joined_left (comes_before b a) a b c
    ∙ first_of_three a b c (comes_before b a) (comes_before c b) (comes_before c a) (before_on a b c) (not_before_on a b c)
    ∙ sym (joined_right (comes_before c b) a b c)

-- where no fault comes first, there is none
chosen_some : (b : Bool) (x y : FilterFault) → (if b then Some x else Some y) ≡ None → ⊥
chosen_some true x y is = cc
chosen_some false x y is = cc

-- of the first of two
pub earlier_left : (a b : Option FilterFault) → earlier a b ≡ None → a ≡ None
earlier_left None b is = refl
earlier_left (Some x) None is = is
earlier_left (Some x) (Some y) is = absurd (chosen_some (comes_before y x) y x is)

-- of the second of two
pub earlier_right : (a b : Option FilterFault) → earlier a b ≡ None → b ≡ None
earlier_right None b is = is
earlier_right (Some x) None is = refl
earlier_right (Some x) (Some y) is = absurd (chosen_some (comes_before y x) y x is)

-- a fault is not none
pub some_fault : (x : FilterFault) → Some x ≡ None → ⊥
some_fault x is = cc

-- what is no filter has a fault
pub is_no_filter : (parts : Option FilterFault) (span : Span) → no_filter parts span ≡ None → ⊥
is_no_filter parts span is = some_fault (NotAFilter span) (earlier_right parts (Some (NotAFilter span)) is)
