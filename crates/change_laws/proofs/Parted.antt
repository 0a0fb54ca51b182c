-- Steps that are parted behind the last one that passes, and the places of installs in them.
use Rattle.std.proofs.Common.{◌≡◌, ◌∙◌, ℕ, suc, ◌+◌, ◌<◌, List, [], ◌∷◌, ◌++◌, filter, length, map, Bool, true, false, not, cond, refl, sym, ap, arith}
use Rattle.std.specs.Prelude.{◌&&◌, ◌||◌, nat_eq, if◌then◌else◌}
use Rattle.std.specs.List.{list_any}
use Rattle.std.proofs.lemmas.Bool.{false≢true}
use Rattle.std.proofs.lemmas.Bool.Decides.{nat_tests}
use Rattle.action_graph.specs.declared.plan.Step.{Step}
use Rattle.change_floor.specs.Floors.{install_place}
use Rattle.change_outcome.proofs.Lists.{or_left, or_right}
use Rattle.change_outcome.proofs.Returning.{or_second}
use Rattle.change_laws.specs.Rests.{behind_last, up_to_last}

any_in : (t : Step → Bool) (xs : List Step) (x : Step) (ys : List Step) → t x ≡ true → list_any t (xs ++ x ∷ ys) ≡ true
any_in t [] x ys here = rw here refl
any_in t (w ∷ xs) x ys here = or_second (t w) (list_any t (xs ++ x ∷ ys)) (any_in t xs x ys here)

module _ (t : Step → Bool) where
  pub behind_none : (ys : List Step) → list_any t ys ≡ false → behind_last t ys ≡ ys
  behind_none [] none = refl
  behind_none (y ∷ ys) none = ap (λ b. if b then behind_last t ys else y ∷ ys) none

  pub up_to_none : (ys : List Step) → list_any t ys ≡ false → up_to_last t ys ≡ []
  up_to_none [] none = refl
  up_to_none (y ∷ ys) none = ap (λ b. if b then y ∷ up_to_last t ys else []) none

  pub behind_at : (xs : List Step) (x : Step) (ys : List Step) → t x ≡ true → list_any t ys ≡ false → behind_last t (xs ++ x ∷ ys) ≡ ys
  behind_at [] x ys here none = ap (λ b. if b || list_any t ys then behind_last t ys else x ∷ ys) here ∙ behind_none ys none
  behind_at (w ∷ xs) x ys here none = ap (λ b. if b then behind_last t (xs ++ x ∷ ys) else w ∷ (xs ++ x ∷ ys)) (any_in t (w ∷ xs) x ys here) ∙ behind_at xs x ys here none

  pub up_to_at : (xs : List Step) (x : Step) (ys : List Step) → t x ≡ true → list_any t ys ≡ false → up_to_last t (xs ++ x ∷ ys) ≡ xs ++ x ∷ []
  up_to_at [] x ys here none = ap (λ b. if b || list_any t ys then x ∷ up_to_last t ys else []) here ∙ ap (λ zs. x ∷ zs) (up_to_none ys none)
  up_to_at (w ∷ xs) x ys here none = ap (λ b. if b then w ∷ up_to_last t (xs ++ x ∷ ys) else []) (any_in t (w ∷ xs) x ys here) ∙ ap (λ zs. w ∷ zs) (up_to_at xs x ys here none)

  pub parted : (xs : List Step) → up_to_last t xs ++ behind_last t xs ≡ xs
  parted [] = refl
  parted (x ∷ xs) = by (t x || list_any t xs) (parted xs)
    where
      by : (b : Bool) → up_to_last t xs ++ behind_last t xs ≡ xs → (if b then x ∷ up_to_last t xs else []) ++ (if b then behind_last t xs else x ∷ xs) ≡ x ∷ xs
      by true later = ap (λ zs. x ∷ zs) later
      by false later = refl

  pub none_behind : (xs : List Step) → list_any t (behind_last t xs) ≡ false
  none_behind [] = refl
  none_behind (x ∷ xs) = by (t x || list_any t xs) refl (none_behind xs)
    where
      by : (b : Bool) → (t x || list_any t xs) ≡ b → list_any t (behind_last t xs) ≡ false → list_any t (if b then behind_last t xs else x ∷ xs) ≡ false
      by true is later = later
      by false is later = is

-- ---- places

-- the step is of this member
abbrev pub is_of : ℕ → Step → Bool
is_of need step = nat_eq step.member need

module _ (need : ℕ) where
  pub place_left : (xs ys : List Step) → list_any (is_of need) xs ≡ true → install_place (xs ++ ys) need ≡ install_place xs need
  place_left [] ys is = absurd (false≢true is)
  place_left (x ∷ xs) ys is = by (nat_eq x.member need) is (place_left xs ys)
    where
      by : (b : Bool) → (b || list_any (is_of need) xs) ≡ true → (list_any (is_of need) xs ≡ true → install_place (xs ++ ys) need ≡ install_place xs need)
          → cond (not b) (1 + install_place (xs ++ ys) need) 0 ≡ cond (not b) (1 + install_place xs need) 0
      by true is later = refl
      by false is later = ap (λ n. 1 + n) (later is)

  pub place_right : (xs ys : List Step) → list_any (is_of need) xs ≡ false → install_place (xs ++ ys) need ≡ length xs + install_place ys need
  place_right [] ys none = omega arith
  place_right (x ∷ xs) ys none =
      ap (λ b. cond (not b) (1 + install_place (xs ++ ys) need) 0) (or_left (nat_eq x.member need) (list_any (is_of need) xs) none)
      ∙ (let e = place_right xs ys (or_right (nat_eq x.member need) (list_any (is_of need) xs) none) in omega (arith, e))

  pub place_none : (xs : List Step) → list_any (is_of need) xs ≡ false → install_place xs need ≡ length xs
  place_none [] none = refl
  place_none (x ∷ xs) none =
      ap (λ b. cond (not b) (1 + install_place xs need) 0) (or_left (nat_eq x.member need) (list_any (is_of need) xs) none)
      ∙ (let e = place_none xs (or_right (nat_eq x.member need) (list_any (is_of need) xs) none) in omega (arith, e))

  pub place_some : (xs : List Step) → list_any (is_of need) xs ≡ true → install_place xs need < length xs
  place_some [] is = absurd (false≢true is)
  place_some (x ∷ xs) is = by (nat_eq x.member need) is (place_some xs)
    where
      by : (b : Bool) → (b || list_any (is_of need) xs) ≡ true → (list_any (is_of need) xs ≡ true → install_place xs need < length xs) → cond (not b) (1 + install_place xs need) 0 < suc (length xs)
      by true is later = omega arith
      by false is later = (let e = later is in omega (arith, e))

-- ---- members of steps that do not pass

nat_is : (n m : ℕ) → nat_eq n m ≡ true → n ≡ m
nat_is n m is = grind (arith, nat_tests)

nat_same : (n m : ℕ) → nat_eq n m ≡ true → nat_eq m n ≡ true
nat_same n m is = grind (arith, nat_tests)

nat_other : (n m : ℕ) → nat_eq n m ≡ false → nat_eq m n ≡ false
nat_other n m is = grind (arith, nat_tests)

-- the members of the steps that do not pass a test of their member
abbrev pub outs : (ℕ → Bool) → List Step → List ℕ
outs u xs = map (λ (step : Step). step.member) (filter (λ (step : Step). not (u step.member)) xs)

not_both : (a b c : Bool) → a ≡ true → (not a && b) ≡ (not a && c)
not_both true b c is = refl
not_both false b c is = absurd (false≢true is)

pub any_out : (u : ℕ → Bool) (need : ℕ) (xs : List Step) → list_any (nat_eq need) (outs u xs) ≡ (not (u need) && list_any (is_of need) xs)
any_out u need [] = none (not (u need))
  where
    none : (b : Bool) → false ≡ (b && false)
    none true = refl
    none false = refl
any_out u need (x ∷ xs) = by (u x.member) (nat_eq x.member need) refl refl (any_out u need xs)
  where
    by : (b e : Bool) → u x.member ≡ b → nat_eq x.member need ≡ e → list_any (nat_eq need) (outs u xs) ≡ (not (u need) && list_any (is_of need) xs)
        → list_any (nat_eq need) (map (λ (step : Step). step.member) (cond (not b) (x ∷ filter (λ (step : Step). not (u step.member)) xs) (filter (λ (step : Step). not (u step.member)) xs))) ≡ (not (u need) && (e || list_any (is_of need) xs))
    by true true passes same later = later ∙ not_both (u need) (list_any (is_of need) xs) true (ap u (sym (nat_is x.member need same)) ∙ passes)
    by true false passes other later = later
    by false true passes same later =
        (let e = nat_same x.member need same in let f : u need ≡ false = ap u (sym (nat_is x.member need same)) ∙ passes in
        ap (λ b. b || list_any (nat_eq need) (outs u xs)) e ∙ sym (ap (λ b. not b && true) f))
    by false false passes other later = ap (λ b. b || list_any (nat_eq need) (outs u xs)) (nat_other x.member need other) ∙ later
