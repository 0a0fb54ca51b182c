-- Of a list those whose flag is set, and lists that are part of others.
use Rattle.std.proofs.Common.{◌≡◌, ℕ, zero, suc, ◌<◌, List, [], ◌∷◌, ◌++◌, length, map, Bool, true, false, cond, Some, refl, ap, ◌∙◌, arith}
use Rattle.std.specs.Prelude.{slice_get, slice_index_or, if◌then◌else◌}
use Rattle.std.specs.List.{list_any}
use Rattle.std.proofs.lemmas.Bool.{false≢true}
use Rattle.opam_names.specs.declared.packages.Pkg.{Pkg}
use Rattle.owner_map.specs.Owning.{is_same_pkg}
use Rattle.switch_state.specs.Sound.{stand_among}
use Rattle.change_outcome.proofs.Lists.{neither}
use Rattle.change_outcome.proofs.Returning.{or_second}

module _ {X : Type 0} where
  abbrev pub chosen : List Bool → List X → List X
  chosen [] xs = []
  chosen (b ∷ bs) [] = []
  chosen (b ∷ bs) (x ∷ xs) = cond b (x ∷ chosen bs xs) (chosen bs xs)

  pub chosen_push : (bs : List Bool) (xs : List X) (b : Bool) (x : X) → slice_get xs (length bs) ≡ Some x → chosen (bs ++ b ∷ []) xs ≡ chosen bs xs ++ cond b (x ∷ []) []
  chosen_push [] [] b x is = absurd cc
  chosen_push [] (y ∷ xs) b x is = (let e : y ≡ x = cc in ap (λ z. cond b (z ∷ []) []) e)
  chosen_push (c ∷ bs) [] b x is = absurd cc
  chosen_push (c ∷ bs) (y ∷ xs) b x is = by c (chosen_push bs xs b x is)
    where
      by : (c : Bool) → chosen (bs ++ b ∷ []) xs ≡ chosen bs xs ++ cond b (x ∷ []) [] → cond c (y ∷ chosen (bs ++ b ∷ []) xs) (chosen (bs ++ b ∷ []) xs) ≡ cond c (y ∷ chosen bs xs) (chosen bs xs) ++ cond b (x ∷ []) []
      by true later = ap (λ zs. y ∷ zs) later
      by false later = later

  -- what none of the first meets none that is chosen of them does
  pub chosen_none : (t : X → Bool) (bs : List Bool) (xs : List X) → ((j : ℕ) (x : X) → j < length bs → slice_get xs j ≡ Some x → t x ≡ false) → list_any t (chosen bs xs) ≡ false
  chosen_none t [] xs none = refl
  chosen_none t (b ∷ bs) [] none = refl
  chosen_none t (b ∷ bs) (x ∷ xs) none = by b (none 0 x (omega arith) refl) (chosen_none t bs xs (λ j y lt is. none (suc j) y (omega (arith, lt)) is))
    where
      by : (b : Bool) → t x ≡ false → list_any t (chosen bs xs) ≡ false → list_any t (cond b (x ∷ chosen bs xs) (chosen bs xs)) ≡ false
      by true here later = neither (t x) (list_any t (chosen bs xs)) here later
      by false here later = later

  -- what none whose flag is set meets, none that is chosen does
  pub chosen_clear : (t : X → Bool) (bs : List Bool) (xs : List X) → ((j : ℕ) (x : X) → slice_index_or bs j false ≡ true → slice_get xs j ≡ Some x → t x ≡ false) → list_any t (chosen bs xs) ≡ false
  chosen_clear t [] xs none = refl
  chosen_clear t (b ∷ bs) [] none = refl
  chosen_clear t (b ∷ bs) (x ∷ xs) none = by b (λ set. none 0 x set refl) (chosen_clear t bs xs (λ j y set is. none (suc j) y set is))
    where
      by : (b : Bool) → (b ≡ true → t x ≡ false) → list_any t (chosen bs xs) ≡ false → list_any t (cond b (x ∷ chosen bs xs) (chosen bs xs)) ≡ false
      by true here later = neither (t x) (list_any t (chosen bs xs)) (here refl) later
      by false here later = later

  -- one whose flag is set is chosen
  pub chosen_in : (t : X → Bool) (bs : List Bool) (xs : List X) (j : ℕ) (x : X) → slice_index_or bs j false ≡ true → slice_get xs j ≡ Some x → t x ≡ true → list_any t (chosen bs xs) ≡ true
  chosen_in t [] xs j x set is here = absurd (false≢true set)
  chosen_in t (b ∷ bs) [] j x set is here = absurd cc
  chosen_in t (b ∷ bs) (y ∷ xs) zero x set is here = (let e : y ≡ x = cc in by b set (ap t e ∙ here))
    where
      by : (b : Bool) → b ≡ true → t y ≡ true → list_any t (cond b (y ∷ chosen bs xs) (chosen bs xs)) ≡ true
      by true set here = rw here refl
      by false set here = absurd (false≢true set)
  chosen_in t (b ∷ bs) (y ∷ xs) (suc j) x set is here = by b (chosen_in t bs xs j x set is here)
    where
      by : (b : Bool) → list_any t (chosen bs xs) ≡ true → list_any t (cond b (y ∷ chosen bs xs) (chosen bs xs)) ≡ true
      by true later = or_second (t y) (list_any t (chosen bs xs)) later
      by false later = later

-- the first are some of the second, in their order
pub data IsPartOf : List Pkg → List Pkg → Type 0 where
  part_none : IsPartOf [] []
  part_takes : (x : Pkg) (some all : List Pkg) → IsPartOf some all → IsPartOf (x ∷ some) (x ∷ all)
  part_leaves : (x : Pkg) (some all : List Pkg) → IsPartOf some all → IsPartOf some (x ∷ all)

part_nothing : (all : List Pkg) → IsPartOf [] all
part_nothing [] = part_none
part_nothing (x ∷ all) = part_leaves x [] all (part_nothing all)

pub part_chosen : {X : Type 0} (f : X → Pkg) (bs : List Bool) (xs : List X) → IsPartOf (map f (chosen bs xs)) (map f xs)
part_chosen f [] xs = part_nothing (map f xs)
part_chosen f (b ∷ bs) [] = part_none
part_chosen f (b ∷ bs) (x ∷ xs) = by b (part_chosen f bs xs)
  where
    by : (b : Bool) → IsPartOf (map f (chosen bs xs)) (map f xs) → IsPartOf (map f (cond b (x ∷ chosen bs xs) (chosen bs xs))) (f x ∷ map f xs)
    by true later = part_takes (f x) (map f (chosen bs xs)) (map f xs) later
    by false later = part_leaves (f x) (map f (chosen bs xs)) (map f xs) later

pub part_behind : (front some all : List Pkg) → IsPartOf some all → IsPartOf (front ++ some) (front ++ all)
part_behind [] some all part = part
part_behind (x ∷ front) some all part = part_takes x (front ++ some) (front ++ all) (part_behind front some all part)

part_rest : (y : Pkg) (ys all : List Pkg) → IsPartOf (y ∷ ys) all → IsPartOf ys all
part_rest y ys all (part_takes x some more later) = part_leaves y ys more later
part_rest y ys all (part_leaves x some more later) = part_leaves x ys more (part_rest y ys more later)

-- what stands in an order, a part of it does
pub part_stands : (order some all : List Pkg) → IsPartOf some all → stand_among order all ≡ true → stand_among order some ≡ true
part_stands [] some all part_none is = refl
part_stands [] some all (part_takes x few more later) is = absurd (false≢true is)
part_stands [] some all (part_leaves x few more later) is = absurd (false≢true is)
part_stands (next ∷ order) some all part_none is = refl
part_stands (next ∷ order) some all (part_takes x few more later) is =
    by (is_same_pkg next x) is (part_stands order few more later) (part_stands order (x ∷ few) (x ∷ more) (part_takes x few more later))
  where
    by : (b : Bool) → (if b then stand_among order more else stand_among order (x ∷ more)) ≡ true → (stand_among order more ≡ true → stand_among order few ≡ true) → (stand_among order (x ∷ more) ≡ true → stand_among order (x ∷ few) ≡ true)
        → (if b then stand_among order few else stand_among order (x ∷ few)) ≡ true
    by true is one other = one is
    by false is one other = other is
part_stands (next ∷ order) [] all (part_leaves x few more later) is = refl
part_stands (next ∷ order) (y ∷ some) all (part_leaves x few more later) is =
    by (is_same_pkg next x) (is_same_pkg next y) is (part_stands order some more (part_rest y some more later)) (part_stands order (y ∷ some) more later)
    (part_stands order some (x ∷ more) (part_leaves x some more (part_rest y some more later))) (part_stands order (y ∷ some) (x ∷ more) (part_leaves x (y ∷ some) more later))
  where
    by : (b c : Bool) → (if b then stand_among order more else stand_among order (x ∷ more)) ≡ true → (stand_among order more ≡ true → stand_among order some ≡ true) → (stand_among order more ≡ true → stand_among order (y ∷ some) ≡ true)
        → (stand_among order (x ∷ more) ≡ true → stand_among order some ≡ true) → (stand_among order (x ∷ more) ≡ true → stand_among order (y ∷ some) ≡ true) → (if c then stand_among order some else stand_among order (y ∷ some)) ≡ true
    by true true is one two three four = one is
    by true false is one two three four = two is
    by false true is one two three four = three is
    by false false is one two three four = four is
