-- Paths outside the switch's own folder meet no file in it.
use Rattle.std.proofs.Common.{◌≡◌, inl, inr, ℕ, Bool, true, false, not, List, [], ◌∷◌, ◌++◌, refl, sym, ap, ◌∙◌, subst, arith}
use Rattle.std.specs.Prelude.{◌==◌, ◌&&◌, ◌||◌, bytes_eq, if◌then◌else◌}
use Rattle.std.specs.FinMap.{keys}
use Rattle.std.specs.List.{list_all, list_any}
use Rattle.std.proofs.lemmas.Bool.{cases_Bool, eqb-true}
use Rattle.std.proofs.lemmas.Bool.Decides.{nat_tests}
use Rattle.std.proofs.lemmas.Slice.Eq.{bytes_eq-Decides}
use Rattle.journal_text.specs.Parts.{is_own, own_folder}
use Rattle.opam_names.specs.Paths.{IsPath, is_above}
use Rattle.opam_names.proofs.Bytes.{both_left, both_right}
use Rattle.path_order.specs.Apart.{meets}
use Rattle.path_order.proofs.Fronts.{no_last_slash}
use Rattle.crash_disk.specs.Disks.{Tree}
use Rattle.switch_journal.specs.Places.{is_inside}
use Rattle.change_verdict.specs.Near.{meets_outside}
use Rattle.change_verdict.proofs.Keys.{either, left, right}

-- one byte on
first_is : (t rest : Bool) → (if t then rest else false) ≡ true → t ≡ true
first_is true rest h = refl
first_is false rest h = h

rest_is : (t rest : Bool) → (if t then rest else false) ≡ true → rest ≡ true
rest_is true rest h = h
rest_is false rest h = absurd cc

both_on : (x y : ℕ) (rest : Bool) → x ≡ y → rest ≡ true → (if x == y then rest else false) ≡ true
both_on x y rest same is = let t : (x == y) ≡ true = grind (arith, nat_tests) in rw (t, is) refl

-- what lies below a path that lies below a folder lies below the folder
pub below_twice : (a b c : List ℕ) → is_above a b ≡ true → is_above b c ≡ true → is_above a c ≡ true
below_twice [] [] c one two = absurd cc
below_twice [] (y ∷ []) c one two = absurd cc
below_twice [] (y ∷ z ∷ b) [] one two = absurd cc
below_twice [] (y ∷ z ∷ b) (w ∷ []) one two = let none : is_above (z ∷ b) [] ≡ true = rest_is (y == w) (is_above (z ∷ b) []) two in absurd cc
below_twice [] (y ∷ z ∷ b) (w ∷ v ∷ c) one two =
    let same = eqb-true y w (first_is (y == w) (is_above (z ∷ b) (v ∷ c)) two) in ap (λ n. n == 47) (sym same) ∙ one
below_twice (x ∷ a) [] c one two = absurd cc
below_twice (x ∷ a) (y ∷ b) [] one two = absurd cc
below_twice (x ∷ a) (y ∷ b) (z ∷ c) one two =
    let first = eqb-true x y (first_is (x == y) (is_above a b) one) in
    let second = eqb-true y z (first_is (y == z) (is_above b c) two) in
    both_on x z (is_above a c) (first ∙ second) (below_twice a b c (rest_is (x == y) (is_above a b) one) (rest_is (y == z) (is_above b c) two))

-- two folders of a path, the first of them one part: they are the same, the second lies below, or it ends in a slash
data Beside (o p : List ℕ) : Type 0 where
  same_one : p ≡ o → Beside o p
  lies_below : is_above o p ≡ true → Beside o p
  ends_so : p ≡ o ++ 47 ∷ [] → Beside o p

abbrev no_slash : ℕ → Bool
no_slash b = not (b == 47)

onto : (x y : ℕ) (o p : List ℕ) → x ≡ y → Beside o p → Beside (x ∷ o) (y ∷ p)
onto x y o p first (same_one is) = same_one (ap (λ b. b ∷ p) (sym first) ∙ ap (λ l. x ∷ l) is)
onto x y o p first (lies_below is) = lies_below (both_on x y (is_above o p) first is)
onto x y o p first (ends_so is) = ends_so (ap (λ b. b ∷ p) (sym first) ∙ ap (λ l. x ∷ l) is)

beside : (o p q : List ℕ) → list_all no_slash o ≡ true → is_above o q ≡ true → is_above p q ≡ true → Beside o p
beside [] [] q plain one two = same_one refl
beside [] (y ∷ []) [] plain one two = absurd cc
beside [] (y ∷ []) (b ∷ []) plain one two = absurd cc
beside [] (y ∷ []) (b ∷ c ∷ q) plain one two =
    let first = eqb-true y b (first_is (y == b) (is_above [] (c ∷ q)) two) in ends_so (ap (λ n. n ∷ []) (first ∙ eqb-true b 47 one))
beside [] (y ∷ z ∷ p) [] plain one two = absurd cc
beside [] (y ∷ z ∷ p) (b ∷ []) plain one two = absurd cc
beside [] (y ∷ z ∷ p) (b ∷ c ∷ q) plain one two =
    let first = eqb-true y b (first_is (y == b) (is_above (z ∷ p) (c ∷ q)) two) in lies_below (ap (λ n. n == 47) first ∙ one)
beside (x ∷ o) p [] plain one two = absurd cc
beside (x ∷ o) [] (b ∷ []) plain one two = absurd cc
beside (x ∷ o) [] (b ∷ c ∷ q) plain one two =
    let first = eqb-true x b (first_is (x == b) (is_above o (c ∷ q)) one) in
    let slash : (x == 47) ≡ true = ap (λ n. n == 47) first ∙ two in
    let not_slash : not (x == 47) ≡ true = both_left (no_slash x) (list_all no_slash o) plain in absurd (impossible (x == 47) slash not_slash)
  where
    impossible : (t : Bool) → t ≡ true → not t ≡ true → ⊥
    impossible true a b = cc
    impossible false a b = cc
beside (x ∷ o) (y ∷ p) (b ∷ q) plain one two =
    let first = eqb-true x b (first_is (x == b) (is_above o q) one) in
    let second = eqb-true y b (first_is (y == b) (is_above p q) two) in
    onto x y o p (first ∙ sym second) (beside o p q (both_right (no_slash x) (list_all no_slash o) plain) (rest_is (x == b) (is_above o q) one) (rest_is (y == b) (is_above p q) two))

same_bytes : (a b : List ℕ) → bytes_eq a b ≡ true → a ≡ b
same_bytes a b is = (bytes_eq-Decides a b).0 is

own_by : (path : List ℕ) → IsPath path → Beside own_folder path → is_own path ≡ true
own_by path valid (same_one is) = left (bytes_eq path own_folder) (is_above own_folder path) ((bytes_eq-Decides path own_folder).1 is)
own_by path valid (lies_below is) = right (bytes_eq path own_folder) (is_above own_folder path) is
own_by path valid (ends_so is) = absurd (no_last_slash own_folder (subst IsPath is valid))

inside_own : (path q : List ℕ) → IsPath path → is_inside q ≡ true → meets path q ≡ true → is_own path ≡ true
inside_own path q valid inside meet =
    elim (either (bytes_eq path q || is_above path q) (is_above q path) meet) [
      | inr above ↦ right (bytes_eq path own_folder) (is_above own_folder path) (below_twice own_folder q path inside above)
      | inl at ↦ elim (either (bytes_eq path q) (is_above path q) at) [
        | inl here ↦ right (bytes_eq path own_folder) (is_above own_folder path) (ap (is_above own_folder) (same_bytes path q here) ∙ inside)
        | inr below ↦ own_by path valid (beside own_folder path q refl inside below)
      ]
    ]

pointwise : (path q : List ℕ) → IsPath path → is_own path ≡ false → meets path q ≡ (not (is_inside q) && meets path q)
pointwise path q valid other =
    elim (cases_Bool (is_inside q)) [
      | inr is ↦ sym (ap (λ b. not b && meets path q) is)
      | inl is ↦ none (meets path q) refl is ∙ sym (ap (λ b. not b && meets path q) is)
    ]
  where
    none : (m : Bool) → meets path q ≡ m → is_inside q ≡ true → m ≡ false
    none true meet is = let own = inside_own path q valid is meet in absurd cc
    none false meet is = refl

pub same_any : (f g : List ℕ → Bool) (xs : List (List ℕ)) → ((x : List ℕ) → f x ≡ g x) → list_any f xs ≡ list_any g xs
same_any f g [] same = refl
same_any f g (x ∷ xs) same = ap (λ b. b || list_any f xs) (same x) ∙ ap (λ b. g x || b) (same_any f g xs same)

-- all files that such a path meets are outside
pub outside_alone : (tree : Tree) (path : List ℕ) → IsPath path → is_own path ≡ false → list_any (meets path) (keys tree) ≡ meets_outside tree path
outside_alone tree path valid other = same_any (meets path) (λ q. not (is_inside q) && meets path q) (keys tree) (λ q. pointwise path q valid other)
