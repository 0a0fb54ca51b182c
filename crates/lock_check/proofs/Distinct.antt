-- Lists whose elements have names that differ.
use Rattle.std.proofs.Common.{◌≡◌, ℕ, List, [], ◌∷◌, ◌++◌, map, filter, Bool, true, false, if◌then◌else◌, ⊎_elim, sym, ◌∙◌, ap, subst}
use Rattle.std.specs.Prelude.{Contains, bytes_eq}
use Rattle.std.specs.List.{AllByRecursion, IsDistinct}
use Rattle.std.proofs.lemmas.Slice.Eq.{bytes_eq-Decides}
use Rattle.lock_check.proofs.Members.{in_cases, none_in}

module _ {X : Type 0} (key : X → List ℕ) where
  abbrev pub Differ : List X → Type 0
  Differ xs = IsDistinct bytes_eq (map key xs)

  all_without : (P : List ℕ → Type 0) (front : List X) (m : X) (back : List X) → AllByRecursion P (map key (front ++ m ∷ back)) → AllByRecursion P (map key (front ++ back))
  all_without P [] m back all = all.1
  all_without P (x ∷ front) m back all = (all.0, all_without P front m back all.1)

  -- with one element less they differ
  pub differ_without : (front : List X) (m : X) (back : List X) → Differ (front ++ m ∷ back) → Differ (front ++ back)
  unfolding IsDistinct
  differ_without [] m back differ = differ.1
  differ_without (x ∷ front) m back differ = (all_without (λ y. bytes_eq (key x) y ≡ false) front m back differ.0, differ_without front m back differ.1)

  all_chosen : (P : List ℕ → Type 0) (test : X → Bool) (xs : List X) → AllByRecursion P (map key xs) → AllByRecursion P (map key (filter test xs))
  all_chosen P test [] all = tt
  all_chosen P test (x ∷ xs) all = by (test x) (all_chosen P test xs all.1)
    where
      by : (b : Bool) → AllByRecursion P (map key (filter test xs)) → AllByRecursion P (map key (if b then x ∷ filter test xs else filter test xs))
      by true more = (all.0, more)
      by false more = more

  -- so do those that pass a test
  pub differ_chosen : (test : X → Bool) (xs : List X) → Differ xs → Differ (filter test xs)
  unfolding IsDistinct
  differ_chosen test [] differ = tt
  differ_chosen test (x ∷ xs) differ = by (test x) (differ_chosen test xs differ.1)
    where
      by : (b : Bool) → Differ (filter test xs) → Differ (if b then x ∷ filter test xs else filter test xs)
      by true more = (all_chosen (λ y. bytes_eq (key x) y ≡ false) test xs differ.0, more)
      by false more = more

  one_apart : (P : List ℕ → Type 0) (xs : List X) (x : X) → AllByRecursion P (map key xs) → Contains xs x → P (key x)
  one_apart P [] x all at = absurd (none_in x at)
  one_apart P (y ∷ xs) x all at =
      ⊎_elim (λ same. let Q : X → Type 0 = λ z. P (key z) in subst Q same all.0) (λ there. one_apart P xs x all.1 there) (in_cases y xs x at)

  not_same : (a b : List ℕ) → bytes_eq a b ≡ false → a ≡ b → ⊥
  not_same a b apart same = let e : false ≡ true = sym apart ∙ (bytes_eq-Decides a b).1 same in cc

  -- two of one name are one
  pub one_of_name : (xs : List X) → Differ xs → (x y : X) → Contains xs x → Contains xs y → key x ≡ key y → x ≡ y
  unfolding IsDistinct
  one_of_name [] differ x y at other same = absurd (none_in x at)
  one_of_name (z ∷ xs) differ x y at other same =
      let apart : (w : X) → Contains xs w → key z ≡ key w → ⊥ = λ w there. not_same (key z) (key w) (one_apart (λ k. bytes_eq (key z) k ≡ false) xs w differ.0 there) in
      ⊎_elim
      (λ here. ⊎_elim (λ there. sym here ∙ there) (λ later. absurd (apart y later (ap key here ∙ same))) (in_cases z xs y other))
      (λ earlier. ⊎_elim (λ there. absurd (apart x earlier (ap key there ∙ sym same))) (λ later. one_of_name xs differ.1 x y earlier later same) (in_cases z xs y other))
      (in_cases z xs x at)
