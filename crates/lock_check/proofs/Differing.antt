-- Names are looked at one after another, and the first that stood there before is found.
use Rattle.std.proofs.Common.{◌≡◌, ℕ, zero, suc, ◌+◌, ◌<◌, List, [], ◌∷◌, ◌++◌, length, get_or, take, map, Bool, true, false, not, ◌||◌, refl, sym, ◌∙◌, ap, subst, arith}
use Rattle.std.specs.Prelude.{bytes_eq}
use Rattle.std.specs.List.{AllByRecursion, IsDistinct}
use Rattle.std.proofs.lemmas.List.{take_more}
use Rattle.opam_filter.specs.NameSets.{with_name}
use Rattle.lock_check.specs.Chased.{is_among}
use Rattle.lock_check.proofs.Among.{among_joined, among_one, in_among, is_same, turned}
use Rattle.lock_check.proofs.Members.{in_map}
use Rattle.lock_check.proofs.Names.{put_those}
use Rattle.lock_check.proofs.Standing.{differ_pushed}

module _ {X : Type 0} (key : X → List ℕ) where
  abbrev pub Differ : List X → Type 0
  Differ xs = IsDistinct bytes_eq (map key xs)

  -- the first ones differ, and these are their names
  pub record AreApart (names : List (List ℕ)) (xs : List X) : Type 0 where
    pub those : (name : List ℕ) → is_among names name ≡ is_among (map key xs) name
    pub differ : Differ xs

  none_differ : Differ []
  unfolding IsDistinct
  none_differ = tt

  pub apart_none : (names : List (List ℕ)) → names ≡ [] → AreApart names []
  apart_none names none = record { those = λ name. ap (λ xs. is_among xs name) none; differ = none_differ }

  joined_map : (xs : List X) (m : X) → map key (xs ++ m ∷ []) ≡ map key xs ++ key m ∷ []
  joined_map [] m = refl
  joined_map (x ∷ xs) m = ap (λ ys. key x ∷ ys) (joined_map xs m)

  off : (b : Bool) → not b ≡ true → b ≡ false
  off true is = sym is
  off false is = refl

  on : (b : Bool) → not b ≡ false → b ≡ true
  on true is = refl
  on false is = sym is

  no_both : (b : Bool) → b ≡ true → b ≡ false → ⊥
  no_both true is so = let e : true ≡ false = so in cc
  no_both false is so = let e : false ≡ true = is in cc

  pub apart_next : (xs : List X) (i : ℕ) (m : X) (names now : List (List ℕ)) (new : Bool) → i < length xs → m ≡ get_or xs i m → new ≡ not (is_among names (key m)) → new ≡ true
      → now ≡ with_name names (key m) → AreApart names (take i xs) → AreApart now (take (i + 1) xs)
  apart_next xs i m names now new within is new_is passes now_is h =
      let front : take (i + 1) xs ≡ take i xs ++ m ∷ [] = take_more xs i m within ∙ ap (λ x. take i xs ++ x ∷ []) (sym is) in
      let gone : is_among (map key (take i xs)) (key m) ≡ false = sym (h.those (key m)) ∙ off (is_among names (key m)) (sym new_is ∙ passes) in
      let P : List X → Type 0 = λ ys. AreApart now ys in
      subst P (sym front) (record {
        those = λ name.
            ap (λ ys. is_among ys name) now_is ∙ put_those name (key m) names ∙ ap (λ b. b || bytes_eq name (key m)) (h.those name)
            ∙ ap (λ b. is_among (map key (take i xs)) name || b) (sym (among_one name (key m))) ∙ sym (among_joined (map key (take i xs)) (key m ∷ []) name)
            ∙ ap (λ ys. is_among ys name) (sym (joined_map (take i xs) m));
        differ = differ_pushed key (take i xs) m h.differ (λ x at. apart (key x) (key m) (in_among (map key (take i xs)) (key x) (in_map key (take i xs) x at)) gone);
      })
    where
      apart : (one other : List ℕ) → is_among (map key (take i xs)) one ≡ true → is_among (map key (take i xs)) other ≡ false → bytes_eq one other ≡ false
      apart one other here not_here = by (bytes_eq one other) refl
        where
          by : (b : Bool) → bytes_eq one other ≡ b → b ≡ false
          by true same = absurd (no_both (is_among (map key (take i xs)) other) (ap (is_among (map key (take i xs))) (sym (is_same one other same)) ∙ here) not_here)
          by false same = refl

  -- names that differ have none that stood there before
  all_apart : (name : List ℕ) (xs : List X) (i : ℕ) (m : X) → i < length xs → m ≡ get_or xs i m → AllByRecursion (λ y. bytes_eq name y ≡ false) (map key xs) → bytes_eq name (key m) ≡ false
  all_apart name [] i m within is all = absurd (omega (arith, within))
  all_apart name (x ∷ xs) zero m within is all = ap (λ y. bytes_eq name (key y)) is ∙ all.0
  all_apart name (x ∷ xs) (suc i) m within is all = all_apart name xs i m (omega (arith, within)) is all.1

  pub none_before : (xs : List X) (i : ℕ) (m : X) → i < length xs → m ≡ get_or xs i m → Differ xs → is_among (map key (take i xs)) (key m) ≡ false
  unfolding IsDistinct
  none_before [] i m within is differ = absurd (omega (arith, within))
  none_before (x ∷ xs) zero m within is differ = refl
  none_before (x ∷ xs) (suc i) m within is differ =
      ap (λ b. b || is_among (map key (take i xs)) (key m)) (turned (key m) (key x) ∙ all_apart (key x) xs i m (omega (arith, within)) is differ.0)
      ∙ none_before xs i m (omega (arith, within)) is differ.1

  pub twice : (xs : List X) (i : ℕ) (m : X) (names : List (List ℕ)) (new : Bool) → i < length xs → m ≡ get_or xs i m → new ≡ not (is_among names (key m)) → new ≡ false
      → AreApart names (take i xs) → Differ xs → ⊥
  twice xs i m names new within is new_is fails h differ =
      no_both (is_among names (key m)) (on (is_among names (key m)) (sym new_is ∙ fails)) (h.those (key m) ∙ none_before xs i m within is differ)

  pub all_differ : (xs : List X) (n : ℕ) (names : List (List ℕ)) → n ≡ length xs → AreApart names (take n xs) → Differ xs
  all_differ xs n names all h = let P : List X → Type 0 = λ ys. Differ ys in subst P (ap (λ k. take k xs) all ∙ whole xs) h.differ
    where
      whole : (ys : List X) → take (length ys) ys ≡ ys
      whole [] = refl
      whole (y ∷ ys) = ap (λ zs. y ∷ zs) (whole ys)
