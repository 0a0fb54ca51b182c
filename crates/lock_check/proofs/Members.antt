-- Elements of lists: of one with an element more, of a map, of a filter.
use Rattle.std.proofs.Common.{◌≡◌, ℕ, List, [], ◌∷◌, ◌++◌, map, filter, Bool, true, false, if◌then◌else◌, ◌⊎◌, inl, inr, ⊎_elim, refl, sym, ◌∙◌, ap, subst, arith}
use Rattle.std.specs.Prelude.{Contains}
use Rattle.opam_names.specs.ByteOrders.{in_order_by, precedes, put_by}
use Rattle.std.proofs.lemmas.List.Elements.{Contains-append_cases, Contains-append_left, Contains-append_right, Contains-push, Contains-push_cases}

module _ {X : Type 0} where
  pub none_in : (x : X) → Contains [] x → ⊥
  none_in x at = grind arith

  pub first_in : (y : X) (ys : List X) → Contains (y ∷ ys) y
  first_in y ys = Contains-append_left (y ∷ []) ys y (Contains-push [] y)

  pub later_in : (y : X) (ys : List X) (x : X) → Contains ys x → Contains (y ∷ ys) x
  later_in y ys x at = Contains-append_right (y ∷ []) ys x at

  one_in : (y x : X) → Contains (y ∷ []) x → y ≡ x
  one_in y x at = ⊎_elim (λ none. absurd (none_in x none)) (λ e. e) (Contains-push_cases [] y x at)

  pub in_cases : (y : X) (ys : List X) (x : X) → Contains (y ∷ ys) x → (y ≡ x) ⊎ Contains ys x
  in_cases y ys x at = ⊎_elim (λ here. inl (one_in y x here)) (λ there. inr there) (Contains-append_cases (y ∷ []) ys x at)

  -- an element of two lists is one of them with an element between
  pub wider : (front : List X) (m : X) (back : List X) (x : X) → Contains (front ++ back) x → Contains (front ++ m ∷ back) x
  wider front m back x at =
      ⊎_elim (λ here. Contains-append_left front (m ∷ back) x here) (λ there. Contains-append_right front (m ∷ back) x (later_in m back x there)) (Contains-append_cases front back x at)

  pub between : (front : List X) (m : X) (back : List X) → Contains (front ++ m ∷ back) m
  between front m back = Contains-append_right front (m ∷ back) m (first_in m back)

  pub narrower : (front : List X) (m : X) (back : List X) (x : X) → Contains (front ++ m ∷ back) x → ¬ (m ≡ x) → Contains (front ++ back) x
  narrower front m back x at apart =
      ⊎_elim (λ here. Contains-append_left front back x here)
      (λ there. ⊎_elim (λ same. absurd (apart same)) (λ later. Contains-append_right front back x later) (in_cases m back x there))
      (Contains-append_cases front (m ∷ back) x at)

-- an element of a map comes of one
pub of_map : {X P : Type 0} (f : X → P) (xs : List X) (p : P) → Contains (map f xs) p → (x : X) × Contains xs x × (f x ≡ p)
of_map f [] p at = absurd (none_in p at)
of_map f (x ∷ xs) p at =
    ⊎_elim (λ same. (x, first_in x xs, same)) (λ there. let c = of_map f xs p there in (c.0, later_in x xs c.0 c.1, c.2)) (in_cases (f x) (map f xs) p at)

pub in_map : {X P : Type 0} (f : X → P) (xs : List X) (x : X) → Contains xs x → Contains (map f xs) (f x)
in_map f [] x at = absurd (none_in x at)
in_map {X} {P} f (y ∷ xs) x at =
    ⊎_elim (λ same. let Q : X → Type 0 = λ z. Contains (map f (y ∷ xs)) (f z) in subst Q same (first_in (f y) (map f xs)))
    (λ there. later_in (f y) (map f xs) (f x) (in_map f xs x there)) (in_cases y xs x at)

-- an element of a filter is one of the list that passes
pub of_filter : {X : Type 0} (test : X → Bool) (xs : List X) (x : X) → Contains (filter test xs) x → Contains xs x × (test x ≡ true)
of_filter test [] x at = absurd (none_in x at)
of_filter {X} test (y ∷ xs) x at = by (test y) refl at (of_filter test xs x)
  where
    by : (b : Bool) → test y ≡ b → Contains (if b then y ∷ filter test xs else filter test xs) x → (Contains (filter test xs) x → Contains xs x × (test x ≡ true))
        → Contains (y ∷ xs) x × (test x ≡ true)
    by true is here more =
        ⊎_elim (λ same. let Q : X → Type 0 = λ z. Contains (y ∷ xs) z × (test z ≡ true) in subst Q same (first_in y xs, is))
        (λ there. let c = more there in (later_in y xs x c.0, c.1)) (in_cases y (filter test xs) x here)
    by false is here more = let c = more here in (later_in y xs x c.0, c.1)

pub in_filter : {X : Type 0} (test : X → Bool) (xs : List X) (x : X) → Contains xs x → test x ≡ true → Contains (filter test xs) x
in_filter test [] x at is = absurd (none_in x at)
in_filter {X} test (y ∷ xs) x at is = by (test y) refl (λ there. in_filter test xs x there is)
  where
    by : (b : Bool) → test y ≡ b → (Contains xs x → Contains (filter test xs) x) → Contains (if b then y ∷ filter test xs else filter test xs) x
    by true has more =
        ⊎_elim (λ same. let Q : X → Type 0 = λ z. Contains (y ∷ filter test xs) z in subst Q same (first_in y (filter test xs)))
        (λ there. later_in y (filter test xs) x (more there)) (in_cases y xs x at)
    by false has more =
        ⊎_elim (λ same. absurd (let e : false ≡ true = sym has ∙ (ap test same ∙ is) in cc))
        (λ there. more there) (in_cases y xs x at)

-- of a list put into order, the same elements
module _ {X : Type 0} (key : X → List ℕ) where
  pub of_put : (x : X) (ys : List X) (z : X) → Contains (put_by key x ys) z → (x ≡ z) ⊎ Contains ys z
  of_put x [] z at = ⊎_elim (λ same. inl same) (λ none. absurd (none_in z none)) (in_cases x [] z at)
  of_put x (y ∷ ys) z at = by (precedes (key y) (key x)) at (of_put x ys z)
    where
      by : (b : Bool) → Contains (if b then y ∷ put_by key x ys else x ∷ y ∷ ys) z → (Contains (put_by key x ys) z → (x ≡ z) ⊎ Contains ys z) → (x ≡ z) ⊎ Contains (y ∷ ys) z
      by true here more =
          ⊎_elim (λ same. let Q : X → Type 0 = λ w. Contains (y ∷ ys) w in inr (subst Q same (first_in y ys)))
          (λ there. ⊎_elim (λ same. inl same) (λ later. inr (later_in y ys z later)) (more there)) (in_cases y (put_by key x ys) z here)
      by false here more = in_cases x (y ∷ ys) z here

  pub in_put : (x : X) (ys : List X) (z : X) → (x ≡ z) ⊎ Contains ys z → Contains (put_by key x ys) z
  in_put x [] z at = ⊎_elim (λ same. let Q : X → Type 0 = λ w. Contains (x ∷ []) w in subst Q same (first_in x [])) (λ none. absurd (none_in z none)) at
  in_put x (y ∷ ys) z at = by (precedes (key y) (key x)) (λ there. in_put x ys z there)
    where
      by : (b : Bool) → ((x ≡ z) ⊎ Contains ys z → Contains (put_by key x ys) z) → Contains (if b then y ∷ put_by key x ys else x ∷ y ∷ ys) z
      by true more =
          ⊎_elim (λ same. later_in y (put_by key x ys) z (more (inl same)))
          (λ there. ⊎_elim (λ same. let Q : X → Type 0 = λ w. Contains (y ∷ put_by key x ys) w in subst Q same (first_in y (put_by key x ys)))
          (λ later. later_in y (put_by key x ys) z (more (inr later))) (in_cases y ys z there)) at
      by false more =
          ⊎_elim (λ same. let Q : X → Type 0 = λ w. Contains (x ∷ y ∷ ys) w in subst Q same (first_in x (y ∷ ys))) (λ there. later_in x (y ∷ ys) z there) at

  pub of_order : (xs : List X) (z : X) → Contains (in_order_by key xs) z → Contains xs z
  of_order [] z at = at
  of_order (x ∷ xs) z at =
      ⊎_elim (λ same. let Q : X → Type 0 = λ w. Contains (x ∷ xs) w in subst Q same (first_in x xs)) (λ there. later_in x xs z (of_order xs z there))
      (of_put x (in_order_by key xs) z at)

  pub in_order : (xs : List X) (z : X) → Contains xs z → Contains (in_order_by key xs) z
  in_order [] z at = at
  in_order (x ∷ xs) z at = in_put x (in_order_by key xs) z (⊎_elim (λ same. inl same) (λ there. inr (in_order xs z there)) (in_cases x xs z at))
