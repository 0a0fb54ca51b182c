-- What the tests of a search say of one another.
use Rattle.std.proofs.Common.{◌≡◌, ℕ, ◌+◌, ◌<◌, ◌≤◌, ◌⊎◌, inl, inr, Bool, true, false, List, [], length, take, drop, Some, None, refl, sym, ◌∙◌, ap, subst, not, arith}
use Rattle.std.specs.Prelude.{bytes_eq, ◌||◌}
use Rattle.std.specs.List.{AllByRecursion, find}
use Rattle.std.specs.declared.cmp.Ordering.TheVariants.{Less}
use Rattle.std.proofs.lemmas.Bool.{cases_order, false≢true}
use Rattle.std.proofs.lemmas.Cmp.{nat_list_cmp_total}
use Rattle.opam_names.specs.ByteOrders.{RisesBy, byte_order, has_key, precedes}
use Rattle.opam_names.specs.Paths.{is_above}
use Rattle.path_order.specs.Apart.{meets}
use Rattle.opam_names.proofs.ByteOrders.{equal_bytes, same_bytes}
use Rattle.owner_map.specs.Searching.{below_bound, is_above_text, is_below_text, is_from, meets_text}
use Rattle.owner_map.proofs.Finding.{always, each, each_of_two, found_first, found_passes, none_found, none_passes, one_of, same_found}
use Rattle.owner_map.proofs.Texts.{above_less, above_take, below_from, front_of, itself_not, longer_not_before, never, not_both, not_itself, same_of, squeezed}

pub not_false : (b : Bool) → b ≡ false → not b ≡ true
not_false b is = ap not is

pub false_of_not : (b : Bool) → not b ≡ true → b ≡ false
false_of_not true is = absurd (false≢true is)
false_of_not false is = refl

module _ {X : Type 0} (key : X → List ℕ) (text : List ℕ) where
  pub from_of_same : (y : X) → has_key key text y ≡ true → is_from key text y ≡ true
  from_of_same y is = not_false (precedes (key y) text) (itself_not (key y) text (equal_bytes (key y) text is))

  pub same_apart : (x : X) → is_from key text x ≡ true → bytes_eq (key x) text ≡ false → (z : X) → has_key key text z ≡ true → precedes (key z) (key x) ≡ false → ⊥
  same_apart x from apart z is late =
      let same = equal_bytes (key z) text is in
      let one : key x ≡ text = same_of (key x) text (false_of_not (precedes (key x) text) from) (ap (λ k. precedes k (key x)) (sym same) ∙ late) in
      false≢true (sym apart ∙ (ap (λ k. bytes_eq k text) one ∙ same_bytes text))

  pub from_of_below : (y : X) → is_below_text key text y ≡ true → is_from key (below_bound text) y ≡ true
  from_of_below y is = not_false (precedes (key y) (below_bound text)) (below_from text (key y) is)

  pub below_apart : (x : X) → is_from key (below_bound text) x ≡ true → is_above text (key x) ≡ false → (z : X) → is_below_text key text z ≡ true → precedes (key z) (key x) ≡ false → ⊥
  below_apart x from apart z is late =
      false≢true (sym apart ∙ squeezed text (key x) (key z) (false_of_not (precedes (key x) (below_bound text)) from) is late)

  -- ---- above: each front of the text before a slash is looked for, the shortest first

  -- what is above the text and was not found is at least this long
  abbrev pub AboveFrom : ℕ → X → Type 0
  AboveFrom n y = is_above (key y) text ≡ true → n ≤ length (key y)

  -- the front of this length was found
  pub above_found : (n : ℕ) (front : List ℕ) (xs : List X) (x : X) → RisesBy key xs → n ≤ length text → front ≡ take n text → is_above [] (drop n text) ≡ true
      → find (has_key key front) xs ≡ Some x → AllByRecursion (AboveFrom n) xs → find (is_above_text key text) xs ≡ Some x
  above_found n front xs x up long is slash found all =
      let same : key x ≡ take n text = equal_bytes (key x) front (found_passes (has_key key front) xs x found) ∙ is in
      let here : is_above (key x) text ≡ true = ap (λ p. is_above p text) same ∙ (above_take n text (omega (arith, long)) ∙ slash) in
      found_first key (is_above_text key text) (has_key key front) xs x up found here (each (λ y from above other less. apart y same (from above) above less) xs all)
    where
      apart : (y : X) → key x ≡ take n text → n ≤ length (key y) → is_above (key y) text ≡ true → byte_order (key y) (key x) ≡ Less → ⊥
      apart y same low above less =
          let front = front_of (key y) text above in
          let P : List ℕ → Type 0 = λ k. byte_order k (take n text) ≡ Less in
          let Q : List ℕ → Type 0 = λ k. byte_order (key y) k ≡ Less in
          never (take (length (key y)) text) (take n text) (subst P (sym front.front) (subst Q same less)) (longer_not_before n (length (key y)) text (omega (arith, low)))

  one_longer : (n m : ℕ) → n ≤ m → (m ≡ n → ⊥) → n + 1 ≤ m
  one_longer n m low apart = by (cases_order n m)
    where
      by : (n ≡ m) ⊎ ((n < m) ⊎ (m < n)) → n + 1 ≤ m
      by (inl same) = absurd (apart (sym same))
      by (inr (inl less)) = omega (arith, less)
      by (inr (inr less)) = absurd (omega (arith, less, low))

  -- no element is the front of this length
  pub above_missed : (n : ℕ) (front : List ℕ) (xs : List X) → front ≡ take n text → find (has_key key front) xs ≡ None → AllByRecursion (AboveFrom n) xs → AllByRecursion (AboveFrom (n + 1)) xs
  above_missed n front xs is none all =
      each_of_two (λ y from other above. one_longer n (length (key y)) (from above) (λ same. other_front y same above other)) xs all (none_found (has_key key front) xs none)
    where
      other_front : (y : X) → length (key y) ≡ n → is_above (key y) text ≡ true → has_key key front y ≡ false → ⊥
      other_front y same above other =
          let whole : key y ≡ front = sym (front_of (key y) text above).front ∙ ap (λ m. take m text) same ∙ sym is in
          false≢true (sym other ∙ (ap (λ k. bytes_eq k front) whole ∙ same_bytes front))

  -- and none is where no slash follows, or nothing after it
  pub above_ended : (n : ℕ) (xs : List X) → is_above [] (drop n text) ≡ false → AllByRecursion (AboveFrom n) xs → AllByRecursion (AboveFrom (n + 1)) xs
  above_ended n xs ends all = each (λ y from above. one_longer n (length (key y)) (from above) (λ same. goes_on y same above)) xs all
    where
      goes_on : (y : X) → length (key y) ≡ n → is_above (key y) text ≡ true → ⊥
      goes_on y same above = false≢true (sym ends ∙ (ap (λ m. is_above [] (drop m text)) (sym same) ∙ (front_of (key y) text above).slash))

  pub above_none : (n : ℕ) (xs : List X) → length text ≤ n → AllByRecursion (AboveFrom n) xs → find (is_above_text key text) xs ≡ None
  above_none n xs long all = none_passes (is_above_text key text) xs (each (λ y from. one_of (is_above (key y) text) (λ above. too_long y (from above) above)) xs all)
    where
      too_long : (y : X) → n ≤ length (key y) → is_above (key y) text ≡ true → ⊥
      too_long y low above = omega (arith, long, low, (front_of (key y) text above).short)

  -- ---- all that meets the text: above it, the same, or below it, in this order

  or_first : (a b c : Bool) → a ≡ true → ((a || b) || c) ≡ true
  or_first a b c is = rw is refl

  or_second : (a b c : Bool) → b ≡ true → ((a || b) || c) ≡ true
  or_second true b c is = refl
  or_second false b c is = rw is refl

  or_third : (a b c : Bool) → c ≡ true → ((a || b) || c) ≡ true
  or_third true b c is = refl
  or_third false true c is = refl
  or_third false false c is = is

  meets_three : (a b c : Bool) → ((a || b) || c) ≡ true → (a ≡ true) ⊎ ((b ≡ true) ⊎ (c ≡ true))
  meets_three true b c is = inl refl
  meets_three false true c is = inr (inl refl)
  meets_three false false c is = inr (inr is)

  -- it is the text or below it, so it does not stand before the text
  not_earlier : (y : X) → bytes_eq text (key y) ≡ true → byte_order (key y) text ≡ Less → ⊥
  not_earlier y same less = let P : List ℕ → Type 0 = λ k. byte_order k text ≡ Less in not_itself text (subst P (sym (equal_bytes text (key y) same)) less)

  not_earlier_below : (y : X) → is_above text (key y) ≡ true → byte_order (key y) text ≡ Less → ⊥
  not_earlier_below y below less = not_both text (key y) (above_less text (key y) below) less

  pub met_above : (xs : List X) (x : X) → RisesBy key xs → find (is_above_text key text) xs ≡ Some x → find (meets_text key text) xs ≡ Some x
  met_above xs x up found =
      let above = found_passes (is_above_text key text) xs x found in
      found_first key (meets_text key text) (is_above_text key text) xs x up found (or_third (bytes_eq text (key x)) (is_above text (key x)) (is_above (key x) text) above)
      (always (λ y met other less. apart y above met other less) xs)
    where
      apart : (y : X) → is_above (key x) text ≡ true → meets text (key y) ≡ true → is_above (key y) text ≡ false → byte_order (key y) (key x) ≡ Less → ⊥
      apart y above met other less =
          let earlier = nat_list_cmp_total.trans (key y) (key x) text less (above_less (key x) text above) in
          elim (meets_three (bytes_eq text (key y)) (is_above text (key y)) (is_above (key y) text) met) [
            | inl same ↦ not_earlier y same earlier
            | inr (inl below) ↦ not_earlier_below y below earlier
            | inr (inr is) ↦ false≢true (sym other ∙ is)
          ]

  pub met_same : (xs : List X) (x : X) → RisesBy key xs → find (is_above_text key text) xs ≡ None → find (has_key key text) xs ≡ Some x → find (meets_text key text) xs ≡ Some x
  met_same xs x up none found =
      let same = equal_bytes (key x) text (found_passes (has_key key text) xs x found) in
      let here : bytes_eq text (key x) ≡ true = ap (bytes_eq text) same ∙ same_bytes text in
      found_first key (meets_text key text) (has_key key text) xs x up found (or_first (bytes_eq text (key x)) (is_above text (key x)) (is_above (key x) text) here)
      (each (λ y free met other less. apart y same free met less) xs (none_found (is_above_text key text) xs none))
    where
      apart : (y : X) → key x ≡ text → is_above (key y) text ≡ false → meets text (key y) ≡ true → byte_order (key y) (key x) ≡ Less → ⊥
      apart y same free met less =
          let P : List ℕ → Type 0 = λ k. byte_order (key y) k ≡ Less in
          let earlier = subst P same less in
          elim (meets_three (bytes_eq text (key y)) (is_above text (key y)) (is_above (key y) text) met) [
            | inl is ↦ not_earlier y is earlier
            | inr (inl below) ↦ not_earlier_below y below earlier
            | inr (inr is) ↦ false≢true (sym free ∙ is)
          ]

  last_of_three : (a b c : Bool) → a ≡ false → c ≡ false → ((a || b) || c) ≡ b
  last_of_three true b c is other = absurd (false≢true (sym is))
  last_of_three false true c is other = refl
  last_of_three false false c is other = other

  turned_eq : (y : X) → bytes_eq (key y) text ≡ false → bytes_eq text (key y) ≡ false
  turned_eq y other = one_of (bytes_eq text (key y)) (λ is. false≢true (sym other ∙ (ap (λ k. bytes_eq (key y) k) (equal_bytes text (key y) is) ∙ same_bytes (key y))))

  pub met_below : (xs : List X) → find (is_above_text key text) xs ≡ None → find (has_key key text) xs ≡ None → find (meets_text key text) xs ≡ find (is_below_text key text) xs
  met_below xs none other =
      same_found (meets_text key text) (is_below_text key text) xs
      (each_of_two (λ y free apart. last_of_three (bytes_eq text (key y)) (is_above text (key y)) (is_above (key y) text) (turned_eq y apart) free) xs
      (none_found (is_above_text key text) xs none) (none_found (has_key key text) xs other))
