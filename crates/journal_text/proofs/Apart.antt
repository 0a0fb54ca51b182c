-- Names differ exactly where they rise once they are put into byte order.
use Rattle.std.proofs.Common.{◌≡◌, ℕ, List, map, refl, sym, ap, subst, ◌∙◌, bytes_eq, Bool, true, false}
use Rattle.std.specs.Prelude.{◌↔◌, ◌&&◌, IsTrue}
use Rattle.std.specs.List.{IsDistinct, list_all}
use Rattle.std.specs.Ordering.{eq_by_cmp}
use Rattle.std.proofs.lemmas.Cmp.{eq_by_cmp_equiv, nat_list_cmp_total}
use Rattle.std.proofs.lemmas.List.{map-id}
use Rattle.std.proofs.lemmas.List.Sorted.{IsPermutation-map, IsPermutation-sym, list_any-IsPermutation}
use Rattle.std.proofs.lemmas.Map.Keys.{IsDistinct-IsPermutation, IsDistinct-from_sorted}
use Rattle.std.proofs.lemmas.Map.Text.{is_eq-slice_cmp}
use Rattle.opam_names.specs.ByteOrders.{NeverFallsBy, RisesBy, byte_order, has_key, in_order_by}
use Rattle.opam_names.proofs.ByteOrders.{order_permutes, order_rises, order_up}
use Rattle.journal_text.specs.Slots.{AreNamesInOrder, is_among}

abbrev own : List ℕ → List ℕ
own name = name

same_test : (x y : List ℕ) → eq_by_cmp byte_order x y ≡ bytes_eq x y
same_test x y = is_eq-slice_cmp x y

pub rises_apart : (names : List (List ℕ)) → RisesBy own (in_order_by own names) → IsDistinct bytes_eq names
rises_apart names rises =
    let ordered = in_order_by own names in
    let by_order : IsDistinct (eq_by_cmp byte_order) (map own ordered) = IsDistinct-from_sorted byte_order (map own ordered) rises in
    let back = IsPermutation-sym (map own names) (map own ordered) (IsPermutation-map own names ordered (order_permutes own names)) in
    let all = IsDistinct-IsPermutation (eq_by_cmp byte_order) (eq_by_cmp_equiv nat_list_cmp_total).symm (map own ordered) (map own names) back by_order in
    let by_bytes : IsDistinct bytes_eq (map own names) = subst (λ (e : List ℕ → List ℕ → Bool). IsDistinct e (map own names)) (λ i x y. same_test x y i) all in
    subst (λ (ns : List (List ℕ)). IsDistinct bytes_eq ns) (map-id names) by_bytes

pub apart_rises : (names : List (List ℕ)) → IsDistinct bytes_eq names → RisesBy own (in_order_by own names)
apart_rises names apart = order_rises own names (subst (λ (ns : List (List ℕ)). IsDistinct bytes_eq ns) (sym (map-id names)) apart)

-- names in byte order are the same names
same_among : (names : List (List ℕ)) → is_among (in_order_by own names) ≡ is_among names
same_among names = λ i n. sym (list_any-IsPermutation (has_key own n) names (in_order_by own names) (order_permutes own names)) i

pub never_fall : (names : List (List ℕ)) → NeverFallsBy own (in_order_by own names)
never_fall names = order_up own names

pub names_are_in_order : (names roots : List (List ℕ)) (differ rise among : Bool) → (IsTrue differ ↔ RisesBy own (in_order_by own names)) → (IsTrue rise ↔ RisesBy own roots)
    → among ≡ list_all (is_among (in_order_by own names)) roots → (IsTrue (differ && rise && among) ↔ AreNamesInOrder names roots)
names_are_in_order names roots true true true d r a =
    (λ h. record { entries_differ = rises_apart names (d.0 refl); roots_rise = r.0 refl; roots_are_among = ap (λ (test : List ℕ → Bool). list_all test roots) (sym (same_among names)) ∙ sym a }, λ h. refl)
names_are_in_order names roots true true false d r a =
    (λ h. absurd cc, λ h. a ∙ (ap (λ (test : List ℕ → Bool). list_all test roots) (same_among names) ∙ h.roots_are_among))
names_are_in_order names roots true false among d r a = (λ h. absurd cc, λ h. r.1 h.roots_rise)
names_are_in_order names roots false rise among d r a = (λ h. absurd cc, λ h. d.1 (apart_rises names h.entries_differ))
