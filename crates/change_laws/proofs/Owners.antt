-- In a well-formed switch each path has one owner.
use Rattle.std.proofs.Common.{◌≡◌, ◌∙◌, ℕ, zero, suc, List, [], ◌∷◌, true, false, Some, sym, ap, subst}
use Rattle.std.specs.Prelude.{◌||◌, bytes_eq, slice_get}
use Rattle.std.specs.List.{AllByRecursion, IsDistinct}
use Rattle.std.specs.List.Sorted.{IsStrictlySortedBy}
use Rattle.std.specs.declared.cmp.Ordering.TheVariants.{Less}
use Rattle.std.proofs.lemmas.Bool.{false≢true}
use Rattle.std.proofs.lemmas.Slice.Eq.{bytes_eq-Decides}
use Rattle.opam_names.specs.ByteOrders.{byte_order}
use Rattle.opam_names.specs.Paths.{is_above}
use Rattle.path_order.specs.Apart.{meets}
use Rattle.path_order.proofs.Fronts.{above_less, not_back, not_itself}
use Rattle.owner_map.specs.Owning.{paths_of}
use Rattle.owner_map.specs.declared.owned.OwnedPath.{OwnedPath}
use Rattle.switch_state.specs.State.{SwitchState}
use Rattle.switch_state.specs.WellFormed.{IsWellFormed}
use Rattle.switch_state.proofs.SoundKept.{is_false, neither}
use Rattle.change_laws.specs.SoundRuns.{EachPathHasOneOwner}
use Rattle.change_laws.proofs.Foreigners.{meets_back}
use Rattle.change_laws.proofs.Needs.{contains_place, some_same}

module _ (P : List ℕ → Type 0) where
  at_place : (owned : List OwnedPath) (k : ℕ) (o : OwnedPath) → AllByRecursion P (paths_of owned) → slice_get owned k ≡ Some o → P o.path
  at_place [] k o all is = absurd cc
  at_place (x ∷ owned) zero o all is = (let e : x ≡ o = cc in subst (λ (y : OwnedPath). P y.path) e all.0)
  at_place (x ∷ owned) (suc k) o all is = at_place owned k o all.1 is

-- a path that stands later and is not below does not meet one
later_free : (p q : List ℕ) → byte_order p q ≡ Less → is_above p q ≡ false → meets p q ≡ false
later_free p q less above =
    neither (bytes_eq p q || is_above p q) (is_above q p)
    (neither (bytes_eq p q) (is_above p q) (is_false (bytes_eq p q) (λ same. not_itself q (ap (λ x. byte_order x q) (sym ((bytes_eq-Decides p q).0 same)) ∙ less))) above)
    (is_false (is_above q p) (λ is. not_back p q less (above_less q p is)))

one_owner : (owned : List OwnedPath) (i j : ℕ) (a b : OwnedPath) → IsStrictlySortedBy byte_order (paths_of owned) → IsDistinct is_above (paths_of owned) → slice_get owned i ≡ Some a → slice_get owned j ≡ Some b → meets a.path b.path ≡ true → a ≡ b
unfolding IsStrictlySortedBy IsDistinct
one_owner [] i j a b rise apart one two met = absurd cc
one_owner (x ∷ owned) zero zero a b rise apart one two met = some_same a b (Some x) one two
one_owner (x ∷ owned) zero (suc j) a b rise apart one two met =
    (let e : x ≡ a = cc in
    absurd (false≢true
    (sym (later_free x.path b.path (at_place (λ y. byte_order x.path y ≡ Less) owned j b rise.0 two) (at_place (λ y. is_above x.path y ≡ false) owned j b apart.0 two)) ∙ ap (λ (y : OwnedPath). meets y.path b.path) e ∙ met)))
one_owner (x ∷ owned) (suc i) zero a b rise apart one two met =
    (let e : x ≡ b = cc in
    absurd (false≢true
    (sym (later_free x.path a.path (at_place (λ y. byte_order x.path y ≡ Less) owned i a rise.0 one) (at_place (λ y. is_above x.path y ≡ false) owned i a apart.0 one)) ∙ meets_back x.path a.path ∙ ap (λ (y : OwnedPath). meets a.path y.path) e ∙ met)))
one_owner (x ∷ owned) (suc i) (suc j) a b rise apart one two met = one_owner owned i j a b rise.1 apart.1 one two met

pub formed_owns : (state : SwitchState) → IsWellFormed state → EachPathHasOneOwner state
formed_owns state formed one other first second met =
    let a = contains_place state.owned one first in
    let b = contains_place state.owned other second in
    one_owner state.owned a.0 b.0 one other formed.paths.apart.rise formed.paths.apart.apart a.1 b.1 met
