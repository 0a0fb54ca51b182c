-- A formula all of whose atoms are dropped holds of every set.
use Rattle.std.proofs.Common.{◌≡◌, ℕ, List, [], ◌∷◌, map, filter, Bool, true, false, refl, sym, subst, cond, ◌&&◌, ◌∙◌}
use Rattle.std.specs.Prelude.{IsTrue, not}
use Rattle.std.specs.List.{list_all}
use Rattle.opam_names.specs.declared.packages.Pkg.{Pkg}
use Rattle.opam_filter.specs.Laws.{DroppedHolds, is_wholly_dropped, layer_wholly}
use Rattle.opam_filter.specs.Reductions.{dropped, is_left, joined, reduced}
use Rattle.opam_filter.specs.Sets.{holds}
use Rattle.opam_filter.specs.Variables.{Values}
use Rattle.opam_filter.specs.declared.formula.Braces.{Braces}
use Rattle.opam_filter.specs.declared.formula.Formula.{Formula, roll-Formula}
use Rattle.opam_filter.specs.declared.formula.Formula.TheOpen.{Formula-F}
use Rattle.opam_filter.specs.declared.formula.Formula.TheFolds.{fold-roll-Formula, ind-Formula, map-Formula}
use Rattle.opam_filter.specs.declared.formula.Reduced.{Reduced, roll-Reduced}
use Rattle.opam_filter.specs.declared.formula.Reduced.TheOpen.{Reduced-F}
use Rattle.opam_filter.proofs.ReducedLaws.{holds_at, reduced_at}

-- of two that hold, each
pub first_of_two : (a b : Bool) → IsTrue (a && b) → IsTrue a
first_of_two true b is = refl
first_of_two false b is = is

pub second_of_two : (a b : Bool) → IsTrue (a && b) → IsTrue b
second_of_two true b is = is
second_of_two false b is = absurd (cc)

is_not : (b : Bool) → IsTrue (not b) → b ≡ false
is_not true is = sym is
is_not false is = refl

module _ (values : Values) (set : List Pkg) where
  abbrev hold : Reduced → Bool
  hold part = holds part set

  wholly_at : (layer : Formula-F Formula) → is_wholly_dropped values (roll-Formula layer) ≡ layer_wholly values (map-Formula Formula Bool (is_wholly_dropped values) layer)
  wholly_at = fold-roll-Formula Bool (layer_wholly values)

  -- what is wholly dropped holds
  abbrev Holds : Formula → Type 0
  Holds formula = IsTrue (is_wholly_dropped values formula) → IsTrue (hold (reduced values formula))

  -- formulas, each with a proof beside it
  abbrev formulas : List ((formula : Formula) × Holds formula) → List Formula
  formulas parts = map (λ e. e.0) parts

  dropped_is_met : IsTrue (hold dropped)
  dropped_is_met = holds_at set Reduced-F.Dropped

  -- of several
  each_holds : (parts : List ((formula : Formula) × Holds formula)) → IsTrue (list_all (λ part. part) (map (is_wholly_dropped values) (formulas parts)))
      → IsTrue (list_all hold (map (reduced values) (formulas parts)))
  each_holds [] all = refl
  each_holds (e ∷ parts) all =
      let here = e.1 (first_of_two _ (list_all (λ part. part) (map (is_wholly_dropped values) (formulas parts))) all) in
      rw here (each_holds parts (second_of_two (is_wholly_dropped values e.0) _ all))

  -- those that are not left out hold too
  left_hold : (parts : List Reduced) → IsTrue (list_all hold parts) → IsTrue (list_all (λ part. part) (map hold (filter is_left parts)))
  left_hold [] all = refl
  left_hold (part ∷ parts) all =
      let more = left_hold parts (second_of_two (hold part) _ all) in
      let here = first_of_two (hold part) (list_all hold parts) all in
      elim (is_left part) as (λ b. IsTrue (list_all (λ part. part) (map hold (cond b (part ∷ filter is_left parts) (filter is_left parts))))) [
        | true ↦ rw here more
        | false ↦ more
      ]

  and_holds : (parts left : List Reduced) → IsTrue (list_all (λ part. part) (map hold left)) → IsTrue (hold (joined (λ left. roll-Reduced (Reduced-F.And left)) parts left))
  and_holds [] [] all = holds_at set (Reduced-F.And [])
  and_holds (part ∷ parts) [] all = dropped_is_met
  and_holds parts (first ∷ more) all = holds_at set (Reduced-F.And (first ∷ more)) ∙ all

  or_holds : (part : Reduced) (parts left : List Reduced) → IsTrue (list_all (λ part. part) (map hold left)) → IsTrue (hold (joined (λ left. roll-Reduced (Reduced-F.Or left)) (part ∷ parts) left))
  or_holds part parts [] all = dropped_is_met
  or_holds part parts (first ∷ more) all = rw (holds_at set (Reduced-F.Or (first ∷ more)), first_of_two (hold first) (list_all (λ part. part) (map hold more)) all) refl

  atom_holds : (name : List ℕ) (braces : Braces) → Holds (roll-Formula (Formula-F.Atom name braces))
  atom_holds name braces wholly =
      let left = is_not _ (sym (wholly_at (Formula-F.Atom name braces)) ∙ wholly) in
      rw (reduced_at values (Formula-F.Atom name braces), left) dropped_is_met

  layer_holds : (layer : Formula-F ((formula : Formula) × Holds formula)) → Holds (roll-Formula (map-Formula ((formula : Formula) × Holds formula) Formula (λ e. e.0) layer))
  layer_holds (Formula-F.Atom name braces) wholly = atom_holds name braces wholly
  layer_holds (Formula-F.And parts) wholly =
      let left = map (reduced values) (formulas parts) in
      let all = sym (wholly_at (Formula-F.And (formulas parts))) ∙ wholly in
      rw (reduced_at values (Formula-F.And (formulas parts))) (and_holds left (filter is_left left) (left_hold left (each_holds parts all)))
  layer_holds (Formula-F.Or []) wholly = absurd (let none = sym (wholly_at (Formula-F.Or [])) ∙ wholly in cc)
  layer_holds (Formula-F.Or (part ∷ parts)) wholly =
      let more = map (reduced values) (formulas parts) in
      let first = reduced values part.0 in
      let all = sym (wholly_at (Formula-F.Or (part.0 ∷ formulas parts))) ∙ wholly in
      rw (reduced_at values (Formula-F.Or (part.0 ∷ formulas parts))) (or_holds first more (filter is_left (first ∷ more)) (left_hold (first ∷ more) (each_holds (part ∷ parts) all)))

  all_hold : (formula : Formula) → Holds formula
  all_hold = ind-Formula Holds (λ x y is. subst (λ layer. Holds (roll-Formula layer)) is (layer_holds y))

pub dropped_holds : DroppedHolds
dropped_holds values formula set = all_hold values set formula
