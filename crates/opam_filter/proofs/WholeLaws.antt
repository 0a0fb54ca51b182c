-- What is left of a formula is dropped as a whole, or has nothing dropped in it.
use Rattle.std.proofs.Common.{◌≡◌, ℕ, ◌&&◌, Bool, true, false, cond, List, [], ◌∷◌, filter, map, refl, sym, ◌∙◌, subst}
use Rattle.std.specs.Prelude.{if◌then◌else◌}
use Rattle.std.specs.List.{list_all}
use Rattle.std.proofs.lemmas.Bool.{false≢true}
use Rattle.opam_filter.specs.Laws.{NothingIsDroppedInside, is_whole, layer_whole}
use Rattle.opam_filter.specs.Reductions.{dropped, is_kept, is_left, joined, reduced, test_of}
use Rattle.opam_filter.specs.Variables.{Values}
use Rattle.opam_filter.specs.declared.formula.Formula.{Formula, roll-Formula}
use Rattle.opam_filter.specs.declared.formula.Formula.TheOpen.{Formula-F}
use Rattle.opam_filter.specs.declared.formula.Formula.TheFolds.{ind-Formula, map-Formula}
use Rattle.opam_filter.specs.declared.formula.Reduced.{Reduced, roll-Reduced}
use Rattle.opam_filter.specs.declared.formula.Reduced.TheOpen.{Reduced-F}
use Rattle.opam_filter.specs.declared.formula.Reduced.TheFolds.{fold-roll-Reduced, map-Reduced}
use Rattle.opam_filter.proofs.ReducedLaws.{left_at, reduced_at}

whole_at : (layer : Reduced-F Reduced) → is_whole (roll-Reduced layer) ≡ layer_whole (map-Reduced Reduced Bool is_whole layer)
whole_at = fold-roll-Reduced Bool layer_whole

and_true : (x y : Bool) → x ≡ true → y ≡ true → (x && y) ≡ true
and_true true y is other = other
and_true false y is other = is

-- nothing in it was dropped, unless it was itself
abbrev Whole : Reduced → Type 0
Whole part = is_left part ≡ true → is_whole part ≡ true

joined_whole : (whole : List Reduced → Reduced) → ((left : List Reduced) → is_whole (whole left) ≡ list_all (λ part. part) (map is_whole left))
    → (parts left : List Reduced) → list_all (λ part. part) (map is_whole left) ≡ true → Whole (joined whole parts left)
joined_whole whole says [] [] all left = says []
joined_whole whole says (part ∷ parts) [] all left = absurd (false≢true (sym (left_at Reduced-F.Dropped) ∙ left))
joined_whole whole says [] (first ∷ more) all left = says (first ∷ more) ∙ all
joined_whole whole says (part ∷ parts) (first ∷ more) all left = says (first ∷ more) ∙ all

module _ (values : Values) where
  abbrev IsWholeLeft : Formula → Type 0
  IsWholeLeft formula = Whole (reduced values formula)

  abbrev formulas : List ((formula : Formula) × IsWholeLeft formula) → List Formula
  formulas parts = map (λ e. e.0) parts

  kept_whole : (parts : List ((formula : Formula) × IsWholeLeft formula)) → list_all (λ part. part) (map is_whole (filter is_left (map (reduced values) (formulas parts)))) ≡ true
  kept_whole [] = refl
  kept_whole (e ∷ parts) = by (is_left (reduced values e.0)) refl (kept_whole parts)
    where
      by : (b : Bool) → is_left (reduced values e.0) ≡ b → list_all (λ part. part) (map is_whole (filter is_left (map (reduced values) (formulas parts)))) ≡ true
          → list_all (λ part. part) (map is_whole (cond b (reduced values e.0 ∷ filter is_left (map (reduced values) (formulas parts))) (filter is_left (map (reduced values) (formulas parts))))) ≡ true
      by true is later = and_true (is_whole (reduced values e.0)) (list_all (λ part. part) (map is_whole (filter is_left (map (reduced values) (formulas parts))))) (e.1 is) later
      by false is later = later

  atom_whole : (b : Bool) (name : List ℕ) (atom : Reduced) → is_whole atom ≡ true → Whole (if b then atom else dropped)
  atom_whole true name atom is left = is
  atom_whole false name atom is left = absurd (false≢true (sym (left_at Reduced-F.Dropped) ∙ left))

  layer_is_whole : (layer : Formula-F ((formula : Formula) × IsWholeLeft formula)) → IsWholeLeft (roll-Formula (map-Formula ((formula : Formula) × IsWholeLeft formula) Formula (λ e. e.0) layer))
  layer_is_whole (Formula-F.Atom name braces) =
      subst Whole (sym (reduced_at values (Formula-F.Atom name braces)))
      (atom_whole (is_kept (test_of values braces)) name (roll-Reduced (Reduced-F.Atom name (test_of values braces))) (whole_at (Reduced-F.Atom name (test_of values braces))))
  layer_is_whole (Formula-F.And parts) =
      subst Whole (sym (reduced_at values (Formula-F.And (formulas parts))))
      (joined_whole (λ left. roll-Reduced (Reduced-F.And left)) (λ left. whole_at (Reduced-F.And left)) (map (reduced values) (formulas parts)) (filter is_left (map (reduced values) (formulas parts))) (kept_whole parts))
  layer_is_whole (Formula-F.Or parts) =
      subst Whole (sym (reduced_at values (Formula-F.Or (formulas parts))))
      (joined_whole (λ left. roll-Reduced (Reduced-F.Or left)) (λ left. whole_at (Reduced-F.Or left)) (map (reduced values) (formulas parts)) (filter is_left (map (reduced values) (formulas parts))) (kept_whole parts))

  left_is_whole : (formula : Formula) → IsWholeLeft formula
  left_is_whole = ind-Formula IsWholeLeft (λ x y is. subst (λ layer. IsWholeLeft (roll-Formula layer)) is (layer_is_whole y))

pub nothing_is_dropped_inside : NothingIsDroppedInside
nothing_is_dropped_inside values formula = left_is_whole values formula
