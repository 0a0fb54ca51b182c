-- What is left of a formula says the same as the formula.
use Rattle.std.proofs.Common.{◌≡◌, ℕ, List, [], ◌∷◌, map, filter, Bool, true, false, Option, Some, None, refl, ap, subst, cond}
use Rattle.std.specs.Prelude.{if◌then◌else◌}
use Rattle.std.specs.List.{cons_option, filter_map, list_all, list_any}
use Rattle.std.specs.Option.{unwrap_or}
use Rattle.opam_names.specs.declared.packages.Pkg.{Pkg}
use Rattle.opam_filter.specs.Laws.{ReducingSaysTheSame, answer, joined_answers, layer_answer}
use Rattle.opam_filter.specs.Reductions.{dropped, is_kept, is_left, joined, layer_left, layer_reduced, reduced, test_of}
use Rattle.opam_filter.specs.Sets.{holds, is_met_by, layer_holds}
use Rattle.opam_filter.specs.Variables.{Values}
use Rattle.opam_filter.specs.declared.formula.Braces.{Braces}
use Rattle.opam_filter.specs.declared.formula.Formula.{Formula, roll-Formula}
use Rattle.opam_filter.specs.declared.formula.Formula.TheOpen.{Formula-F}
use Rattle.opam_filter.specs.declared.formula.Formula.TheFolds.{fold-roll-Formula, ind-Formula, map-Formula}
use Rattle.opam_filter.specs.declared.formula.Reduced.{Reduced, roll-Reduced}
use Rattle.opam_filter.specs.declared.formula.Reduced.TheOpen.{Reduced-F}
use Rattle.opam_filter.specs.declared.formula.Reduced.TheFolds.{fold-roll-Reduced, ind-Reduced, map-Reduced}

-- the definitions, one layer at a time
pub left_at : (layer : Reduced-F Reduced) → is_left (roll-Reduced layer) ≡ layer_left (map-Reduced Reduced Bool is_left layer)
left_at = fold-roll-Reduced Bool layer_left

pub holds_at : (set : List Pkg) (layer : Reduced-F Reduced) → holds (roll-Reduced layer) set ≡ layer_holds set (map-Reduced Reduced Bool (λ part. holds part set) layer)
holds_at set = fold-roll-Reduced Bool (layer_holds set)

pub reduced_at : (values : Values) (layer : Formula-F Formula) → reduced values (roll-Formula layer) ≡ layer_reduced values (map-Formula Formula Reduced (reduced values) layer)
reduced_at values = fold-roll-Formula Reduced (layer_reduced values)

module _ (values : Values) (set : List Pkg) where
  answer_at : (layer : Formula-F Formula) → answer values set (roll-Formula layer) ≡ layer_answer values set (map-Formula Formula (Option Bool) (answer values set) layer)
  answer_at = fold-roll-Formula (Option Bool) (layer_answer values set)

  abbrev hold : Reduced → Bool
  hold part = holds part set

  -- whether what is left holds; none where it was dropped
  abbrev said : Reduced → Option Bool
  said part = if is_left part then Some (hold part) else None

  -- what is left says the same as the formula
  abbrev Says : Formula → Type 0
  Says formula = answer values set formula ≡ said (reduced values formula)

  -- formulas, each with a proof beside it
  abbrev formulas : List ((formula : Formula) × Says formula) → List Formula
  formulas parts = map (λ e. e.0) parts

  said_dropped : said dropped ≡ None
  said_dropped = rw (left_at Reduced-F.Dropped) refl

  said_and : (parts : List Reduced) → said (roll-Reduced (Reduced-F.And parts)) ≡ Some (list_all (λ part. part) (map hold parts))
  said_and parts = rw (left_at (Reduced-F.And parts), holds_at set (Reduced-F.And parts)) refl

  said_or : (parts : List Reduced) → said (roll-Reduced (Reduced-F.Or parts)) ≡ Some (list_any (λ part. part) (map hold parts))
  said_or parts = rw (left_at (Reduced-F.Or parts), holds_at set (Reduced-F.Or parts)) refl

  -- of several
  answers : (parts : List ((formula : Formula) × Says formula)) → map (answer values set) (formulas parts) ≡ map said (map (reduced values) (formulas parts))
  answers [] = refl
  answers (e ∷ parts) = cc (e.1, answers parts)

  -- those that are not left out
  kept : (parts : List Reduced) → filter_map (λ part. part) (map said parts) ≡ map hold (filter is_left parts)
  kept [] = refl
  kept (part ∷ parts) = elim (is_left part) as (λ b. cons_option (if b then Some (hold part) else None) (filter_map (λ answer. answer) (map said parts)) ≡ map hold (cond b (part ∷ filter is_left parts) (filter is_left parts))) [
    | true ↦ ap (λ bs. hold part ∷ bs) (kept parts)
    | false ↦ kept parts
  ]

  -- joined by `&` or by `|`
  said_joined : (join : List Bool → Bool) (whole : List Reduced → Reduced) → ((left : List Reduced) → said (whole left) ≡ Some (join (map hold left)))
      → (parts left : List Reduced) → joined_answers join (map said parts) (map hold left) ≡ said (joined whole parts left)
  said_joined join whole says [] [] = rw (says []) refl
  said_joined join whole says (part ∷ parts) [] = rw said_dropped refl
  said_joined join whole says [] (first ∷ more) = rw (says (first ∷ more)) refl
  said_joined join whole says (part ∷ parts) (first ∷ more) = rw (says (first ∷ more)) refl

  says_joined : (join : List Bool → Bool) (whole : List Reduced → Reduced) → ((left : List Reduced) → said (whole left) ≡ Some (join (map hold left)))
      → (parts : List ((formula : Formula) × Says formula))
      → joined_answers join (map (answer values set) (formulas parts)) (filter_map (λ part. part) (map (answer values set) (formulas parts)))
      ≡ said (joined whole (map (reduced values) (formulas parts)) (filter is_left (map (reduced values) (formulas parts))))
  says_joined join whole says parts =
      let left = map (reduced values) (formulas parts) in
      rw (answers parts, kept left) (said_joined join whole says left (filter is_left left))

  says_atom : (name : List ℕ) (braces : Braces) → Says (roll-Formula (Formula-F.Atom name braces))
  says_atom name braces = rw (answer_at (Formula-F.Atom name braces), reduced_at values (Formula-F.Atom name braces))
      (elim (is_kept (test_of values braces)) as (λ b. (if b then Some (list_any (is_met_by name (test_of values braces)) set) else None)
      ≡ said (if b then roll-Reduced (Reduced-F.Atom name (test_of values braces)) else dropped)) [
        | true ↦ rw (left_at (Reduced-F.Atom name (test_of values braces)), holds_at set (Reduced-F.Atom name (test_of values braces))) refl
        | false ↦ rw said_dropped refl
      ])

  says_layer : (layer : Formula-F ((formula : Formula) × Says formula)) → Says (roll-Formula (map-Formula ((formula : Formula) × Says formula) Formula (λ e. e.0) layer))
  says_layer (Formula-F.Atom name braces) = says_atom name braces
  says_layer (Formula-F.And parts) =
      rw (answer_at (Formula-F.And (formulas parts)), reduced_at values (Formula-F.And (formulas parts)))
      (says_joined (list_all (λ part. part)) (λ left. roll-Reduced (Reduced-F.And left)) said_and parts)
  says_layer (Formula-F.Or parts) =
      rw (answer_at (Formula-F.Or (formulas parts)), reduced_at values (Formula-F.Or (formulas parts)))
      (says_joined (list_any (λ part. part)) (λ left. roll-Reduced (Reduced-F.Or left)) said_or parts)

  says : (formula : Formula) → Says formula
  says = ind-Formula Says (λ x y is. subst (λ layer. Says (roll-Formula layer)) is (says_layer y))

  -- what was dropped holds
  abbrev IsSaid : Reduced → Type 0
  IsSaid part = hold part ≡ unwrap_or (said part) true

  is_said : (layer : Reduced-F Reduced) → IsSaid (roll-Reduced layer)
  is_said Reduced-F.Dropped = rw (left_at Reduced-F.Dropped, holds_at set Reduced-F.Dropped) refl
  is_said (Reduced-F.And parts) = rw (left_at (Reduced-F.And parts)) refl
  is_said (Reduced-F.Or parts) = rw (left_at (Reduced-F.Or parts)) refl
  is_said (Reduced-F.Atom name test) = rw (left_at (Reduced-F.Atom name test)) refl

  all_is_said : (part : Reduced) → IsSaid part
  all_is_said = ind-Reduced IsSaid (λ x y is. is_said x)

  says_the_same : (formula : Formula) → holds (reduced values formula) set ≡ unwrap_or (answer values set formula) true
  says_the_same formula = rw (says formula) (all_is_said (reduced values formula))

pub reducing_says_the_same : ReducingSaysTheSame
reducing_says_the_same values formula set = says_the_same values set formula
