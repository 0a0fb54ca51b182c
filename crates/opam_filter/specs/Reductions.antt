-- What is left of a formula once its filters are answered (opam manual, package formulas).
use Rattle.std.specs.Prelude.{ℕ, List, [], ◌∷◌, filter, Bool, true, false, if◌then◌else◌}
use Rattle.std.specs.Option.{option_map}
use Rattle.std.specs.declared.option.Option.{Option}
use Rattle.std.specs.declared.option.Option.TheVariants.{None, Some}
use Rattle.opam_names.specs.Orders.{text_order}
use Rattle.syntax_trees.specs.declared.tree.RelOp.{RelOp}
use Rattle.opam_filter.specs.Truths.{all_of, any_of, is_related, is_yes, truth_of_flag, word_of}
use Rattle.opam_filter.specs.Values.{filter_truth, filter_value}
use Rattle.opam_filter.specs.Variables.{Values}
use Rattle.opam_filter.specs.declared.formula.Braces.{Braces}
use Rattle.opam_filter.specs.declared.formula.Braces.TheOpen.{Braces-F}
use Rattle.opam_filter.specs.declared.formula.Braces.TheFolds.{fold-Braces}
use Rattle.opam_filter.specs.declared.formula.Formula.{Formula}
use Rattle.opam_filter.specs.declared.formula.Formula.TheOpen.{Formula-F}
use Rattle.opam_filter.specs.declared.formula.Formula.TheFolds.{fold-Formula}
use Rattle.opam_filter.specs.declared.formula.Reduced.{Reduced, roll-Reduced}
use Rattle.opam_filter.specs.declared.formula.Reduced.TheOpen.{Reduced-F}
use Rattle.opam_filter.specs.declared.formula.Reduced.TheFolds.{fold-Reduced}
use Rattle.opam_filter.specs.declared.formula.Test.{Test, roll-Test}
use Rattle.opam_filter.specs.declared.formula.Test.TheOpen.{Test-F}
use Rattle.opam_filter.specs.declared.formula.Test.TheFolds.{fold-Test}
use Rattle.opam_filter.specs.declared.truth.Truth.{Truth}
use Rattle.opam_filter.specs.declared.truth.Truth.TheVariants.{Yes, No}

-- braces with their filters and right sides answered
abbrev pub layer_test : Values → Braces-F Test → Test
layer_test values (Braces-F.Filter filter) = roll-Test (Test-F.Known (filter_truth values filter))
layer_test values (Braces-F.Version op right) = roll-Test (Test-F.Version op (option_map word_of (filter_value values right)))
layer_test values (Braces-F.And parts) = roll-Test (Test-F.And parts)
layer_test values (Braces-F.Or parts) = roll-Test (Test-F.Or parts)

-- braces as a test
abbrev pub test_of : Values → Braces → Test
test_of values = fold-Braces Test (layer_test values)

-- the truth of a test, by what its constraints on the version are taken for
abbrev pub layer_truth : (RelOp → Option (List ℕ) → Truth) → Test-F Truth → Truth
layer_truth constraint (Test-F.Known truth) = truth
layer_truth constraint (Test-F.Version op right) = constraint op right
layer_truth constraint (Test-F.And parts) = all_of parts
layer_truth constraint (Test-F.Or parts) = any_of parts

-- the truth of a whole test
abbrev pub test_truth : (RelOp → Option (List ℕ) → Truth) → Test → Truth
test_truth constraint = fold-Test Truth (layer_truth constraint)

-- each constraint counts as true
abbrev pub any_version : RelOp → Option (List ℕ) → Truth
any_version op right = Yes

-- an undefined right side is met by no version
abbrev pub at_version : List ℕ → RelOp → Option (List ℕ) → Truth
at_version version op None = No
at_version version op (Some right) = truth_of_flag (is_related op (text_order version right))

-- an atom is kept where its braces are Yes with every constraint on the version counted as true
abbrev pub is_kept : Test → Bool
is_kept test = is_yes (test_truth any_version test)

-- and is met by a version where they are Yes at that one
abbrev pub is_met : Test → List ℕ → Bool
is_met test version = is_yes (test_truth (at_version version) test)

-- a formula of which nothing is left
abbrev pub dropped : Reduced
dropped = roll-Reduced Reduced-F.Dropped

-- whether it is not dropped
abbrev pub layer_left : Reduced-F Bool → Bool
layer_left Reduced-F.Dropped = false
layer_left (Reduced-F.And parts) = true
layer_left (Reduced-F.Or parts) = true
layer_left (Reduced-F.Atom name test) = true

-- whether anything is left
abbrev pub is_left : Reduced → Bool
is_left = fold-Reduced Bool layer_left

-- dropped parts are left out; where there were parts and none is left, the whole is dropped
abbrev pub joined : (List Reduced → Reduced) → List Reduced → List Reduced → Reduced
joined join [] [] = join []
joined join (part ∷ parts) [] = dropped
joined join parts (first ∷ more) = join (first ∷ more)

-- what is left of a formula, from what is left of its parts
abbrev pub layer_reduced : Values → Formula-F Reduced → Reduced
layer_reduced values (Formula-F.Atom name braces) =
    if is_kept (test_of values braces) then roll-Reduced (Reduced-F.Atom name (test_of values braces)) else dropped
layer_reduced values (Formula-F.And parts) = joined (λ left. roll-Reduced (Reduced-F.And left)) parts (filter is_left parts)
layer_reduced values (Formula-F.Or parts) = joined (λ left. roll-Reduced (Reduced-F.Or left)) parts (filter is_left parts)

-- what is left of a formula
abbrev pub reduced : Values → Formula → Reduced
reduced values = fold-Formula Reduced (layer_reduced values)

-- what a constraint is taken for at a version, or where none is given
abbrev pub counted : Option (List ℕ) → RelOp → Option (List ℕ) → Truth
counted None = any_version
counted (Some version) = at_version version
