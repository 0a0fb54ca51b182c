-- Laws of texts, filters and formulas.
use Rattle.std.specs.Prelude.{◌⊎◌, ◌≡◌, ℕ, List, [], ◌∷◌, ◌++◌, Bool, true, false, not, bytes_eq, codes, ◌&&◌, ◌||◌, IsTrue, Contains, is_none, if◌then◌else◌}
use Rattle.std.specs.FinMap.{get}
use Rattle.std.specs.List.{flat_map, list_all, list_any, filter_map}
use Rattle.std.specs.Option.{unwrap_or, option_and_then}
use Rattle.std.specs.declared.option.Option.{Option}
use Rattle.std.specs.declared.option.Option.TheVariants.{None, Some}
use Rattle.opam_names.specs.Names.{is_name}
use Rattle.opam_names.specs.declared.packages.Pkg.{Pkg}
use Rattle.syntax_trees.specs.declared.tree.Var.{Var}
use Rattle.opam_names.specs.ByteOrders.{RisesBy}
use Rattle.opam_filter.specs.Asked.{asked, asked_in, names_in, names_in_text}
use Rattle.opam_filter.specs.Faults.{comes_before, earlier, earliest}
use Rattle.opam_filter.specs.Reductions.{is_kept, is_left, reduced, test_of}
use Rattle.opam_filter.specs.Sets.{holds, is_met_by, kept_names, names}
use Rattle.opam_filter.specs.Texts.{Hole, Parts, closed, expanded, opened, parts_of}
use Rattle.opam_filter.specs.Values.{filter_value}
use Rattle.opam_filter.specs.Variables.{Values}
use Rattle.opam_filter.specs.declared.fault.FilterFault.{FilterFault}
use Rattle.opam_filter.specs.declared.filter.Filter.{Filter}
use Rattle.opam_filter.specs.declared.formula.Formula.{Formula}
use Rattle.opam_filter.specs.declared.formula.Formula.TheOpen.{Formula-F}
use Rattle.opam_filter.specs.declared.formula.Formula.TheFolds.{fold-Formula}
use Rattle.opam_filter.specs.declared.formula.Reduced.{Reduced}
use Rattle.opam_filter.specs.declared.formula.Reduced.TheOpen.{Reduced-F}
use Rattle.opam_filter.specs.declared.formula.Reduced.TheFolds.{fold-Reduced}
use Rattle.opam_filter.specs.declared.formula.Test.{Test}
use Rattle.opam_filter.specs.declared.formula.Test.TheOpen.{Test-F}
use Rattle.opam_filter.specs.declared.formula.Test.TheFolds.{fold-Test}

-- an interpolation as it is written
abbrev pub hole_text : Hole → List ℕ
hole_text hole = hole.before ++ codes "%{" ++ hole.inside ++ codes "}%"

-- no `%{` stands before it, and no `}%` in it
abbrev pub is_first : Hole → Bool
is_first hole = is_none (opened hole.before) && is_none (closed hole.inside)

-- the parts of a text are the text, each interpolation goes from the first `%{` up to the next `}%`, and none is left
pub record AreParts (text : List ℕ) (parts : Parts) : Type 0 where
  pub whole : flat_map hole_text parts.holes ++ parts.rest ≡ text
  pub each : IsTrue (list_all is_first parts.holes)
  pub rest : option_and_then (λ opening. closed opening.after) (opened parts.rest) ≡ None

-- that holds of the parts of every text
abbrev pub TextsAreCut : Type 0
TextsAreCut = (text : List ℕ) → AreParts text (parts_of text)

-- a variable is looked up with no package name, or with one of these
abbrev pub is_scope_among : List (List ℕ) → Option (List ℕ) → Bool
is_scope_among names None = true
is_scope_among names (Some scope) = not (is_name scope) || list_any (bytes_eq scope) names

-- maps that give the same values to variables without a package name, and to those with one of these
abbrev pub AgreeOn : List (List ℕ) → Values → Values → Type 0
AgreeOn names values others = (variable : Var) → IsTrue (is_scope_among names variable.scope) → get values variable ≡ get others variable

-- of the packages, the value of a filter depends on those that it asks for alone, and so does a text
pub record AskedIsEnough : Type 0 where
  pub filters : (filter : Filter) (values others : Values) → AgreeOn (asked filter) values others → filter_value values filter ≡ filter_value others filter
  pub texts : (text : List ℕ) (values others : Values) → AgreeOn (asked_in text) values others → expanded values text ≡ expanded others text

-- the formula read directly: none where it is left out, else whether the set meets it
abbrev pub joined_answers : (List Bool → Bool) → List (Option Bool) → List Bool → Option Bool
joined_answers join [] [] = Some (join [])
joined_answers join (part ∷ parts) [] = None
joined_answers join parts (first ∷ more) = Some (join (first ∷ more))

-- from the answers of its parts
abbrev pub layer_answer : Values → List Pkg → Formula-F (Option Bool) → Option Bool
layer_answer values set (Formula-F.Atom name braces) =
    if is_kept (test_of values braces) then Some (list_any (is_met_by name (test_of values braces)) set) else None
layer_answer values set (Formula-F.And parts) = joined_answers (list_all (λ part. part)) parts (filter_map (λ part. part) parts)
layer_answer values set (Formula-F.Or parts) = joined_answers (list_any (λ part. part)) parts (filter_map (λ part. part) parts)

-- whether a set meets the formula, or none where it is left out
abbrev pub answer : Values → List Pkg → Formula → Option Bool
answer values set = fold-Formula (Option Bool) (layer_answer values set)

-- to reduce a formula and ask what is left says the same as to read it directly, where what is left out holds
abbrev pub ReducingSaysTheSame : Type 0
ReducingSaysTheSame = (values : Values) (formula : Formula) (set : List Pkg) → holds (reduced values formula) set ≡ unwrap_or (answer values set formula) true

-- whether there is a constraint on the version
abbrev pub layer_constrained : Test-F Bool → Bool
layer_constrained (Test-F.Known truth) = false
layer_constrained (Test-F.Version op right) = true
layer_constrained (Test-F.And parts) = list_any (λ part. part) parts
layer_constrained (Test-F.Or parts) = list_any (λ part. part) parts

-- the same of a whole test
abbrev pub is_constrained : Test → Bool
is_constrained = fold-Test Bool layer_constrained

-- whether some atom is so constrained
abbrev pub layer_versioned : Reduced-F Bool → Bool
layer_versioned Reduced-F.Dropped = false
layer_versioned (Reduced-F.And parts) = list_any (λ part. part) parts
layer_versioned (Reduced-F.Or parts) = list_any (λ part. part) parts
layer_versioned (Reduced-F.Atom name test) = is_constrained test

-- the same of a whole formula
abbrev pub is_versioned : Reduced → Bool
is_versioned = fold-Reduced Bool layer_versioned

-- the set has a package of that name
abbrev pub has_name : List Pkg → List ℕ → Bool
has_name set name = list_any (λ pkg. bytes_eq pkg.name name) set

-- what holds of a set holds of one with more packages; and, where no version is asked for, of one with the same names and more
pub record HoldingIsMonotone : Type 0 where
  pub packages : (reduced : Reduced) (set more : List Pkg) → ((pkg : Pkg) → Contains set pkg → Contains more pkg)
      → IsTrue (holds reduced set) → IsTrue (holds reduced more)
  pub names : (reduced : Reduced) (set more : List Pkg) → is_versioned reduced ≡ false → ((name : List ℕ) → IsTrue (has_name set name) → IsTrue (has_name more name))
      → IsTrue (holds reduced set) → IsTrue (holds reduced more)

-- whether every atom is dropped, and no `or` is without parts
abbrev pub layer_wholly : Values → Formula-F Bool → Bool
layer_wholly values (Formula-F.Atom name braces) = not (is_kept (test_of values braces))
layer_wholly values (Formula-F.And parts) = list_all (λ part. part) parts
layer_wholly values (Formula-F.Or []) = false
layer_wholly values (Formula-F.Or (part ∷ parts)) = part && list_all (λ part. part) parts

-- the same of a whole formula
abbrev pub is_wholly_dropped : Values → Formula → Bool
is_wholly_dropped values = fold-Formula Bool (layer_wholly values)

-- a formula all of whose atoms are dropped holds of every set
abbrev pub DroppedHolds : Type 0
DroppedHolds = (values : Values) (formula : Formula) (set : List Pkg) → IsTrue (is_wholly_dropped values formula) → IsTrue (holds (reduced values formula) set)

-- the fault is one of these
abbrev pub IsAmong : FilterFault → List (Option FilterFault) → Type 0
IsAmong fault [] = ⊥
IsAmong fault (first ∷ more) = (first ≡ Some fault) ⊎ IsAmong fault more

-- the fault that is told of several is one of them, and none of them comes before it; none is told where there is none
pub record IsTold (faults : List (Option FilterFault)) : Type 0 where
  pub one : (first : FilterFault) → earliest faults ≡ Some first → IsAmong first faults
  pub first : (first other : FilterFault) → earliest faults ≡ Some first → IsAmong other faults → comes_before other first ≡ false
  pub none : (other : FilterFault) → earliest faults ≡ None → IsAmong other faults → ⊥

-- and it does not matter how they are grouped
pub record FirstFaultIsTold : Type 0 where
  pub told : (faults : List (Option FilterFault)) → IsTold faults
  pub grouped : (faults others : List (Option FilterFault)) → earliest (faults ++ others) ≡ earlier (earliest faults) (earliest others)

-- names that are found stand in the order of their bytes, each once, and are those of the plain list
pub record AreEachOnce (plain found : List (List ℕ)) : Type 0 where
  pub rising : RisesBy (λ name. name) found
  pub members : (name : List ℕ) → list_any (bytes_eq name) found ≡ list_any (bytes_eq name) plain

-- so are the names that a filter or a text asks for, and those of what is left of a formula
pub record NamesRise : Type 0 where
  pub filters : (filter : Filter) → AreEachOnce (names_in filter) (asked filter)
  pub texts : (text : List ℕ) → AreEachOnce (names_in_text text) (asked_in text)
  pub left : (reduced : Reduced) → AreEachOnce (kept_names reduced) (names reduced)

-- whether nothing in it was dropped
abbrev pub layer_whole : Reduced-F Bool → Bool
layer_whole Reduced-F.Dropped = false
layer_whole (Reduced-F.And parts) = list_all (λ part. part) parts
layer_whole (Reduced-F.Or parts) = list_all (λ part. part) parts
layer_whole (Reduced-F.Atom name test) = true

-- nothing inside is dropped
abbrev pub is_whole : Reduced → Bool
is_whole = fold-Reduced Bool layer_whole

-- a formula is dropped as a whole, or nothing that was dropped is left in it
abbrev pub NothingIsDroppedInside : Type 0
NothingIsDroppedInside = (values : Values) (formula : Formula) → is_left (reduced values formula) ≡ true → IsTrue (is_whole (reduced values formula))
