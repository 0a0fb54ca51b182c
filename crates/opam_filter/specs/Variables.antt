-- Variables and their values.
use Rattle.std.specs.Prelude.{◌≡◌, ℕ, List, Bool, refl}
use Rattle.std.specs.Coded.{Coded, code_by, coded×, coded⊎, coded_ℕ, coded_bool, coded_list, coded_option}
use Rattle.std.specs.FinMap.{FinMap}
use Rattle.std.specs.Ordering.{nat_cmp, ordering_then}
use Rattle.std.specs.Cmp.Lexicographic.{slice_cmp}
use Rattle.std.specs.declared.cmp.Ordering.{Ordering}
use Rattle.std.specs.Option.{option_cmp}
use Rattle.std.specs.declared.option.Option.{Option}
use Rattle.std.proofs.Common.{◌⊎◌, inl, inr}
use Rattle.syntax_trees.specs.declared.tree.Var.{Var}
use Rattle.opam_filter.specs.declared.truth.VarValue.{VarValue}
use Rattle.opam_filter.specs.declared.truth.VarValue.TheVariants.{Flag, Text}

-- variables stand in the order of their scopes, those without one first, and then of their names
abbrev pub var_cmp : Var → Var → Ordering
var_cmp a b = ordering_then (option_cmp (slice_cmp nat_cmp) a.scope b.scope) (slice_cmp nat_cmp a.name b.name)

-- variables with their values
abbrev pub Values : Type 0
Values = FinMap var_cmp VarValue

-- a variable can be counted, as a part of plain data
abbrev pub coded_var : Coded Var
coded_var = code_by (Option (List ℕ) × List ℕ) (coded× (coded_option (coded_list coded_ℕ)) (coded_list coded_ℕ)) (λ v. (v.scope, v.name)) (λ p. record { scope = p.0; name = p.1 }) (λ _. refl)

-- a value is a boolean or a text
abbrev pub sides : VarValue → Bool ⊎ List ℕ
sides (Flag flag) = inl flag
sides (Text text) = inr text

-- and a boolean or a text is a value
abbrev pub joined_sides : Bool ⊎ List ℕ → VarValue
joined_sides (inl flag) = Flag flag
joined_sides (inr text) = Text text

pub joined_again : (value : VarValue) → joined_sides (sides value) ≡ value
joined_again (Flag flag) = refl
joined_again (Text text) = refl

-- a value can be counted, as a part of plain data
abbrev pub coded_value : Coded VarValue
coded_value = code_by (Bool ⊎ List ℕ) (coded⊎ coded_bool (coded_list coded_ℕ)) sides joined_sides joined_again
