-- Words of private clauses: names that are looked up in a set of packages.
use Rattle.std.specs.Prelude.{ℕ, List, filter, map, Bool, not}
use Rattle.std.specs.List.{list_any}
use Rattle.opam_names.specs.ByteOrders.{has_key}
use Rattle.opam_names.specs.declared.packages.Pkg.{Pkg}
use Rattle.lock_check.specs.Targets.{told_absent}
use Rattle.lock_check.specs.declared.violation.Violation.{Violation}

-- a package of the set has the name
abbrev pub is_name_in : List Pkg → List ℕ → Bool
is_name_in set name = list_any (has_key (λ (pkg : Pkg). pkg.name) name) set

-- what is told of names that none has
abbrev pub absents_in : List Pkg → List (List ℕ) → List Violation
absents_in set names = map told_absent (filter (λ name. not (is_name_in set name)) names)
