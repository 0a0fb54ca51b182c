-- Words of private clauses: the target of an install by its parts.
use Rattle.std.specs.Prelude.{ℕ, List, ◌++◌, filter, map}
use Rattle.opam_names.specs.ByteOrders.{each_once}
use Rattle.opam_names.specs.declared.packages.Pkg.{Pkg}
use Rattle.opam_package.specs.declared.package.Member.{Member}
use Rattle.opam_package.specs.declared.package.Target.{Target}
use Rattle.lock_check.specs.Chased.{starts, stay, told_unbounds, told_unknown}
use Rattle.lock_check.specs.Targets.{has_member}
use Rattle.lock_check.specs.Violations.{all_violations}
use Rattle.lock_check.specs.declared.progress.Sources.{Sources}
use Rattle.lock_check.specs.declared.violation.Violation.{Violation}

-- the members, before they are put into order
abbrev pub all_of : Sources → List (List ℕ) → List Member → List Member → List Member
all_of sources needed installed known = stay sources.bound needed installed ++ known

-- the roots of before that are members, and the names that are asked for
abbrev pub roots_of : Sources → List Member → List (List ℕ) → List (List ℕ)
roots_of sources members roots = each_once (filter (has_member members) roots ++ starts sources.bound sources.asked)

-- what stands against a target
abbrev pub told_of_all : Sources → List Pkg → Target → List Violation
told_of_all sources unknown target =
    all_violations (told_unbounds sources.bound sources.asked ++ map told_unknown unknown) target.members target.fresh
