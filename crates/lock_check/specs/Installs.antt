-- Words of private clauses: members and names that an install leads to.
use Rattle.std.specs.Prelude.{ℕ, List, filter}
use Rattle.opam_names.specs.declared.packages.Pkg.{Pkg}
use Rattle.opam_package.specs.declared.package.Member.{Member}
use Rattle.lock_check.specs.Found.{is_name_in}
use Rattle.lock_check.specs.Targets.{member_name}
use Rattle.lock_check.specs.declared.targets.Named.{Named}

-- the member in it
abbrev pub inner : Named → Member
inner named = named.member

-- its name
abbrev pub named_name : Named → List ℕ
named_name named = member_name named.member

-- those names that packages of the set have
abbrev pub names_among : List Pkg → List (List ℕ) → List (List ℕ)
names_among set names = filter (is_name_in set) names
