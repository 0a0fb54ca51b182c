-- Words of private clauses: what passes over members leave.
use Rattle.std.specs.Prelude.{◌≡◌, ℕ, ◌+◌, ◌≤◌, List, [], ◌∷◌, ◌++◌, length, filter, map, Bool, true, false, not, bytes_eq, drop, Contains, IsTrue, if◌then◌else◌}
use Rattle.std.specs.List.{IsDistinct}
use Rattle.opam_names.specs.declared.packages.Pkg.{Pkg}
use Rattle.opam_filter.specs.Sets.{Rises}
use Rattle.opam_package.specs.declared.package.Member.{Member}
use Rattle.lock_check.specs.declared.removal.Pass.{Pass}
use Rattle.lock_check.specs.Removals.{AreAmong, AreMet}
use Rattle.lock_check.specs.Targets.{member_name}
use Rattle.lock_check.specs.Violations.{is_met_among}

-- the set without packages of a name
abbrev pub set_without : List Pkg → List ℕ → List Pkg
set_without set name = filter (λ (pkg : Pkg). not (bytes_eq pkg.name name)) set

-- a member that is met is kept
abbrev pub pass_after : List Pkg → Member → Pass → Pass
pass_after set member pass =
    if is_met_among set member.package then record { kept = pass.kept ++ member ∷ []; dropped = pass.dropped } else record { kept = pass.kept; dropped = true }

-- another one is no longer in the set
abbrev pub set_after : List Pkg → Member → List Pkg
set_after set member = if is_met_among set member.package then set else set_without set (member_name member)

-- the set is of packages of what is here, and has those of every part of the whole in which each member is met
pub record Covers (from here : List Member) (set : List Pkg) : Type 0 where
  pub some : AreAmong here from
  pub covered : (pkg : Pkg) → Contains set pkg → (member : Member) × Contains here member × (member.package.pkg ≡ pkg)
  pub largest : (other : List Member) → AreAmong other from → AreMet other → (member : Member) → Contains other member → Contains set member.package.pkg

-- one more for members that were dropped
abbrev pub count_of : Bool → ℕ
count_of true = 1
count_of false = 0

-- what a pass keeps of what a set covers
pub record Judges (members : List Member) (before : List Pkg) (pass : Pass) (after : List Pkg) : Type 0 where
  pub covers : (from : List Member) → IsDistinct bytes_eq (map member_name from) → Covers from members before → Covers from pass.kept after
  pub differ : IsDistinct bytes_eq (map member_name members) → IsDistinct bytes_eq (map member_name pass.kept)
  pub met : pass.dropped ≡ false → (member : Member) → Contains pass.kept member → IsTrue (is_met_among after member.package)
  pub shorter : length pass.kept + count_of pass.dropped ≤ length members

-- what a pass over so many members has kept, and those that are left
pub record IsPassing (members : List Member) (before : List Pkg) (done : ℕ) (pass : Pass) (set : List Pkg) : Type 0 where
  pub rises : Rises set
  pub covers : (from : List Member) → IsDistinct bytes_eq (map member_name from) → Covers from members before → Covers from (pass.kept ++ drop done members) set
  pub differ : IsDistinct bytes_eq (map member_name members) → IsDistinct bytes_eq (map member_name (pass.kept ++ drop done members))
  pub met : pass.dropped ≡ false → (member : Member) → Contains pass.kept member → IsTrue (is_met_among set member.package)
  pub shorter : length pass.kept + count_of pass.dropped ≤ done
