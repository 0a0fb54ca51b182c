-- What `remove` leaves of a switch (this project's own).
use Rattle.std.specs.Prelude.{◌≡◌, ℕ, List, [], filter, not, bytes_eq, Contains, IsTrue}
use Rattle.std.specs.List.{list_any}
use Rattle.opam_names.specs.ByteOrders.{RisesBy}
use Rattle.opam_package.specs.declared.package.Member.{Member}
use Rattle.opam_package.specs.declared.package.Target.{Target}
use Rattle.lock_check.specs.Targets.{has_member, member_name, told_absents}
use Rattle.lock_check.specs.Violations.{all_violations, is_met_among, pkgs_of}
use Rattle.lock_check.specs.declared.violation.Violation.{Violation}

-- all items of each member are met among the members
abbrev pub AreMet : List Member → Type 0
AreMet members = (member : Member) → Contains members member → IsTrue (is_met_among (pkgs_of members) member.package)

-- each of the first is one of the others
abbrev pub AreAmong : List Member → List Member → Type 0
AreAmong some members = (member : Member) → Contains some member → Contains members member

-- the largest part of members in which all items of each are met, in the byte order of names
pub record IsLargestMet (members left : List Member) : Type 0 where
  pub rises : RisesBy member_name left
  pub some : AreAmong left members
  pub met : AreMet left
  pub largest : (other : List Member) → AreAmong other members → AreMet other → AreAmong other left

-- the installed ones that are not named
abbrev pub not_named : List Member → List (List ℕ) → List Member
not_named installed names = filter (λ (member : Member). not (list_any (bytes_eq (member_name member)) names)) installed

-- `remove`: the largest such part of those that are not named. Of the roots those stay that are left
pub record IsRemoved (installed : List Member) (names asked : List (List ℕ)) (target : Target) : Type 0 where
  pub members : IsLargestMet (not_named installed names) target.members
  pub redo : target.redo ≡ []
  pub fresh : target.fresh ≡ []
  pub roots : target.roots ≡ filter (has_member target.members) asked

-- what stands against that: names that are not installed, and all that stands against what is left
abbrev pub remove_violations : List Member → List (List ℕ) → List Member → List Violation
remove_violations installed names left = all_violations (told_absents installed names) left []
