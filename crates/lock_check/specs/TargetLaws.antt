-- Laws of targets. What each says is this project's own.
use Rattle.std.specs.Prelude.{◌≡◌, ℕ, List, [], ◌∷◌, ◌++◌, map, false, bytes_eq, Contains, IsTrue}
use Rattle.std.specs.List.{IsDistinct}
use Rattle.std.specs.declared.option.Option.TheVariants.{None}
use Rattle.opam_filter.specs.Sets.{Rises}
use Rattle.opam_package.specs.Dependencies.{is_forbidden}
use Rattle.opam_package.specs.declared.package.Member.{Member}
use Rattle.lock_check.specs.Chased.{Chased, held_by_name, install_members, next_of}
use Rattle.lock_check.specs.Needed.{IsLeast}
use Rattle.lock_check.specs.Removals.{AreAmong, AreMet, IsLargestMet}
use Rattle.lock_check.specs.Targets.{by_name, member_name}
use Rattle.lock_check.specs.Violations.{all_violations, is_met_among, pkgs_of}
use Rattle.lock_check.specs.declared.violation.Violation.{Violation}

-- two parts in each of which all members are met are such a part together
abbrev pub UnionIsMet : Type 0
UnionIsMet = (one other : List Member) → AreMet one → AreMet other → AreMet (one ++ other)

-- `remove` leaves out no member that would be met beside those that are left; and none at all where all are met
pub record NoneIsLeftOut : Type 0 where
  pub one : (members left : List Member) → IsLargestMet members left → (member : Member) → Contains members member
      → IsTrue (is_met_among (pkgs_of (left ++ member ∷ [])) member.package) → Contains left member
  pub all : (members left : List Member) → IsLargestMet members left → AreMet members → AreAmong members left

-- where nothing stands against members, all items of each are met among them
abbrev pub NothingAgainstIsMet : Type 0
NothingAgainstIsMet = (first : List Violation) (members : List Member) (fresh : List (List ℕ)) → all_violations first members fresh ≡ [] → AreMet members

-- and none of them forbids another one
abbrev pub NothingAgainstIsPeace : Type 0
NothingAgainstIsPeace = (first : List Violation) (members : List Member) (fresh : List (List ℕ)) → all_violations first members fresh ≡ []
    → (one other : Member) → Contains members one → Contains members other → is_forbidden one.package other.package.pkg ≡ false

-- there is one least set at most
abbrev pub LeastIsOne : Type 0
LeastIsOne = (starts : List (List ℕ)) (leads : List ℕ → List (List ℕ)) (one other : List (List ℕ)) → IsLeast starts leads one → IsLeast starts leads other → one ≡ other

-- and one where names lead to some names alone
abbrev pub LeastIsThere : Type 0
LeastIsThere = (starts : List (List ℕ)) (leads : List ℕ → List (List ℕ)) (limit : List (List ℕ))
    → ((name to : List ℕ) → Contains (leads name) to → Contains limit to) → (needed : List (List ℕ)) × IsLeast starts leads needed

-- an `install` for which nothing was read leaves the installed set as it is
abbrev pub InstalledStays : Type 0
InstalledStays = (chased : Chased) (installed : List Member) → IsDistinct bytes_eq (map member_name installed) → Rises chased.bound → chased.installed ≡ held_by_name installed
    → chased.known ≡ [] → chased.unknown ≡ [] → next_of chased ≡ None → install_members chased installed ≡ by_name installed
