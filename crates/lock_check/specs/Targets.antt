-- What a switch is to become (this project's own).
use Rattle.std.specs.Prelude.{ℕ, List, [], filter, map, Bool, not}
use Rattle.std.specs.List.{list_any}
use Rattle.opam_names.specs.ByteOrders.{has_key, in_order_by}
use Rattle.opam_package.specs.declared.package.Member.{Member}
use Rattle.opam_package.specs.declared.package.Target.{Target}
use Rattle.lock_check.specs.Violations.{all_violations}
use Rattle.lock_check.specs.declared.violation.Violation.{Violation}
use Rattle.lock_check.specs.declared.violation.What.TheVariants.{NotInstalled}
use Rattle.lock_check.specs.declared.violation.Who.TheVariants as who

-- the name of a member
abbrev pub member_name : Member → List ℕ
member_name member = member.package.pkg.name

-- a member has the name
abbrev pub has_member : List Member → List ℕ → Bool
has_member members name = list_any (has_key member_name name) members

-- members in the byte order of their names
abbrev pub by_name : List Member → List Member
by_name members = in_order_by member_name members

-- it is told of a name that it is not installed
abbrev pub told_absent : List ℕ → Violation
told_absent name = record { who = who.Name name; what = NotInstalled }

-- the same of each name that is not
abbrev pub told_absents : List Member → List (List ℕ) → List Violation
told_absents installed names = map told_absent (filter (λ name. not (has_member installed name)) names)

-- `reinstall`: the installed set; those of the named ones that are installed are built once more. Of the roots those stay that
-- are installed
abbrev pub reinstalled : List Member → List (List ℕ) → List (List ℕ) → Target
reinstalled installed names roots = record {
  members = by_name installed;
  redo = filter (has_member installed) names;
  fresh = [];
  roots = filter (has_member installed) roots;
}

-- what stands against that: names that are not installed, and all that stands against the installed ones
abbrev pub reinstall_violations : List Member → List (List ℕ) → List Violation
reinstall_violations installed names = all_violations (told_absents installed names) (by_name installed) []
