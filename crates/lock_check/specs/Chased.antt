-- What an `install` comes to while packages are read one after another (this project's own).
use Rattle.std.specs.Prelude.{◌≡◌, ℕ, ◌-◌, ◌^◌, min, List, [], ◌∷◌, ◌++◌, filter, find, length, map, Bool, true, false, not, bytes_eq, ◌&&◌, is_none, if◌then◌else◌, Contains}
use Rattle.std.specs.List.{list_any}
use Rattle.std.specs.declared.option.Option.{Option}
use Rattle.std.specs.declared.option.Option.TheVariants.{None, Some}
use Rattle.opam_names.specs.ByteOrders.{each_once, has_key, in_order_by}
use Rattle.opam_names.specs.declared.packages.Pkg.{Pkg}
use Rattle.opam_package.specs.declared.package.Member.{Member}
use Rattle.opam_package.specs.declared.package.Target.{Target}
use Rattle.lock_check.specs.Needed.{IsLeast, full_names}
use Rattle.lock_check.specs.Targets.{by_name, has_member, member_name}
use Rattle.lock_check.specs.Violations.{all_violations}
use Rattle.lock_check.specs.declared.answer.Answer.{Answer}
use Rattle.lock_check.specs.declared.answer.Answer.TheVariants.{Known, Unknown}
use Rattle.lock_check.specs.declared.held.Held.{Held}
use Rattle.lock_check.specs.declared.violation.Violation.{Violation}
use Rattle.lock_check.specs.declared.violation.What.TheVariants as what
use Rattle.lock_check.specs.declared.violation.Who.TheVariants as who

-- what is installed, and what was bound, asked for and given so far; and the names that are needed by that
pub record Chased : Type 0 where
  pub installed : List Held
  pub bound : List Pkg
  pub asked : List (List ℕ)
  pub known : List Member
  pub unknown : List Pkg
  pub needed : List (List ℕ)

-- what is kept in mind of an installed package: itself, and the names in its full formulas
abbrev pub held_of : Member → Held
held_of member = record { pkg = member.package.pkg; names = full_names member.package }

-- its name
abbrev pub held_name : Held → List ℕ
held_name held = held.pkg.name

-- the same of each, in the byte order of their names
abbrev pub held_by_name : List Member → List Held
held_by_name members = in_order_by held_name (map held_of members)

-- the name of a package
abbrev pub pkg_name : Pkg → List ℕ
pkg_name pkg = pkg.name

-- a name is one of these
abbrev pub is_among : List (List ℕ) → List ℕ → Bool
is_among names name = list_any (bytes_eq name) names

-- one of the packages has the name
abbrev pub has_pkg : List Pkg → List ℕ → Bool
has_pkg pkgs name = list_any (has_key pkg_name name) pkgs

-- the names that are asked for: all that are bound where none is
abbrev pub starts : List Pkg → List (List ℕ) → List (List ℕ)
starts bound [] = map pkg_name bound
starts bound (name ∷ names) = name ∷ names

-- what is kept in mind of a package of that name, where it is the bound one, by the text of the version too
abbrev pub stored_of : Option Held → Pkg → Option Held
stored_of None pkg = None
stored_of (Some held) pkg = if bytes_eq held.pkg.version pkg.version then Some held else None

-- the same among all that are installed
abbrev pub stored_in : List Held → Pkg → Option Held
stored_in installed pkg = stored_of (find (has_key held_name pkg.name) installed) pkg

-- the names in the formulas of a package that is installed so
abbrev pub names_held : Option Held → List (List ℕ)
names_held None = []
names_held (Some held) = held.names

-- and of one that was given
abbrev pub names_given : Option Member → List (List ℕ)
names_given None = []
names_given (Some member) = full_names member.package

-- the names in the formulas of the package that is bound to a name, as far as it is known
abbrev pub formula_names : Chased → Option Pkg → List (List ℕ)
formula_names chased None = []
formula_names chased (Some pkg) =
    names_held (stored_in chased.installed pkg) ++ names_given (find (has_key member_name pkg.name) chased.known)

-- the package that is bound to a name
abbrev pub bound_to : List Pkg → List ℕ → Option Pkg
bound_to bound name = find (has_key pkg_name name) bound

-- those names that are bound
abbrev pub bound_among : List Pkg → List (List ℕ) → List (List ℕ)
bound_among bound names = filter (has_pkg bound) names

-- a name leads to those of them that are bound
abbrev pub leads : Chased → List ℕ → List (List ℕ)
leads chased name = bound_among chased.bound (formula_names chased (bound_to chased.bound name))

-- the needed names are the least that have those that are asked for, and all to which each of them leads
abbrev pub IsNeeded : Chased → Type 0
IsNeeded chased = IsLeast (starts chased.bound chased.asked) (leads chased) chased.needed

-- each that was read is needed
abbrev pub AreReadNeeded : Chased → Type 0
AreReadNeeded chased = (member : Member) → Contains chased.known member → is_among chased.needed (member_name member) ≡ true

-- a bound package is to be read: it is needed, not installed at that version, and was not read
abbrev pub is_awaited : Chased → Pkg → Bool
is_awaited chased pkg =
    is_among chased.needed pkg.name && is_none (stored_in chased.installed pkg)
    && not (has_member chased.known pkg.name) && not (has_pkg chased.unknown pkg.name)

-- the next one is the least of these by name, for bound packages stand in the byte order of their names
abbrev pub next_of : Chased → Option Pkg
next_of chased = find (is_awaited chased) chased.bound

-- an answer on a package that is asked for
abbrev pub IsAnswer : Option Pkg → Answer → Type 0
IsAnswer None answer = ⊥
IsAnswer (Some pkg) Unknown = Unit {0}
IsAnswer (Some pkg) (Known member) = member.package.pkg ≡ pkg

-- the members that an answer gives
abbrev pub known_in : Answer → List Member
known_in Unknown = []
known_in (Known member) = member ∷ []

-- the packages of which it says that there is none
abbrev pub unknown_in : Option Pkg → Answer → List Pkg
unknown_in None answer = []
unknown_in (Some pkg) Unknown = pkg ∷ []
unknown_in (Some pkg) (Known member) = []

-- how many names are installed or needed, up to the greatest number
abbrev pub count_of : Chased → ℕ
count_of chased = min (length (each_once (map held_name chased.installed ++ chased.needed))) (2 ^ 32 - 1)

-- another version is bound
abbrev pub is_other_version : Option Pkg → Pkg → Bool
is_other_version None pkg = false
is_other_version (Some bound) pkg = not (bytes_eq bound.version pkg.version)

-- a member is to go: another version is bound to its name, and the name is needed
abbrev pub is_replaced : List Pkg → List (List ℕ) → Member → Bool
is_replaced bound needed member =
    is_other_version (bound_to bound (member_name member)) member.package.pkg && is_among needed (member_name member)

-- the others stay
abbrev pub stay : List Pkg → List (List ℕ) → List Member → List Member
stay bound needed installed = filter (λ (member : Member). not (is_replaced bound needed member)) installed

-- the installed ones that stay, and those that were read, in the byte order of their names
abbrev pub install_members : Chased → List Member → List Member
install_members chased installed = by_name (stay chased.bound chased.needed installed ++ chased.known)

-- `install`: each needed name that is bound at its bound version, in place of any other; all else as it is installed.
-- The roots are those of before that are members, and the names that are asked for
abbrev pub install_target : Chased → List Member → List (List ℕ) → Target
install_target chased installed roots = record {
  members = install_members chased installed;
  redo = [];
  fresh = in_order_by (λ name. name) (map member_name chased.known);
  roots = each_once (filter (has_member (install_members chased installed)) roots ++ starts chased.bound chased.asked);
}

-- it is told of a name that is asked for and not bound
abbrev pub told_unbound : List ℕ → Violation
told_unbound name = record { who = who.Name name; what = what.Unknown }

-- of each of these
abbrev pub told_unbounds : List Pkg → List (List ℕ) → List Violation
told_unbounds bound asked = map told_unbound (filter (λ name. not (has_pkg bound name)) asked)

-- it is told of a package that is not in the repository
abbrev pub told_unknown : Pkg → Violation
told_unknown pkg = record { who = who.Pkg pkg; what = what.Unknown }

-- what stands against an `install`: those, and all that stands against the members
abbrev pub install_violations : Chased → Target → List Violation
install_violations chased target =
    all_violations (told_unbounds chased.bound chased.asked ++ map told_unknown chased.unknown) target.members target.fresh
