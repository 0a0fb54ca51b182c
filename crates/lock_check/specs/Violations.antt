-- What stands against a target (opam manual, package formulas; file format: opam, depends, conflicts, conflict-class, available).
-- Which kinds there are, and their order, is this project's own.
use Rattle.std.specs.Prelude.{ℕ, ◌+◌, List, [], ◌∷◌, ◌++◌, filter, find, map, min, ◌^◌, ◌-◌, Bool, not, bytes_eq, ◌&&◌, if◌then◌else◌}
use Rattle.std.specs.List.{flat_map, list_all, list_any}
use Rattle.std.specs.declared.option.Option.{Option}
use Rattle.std.specs.declared.option.Option.TheVariants.{None, Some}
use Rattle.opam_names.specs.ByteOrders.{in_order_by}
use Rattle.opam_names.specs.declared.packages.Pkg.{Pkg}
use Rattle.opam_filter.specs.NameSets.{with_name}
use Rattle.opam_filter.specs.Sets.{holds}
use Rattle.opam_package.specs.Dependencies.{is_forbidden, is_other}
use Rattle.opam_package.specs.declared.package.Member.{Member}
use Rattle.opam_package.specs.declared.package.Need.{Need}
use Rattle.opam_package.specs.declared.package.Package.{Package}
use Rattle.lock_check.specs.declared.violation.Violation.{Violation}
use Rattle.lock_check.specs.declared.violation.What.{What}
use Rattle.lock_check.specs.declared.violation.What.TheVariants.{Unavailable, Unmet, Conflict, Class, Refused}
use Rattle.lock_check.specs.declared.violation.Who.{Who}
use Rattle.lock_check.specs.declared.violation.Who.TheVariants as who

-- the name of what a violation is told of
abbrev pub who_name : Who → List ℕ
who_name (who.Name name) = name
who_name (who.Pkg pkg) = pkg.name

-- a violation stands by that name
abbrev pub violation_name : Violation → List ℕ
violation_name violation = who_name violation.who

-- the packages of members
abbrev pub pkgs_of : List Member → List Pkg
pkgs_of members = map (λ (member : Member). member.package.pkg) members

-- an item of `depends` is met where all three readings of it hold
abbrev pub is_need_met : List Pkg → Need → Bool
is_need_met set need = holds need.runtime set && holds need.building set && holds need.full set

-- all items of a package are met
abbrev pub is_met_among : List Pkg → Package → Bool
is_met_among set dependent = list_all (is_need_met set) dependent.items

-- a package whose text came from the repository is not available
abbrev pub unavailable : Bool → Package → List What
unavailable fresh dependent = if fresh && not dependent.available then Unavailable ∷ [] else []

-- numbers of items, counted from 1, stand still at the last one
abbrev pub next_item : ℕ → ℕ
next_item number = min (number + 1) (2 ^ 32 - 1)

-- the items that are not met, by their numbers from this one on
abbrev pub unmet_from : List Pkg → ℕ → List Need → List What
unmet_from set number [] = []
unmet_from set number (need ∷ needs) =
    (if is_need_met set need then [] else Unmet number ∷ []) ++ unmet_from set (next_item number) needs

-- the members that a package forbids, by name
abbrev pub conflicts_among : List Pkg → Package → List What
conflicts_among set dependent = map Conflict (filter (is_forbidden dependent) set)

-- another member has the class
abbrev pub shares_class : Package → List ℕ → Member → Bool
shares_class dependent class member = is_other dependent member.package.pkg && list_any (bytes_eq class) member.package.classes

-- it is told of the least one by name
abbrev pub class_with : List ℕ → Option Member → List What
class_with class None = []
class_with class (Some member) = Class class member.package.pkg ∷ []

-- the classes that a package shares, behind others that were told already: each once, in its own order
abbrev pub shared_behind : List Member → Package → List (List ℕ) → List (List ℕ) → List What
shared_behind members dependent told [] = []
shared_behind members dependent told (class ∷ more) =
    (if list_any (bytes_eq class) told then [] else class_with class (find (shares_class dependent class) members))
    ++ shared_behind members dependent (with_name told class) more

-- the refused fields of a package whose text came from the repository
abbrev pub refused_in : Bool → Package → List What
refused_in fresh dependent = if fresh then map Refused dependent.refused else []

-- all that stands against a member, kind by kind
abbrev pub whats_of : List Member → Bool → Package → List What
whats_of members fresh dependent =
    unavailable fresh dependent ++ unmet_from (pkgs_of members) 1 dependent.items ++ conflicts_among (pkgs_of members) dependent
    ++ shared_behind members dependent [] dependent.classes ++ refused_in fresh dependent

-- it is told of the package
abbrev pub told_of : Pkg → What → Violation
told_of pkg what = record { who = who.Pkg pkg; what = what }

-- the text of a member came from the repository
abbrev pub is_from_repository : List (List ℕ) → Member → Bool
is_from_repository fresh member = list_any (bytes_eq member.package.pkg.name) fresh

-- all that stands against some of the members
abbrev pub violations_of_some : List Member → List (List ℕ) → List Member → List Violation
violations_of_some members fresh some =
    flat_map (λ (member : Member). map (told_of member.package.pkg) (whats_of members (is_from_repository fresh member) member.package)) some

-- and against all
abbrev pub violations_among : List Member → List (List ℕ) → List Violation
violations_among members fresh = violations_of_some members fresh members

-- with what is told of names and packages that are no members: by name, then kind, then place
abbrev pub all_violations : List Violation → List Member → List (List ℕ) → List Violation
all_violations first members fresh = in_order_by violation_name (first ++ violations_among members fresh)
