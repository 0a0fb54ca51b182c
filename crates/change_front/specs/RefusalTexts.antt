-- What is said of refusals, a line for each violation and one for any other refusal. This project's own.
use Rattle.std.specs.Prelude.{ℕ, List, [], ◌∷◌, ◌++◌, codes, decimal}
use Rattle.std.specs.List.{flat_map}
use Rattle.opam_names.specs.Packages.{pkg_text}
use Rattle.opam_names.specs.declared.packages.Pkg.{Pkg}
use Rattle.opam_lint.specs.FindingTexts.{fault_text}
use Rattle.opam_lint.specs.Linted.{syntax_place}
use Rattle.opam_package.specs.PackageFaults.{fault_start}
use Rattle.opam_package.specs.declared.fault.PackageFault.{PackageFault}
use Rattle.opam_package.specs.declared.fault.PackageFault.TheVariants as package_fault
use Rattle.lock_check.specs.declared.lock_fault.LockFault.{LockFault}
use Rattle.lock_check.specs.declared.lock_fault.LockFault.TheVariants as lock_fault
use Rattle.lock_check.specs.declared.violation.Violation.{Violation}
use Rattle.lock_check.specs.declared.violation.What.{What}
use Rattle.lock_check.specs.declared.violation.What.TheVariants as what
use Rattle.lock_check.specs.declared.violation.Who.{Who}
use Rattle.lock_check.specs.declared.violation.Who.TheVariants as who
use Rattle.change_front.specs.declared.refusal.Refusal.{Refusal}
use Rattle.change_front.specs.declared.refusal.Refusal.TheVariants.{NotFound, TooLong, BadLock, BadOpam, TooManyPackages, TextsTooLong, Violations, Cycle}

-- where an opam file has its fault
abbrev pub package_place : PackageFault → ℕ
package_place (package_fault.Syntax fault) = syntax_place fault
package_place (package_fault.Filter fault) = fault_start (package_fault.Filter fault)
package_place (package_fault.WrongKind span) = span.start
package_place (package_fault.NotText span) = span.start
package_place (package_fault.Mismatch span) = span.start
package_place (package_fault.OpamVersion span) = span.start
package_place (package_fault.TooMany span) = span.start
package_place (package_fault.EnvOperator span) = span.start
package_place (package_fault.Unsafe span) = span.start
package_place package_fault.Memory = 0

-- where a lock file has its fault
abbrev pub lock_place : LockFault → ℕ
lock_place (lock_fault.Syntax fault) = package_place (package_fault.Syntax fault)
lock_place (lock_fault.Filter fault) = package_place (package_fault.Filter fault)
lock_place (lock_fault.Unbound span) = span.start
lock_place (lock_fault.Twice span) = span.start
lock_place lock_fault.Memory = 0

-- why a text is no lock file; want of memory is never told
abbrev pub lock_text : LockFault → List ℕ
lock_text (lock_fault.Syntax fault) = fault_text (package_fault.Syntax fault)
lock_text (lock_fault.Filter fault) = fault_text (package_fault.Filter fault)
lock_text (lock_fault.Unbound span) = codes "not bound to a version"
lock_text (lock_fault.Twice span) = codes "bound twice"
lock_text lock_fault.Memory = []

-- of what a violation is told
abbrev pub who_text : Who → List ℕ
who_text (who.Name name) = name
who_text (who.Pkg pkg) = pkg_text pkg

-- what is unknown: a name is not bound, a package is not there
abbrev pub unknown_text : Who → List ℕ
unknown_text (who.Name name) = codes "not bound by the lock"
unknown_text (who.Pkg pkg) = codes "not in the repository"

-- an item of `depends` that is not met
abbrev pub unmet_text : ℕ → List ℕ
unmet_text number = codes "item " ++ decimal number ++ codes " of depends is not met"

-- a member that is forbidden
abbrev pub conflict_text : Pkg → List ℕ
conflict_text pkg = codes "conflicts with " ++ pkg_text pkg

-- a class that another member has
abbrev pub class_text : List ℕ → Pkg → List ℕ
class_text class pkg = codes "shares class " ++ class ++ codes " with " ++ pkg_text pkg

-- a field that is not done
abbrev pub field_text : List ℕ → List ℕ
field_text field = codes "field " ++ field ++ codes " is refused"

-- what is wrong with it
abbrev pub what_text : Who → What → List ℕ
what_text told what.Unknown = unknown_text told
what_text told what.NotInstalled = codes "not installed"
what_text told what.Unavailable = codes "not available"
what_text told (what.Unmet number) = unmet_text number
what_text told (what.Conflict pkg) = conflict_text pkg
what_text told (what.Class class pkg) = class_text class pkg
what_text told (what.Refused field) = field_text field

-- the line of a violation
abbrev pub violation_line : Violation → List ℕ
violation_line violation = who_text violation.who ++ codes ": " ++ what_text violation.who violation.what ++ codes "\n"

-- what is wrong with the file at a path
abbrev pub path_line : List ℕ → List ℕ → List ℕ
path_line path said = path ++ codes ": " ++ said ++ codes "\n"

-- a fault of the file at a path, and the byte where it is
abbrev pub fault_line : List ℕ → ℕ → List ℕ → List ℕ
fault_line path at said = path ++ codes ": byte " ++ decimal at ++ codes ": " ++ said ++ codes "\n"

-- a name behind a space
abbrev pub spaced : List ℕ → List ℕ
spaced name = codes " " ++ name

-- the names of a circle
abbrev pub cycle_text : List (List ℕ) → List ℕ
cycle_text names = codes "cycle:" ++ flat_map spaced names ++ codes "\n"

-- what is said of a refusal
abbrev pub refusal_text : Refusal → List ℕ
refusal_text (NotFound path) = path_line path (codes "not found")
refusal_text (TooLong path) = path_line path (codes "too long")
refusal_text (BadLock path fault) = fault_line path (lock_place fault) (lock_text fault)
refusal_text (BadOpam path fault) = fault_line path (package_place fault) (fault_text fault)
refusal_text TooManyPackages = codes "too many packages\n"
refusal_text TextsTooLong = codes "opam texts are too long\n"
refusal_text (Violations violations) = flat_map violation_line violations
refusal_text (Cycle names) = cycle_text names
