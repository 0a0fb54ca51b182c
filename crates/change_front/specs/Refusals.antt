-- What kind of refusal a refusal is. This project's own.
use Rattle.std.specs.Prelude.{ℕ, List, Bool, true, false, if◌then◌else◌}
use Rattle.std.specs.List.{list_any}
use Rattle.lock_check.specs.declared.violation.Violation.{Violation}
use Rattle.lock_check.specs.declared.violation.What.{What}
use Rattle.lock_check.specs.declared.violation.What.TheVariants as what
use Rattle.change_front.specs.declared.refusal.Refusal.{Refusal}
use Rattle.change_front.specs.declared.refusal.Refusal.TheVariants.{NotFound, TooLong, BadLock, BadOpam, TooManyPackages, TextsTooLong, Violations, Cycle}
use Rattle.change_front.specs.declared.refusal.Kind.{Kind}
use Rattle.change_front.specs.declared.refusal.Kind.TheVariants as kind

-- something is not in the repository, or not bound
abbrev pub is_unknown : What → Bool
is_unknown what.Unknown = true
is_unknown what.NotInstalled = false
is_unknown what.Unavailable = false
is_unknown (what.Unmet number) = false
is_unknown (what.Conflict pkg) = false
is_unknown (what.Class class pkg) = false
is_unknown (what.Refused field) = false

-- one of the violations is that
abbrev pub has_unknown : List Violation → Bool
has_unknown violations = list_any (λ (violation : Violation). is_unknown violation.what) violations

-- what is unknown comes before all else that stands against a target
abbrev pub kind_among : List Violation → Kind
kind_among violations = if has_unknown violations then kind.Missing else kind.NoSolution

-- the kind of a refusal: something is missing, a file cannot be taken or a limit is passed, or there is no solution
abbrev pub kind_of : Refusal → Kind
kind_of (NotFound path) = kind.Missing
kind_of (TooLong path) = kind.BadFile
kind_of (BadLock path fault) = kind.BadFile
kind_of (BadOpam path fault) = kind.BadFile
kind_of TooManyPackages = kind.BadFile
kind_of TextsTooLong = kind.BadFile
kind_of (Violations violations) = kind_among violations
kind_of (Cycle names) = kind.NoSolution
