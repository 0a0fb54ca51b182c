-- The report of a change: a line for each decision, and a summary that counts those that were asked for. This project's own.
use Rattle.std.specs.Prelude.{ℕ, List, [], ◌++◌, Bool, true, false, not, codes, count_by, decimal, ◌==◌, ◌||◌, if◌then◌else◌}
use Rattle.std.specs.List.{flat_map}
use Rattle.opam_names.specs.Packages.{pkg_text}
use Rattle.opam_names.specs.declared.packages.Pkg.{Pkg}
use Rattle.syntax_trees.specs.declared.fault.SyntaxFault.{SyntaxFault}
use Rattle.syntax_trees.specs.declared.fault.SyntaxFault.TheVariants as syntax
use Rattle.opam_lint.specs.FindingTexts.{syntax_text}
use Rattle.install_sections.specs.declared.fault.InstallFault.{InstallFault}
use Rattle.install_sections.specs.declared.fault.InstallFault.TheVariants as install
use Rattle.outside_io.specs.declared.workshop.Ending.{Ending}
use Rattle.outside_io.specs.declared.workshop.Ending.TheVariants.{Exit, Killed, NotStarted, NotPrepared}
use Rattle.change_verdict.specs.declared.reason.Reason.{Reason}
use Rattle.change_verdict.specs.declared.reason.Reason.TheVariants.{Step, InstallUnreadable, InstallTooLong, InstallRefused, Missing, Unreadable, FilesTooLong, Owned, Meets, Foreign, SwitchFull}
use Rattle.back_verdict.specs.declared.why.Why.{Why}
use Rattle.back_verdict.specs.declared.why.Why.TheVariants.{NotKept, Unmet, Conflict, Class, Late, Full, Clash}
use Rattle.action_report.specs.declared.decision.Decision.{Decision}
use Rattle.action_report.specs.declared.decision.Decision.TheVariants.{Installed, Removed, Failed, Aborted, PutBack, NotPutBack}

-- ---- why a package failed

-- how a command ended, by its number, counted from 1
abbrev pub command_text : ℕ → Ending → List ℕ
command_text step (Exit status) = codes "command " ++ decimal step ++ codes " exited with " ++ decimal status
command_text step Killed = codes "command " ++ decimal step ++ codes " was killed"
command_text step NotStarted = codes "command " ++ decimal step ++ codes " was not started"
command_text step NotPrepared = codes "preparation failed"

-- how a step of a job ended: step 0 prepares the build folder, and the others are its commands
abbrev pub step_text : ℕ → Ending → List ℕ
step_text step ending = if step == 0 then codes "preparation failed" else command_text step ending

-- at which byte a text is no file; want of memory is never told
abbrev pub syntax_place : SyntaxFault → ℕ
syntax_place (syntax.Ended at) = at
syntax_place (syntax.Stray at) = at
syntax_place (syntax.Deep at) = at
syntax_place (syntax.Doubled at) = at
syntax_place syntax.Memory = 0

-- at which byte an install file is refused: where what is wrong begins
abbrev pub install_place : InstallFault → ℕ
install_place (install.Syntax fault) = syntax_place fault
install_place (install.UnknownSection span) = span.start
install_place (install.Misc span) = span.start
install_place (install.NotAnItem span) = span.start
install_place (install.Unsafe span) = span.start
install_place (install.TooMany span) = span.start
install_place install.Memory = 0

-- and why
abbrev pub install_text : InstallFault → List ℕ
install_text (install.Syntax fault) = syntax_text fault
install_text (install.UnknownSection span) = codes "unknown section"
install_text (install.Misc span) = codes "misc is refused"
install_text (install.NotAnItem span) = codes "not an item"
install_text (install.Unsafe span) = codes "unsafe path"
install_text (install.TooMany span) = codes "too many"
install_text install.Memory = []

-- what is wrong with the install file of the package of this name
abbrev pub install_fault_text : List ℕ → InstallFault → List ℕ
install_fault_text name fault = name ++ codes ".install: byte " ++ decimal (install_place fault) ++ codes ": " ++ install_text fault

-- a path is owned already
abbrev pub owned_text : List ℕ → Pkg → List ℕ
owned_text path owner = path ++ codes " is owned by " ++ pkg_text owner

-- one above or below it is
abbrev pub meets_text : List ℕ → List ℕ → Pkg → List ℕ
meets_text path other owner = path ++ codes " clashes with " ++ other ++ codes " of " ++ pkg_text owner

-- why the package of this name failed
abbrev pub reason_text : List ℕ → Reason → List ℕ
reason_text name (Step step ending) = step_text step ending
reason_text name InstallUnreadable = codes "cannot read " ++ name ++ codes ".install"
reason_text name InstallTooLong = name ++ codes ".install is too long"
reason_text name (InstallRefused fault) = install_fault_text name fault
reason_text name (Missing path) = path ++ codes " is missing"
reason_text name (Unreadable path) = codes "cannot read " ++ path
reason_text name FilesTooLong = codes "files are too long"
reason_text name (Owned path owner) = owned_text path owner
reason_text name (Meets path other owner) = meets_text path other owner
reason_text name (Foreign path) = path ++ codes " meets a foreign file"
reason_text name SwitchFull = codes "the switch holds too many files"

-- ---- why a package is not put back

-- it and this package cannot stand together
abbrev pub conflict_text : Pkg → List ℕ
conflict_text other = codes "conflicts with " ++ pkg_text other

-- it and this package have a class in common
abbrev pub class_text : List ℕ → Pkg → List ℕ
class_text class other = codes "shares class " ++ class ++ codes " with " ++ pkg_text other

-- this package, which stands there, needs it
abbrev pub late_text : Pkg → List ℕ
late_text other = pkg_text other ++ codes " needs it earlier"

-- why the package of this name is not put back
abbrev pub why_text : List ℕ → Why → List ℕ
why_text name NotKept = codes "its files were not kept"
why_text name Unmet = codes "its dependencies are not met"
why_text name (Conflict other) = conflict_text other
why_text name (Class class other) = class_text class other
why_text name (Late other) = late_text other
why_text name Full = codes "the switch is full"
why_text name (Clash reason) = reason_text name reason

-- ---- the report

-- the line of a decision
abbrev pub line_of : Decision → List ℕ
line_of (Installed pkg) = codes "installed " ++ pkg_text pkg ++ codes "\n"
line_of (Removed pkg) = codes "removed " ++ pkg_text pkg ++ codes "\n"
line_of (Failed pkg reason) = codes "failed " ++ pkg_text pkg ++ codes ": " ++ reason_text pkg.name reason ++ codes "\n"
line_of (Aborted pkg need) = codes "aborted " ++ pkg_text pkg ++ codes ": " ++ pkg_text need ++ codes "\n"
line_of (PutBack pkg) = codes "put back " ++ pkg_text pkg ++ codes "\n"
line_of (NotPutBack pkg why) = codes "not put back " ++ pkg_text pkg ++ codes ": " ++ why_text pkg.name why ++ codes "\n"

-- the package was installed
abbrev pub is_installed : Decision → Bool
is_installed (Installed pkg) = true
is_installed (Removed pkg) = false
is_installed (Failed pkg reason) = false
is_installed (Aborted pkg need) = false
is_installed (PutBack pkg) = false
is_installed (NotPutBack pkg why) = false

-- the package was removed
abbrev pub is_removed : Decision → Bool
is_removed (Installed pkg) = false
is_removed (Removed pkg) = true
is_removed (Failed pkg reason) = false
is_removed (Aborted pkg need) = false
is_removed (PutBack pkg) = false
is_removed (NotPutBack pkg why) = false

-- the package failed
abbrev pub is_failed : Decision → Bool
is_failed (Installed pkg) = false
is_failed (Removed pkg) = false
is_failed (Failed pkg reason) = true
is_failed (Aborted pkg need) = false
is_failed (PutBack pkg) = false
is_failed (NotPutBack pkg why) = false

-- a need of the package was not there
abbrev pub is_aborted : Decision → Bool
is_aborted (Installed pkg) = false
is_aborted (Removed pkg) = false
is_aborted (Failed pkg reason) = false
is_aborted (Aborted pkg need) = true
is_aborted (PutBack pkg) = false
is_aborted (NotPutBack pkg why) = false

-- nothing that was asked of the package is left undone; nobody asks for what is put back
abbrev pub is_done : Decision → Bool
is_done decision = not (is_failed decision || is_aborted decision)

-- how many decisions there are of each kind; what is put back is not counted
abbrev pub summary : List Decision → List ℕ
summary decisions =
    codes "done: " ++ decimal (count_by is_installed decisions) ++ codes " installed, "
    ++ decimal (count_by is_removed decisions) ++ codes " removed, "
    ++ decimal (count_by is_failed decisions) ++ codes " failed, "
    ++ decimal (count_by is_aborted decisions) ++ codes " aborted\n"

-- the whole report
abbrev pub report : List Decision → List ℕ
report decisions = flat_map line_of decisions ++ summary decisions
