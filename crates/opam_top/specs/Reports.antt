-- The report of a change: a line for each decision, and a summary that counts them. This project's own.
use Rattle.std.specs.Prelude.{ℕ, List, ◌++◌, Bool, true, false, codes, count_by, decimal, ◌==◌, if◌then◌else◌}
use Rattle.std.specs.List.{flat_map}
use Rattle.opam_names.specs.Packages.{pkg_text}
use Rattle.outside_io.specs.declared.workshop.Ending.{Ending}
use Rattle.outside_io.specs.declared.workshop.Ending.TheVariants.{Exit, Killed, NotStarted, NotPrepared}
use Rattle.opam_top.specs.declared.decision.Decision.{Decision}
use Rattle.opam_top.specs.declared.decision.Decision.TheVariants.{Installed, Removed, Failed, Aborted}
use Rattle.opam_top.specs.declared.decision.Reason.{Reason}
use Rattle.opam_top.specs.declared.decision.Reason.TheVariants.{Step, InstallUnreadable, InstallTooLong, InstallNotBuilt, Missing, Unreadable, FilesTooLong, Owned, Foreign, SwitchFull}

-- how a command ended, by its number, counted from 1
abbrev pub command_text : ℕ → Ending → List ℕ
command_text step (Exit status) = codes "command " ++ decimal step ++ codes " exited with " ++ decimal status
command_text step Killed = codes "command " ++ decimal step ++ codes " was killed"
command_text step NotStarted = codes "command " ++ decimal step ++ codes " was not started"
command_text step NotPrepared = codes "preparation failed"

-- how a step of a job ended: step 0 prepares the build folder, and the others are its commands
abbrev pub step_text : ℕ → Ending → List ℕ
step_text step ending = if step == 0 then codes "preparation failed" else command_text step ending

-- why the package of this name failed
abbrev pub reason_text : List ℕ → Reason → List ℕ
reason_text name (Step step ending) = step_text step ending
reason_text name InstallUnreadable = codes "cannot read " ++ name ++ codes ".install"
reason_text name InstallTooLong = name ++ codes ".install is too long"
reason_text name InstallNotBuilt = name ++ codes ".install is not built yet"
reason_text name (Missing path) = path ++ codes " is missing"
reason_text name (Unreadable path) = codes "cannot read " ++ path
reason_text name FilesTooLong = codes "files are too long"
reason_text name (Owned path owner) = path ++ (codes " is owned by " ++ pkg_text owner)
reason_text name (Foreign path) = path ++ codes " meets a foreign file"
reason_text name SwitchFull = codes "the switch holds too many files"

-- the line of a decision
abbrev pub line_of : Decision → List ℕ
line_of (Installed pkg) = codes "installed " ++ pkg_text pkg ++ codes "\n"
line_of (Removed pkg) = codes "removed " ++ pkg_text pkg ++ codes "\n"
line_of (Failed pkg reason) = codes "failed " ++ pkg_text pkg ++ codes ": " ++ reason_text pkg.name reason ++ codes "\n"
line_of (Aborted pkg need) = codes "aborted " ++ pkg_text pkg ++ codes ": " ++ pkg_text need ++ codes "\n"

-- the package was installed
abbrev pub is_installed : Decision → Bool
is_installed (Installed pkg) = true
is_installed (Removed pkg) = false
is_installed (Failed pkg reason) = false
is_installed (Aborted pkg need) = false

-- the package was removed
abbrev pub is_removed : Decision → Bool
is_removed (Installed pkg) = false
is_removed (Removed pkg) = true
is_removed (Failed pkg reason) = false
is_removed (Aborted pkg need) = false

-- the package failed
abbrev pub is_failed : Decision → Bool
is_failed (Installed pkg) = false
is_failed (Removed pkg) = false
is_failed (Failed pkg reason) = true
is_failed (Aborted pkg need) = false

-- a need of the package was not there
abbrev pub is_aborted : Decision → Bool
is_aborted (Installed pkg) = false
is_aborted (Removed pkg) = false
is_aborted (Failed pkg reason) = false
is_aborted (Aborted pkg need) = true

-- what was to be done of the package is done
abbrev pub is_done : Decision → Bool
is_done (Installed pkg) = true
is_done (Removed pkg) = true
is_done (Failed pkg reason) = false
is_done (Aborted pkg need) = false

-- how many decisions there are of each kind
abbrev pub summary : List Decision → List ℕ
summary decisions =
    codes "done: " ++ decimal (count_by is_installed decisions) ++ codes " installed, "
    ++ decimal (count_by is_removed decisions) ++ codes " removed, "
    ++ decimal (count_by is_failed decisions) ++ codes " failed, "
    ++ decimal (count_by is_aborted decisions) ++ codes " aborted\n"

-- the whole report
abbrev pub report : List Decision → List ℕ
report decisions = flat_map line_of decisions ++ summary decisions
