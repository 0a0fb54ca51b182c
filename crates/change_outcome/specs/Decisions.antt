-- What is told of an action: what became of its package. This project's own.
use Rattle.std.specs.Prelude.{List, Bool, true, false, ℕ, if◌then◌else◌}
use Rattle.std.specs.List.{list_any}
use Rattle.opam_names.specs.declared.packages.Pkg.{Pkg}
use Rattle.change_verdict.specs.declared.reason.Reason.{Reason}
use Rattle.back_verdict.specs.declared.why.Why.{Why}

-- it was removed; it is installed, or was tried and failed, or was not tried, for a need is not installed; it was removed before and is put back, or is not
pub data Decision : Type 0 where
  Removed : Pkg → Decision
  Installed : Pkg → Decision
  Failed : Pkg → Reason → Decision
  Aborted : Pkg → Pkg → Decision
  PutBack : Pkg → Decision
  NotPutBack : Pkg → Why → Decision

-- a package that was to be installed is not
abbrev pub is_wanting : Decision → Bool
is_wanting (Removed pkg) = false
is_wanting (Installed pkg) = false
is_wanting (Failed pkg reason) = true
is_wanting (Aborted pkg need) = true
is_wanting (PutBack pkg) = false
is_wanting (NotPutBack pkg why) = false

-- a package was tried and failed
abbrev pub is_failed : Decision → Bool
is_failed (Removed pkg) = false
is_failed (Installed pkg) = false
is_failed (Failed pkg reason) = true
is_failed (Aborted pkg need) = false
is_failed (PutBack pkg) = false
is_failed (NotPutBack pkg why) = false

-- the status of a change of which this was told
abbrev pub status_of : List Decision → ℕ
status_of decisions = if list_any is_wanting decisions then 31 else 0
