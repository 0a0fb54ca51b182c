-- The number of a status, with which the program ends, and what a device's count says of it. This project's own.
use Rattle.std.specs.Prelude.{◌≡◌, ◌≢◌, ◌<◌, ◌≤◌, ◌↔◌, ℕ, Bool, IsTrue}
use Rattle.std.specs.declared.option.Option.{Option}
use Rattle.std.specs.declared.option.Option.TheVariants.{Some}
use Rattle.outside_io.specs.Counts.{Quiet, Rose}
use Rattle.run_answers.specs.declared.status.Status.{Status}
use Rattle.run_answers.specs.declared.status.Status.TheVariants.{Done, Findings, Words, NotFound, Locked, NoSolution, BadFile, Actions, HostFailed, DiskFailed, OutFailed, Damaged, Memory}

-- each status has its own number
abbrev pub number_of : Status → ℕ
number_of Done = 0
number_of Findings = 1
number_of Words = 2
number_of NotFound = 5
number_of Locked = 15
number_of NoSolution = 20
number_of BadFile = 30
number_of Actions = 31
number_of HostFailed = 40
number_of DiskFailed = 41
number_of OutFailed = 42
number_of Damaged = 50
number_of Memory = 98

-- the status of a count comes only where the count has risen, and it comes where the count has risen
pub record Blames (fault : Status) (before now : ℕ) (status : Status) : Type 0 where
  pub later : before ≤ now
  pub only : status ≡ fault → Rose before now
  pub always : before < now → status ≡ fault

-- the status of the output's count comes only where it has risen, and where it has risen not all is done
pub record BlamesOutput (before now : ℕ) (status : Status) : Type 0 where
  pub later : before ≤ now
  pub only : status ≡ OutFailed → Rose before now
  pub always : before < now → status ≢ Done

-- a switch is said to be locked exactly where another has claimed its disk, as long as the disk does not fail
abbrev pub SaysLocked : Option Bool → ℕ → ℕ → Status → Type 0
SaysLocked told before now status = (taken : Bool) → told ≡ Some taken → Quiet before now → (status ≡ Locked) ↔ IsTrue taken
