-- The number of a status, with which the program ends. This project's own.
use Rattle.std.specs.Prelude.{ℕ}
use Rattle.opam_top.specs.declared.status.Status.{Status}
use Rattle.opam_top.specs.declared.status.Status.TheVariants.{Done, Findings, Words, NotFound, Locked, NoSolution, BadFile, Actions, HostFailed, DiskFailed, OutFailed, Damaged, NotBuilt, Memory}

-- each status has its own number
abbrev pub number_of : Status → ℕ
number_of Done = 0
number_of Findings = 1
number_of Words = 2
number_of NotFound = 5
number_of Locked = 15
number_of NoSolution = 20
number_of BadFile = 30
number_of Actions = 31
number_of HostFailed = 40
number_of DiskFailed = 41
number_of OutFailed = 42
number_of Damaged = 50
number_of NotBuilt = 70
number_of Memory = 98
