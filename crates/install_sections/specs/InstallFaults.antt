-- The faults of an install file, and which of several is told. The order is this project's own.
use Rattle.std.specs.Prelude.{◌≡◌, ℕ, List, [], ◌∷◌, nat_lt, if◌then◌else◌}
use Rattle.std.specs.declared.option.Option.{Option}
use Rattle.std.specs.declared.option.Option.TheVariants.{None, Some}
use Rattle.install_sections.specs.declared.fault.InstallFault.{InstallFault}
use Rattle.install_sections.specs.declared.fault.InstallFault.TheVariants.{Syntax, UnknownSection, Misc, NotAnItem, Unsafe, TooMany, Memory}

-- where a fault of a section or an item begins
abbrev pub fault_start : InstallFault → ℕ
fault_start (Syntax fault) = 0
fault_start (UnknownSection span) = span.start
fault_start (Misc span) = span.start
fault_start (NotAnItem span) = span.start
fault_start (Unsafe span) = span.start
fault_start (TooMany span) = span.start
fault_start Memory = 0

-- of two the one that begins further left; where they begin together, the one that is listed first
abbrev pub sooner : Option InstallFault → Option InstallFault → Option InstallFault
sooner None other = other
sooner (Some one) None = Some one
sooner (Some one) (Some other) = if nat_lt (fault_start other) (fault_start one) then Some other else Some one

-- the first of a list of faults
abbrev pub first_fault : List InstallFault → Option InstallFault
first_fault [] = None
first_fault (fault ∷ more) = sooner (Some fault) (first_fault more)

-- what a reading answers that gives up: want of memory, which is free, or else the first of the faults
abbrev pub IsFirstOf : List InstallFault → InstallFault → Type 0
IsFirstOf faults Memory = Unit {0}
IsFirstOf faults fault = first_fault faults ≡ Some fault
