-- The faults of a lock file, and which of several is told: the one that begins first. The order is this project's own.
use Rattle.std.specs.Prelude.{◌≡◌, ℕ, List, [], ◌∷◌, nat_lt, if◌then◌else◌}
use Rattle.std.specs.declared.option.Option.{Option}
use Rattle.std.specs.declared.option.Option.TheVariants.{None, Some}
use Rattle.opam_filter.specs.Faults as filters
use Rattle.opam_filter.specs.declared.fault.FilterFault.{FilterFault}
use Rattle.lock_check.specs.declared.lock_fault.LockFault.{LockFault}
use Rattle.lock_check.specs.declared.lock_fault.LockFault.TheVariants.{Syntax, Filter, Unbound, Twice, Memory}

-- where a fault of an item begins
abbrev pub lock_fault_start : LockFault → ℕ
lock_fault_start (Syntax fault) = 0
lock_fault_start (Filter fault) = filters.place_of fault
lock_fault_start (Unbound span) = span.start
lock_fault_start (Twice span) = span.start
lock_fault_start Memory = 0

-- of two the one that begins further left; where they begin together, the one that is listed first
abbrev pub sooner_lock_fault : Option LockFault → Option LockFault → Option LockFault
sooner_lock_fault None other = other
sooner_lock_fault (Some one) None = Some one
sooner_lock_fault (Some one) (Some other) = if nat_lt (lock_fault_start other) (lock_fault_start one) then Some other else Some one

-- the first of a list of faults
abbrev pub first_lock_fault : List LockFault → Option LockFault
first_lock_fault [] = None
first_lock_fault (fault ∷ more) = sooner_lock_fault (Some fault) (first_lock_fault more)

-- the fault of a filter, where it has one
abbrev pub inner_lock_faults : Option FilterFault → List LockFault
inner_lock_faults None = []
inner_lock_faults (Some fault) = Filter fault ∷ []

-- what a reading answers that gives up: want of memory, which is free, or else the first of the faults
abbrev pub IsFirstLockFault : List LockFault → LockFault → Type 0
IsFirstLockFault faults Memory = Unit {0}
IsFirstLockFault faults fault = first_lock_fault faults ≡ Some fault
