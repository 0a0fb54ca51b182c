-- The faults of an opam file, and which of several is told. The order is this project's own.
use Rattle.std.specs.Prelude.{◌≡◌, ℕ, List, [], ◌∷◌, Bool, nat_lt, ◌==◌, ◌&&◌, ◌||◌, if◌then◌else◌}
use Rattle.std.specs.declared.option.Option.{Option}
use Rattle.std.specs.declared.option.Option.TheVariants.{None, Some}
use Rattle.opam_filter.specs.Faults as filters
use Rattle.opam_filter.specs.declared.fault.FilterFault.{FilterFault}
use Rattle.opam_package.specs.declared.fault.PackageFault.{PackageFault}
use Rattle.opam_package.specs.declared.fault.PackageFault.TheVariants.{Syntax, Filter, WrongKind, NotText, Mismatch, OpamVersion, TooMany, EnvOperator, Unsafe, Memory}

-- where a fault of a value stands
abbrev pub fault_start : PackageFault → ℕ
fault_start (Syntax fault) = 0
fault_start (Filter fault) = filters.place_of fault
fault_start (WrongKind span) = span.start
fault_start (NotText span) = span.start
fault_start (Mismatch span) = span.start
fault_start (OpamVersion span) = span.start
fault_start (TooMany span) = span.start
fault_start (EnvOperator span) = span.start
fault_start (Unsafe span) = span.start
fault_start Memory = 0

-- at one place that of a filter or a formula comes first, and a value of the wrong kind before all that is asked of one of the right kind
abbrev pub fault_rank : PackageFault → ℕ
fault_rank (Filter fault) = filters.rank_of fault
fault_rank (WrongKind span) = 10
fault_rank (NotText span) = 11
fault_rank (Mismatch span) = 12
fault_rank (OpamVersion span) = 13
fault_rank (TooMany span) = 14
fault_rank (EnvOperator span) = 15
fault_rank (Unsafe span) = 16
fault_rank (Syntax fault) = 20
fault_rank Memory = 20

-- the one further left comes first, and at one place the one of the lesser rank
abbrev pub is_sooner : PackageFault → PackageFault → Bool
is_sooner one other =
    nat_lt (fault_start one) (fault_start other) || (fault_start one == fault_start other && nat_lt (fault_rank one) (fault_rank other))

-- of two the sooner one; of two of one kind at one place that of the inner value, which is listed first
abbrev pub sooner : Option PackageFault → Option PackageFault → Option PackageFault
sooner None other = other
sooner (Some one) None = Some one
sooner (Some one) (Some other) = if is_sooner other one then Some other else Some one

-- the first of a list of faults
abbrev pub first_fault : List PackageFault → Option PackageFault
first_fault [] = None
first_fault (fault ∷ more) = sooner (Some fault) (first_fault more)

-- what a reading answers that gives up: want of memory, which is free, or else the first of the faults
abbrev pub IsFirstOf : List PackageFault → PackageFault → Type 0
IsFirstOf faults Memory = Unit {0}
IsFirstOf faults fault = first_fault faults ≡ Some fault

-- the fault of a filter or a formula, where it has one
abbrev pub inner_faults : Option FilterFault → List PackageFault
inner_faults None = []
inner_faults (Some fault) = Filter fault ∷ []
