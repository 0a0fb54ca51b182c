-- What a host answers. This project's own.
use Rattle.std.specs.Prelude.{◌≡◌, ◌<◌, ◌≤◌, ℕ, List, length, Result, IfOk, IsErrOf, OnOk}
use Rattle.std.specs.FinMap.{get}
use Rattle.std.specs.declared.option.Option.{Option}
use Rattle.std.specs.declared.option.Option.TheVariants.{None, Some}
use Rattle.outside_io.specs.Counts.{Rose, Files}
use Rattle.outside_io.specs.declared.host.Found.{Found}
use Rattle.outside_io.specs.declared.host.Found.TheVariants.{Absent, Bytes, TooLong}
use Rattle.outside_io.specs.declared.host.HostFault.{HostFault}
use Rattle.outside_io.specs.declared.host.HostFault.TheVariants.{Failed, Memory}

-- `Failed` comes only where the count rose, and the count rises only there
pub record HostCause {T : Type 0} (before now : ℕ) (result : Result T HostFault) : Type 0 where
  pub later : before ≤ now
  pub failed : IsErrOf result Failed → Rose before now
  pub memory : IsErrOf result Memory → now ≡ before
  pub ok : OnOk result (now ≡ before)

-- what is found where this stands
abbrev pub IsFound : Option (List ℕ) → ℕ → Found → Type 0
IsFound None limit found = found ≡ Absent
IsFound (Some file) limit Absent = ⊥
IsFound (Some file) limit (Bytes bytes) = (bytes ≡ file) × (length file ≤ limit)
IsFound (Some file) limit TooLong = limit < length file

-- a host that tells its files answers what stands at the path
abbrev pub HostTells : Option Files → List ℕ → ℕ → Result Found HostFault → Type 0
HostTells told path limit result = (files : Files) → told ≡ Some files → IfOk result (λ found. IsFound (get files path) limit found)
