-- What is read behind a gate. This project's own.
use Rattle.std.specs.Prelude.{◌≡◌, ◌<◌, ◌≤◌, ℕ, List, IsTrue, IsFalse, length, Result, IfOk}
use Rattle.std.specs.FinMap.{get}
use Rattle.std.specs.declared.option.Option.{Option}
use Rattle.std.specs.declared.option.Option.TheVariants.{None, Some}
use Rattle.crash_disk.specs.Disks.{Kept, State}
use Rattle.crash_disk.specs.declared.disk.DiskFault.{DiskFault}
use Rattle.switch_journal.specs.Places.{opens}
use Rattle.switch_journal.specs.declared.gated.Gated.{Gated}
use Rattle.switch_journal.specs.declared.gated.Gated.TheVariants as found

-- what is found where this stands, with at most so many bytes
abbrev pub IsBehind : Option Kept → ℕ → Gated → Type 0
IsBehind None limit gated = gated ≡ found.Absent
IsBehind (Some file) limit found.Shut = ⊥
IsBehind (Some file) limit found.Absent = ⊥
IsBehind (Some file) limit found.TooLong = limit < length file.bytes
IsBehind (Some file) limit (found.Text bytes) = (bytes ≡ file.bytes) × (length bytes ≤ limit)

-- nothing is looked at behind a gate that is shut
abbrev pub IsGated : Option Kept → Option Kept → ℕ → Gated → Type 0
IsGated gate file limit found.Shut = IsFalse (opens gate)
IsGated gate file limit gated = IsTrue (opens gate) × IsBehind file limit gated

-- the same of what a disk tells
abbrev pub TellsGated : Option State → List ℕ → List ℕ → ℕ → Result Gated DiskFault → Type 0
TellsGated told gate path limit result = (s : State) → told ≡ Some s → IfOk result (λ gated. IsGated (get s.files gate) (get s.files path) limit gated)
