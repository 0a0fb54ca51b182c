-- What has been on a disk, while its clock goes on. This project's own.
use Rattle.std.specs.Prelude.{◌≡◌, ◌<◌, ◌≤◌, ℕ}
use Rattle.std.specs.declared.option.Option.{Option}
use Rattle.outside_io.specs.Counts.{last_count}
use Rattle.crash_disk.specs.Disks.{State}

-- the clock never falls, and each moment's state stays, as long as the clock has not come to its end
pub record Passes (before now : ℕ) (past since : ℕ → Option State) : Type 0 where
  pub later : before ≤ now
  pub keeps : (t : ℕ) → t ≤ before → now < last_count → since t ≡ past t
