-- What the code finds of one path, seen as what is known of it. This module is for private clauses. This project's own.
use Rattle.std.specs.Prelude.{ℕ, List, Bool, false, bytes_eq}
use Rattle.std.specs.List.{list_any}
use Rattle.std.specs.declared.option.Option.TheVariants.{None, Some}
use Rattle.crash_disk.specs.declared.changes.Change.{Change}
use Rattle.crash_disk.specs.declared.changes.Change.TheVariants.{Put, Removed, FailedPut, FailedRemoval, Loosened, Synced}
use Rattle.crash_disk.specs.declared.changes.Entry.{Entry}
use Rattle.std.specs.Option.{option_copied, option_map}
use Rattle.std.specs.Borrow.{Bor}
use Rattle.std.specs.declared.option.Option.{Option}
use Rattle.crash_disk.specs.Disks.{Kept}
use Rattle.crash_disk.specs.Log.{Listed, kept}
use Rattle.crash_disk.specs.Spots.{Spot}
use Rattle.crash_disk.specs.declared.spots.Trace.{Trace}

abbrev pub file_of : Option (Bor Listed) → Option Kept
file_of file = option_map kept (option_copied file)

abbrev pub spot_of : Trace → Spot
spot_of trace = record { here = file_of trace.here; before = file_of trace.before; after = file_of trace.after; loose = trace.loose }

-- the path of a change
abbrev pub path_in : Change → Option (List ℕ)
path_in (Put f) = Some f.0
path_in (Removed path) = Some path
path_in (FailedPut f) = Some f.0
path_in (FailedRemoval path) = Some path
path_in (Loosened path) = Some path
path_in Synced = None

abbrev pub is_here : List ℕ → Option (List ℕ) → Bool
is_here q None = false
is_here q (Some path) = bytes_eq q path

-- some change of the log is at this path
abbrev pub is_touched : List Entry → List ℕ → Bool
is_touched log q = list_any (λ e. is_here q (path_in e.change)) log

-- a path, and the file there
abbrev pub listing : Listed → List ℕ × Kept
listing f = (f.0, kept f)
