-- What a disk in memory knows of one path, and the file that an image of it has there. This project's own.
use Rattle.std.specs.Prelude.{◌≡◌, ℕ, List, [], ◌∷◌, ◌++◌, Bool, true, false, if◌then◌else◌, bytes_eq}
use Rattle.std.specs.Option.{option_map}
use Rattle.std.specs.FinMap.{get}
use Rattle.std.specs.declared.option.Option.{Option}
use Rattle.std.specs.declared.option.Option.TheVariants.{None, Some}
use Rattle.crash_disk.specs.Disks.{Kept, State}
use Rattle.crash_disk.specs.Log.{Listed, kept, stored_first}
use Rattle.crash_disk.specs.declared.changes.Change.{Change}
use Rattle.crash_disk.specs.declared.changes.Change.TheVariants.{Put, Removed, FailedPut, FailedRemoval, Loosened, Synced}
use Rattle.crash_disk.specs.declared.changes.Entry.{Entry}
use Rattle.crash_disk.specs.declared.spots.Choice.{Choice}
use Rattle.crash_disk.specs.declared.spots.Choice.TheVariants.{Before, After, Gone, Junk}

-- the file that a read gives, the one that the last sync left, the one that the last put or removal made, a failed one too,
-- and whether a stop may leave something else
pub record Spot : Type 0 where
  pub here : Option Kept
  pub before : Option Kept
  pub after : Option Kept
  pub loose : Bool

-- nothing has been done there yet
abbrev pub firm_spot : Option Kept → Spot
firm_spot file = record { here = file; before = file; after = file; loose = false }

-- after a put or a removal, and after one that failed
abbrev pub changed_spot : Option Kept → Spot → Spot
changed_spot file spot = record { here = file; before = spot.before; after = file; loose = true }

abbrev pub tried_spot : Option Kept → Spot → Spot
tried_spot file spot = record { here = spot.here; before = spot.before; after = file; loose = true }

abbrev pub loosened_spot : Spot → Spot
loosened_spot spot = record { here = spot.here; before = spot.before; after = spot.after; loose = true }

-- what is known of a path after a change
abbrev pub spot_by : Change → List ℕ → Spot → Spot
spot_by (Put f) q spot = if bytes_eq q f.0 then changed_spot (Some (kept f)) spot else spot
spot_by (Removed p) q spot = if bytes_eq q p then changed_spot None spot else spot
spot_by (FailedPut f) q spot = if bytes_eq q f.0 then tried_spot (Some (kept f)) spot else spot
spot_by (FailedRemoval p) q spot = if bytes_eq q p then tried_spot None spot else spot
spot_by (Loosened p) q spot = if bytes_eq q p then loosened_spot spot else spot
spot_by Synced q spot = firm_spot spot.here

-- the oldest change comes first
abbrev pub spot_after : List Entry → List ℕ → Spot → Spot
spot_after [] q spot = spot
spot_after (e ∷ es) q spot = spot_after es q (spot_by e.change q spot)

abbrev pub spot_first : List Listed → List ℕ → Spot
spot_first first q = firm_spot (option_map kept (stored_first first q))

abbrev pub spot_at : List Listed → List Entry → List ℕ → Spot
spot_at first log q = spot_after log q (spot_first first q)

abbrev pub bytes_in : Option Kept → List ℕ
bytes_in None = []
bytes_in (Some file) = file.bytes

-- a file that is neither of the two, being longer than each
abbrev pub junk_file : Spot → Kept
junk_file spot = record { bytes = bytes_in spot.before ++ bytes_in spot.after ++ 0 ∷ []; exec = false }

abbrev pub chosen_file : Choice → Spot → Option Kept
chosen_file Before spot = spot.before
chosen_file After spot = spot.after
chosen_file Gone spot = None
chosen_file Junk spot = Some (junk_file spot)

-- the file of an image: a path that is not loose has what a read gives
abbrev pub image_file : Choice → Spot → Option Kept
image_file choice spot = if spot.loose then chosen_file choice spot else spot.here

-- a disk at rest that has the image's file at each path
pub record TellsImage (choice : Choice) (spot : List ℕ → Spot) (told : Option State) : Type 0 where
  pub state : State
  pub tells : told ≡ Some state
  pub files : (q : List ℕ) → get state.files q ≡ image_file choice (spot q)
  pub firm : state.loose ≡ []
