-- What a stop of the machine at any moment of some calls may leave. This project's own.
use Rattle.std.specs.Prelude.{◌≡◌, ◌<◌, ℕ, List, IsFalse}
use Rattle.std.specs.FinMap.{get}
use Rattle.outside_io.specs.Counts.{last_count}
use Rattle.crash_disk.specs.declared.disk.Disk.{Ghosts}
use Rattle.crash_disk.specs.Disks.{LeftSince, State, Tree, is_loose}
use Rattle.crash_disk.specs.Effects.{is_one}

-- each stop from then to now leaves what has P, as long as the clock has not come to its end
pub record StopsLeave {D : Type 0} (g : Ghosts D) (P : Tree → Type 0) (old new : D) : Type 0 where
  pub each : g.moment new < last_count → (image : Tree) → LeftSince (g.moment new) (g.past new) (g.moment old) image → P image

-- files that have what these have, off some paths
abbrev pub IsSameBut : List (List ℕ) → Tree → Tree → Type 0
IsSameBut paths tree image = (q : List ℕ) → IsFalse (is_one paths q) → get image q ≡ get tree q

-- what a stop may leave of this state, but for some paths
abbrev pub IsImageOff : List (List ℕ) → State → Tree → Type 0
IsImageOff paths s image = (q : List ℕ) → IsFalse (is_one paths q) → IsFalse (is_loose s q) → get image q ≡ get s.files q
