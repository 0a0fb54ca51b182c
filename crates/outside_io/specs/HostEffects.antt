-- What calls that read from a host do, over all that it tells, in a word each. This project's own. A word takes the ghost
-- members of a whole host, handed over as `H.Host`.
use Rattle.std.specs.Prelude.{◌≡◌, ◌≤◌, Bool, true, false, IsTrue, IsFalse, Result, Ok, Err}
use Rattle.outside_io.specs.Counts.{Rose}
use Rattle.outside_io.specs.declared.host.Host.{Ghosts}
use Rattle.outside_io.specs.declared.host.HostFault.{HostFault}
use Rattle.outside_io.specs.declared.host.HostFault.TheVariants.{Failed, Memory}

-- its files are the same, and no fault is taken back
pub record OnlyReadsHost {H : Type 0} (g : Ghosts H) (old new : H) : Type 0 where
  pub same : g.files new ≡ g.files old
  pub later : g.faults old ≤ g.faults new

-- a fault was counted where this is so, and none where it is not
pub record HostFails {H : Type 0} (g : Ghosts H) (failed : Bool) (old new : H) : Type 0 where
  pub rose : IsTrue failed → Rose (g.faults old) (g.faults new)
  pub still : IsFalse failed → g.faults new ≡ g.faults old

-- the host itself has failed
abbrev pub has_host_failed : {T : Type 0} → Result T HostFault → Bool
has_host_failed (Ok found) = false
has_host_failed (Err Failed) = true
has_host_failed (Err Memory) = false
