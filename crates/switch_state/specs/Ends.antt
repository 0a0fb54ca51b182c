-- A request is ended: none is open then, and of what was asked for the names that are installed are left. This project's own.
use Rattle.std.specs.Prelude.{◌⊎◌, ℕ, List, filter, Bool, bytes_eq, IsFalse}
use Rattle.std.specs.List.{list_any}
use Rattle.std.specs.declared.option.Option.TheVariants.{None}
use Rattle.opam_package.specs.declared.package.Member.{Member}
use Rattle.crash_disk.specs.Disks.{Tree}
use Rattle.crash_disk.specs.Effects.{Touches, is_one}
use Rattle.crash_disk.specs.declared.disk.Disk.{Ghosts}
use Rattle.switch_journal.specs.Places.{is_inside}
use Rattle.switch_state.specs.State.{Recovers, SwitchState}

-- the package has this name
abbrev pub is_called : List ℕ → Member → Bool
is_called name member = bytes_eq name member.package.pkg.name

-- an entry has the name
abbrev pub is_entry_name : List Member → List ℕ → Bool
is_entry_name members name = list_any (is_called name) members

-- the state after the end of its request
abbrev pub state_ended : SwitchState → SwitchState
state_ended state = record { members = state.members; owned = state.owned; roots = filter (is_entry_name state.members) state.roots; request = None }

-- an opening makes the state before the end of it, or the one after it
abbrev pub IsAroundEnd : SwitchState → Tree → Tree → Type 0
IsAroundEnd state files image = Recovers state files image ⊎ Recovers (state_ended state) files image

-- from then to now the disk has changed at paths in the journal's folder alone, at each moment
pub record TouchesInside {D : Type 0} (g : Ghosts D) (old new : D) : Type 0 where
  pub paths : List (List ℕ)
  pub inside : (q : List ℕ) → IsFalse (is_inside q) → IsFalse (is_one paths q)
  pub touches : Touches g paths old new
