-- A switch stays sound while it is changed. This project's own.
use Rattle.std.specs.Prelude.{◌≡◌, ℕ, Contains, IsTrue}
use Rattle.path_order.specs.Apart.{meets}
use Rattle.owner_map.specs.declared.owned.OwnedPath.{OwnedPath}
use Rattle.switch_state.specs.Sound.{Sound}
use Rattle.switch_state.specs.State.{SwitchState}
use Rattle.change_outcome.specs.Changes.{Change, Point}
use Rattle.change_outcome.specs.Outcomes.{cut}
use Rattle.change_laws.specs.Fits.{CanBeCarriedOut, IsFitAt}

-- the switch is sound there
abbrev pub IsSoundAt : Point → Type 0
IsSoundAt point = Sound point.state point.files

-- from a sound switch on it is sound after each committed action of a change whose plan fits
abbrev pub SoundAfterEachAction : Type 0
SoundAfterEachAction = (change : Change) (start : Point) (count : ℕ) → CanBeCarriedOut change start → IsFitAt change start → IsSoundAt start → IsSoundAt (cut change start count)

-- no path is owned twice, and no owned path is above another
abbrev pub EachPathHasOneOwner : SwitchState → Type 0
EachPathHasOneOwner state = (one other : OwnedPath) → Contains state.owned one → Contains state.owned other → IsTrue (meets one.path other.path) → one ≡ other

-- so it is as a change begins that can be carried out, and after each of its committed actions
abbrev pub NoFileHasTwoOwners : Type 0
NoFileHasTwoOwners = (change : Change) (start : Point) (count : ℕ) → CanBeCarriedOut change start → EachPathHasOneOwner (cut change start count).state
