-- An action that is prepared, so that its commit takes no memory. This project's own.
use Rattle.std.specs.Prelude.{◌≡◌, ◌⊎◌, ℕ, ◌<◌, ◌≤◌, ◌^◌, List, [], ◌∷◌, ◌++◌, false, fold, map, length, is_some}
use Rattle.std.specs.List.{list_any}
use Rattle.std.specs.declared.option.Option.{Option}
use Rattle.opam_names.specs.ByteOrders.{put_by}
use Rattle.opam_names.specs.declared.packages.Pkg.{Pkg}
use Rattle.opam_package.specs.declared.package.Member.{Member}
use Rattle.path_order.specs.Apart.{meets}
use Rattle.owner_map.specs.Owning.{owned_by, path_of, paths_of}
use Rattle.owner_map.specs.declared.owned.OwnedPath.{OwnedPath}
use Rattle.journal_text.specs.declared.record.Placed.{Placed}
use Rattle.crash_disk.specs.Disks as disks
use Rattle.crash_disk.specs.Disks.{Tree}
use Rattle.switch_journal.specs.Steps.{IsReady}
use Rattle.switch_journal.specs.declared.request.Done.{Done}
use Rattle.switch_journal.specs.declared.request.Done.TheVariants as done
use Rattle.switch_state.specs.Actions.{Action, CanFollow, Installs, PutsBack, Removes, own_files_after, noted, record_of, state_after, without_pkg, work_in}
use Rattle.switch_state.specs.State.{Now, Recovers, Room, SwitchStands, SwitchState}
use Rattle.switch_state.specs.declared.prepared.Change.{Change}
use Rattle.switch_state.specs.declared.prepared.Change.TheVariants.{Comes, Goes}
use Rattle.switch_state.specs.declared.prepared.Prepared.{Prepared}

-- the paths of files, each owned by a package
abbrev pub owned_files : Pkg → List Placed → List OwnedPath
owned_files pkg files = map (λ (file : Placed). owned_by file.path pkg) files

-- what is changed in memory
abbrev pub change_of : ℕ → Action → Change
change_of number (Installs member files) = Comes member (owned_files member.package.pkg files) (done.Installed member.package.pkg)
change_of number (Removes pkg kept) = Goes pkg (done.Removed pkg number (is_some kept))
change_of number (PutsBack member files) = Comes member (owned_files member.package.pkg files) (done.PutBack member.package.pkg)

-- one path more is owned
abbrev pub and_owned : List OwnedPath → OwnedPath → List OwnedPath
and_owned owned entry = put_by path_of entry owned

-- a member comes last, with these paths
abbrev pub with_owned : Member → List OwnedPath → Done → SwitchState → SwitchState
with_owned member owned what state = record {
  members = state.members ++ member ∷ [];
  owned = fold and_owned state.owned owned;
  roots = state.roots;
  request = noted what state.request;
}

-- the state after the change in memory
abbrev pub state_changed : Change → SwitchState → SwitchState
state_changed (Comes member owned what) state = with_owned member owned what state
state_changed (Goes pkg what) state = without_pkg pkg what state

-- each of these paths in turn meets none that is owned then
abbrev pub CanAdd : List OwnedPath → List OwnedPath → Type 0
CanAdd owned [] = Unit {0}
CanAdd owned (entry ∷ entries) = (list_any (meets entry.path) (paths_of owned) ≡ false) × CanAdd (and_owned owned entry) entries

-- the paths can be owned, and there is room for them and for one entry more
pub record CanCome (owned : List OwnedPath) (now : Now) : Type 0 where
  pub can : CanAdd now.state.owned owned
  pub path_room : length owned ≤ now.room.paths
  pub entry_room : 0 < now.room.entries

-- what a change asks of the switch besides room for what the request has done
abbrev pub Fits : Change → Now → Type 0
Fits (Comes member owned what) now = CanCome owned now
Fits (Goes pkg what) now = Unit {0}

-- the switch can take the change without memory
pub record CanTake (change : Change) (now : Now) : Type 0 where
  pub fits : Fits change now
  pub done_room : 0 < now.room.done

-- the action was prepared for the switch as it is now
pub record IsPrepared (action : Action) (now : Now) (prepared : Prepared) : Type 0 where
  pub follows : CanFollow now.head.next action now.state
  pub change : prepared.change ≡ change_of now.head.next action
  pub takes : CanTake prepared.change now
  pub ready : IsReady now.head.next (record_of action) (work_in action now.state) prepared.ready

-- there is as much room as before
pub record IsNoLess (before after : Room) : Type 0 where
  pub entries : before.entries ≤ after.entries
  pub paths : before.paths ≤ after.paths
  pub done : before.done ≤ after.done

-- a switch that is as before, with as much room
pub record IsAsBefore (before after : Now) : Type 0 where
  pub head : after.head ≡ before.head
  pub state : after.state ≡ before.state
  pub commits : after.commits ≡ before.commits
  pub room : IsNoLess before.room after.room

-- ---- its commit

-- the switch stands for its disk, whose journal has numbers left
pub record CanAct (now : Now) (files : Tree) (told : Option disks.State) : Type 0 where
  pub few : now.head.next < 2 ^ 63
  pub stands : SwitchStands now.head now.state files told

-- an opening makes the state before the action of it, or the one after it
abbrev pub IsAroundAction : Action → Now → Tree → Tree → Type 0
IsAroundAction action now files image =
    Recovers now.state files image ⊎ Recovers (state_after now.head.next action now.state) (own_files_after action now.state files) image
