-- What a switch is, but for its files, which stand on its disk; and when it stands for that disk. This project's own.
use Rattle.std.specs.Prelude.{ℕ, List, [], map}
use Rattle.std.specs.Option.{option_map}
use Rattle.std.specs.declared.option.Option.{Option}
use Rattle.std.specs.declared.option.Option.TheVariants.{None, Some}
use Rattle.opam_names.specs.declared.packages.Pkg.{Pkg}
use Rattle.opam_package.specs.declared.package.Member.{Member}
use Rattle.owner_map.specs.declared.owned.OwnedPath.{OwnedPath}
use Rattle.journal_text.specs.declared.record.Entry.{Entry}
use Rattle.crash_disk.specs.Disks as disks
use Rattle.crash_disk.specs.Disks.{Tree}
use Rattle.switch_journal.specs.Contents.{Contents}
use Rattle.switch_journal.specs.Journal.{Head, StandsFor}
use Rattle.switch_journal.specs.Reading.{standing_of}
use Rattle.switch_journal.specs.Snapshots.{ComesToSame, IsSameSwitch}
use Rattle.switch_journal.specs.declared.request.Done.{Done}
use Rattle.switch_journal.specs.declared.request.Open.{Open}
use Rattle.switch_state.specs.declared.request.OpenRequest.{OpenRequest}

-- a request that is open: the record that begins it, the members that its end is to have, what it removes, and what it has done
pub record Request : Type 0 where
  pub from : List ℕ
  pub target : List Member
  pub removals : List Pkg
  pub done : List Done

-- what is installed, in the order of installation; whose each path is; what was asked for; and the request that is open
pub record SwitchState : Type 0 where
  pub members : List Member
  pub owned : List OwnedPath
  pub roots : List (List ℕ)
  pub request : Option Request

-- how many more entries, owned paths and things done are taken without memory
pub record Room : Type 0 where
  pub entries : ℕ
  pub paths : ℕ
  pub done : ℕ

-- a switch as contracts see it: what its journal knows of the disk, its state, how often it was committed to since it was opened, and
-- its room
pub record Now : Type 0 where
  pub head : Head
  pub state : SwitchState
  pub commits : ℕ
  pub room : Room

-- ---- a state as a journal says it

-- the package alone, with its opam text
abbrev pub member_entry : Member → Entry
member_entry member = record { pkg = member.package.pkg; opam = member.opam }

-- the request as a journal says it
abbrev pub open_of : Request → Open
open_of request = record { from = request.from; target = map member_entry request.target; removals = request.removals; done = request.done }

-- where an entry comes from is no part of a state
abbrev pub contents_in : SwitchState → Contents
contents_in state = record {
  standing = map (standing_of []) (map member_entry state.members);
  owned = state.owned;
  roots = state.roots;
  request = option_map open_of state.request;
}

-- what callers are given of the open request
abbrev pub request_in : OpenRequest → Request
request_in request = record { from = request.from; target = request.target; removals = request.removals; done = request.done.items }

-- how many more things done an open request takes without memory
abbrev pub done_room : Option OpenRequest → ℕ
done_room None = 0
done_room (Some request) = request.done.room

-- ---- a switch and its disk

-- an opening makes this state of the files of a disk, and these files of the switch
abbrev pub Recovers : SwitchState → Tree → Tree → Type 0
Recovers state files image = ComesToSame (contents_in state) files image

-- a switch stands for a disk: its journal does, with contents that are the switch's state, and these are the switch's files
pub record SwitchStands (head : Head) (state : SwitchState) (files : Tree) (told : Option disks.State) : Type 0 where
  pub contents : Contents
  pub same : IsSameSwitch (contents_in state) contents
  pub journal : StandsFor head contents files told
