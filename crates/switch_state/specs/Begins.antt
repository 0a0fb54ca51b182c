-- A request begins: an earlier one is ended first, a slot is written where one is due, and then its record is committed. This
-- project's own.
use Rattle.std.specs.Prelude.{◌≡◌, ◌⊎◌, ℕ, ◌<◌, ◌≤◌, ◌^◌, List, [], map, length, is_some, nat_lt, IsTrue, if◌then◌else◌, slice_get}
use Rattle.std.specs.List.{filter_map, list_all}
use Rattle.std.specs.Option.{option_map}
use Rattle.std.specs.declared.option.Option.{Option}
use Rattle.std.specs.declared.option.Option.TheVariants.{None, Some}
use Rattle.opam_names.specs.declared.packages.Pkg.{Pkg}
use Rattle.opam_package.specs.declared.package.Member.{Member}
use Rattle.opam_package.specs.declared.package.Target.{Target}
use Rattle.journal_text.specs.Records.{IsInOrder, record_bytes}
use Rattle.journal_text.specs.declared.record.Rec.{Rec}
use Rattle.journal_text.specs.declared.record.Rec.TheVariants.{Begin}
use Rattle.journal_text.specs.declared.record.TheConstants.{RECORD_LIMIT}
use Rattle.crash_disk.specs.Disks as disks
use Rattle.crash_disk.specs.Disks.{Tree}
use Rattle.switch_journal.specs.Applying.{applied}
use Rattle.switch_journal.specs.Contents.{Contents}
use Rattle.switch_journal.specs.Journal.{Head, is_due}
use Rattle.switch_journal.specs.Places.{record_path}
use Rattle.switch_journal.specs.Snapshots.{with_slot}
use Rattle.switch_journal.specs.Steps.{with_one_more}
use Rattle.switch_state.specs.Ends.{state_ended}
use Rattle.switch_state.specs.Prepares.{CanAct}
use Rattle.switch_state.specs.Sound.{member_pkg}
use Rattle.switch_state.specs.State.{Now, Recovers, Request, SwitchStands, SwitchState, contents_in, member_entry}
use Rattle.switch_state.specs.declared.request.OpenRequest.{OpenRequest}

-- what a request asks for: the names that are asked for, the members that its end is to have, and what it removes
pub record Asking : Type 0 where
  pub roots : List (List ℕ)
  pub target : List Member
  pub removals : List Pkg

-- the package of the entry at this place
abbrev pub pkg_at : List Member → ℕ → Option Pkg
pkg_at members place = option_map member_pkg (slice_get members place)

-- the packages of the entries at these places
abbrev pub pkgs_at : List Member → List ℕ → List Pkg
pkgs_at members places = filter_map (pkg_at members) places

-- a request for a target that removes the entries at these places
abbrev pub asking_for : Target → List ℕ → SwitchState → Asking
asking_for target places state = record { roots = target.roots; target = target.members; removals = pkgs_at state.members places }

-- the record that begins it
abbrev pub begin_record : Asking → Rec
begin_record asking = Begin asking.roots (map member_entry asking.target) asking.removals

-- the same of an open request
abbrev pub begin_by : List (List ℕ) → OpenRequest → Rec
begin_by roots request = Begin roots (map member_entry request.target) request.removals

-- the request as it begins, by the record with this number
abbrev pub request_begun : ℕ → Asking → Request
request_begun number asking = record { from = record_path number; target = asking.target; removals = asking.removals; done = [] }

-- these names are asked for, and this request is open
abbrev pub with_request : List (List ℕ) → Request → SwitchState → SwitchState
with_request roots request state = record { members = state.members; owned = state.owned; roots = roots; request = Some request }

-- the state once it has begun
abbrev pub state_begun : ℕ → Asking → SwitchState → SwitchState
state_begun number asking state = with_request asking.roots (request_begun number asking) state

-- ---- what comes before

-- the state once an earlier request is ended
abbrev pub state_closed : SwitchState → SwitchState
state_closed state = if is_some state.request then state_ended state else state

-- the journal then
abbrev pub head_closed : SwitchState → Head → Head
head_closed state head = if is_some state.request then with_one_more head else head

-- the journal once a slot is written where one is due
abbrev pub head_slotted : Head → Head
head_slotted head = if is_due head then with_slot head else head

-- the number of the record that begins a request
abbrev pub begin_number : Now → ℕ
begin_number now = (head_closed now.state now.head).next

-- the state once a request has begun
abbrev pub begun_from : Asking → Now → SwitchState
begun_from asking now = state_begun (begin_number now) asking (state_closed now.state)

-- ---- when it can begin

-- the places are those of entries
abbrev pub AreEntries : List Member → List ℕ → Type 0
AreEntries members places = IsTrue (list_all (λ place. nat_lt place (length members)) places)

-- the record with this number that begins it can be spelled, and can be applied
pub record BeginFits (number : ℕ) (asking : Asking) (state : SwitchState) : Type 0 where
  pub ordered : IsInOrder (begin_record asking)
  pub short : length (record_bytes (begin_record asking)) ≤ RECORD_LIMIT
  pub after : Contents
  pub follows : applied number (record_path number) (begin_record asking) (contents_in state) ≡ Some after

-- it can once an earlier request is ended
abbrev pub CanBegin : Asking → Now → Type 0
CanBegin asking now = BeginFits (begin_number now) asking (state_closed now.state)

-- the switch stands for its disk, whose journal has numbers left for the records of an end and a begin
pub record CanOpen (now : Now) (files : Tree) (told : Option disks.State) : Type 0 where
  pub few : begin_number now < 2 ^ 63
  pub stands : SwitchStands now.head now.state files told

-- ---- what a stop leaves

-- an opening makes the state before it, the one with an earlier request ended, or the one with the request begun
abbrev pub IsAroundBegin : Asking → Now → Tree → Tree → Type 0
IsAroundBegin asking now files image = Recovers now.state files image ⊎ Recovers (state_closed now.state) files image ⊎ Recovers (begun_from asking now) files image

-- the same, where none is open before
abbrev pub IsAroundNext : Asking → Now → Tree → Tree → Type 0
IsAroundNext asking now files image = Recovers now.state files image ⊎ Recovers (state_begun now.head.next asking now.state) files image

-- an opening makes the state before an earlier request is ended, or the one after it
abbrev pub IsAroundClose : SwitchState → Tree → Tree → Type 0
IsAroundClose state files image = Recovers state files image ⊎ Recovers (state_closed state) files image

-- the state is as before, or with an earlier request ended
abbrev pub IsOldOrClosed : SwitchState → SwitchState → Type 0
IsOldOrClosed before after = (after ≡ before) ⊎ (after ≡ state_closed before)

-- where memory was wanting the switch is as before, or with an earlier request ended, maybe with a new slot, and stands for its disk
pub record IsStillThere (before after : Now) (old new : Option disks.State) : Type 0 where
  pub state : IsOldOrClosed before.state after.state
  pub commits : after.commits ≡ before.commits
  pub stands : (files : Tree) → CanOpen before files old → SwitchStands after.head after.state files new

-- the same where no request is open before
pub record IsStillNext (before after : Now) (old new : Option disks.State) : Type 0 where
  pub state : after.state ≡ before.state
  pub commits : after.commits ≡ before.commits
  pub stands : (files : Tree) → CanAct before files old → SwitchStands after.head after.state files new
