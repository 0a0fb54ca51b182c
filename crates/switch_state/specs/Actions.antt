-- What is done to a switch by one commit: an install, a removal, or a package that is put back. This project's own.
use Rattle.std.specs.Prelude.{◌≡◌, ◌≤◌, ℕ, List, [], ◌∷◌, ◌++◌, Bool, not, filter, fold, length, is_some}
use Rattle.std.specs.Option.{option_map}
use Rattle.std.specs.declared.option.Option.{Option}
use Rattle.std.specs.declared.option.Option.TheVariants.{Some}
use Rattle.opam_names.specs.declared.packages.Pkg.{Pkg}
use Rattle.opam_package.specs.declared.package.Member.{Member}
use Rattle.owner_map.specs.Owning.{is_of_another, is_same_pkg}
use Rattle.journal_text.specs.Parts.{paths_of}
use Rattle.journal_text.specs.Records.{IsInOrder, record_bytes}
use Rattle.journal_text.specs.declared.record.KeptFiles.{KeptFiles}
use Rattle.journal_text.specs.declared.record.Placed.{Placed}
use Rattle.journal_text.specs.declared.record.Rec.{Rec}
use Rattle.journal_text.specs.declared.record.Rec.TheVariants as rec
use Rattle.journal_text.specs.declared.record.TheConstants.{RECORD_LIMIT}
use Rattle.crash_disk.specs.Disks.{Tree}
use Rattle.crash_disk.specs.Writes.{with_writes}
use Rattle.crash_disk.specs.declared.batch.Write.{Write}
use Rattle.switch_journal.specs.Applying.{applied, own}
use Rattle.switch_journal.specs.Contents.{Contents}
use Rattle.switch_journal.specs.Journal.{work_of}
use Rattle.switch_journal.specs.Places.{record_path}
use Rattle.switch_journal.specs.declared.request.Done.{Done}
use Rattle.switch_journal.specs.declared.request.Done.TheVariants as done
use Rattle.switch_state.specs.State.{Request, SwitchState, contents_in}

-- a package comes with its files, it goes and this is kept of it, or it comes back with its files
pub data Action : Type 0 where
  Installs : Member → List Placed → Action
  Removes : Pkg → Option KeptFiles → Action
  PutsBack : Member → List Placed → Action

-- its record
abbrev pub record_of : Action → Rec
record_of (Installs member files) = rec.Install member.package.pkg member.opam files
record_of (Removes pkg kept) = rec.Remove pkg kept
record_of (PutsBack member files) = rec.PutBack member.package.pkg member.opam files

-- its record can be spelled: its parts stand in order, and it is not too long
pub record CanBeSpelled (action : Action) : Type 0 where
  pub ordered : IsInOrder (record_of action)
  pub short : length (record_bytes (record_of action)) ≤ RECORD_LIMIT

-- it can follow on the state: its record can be applied
abbrev pub CanFollow : ℕ → Action → SwitchState → Type 0
CanFollow number action state = (after : Contents) × (applied number (record_path number) (record_of action) (contents_in state) ≡ Some after)

-- ---- the state after it

-- the open request has done one thing more
abbrev pub and_noted : Done → Request → Request
and_noted what request = record { from = request.from; target = request.target; removals = request.removals; done = request.done ++ what ∷ [] }

-- the same, where a request is open
abbrev pub noted : Done → Option Request → Option Request
noted what request = option_map (and_noted what) request

-- a member comes last, with its paths
abbrev pub and_member : Member → List (List ℕ) → Done → SwitchState → SwitchState
and_member member paths what state = record {
  members = state.members ++ member ∷ [];
  owned = fold (own member.package.pkg) state.owned paths;
  roots = state.roots;
  request = noted what state.request;
}

-- the member is of another package
abbrev pub is_other_member : Pkg → Member → Bool
is_other_member pkg member = not (is_same_pkg member.package.pkg pkg)

-- a package goes, with its paths
abbrev pub without_pkg : Pkg → Done → SwitchState → SwitchState
without_pkg pkg what state = record {
  members = filter (is_other_member pkg) state.members;
  owned = filter (is_of_another pkg) state.owned;
  roots = state.roots;
  request = noted what state.request;
}

-- the state after the action, whose record has this number
abbrev pub state_after : ℕ → Action → SwitchState → SwitchState
state_after number (Installs member files) state = and_member member (paths_of files) (done.Installed member.package.pkg) state
state_after number (Removes pkg kept) state = without_pkg pkg (done.Removed pkg number (is_some kept)) state
state_after number (PutsBack member files) state = and_member member (paths_of files) (done.PutBack member.package.pkg) state

-- ---- the files after it

-- it puts its files, or it takes the paths of the package
abbrev pub work_in : Action → SwitchState → List Write
work_in action state = work_of (record_of action) (contents_in state)

-- the switch's own files after it
abbrev pub own_files_after : Action → SwitchState → Tree → Tree
own_files_after action state files = with_writes (work_in action state) files
