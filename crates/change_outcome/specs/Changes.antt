-- A change, and where it stands between two of its actions. This project's own.
use Rattle.std.specs.Prelude.{◌≡◌, ℕ, Bool, List, [], ◌∷◌, ◌++◌, fold}
use Rattle.std.specs.FinMap.{get}
use Rattle.std.specs.List.{find}
use Rattle.std.specs.declared.option.Option.{Option}
use Rattle.std.specs.declared.option.Option.TheVariants.{None, Some}
use Rattle.opam_names.specs.declared.packages.Pkg.{Pkg}
use Rattle.opam_filter.specs.Variables.{Values}
use Rattle.opam_package.specs.PackageTexts.{IsPackageText}
use Rattle.opam_package.specs.declared.package.Member.{Member}
use Rattle.action_graph.specs.declared.plan.Plan.{Plan}
use Rattle.outside_io.specs.declared.workshop.Fate.{Fate}
use Rattle.journal_text.specs.declared.record.KeptFiles.{KeptFiles}
use Rattle.journal_text.specs.declared.record.Placed.{Placed}
use Rattle.crash_disk.specs.Disks.{Tree}
use Rattle.switch_journal.specs.Places.{record_path, text_of}
use Rattle.switch_journal.specs.Steps.{one_more_number}
use Rattle.switch_journal.specs.declared.request.Done.{Done}
use Rattle.switch_journal.specs.declared.request.Done.TheVariants as done
use Rattle.switch_state.specs.Actions.{Action, Installs, PutsBack, Removes, own_files_after, state_after}
use Rattle.switch_state.specs.Keeps.{is_member_of}
use Rattle.switch_state.specs.OpamTexts.{IsFoundKept}
use Rattle.switch_state.specs.State.{Request, SwitchState}
use Rattle.change_verdict.specs.Sources.{AreSourcesOf, Folder}
use Rattle.change_verdict.specs.declared.verdict.Sources.{Sources}

-- ---- what is to be done

-- what came of the job of an install: how it ended, and what its build brings
pub record Built : Type 0 where
  pub fate : Fate
  pub brings : Sources

-- a change: what is installed as it begins, the members of its target, its plan, whose places are in these two, and what comes of the job of
-- the install at each place
pub record Change : Type 0 where
  pub entries : List Member
  pub members : List Member
  pub plan : Plan
  pub built : ℕ → Built

-- what came of a job is what is told of it
abbrev pub IsBuiltAs : Folder → List ℕ → Fate → Built → Type 0
IsBuiltAs folder name fate built = (built.fate ≡ fate) × AreSourcesOf folder name fate built.brings

-- ---- between two actions

-- A package that the request has removed, and what can be put back of it: the package as its kept opam text says, and its files.
pub record Removal : Type 0 where
  pub pkg : Pkg
  pub kept : Option (Member × List Placed)

-- A switch between two actions: its state, the number of its next record, its files, and what its request has removed, in that order. Of the
-- files those in the journal's folder are not looked at.
pub record Point : Type 0 where
  pub state : SwitchState
  pub number : ℕ
  pub files : Tree
  pub removals : List Removal

-- what can be put back of an entry, by the files that its removal keeps
abbrev pub kept_entry : Option Member → Option KeptFiles → Option (Member × List Placed)
kept_entry None kept = None
kept_entry (Some entry) None = None
kept_entry (Some entry) (Some kept) = Some (entry, kept.files)

-- what the request has removed after an action
abbrev pub removals_after : Action → Point → List Removal
removals_after (Installs member files) point = point.removals
removals_after (Removes pkg kept) point = point.removals ++ record { pkg = pkg; kept = kept_entry (find (is_member_of pkg) point.state.members) kept } ∷ []
removals_after (PutsBack member files) point = point.removals

-- the switch after an action; numbers stand still at their end, as those of its journal do
abbrev pub point_after : Point → Action → Point
point_after point action = record {
  state = state_after point.number action point.state;
  number = one_more_number point.number;
  files = own_files_after action point.state point.files;
  removals = removals_after action point;
}

-- the switch after these actions
abbrev pub point_after_all : Point → List Action → Point
point_after_all point actions = fold point_after point actions

-- ---- as a change begins

-- what can be put back, where a record keeps this
abbrev pub IsReadOf : Values → Pkg → Option KeptFiles → Option (Member × List Placed) → Type 0
IsReadOf globals pkg None back = back ≡ None
IsReadOf globals pkg (Some kept) None = ⊥
IsReadOf globals pkg (Some kept) (Some back) = IsPackageText kept.opam pkg globals back.0.package × (back.0.opam ≡ kept.opam) × (back.1 ≡ kept.files)

-- what can be put back of a package that the record with this number has removed
abbrev pub IsKeptOf : Values → Tree → Pkg → ℕ → Option (Member × List Placed) → Type 0
IsKeptOf globals files pkg number back = (kept : Option KeptFiles) × IsFoundKept pkg (text_of (get files (record_path number))) kept × IsReadOf globals pkg kept back

-- what a request has removed that has done these things, as the records on the disk say it
pub data AreRemoved (globals : Values) (files : Tree) : List Done → List Removal → Type 0 where
  nothing : AreRemoved globals files [] []
  removed : (pkg : Pkg) (number : ℕ) (kept : Bool) (back : Option (Member × List Placed)) (more : List Done) (removals : List Removal) → IsKeptOf globals files pkg number back
      → AreRemoved globals files more removals → AreRemoved globals files (done.Removed pkg number kept ∷ more) (record { pkg = pkg; kept = back } ∷ removals)
  installed : (pkg : Pkg) (more : List Done) (removals : List Removal) → AreRemoved globals files more removals → AreRemoved globals files (done.Installed pkg ∷ more) removals
  put_back : (pkg : Pkg) (more : List Done) (removals : List Removal) → AreRemoved globals files more removals → AreRemoved globals files (done.PutBack pkg ∷ more) removals

-- what a request has done, or nothing where none is open
abbrev pub things_done : Option Request → List Done
things_done None = []
things_done (Some request) = request.done

-- where a change begins on a disk with these files
pub record IsBeginning (globals : Values) (state : SwitchState) (number : ℕ) (files : Tree) (point : Point) : Type 0 where
  pub same_state : point.state ≡ state
  pub same_number : point.number ≡ number
  pub same_files : point.files ≡ files
  pub removals : AreRemoved globals files (things_done state.request) point.removals
