-- What is decided sees only files outside the switch's own folder, so the journal's files may change meanwhile. This project's own.
use Rattle.std.specs.Prelude.{◌≡◌, List, false, IsFalse, ℕ}
use Rattle.std.specs.FinMap.{get}
use Rattle.std.specs.List.{list_any}
use Rattle.std.specs.declared.option.Option.{Option}
use Rattle.opam_names.specs.declared.packages.Pkg.{Pkg}
use Rattle.opam_package.specs.declared.package.Member.{Member}
use Rattle.owner_map.specs.Owning.{paths_of}
use Rattle.owner_map.specs.declared.owned.OwnedPath.{OwnedPath}
use Rattle.journal_text.specs.Parts.{is_own}
use Rattle.journal_text.specs.declared.record.Placed.{Placed}
use Rattle.crash_disk.specs.Disks.{Tree}
use Rattle.switch_journal.specs.Places.{is_inside}
use Rattle.switch_state.specs.Actions.{Action, own_files_after}
use Rattle.switch_state.specs.Keeps.{kept_of}
use Rattle.switch_state.specs.State.{SwitchState}
use Rattle.change_verdict.specs.Verdicts.{install_verdict}
use Rattle.change_verdict.specs.declared.verdict.Sources.{Sources}
use Rattle.back_verdict.specs.Backs.{why_of}

-- the same files stand outside the switch's own folder
abbrev pub AgreeOutside : Tree → Tree → Type 0
AgreeOutside one other = (path : List ℕ) → IsFalse (is_inside path) → get one path ≡ get other path

-- the verdict on an install is the same
abbrev pub VerdictsSeeOutside : Type 0
VerdictsSeeOutside = (one other : Tree) (owned : List OwnedPath) (pkg : Pkg) (brings : Sources) → AgreeOutside one other → install_verdict one owned pkg brings ≡ install_verdict other owned pkg brings

-- so is what stands against a package that would be put back
abbrev pub PutBacksSeeOutside : Type 0
PutBacksSeeOutside = (one other : Tree) (owned : List OwnedPath) (entries : List Member) (kept : Option (Member × List Placed)) → AgreeOutside one other → why_of one owned entries kept ≡ why_of other owned entries kept

-- so is what a removal keeps, where no owned path is the switch's own
abbrev pub RemovalsSeeOutside : Type 0
RemovalsSeeOutside = (one other : Tree) (state : SwitchState) (pkg : Pkg) → list_any is_own (paths_of state.owned) ≡ false → AgreeOutside one other → kept_of state pkg one ≡ kept_of state pkg other

-- and an action leaves the same files there
abbrev pub ActionsStayOutside : Type 0
ActionsStayOutside = (one other : Tree) (state : SwitchState) (action : Action) → AgreeOutside one other → AgreeOutside (own_files_after action state one) (own_files_after action state other)
