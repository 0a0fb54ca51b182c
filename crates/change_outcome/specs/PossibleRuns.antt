-- What may come of a change over devices that tell nothing: the runs of which the outcome is one. This project's own.
use Rattle.std.specs.Prelude.{◌≡◌, ℕ, ◌+◌, List, [], ◌∷◌, ◌++◌, length, slice_get, IsTrue}
use Rattle.std.specs.List.{list_any}
use Rattle.std.specs.declared.option.Option.{Option}
use Rattle.std.specs.declared.option.Option.TheVariants.{Some}
use Rattle.opam_package.specs.declared.package.Member.{Member}
use Rattle.change_floor.specs.Floors.{turn_of}
use Rattle.change_floor.specs.declared.turn.Turn.{Turn}
use Rattle.change_floor.specs.declared.turn.Turn.TheVariants.{Remove, Abort, Decide}
use Rattle.outside_io.specs.declared.workshop.Fate.{Fate}
use Rattle.journal_text.specs.declared.record.KeptFiles.{KeptFiles}
use Rattle.journal_text.specs.declared.record.Placed.{Placed}
use Rattle.switch_journal.specs.Applying.{is_kept_removal}
use Rattle.switch_state.specs.Actions.{CanBeSpelled, CanFollow, Installs, PutsBack, Removes}
use Rattle.switch_state.specs.Sound.{member_pkg}
use Rattle.change_verdict.specs.Verdicts.{CanBePlaced}
use Rattle.change_verdict.specs.declared.reason.Reason.{Reason}
use Rattle.change_verdict.specs.declared.verdict.Verdict.TheVariants.{Places, Fails}
use Rattle.back_verdict.specs.BackLaws.{CanComeBack}
use Rattle.back_verdict.specs.declared.why.Why.{Why}
use Rattle.change_outcome.specs.Changes.{Change, Point, Removal, things_done}
use Rattle.change_outcome.specs.Decisions as decision
use Rattle.change_outcome.specs.PutBacks.{backs_left}
use Rattle.change_outcome.specs.Steps.{Decided, abort_of, install_with, only_told, point_then, told_and_done, which_done}

-- what may come of a removal or install whose turn it is: the entry is removed, whatever is kept of it; the member is given up by the need that it
-- lacks; it comes with any files that can be placed; or it fails for any reason
pub data MayBeDecided (change : Change) (point : Point) : Turn → Decided → Type 0 where
  removed : (at : ℕ) (entry : Member) (kept : Option KeptFiles) → slice_get change.entries at ≡ Some entry
      → CanFollow point.number (Removes (member_pkg entry) kept) point.state → CanBeSpelled (Removes (member_pkg entry) kept)
      → MayBeDecided change point (Remove at) (told_and_done (decision.Removed (member_pkg entry)) (Removes (member_pkg entry) kept))
  aborted : (at need : ℕ) → MayBeDecided change point (Abort at need) (abort_of (slice_get change.members at) (slice_get change.members need))
  installed : (at : ℕ) (fate : Fate) (member : Member) (files : List Placed) → slice_get change.members at ≡ Some member
      → CanBePlaced point.state.owned files → CanBeSpelled (Installs member files) → MayBeDecided change point (Decide at fate) (install_with member (Places files))
  failed : (at : ℕ) (fate : Fate) (member : Member) (reason : Reason) → slice_get change.members at ≡ Some member
      → MayBeDecided change point (Decide at fate) (install_with member (Fails reason))

-- what may be decided of the first removals and installs, one after another, by any fates
pub data MayRun (change : Change) (start : Point) : List Decided → Type 0 where
  begins : MayRun change start []
  goes_on : (before : List Decided) (fates : ℕ → Option Fate) (next : Decided) → MayRun change start before
      → MayBeDecided change (point_then start before) (turn_of change.plan (which_done before) fates) next → MayRun change start (before ++ next ∷ [])

-- of all of them
pub record MayRunOut (change : Change) (start : Point) (decided : List Decided) : Type 0 where
  pub runs : MayRun change start decided
  pub all : length decided ≡ length change.plan.removals + length change.plan.installs

-- What may come of a package that was removed: where the request knows that it was kept it comes back, with any opam text and files with which it can,
-- or it does not, for any reason.
pub data MayReturn (point : Point) (removal : Removal) : Decided → Type 0 where
  back : (old : Member) (files : List Placed) → member_pkg old ≡ removal.pkg → IsTrue (list_any (is_kept_removal removal.pkg) (things_done point.state.request))
      → CanComeBack point.state.owned point.state.members old files → CanBeSpelled (PutsBack old files)
      → MayReturn point removal (told_and_done (decision.PutBack removal.pkg) (PutsBack old files))
  away : (why : Why) → MayReturn point removal (only_told (decision.NotPutBack removal.pkg why))

-- what may be decided of all removals and installs and of the first put backs, and what is left to be put back then
pub data MayRestore (change : Change) (start : Point) : List Decided → List Removal → Type 0 where
  ran_out : (before : List Decided) → MayRunOut change start before → MayRestore change start before (backs_left (point_then start before))
  restores_on : (before : List Decided) (removal : Removal) (more : List Removal) (next : Decided) → MayRestore change start before (removal ∷ more)
      → MayReturn (point_then start before) removal next → MayRestore change start (before ++ next ∷ []) more
