-- Whatever comes of a change, each of its actions can be committed when its turn has come, over devices that tell nothing too. This project's own.
use Rattle.std.specs.Prelude.{◌≡◌, ℕ, ◌+◌, ◌<◌, ◌≤◌, ◌^◌, List, ◌∷◌, ◌++◌, length, map, slice_get, ◌&&◌, IfSome, IsFalse, IsSome, IsTrue}
use Rattle.std.specs.List.{All, list_all, list_any}
use Rattle.std.specs.declared.option.Option.{Option}
use Rattle.std.specs.declared.option.Option.TheVariants.{None, Some}
use Rattle.opam_package.specs.declared.limits.TheConstants.{OPAM_LIMIT}
use Rattle.opam_package.specs.declared.package.Member.{Member}
use Rattle.change_floor.specs.Floors.{turn_of}
use Rattle.change_floor.specs.declared.turn.Turn.{Turn}
use Rattle.change_floor.specs.declared.turn.Turn.TheVariants.{Remove, Abort, Decide, Wait, Done}
use Rattle.outside_io.specs.declared.workshop.Fate.{Fate}
use Rattle.journal_text.specs.Parts.{IsPackage, IsPlaced}
use Rattle.journal_text.specs.declared.record.Placed.{Placed}
use Rattle.switch_journal.specs.Applying.{are_few, are_few_paths, is_kept_removal}
use Rattle.switch_journal.specs.declared.request.Done.{Done as Thing}
use Rattle.switch_state.specs.Actions.{CanBeSpelled, CanFollow, Installs, PutsBack, Removes}
use Rattle.switch_state.specs.Ends.{is_entry_name}
use Rattle.switch_state.specs.Keeps.{wants}
use Rattle.switch_state.specs.OpamTexts.{removed_by}
use Rattle.switch_state.specs.Sound.{member_pkg, name_of}
use Rattle.switch_state.specs.State.{member_entry}
use Rattle.switch_state.specs.Underway.{RemovesFirst, removed_of}
use Rattle.switch_state.specs.WellFormed.{IsWellFormed}
use Rattle.switch_journal.specs.declared.request.TheConstants.{ENTRY_LIMIT}
use Rattle.change_verdict.specs.Verdicts.{CanBePlaced, IfFound}
use Rattle.change_verdict.specs.declared.verdict.Sources.{Sources}
use Rattle.change_verdict.specs.declared.verdict.Sources.TheVariants.{Found, Refused}
use Rattle.back_verdict.specs.BackLaws.{CanComeBack}
use Rattle.change_outcome.specs.Changes.{Change, Point, Removal, things_done}
use Rattle.change_outcome.specs.Outcomes.{actions_decided, first_decided}
use Rattle.change_outcome.specs.PutBacks.{backs_left, with_backs}
use Rattle.change_outcome.specs.PossibleRuns.{MayRestore, MayRun}
use Rattle.change_outcome.specs.Running.{CanRun, staying}
use Rattle.change_outcome.specs.Steps.{Decided, done_in, point_then, which_done}

-- ---- removals and installs

-- the action of a turn can be committed: a removal, and an install with any files that can be placed
abbrev pub TurnCanFollow : Change → Point → Turn → Type 0
TurnCanFollow change point (Remove at) = (entry : Member) × (slice_get change.entries at ≡ Some entry) × CanFollow point.number (Removes (member_pkg entry) None) point.state
TurnCanFollow change point (Abort at need) = Unit {0}
TurnCanFollow change point (Decide at fate) =
    (member : Member) × (slice_get change.members at ≡ Some member)
    × ((files : List Placed) → CanBePlaced point.state.owned files → CanFollow point.number (Installs member files) point.state)
TurnCanFollow change point Wait = Unit {0}
TurnCanFollow change point Done = ⊥

-- so it is with the next turn of any run that may come, as long as one is left
abbrev pub WhatMayComeCanFollow : Type 0
WhatMayComeCanFollow = (change : Change) (start : Point) (before : List Decided) (fates : ℕ → Option Fate) → CanRun change start → MayRun change start before
    → length before < length change.plan.removals + length change.plan.installs → TurnCanFollow change (point_then start before) (turn_of change.plan (which_done before) fates)

-- where a run stands: its state is well formed and has no more entries and paths than a switch may have, and as long as numbers last each action has
-- taken one
pub record StandsWell (start point : Point) (before : List Decided) : Type 0 where
  pub formed : IsWellFormed point.state
  pub few : IsTrue (are_few (map member_entry point.state.members) && are_few_paths point.state.owned)
  pub number : start.number + length (done_in before) ≤ 2 ^ 63 → point.number ≡ start.number + length (done_in before)

-- so any run stands that may come of a well-formed state
abbrev pub WhatMayComeStandsWell : Type 0
WhatMayComeStandsWell = (change : Change) (start : Point) (before : List Decided) → CanRun change start → IsWellFormed start.state → MayRun change start before
    → StandsWell start (point_then start before) before

-- ---- put backs

-- A change that may be run and may put packages back: its request removes first, and what it has removed is known; what stays has names that the
-- request wants; and its target is no more than a switch may have.
pub record CanRestore (change : Change) (start : Point) : Type 0 where
  pub runs : CanRun change start
  pub formed : IsWellFormed start.state
  pub first : RemovesFirst start.state
  pub removed : map (λ (removal : Removal). removal.pkg) start.removals ≡ removed_of (things_done start.state.request)
  pub wanted : IsTrue (list_all (λ member. wants (name_of member) start.state.request) (staying change))
  pub few : length change.members ≤ ENTRY_LIMIT

-- a put back whose turn has come: the request has removed the package, no entry has its name, and where the request knows that it was kept it can be
-- committed with any opam text and files with which it can come back
pub record BackCanFollow (point : Point) (removal : Removal) : Type 0 where
  pub removed : IsSome (removed_by removal.pkg point.state.request)
  pub fresh : IsFalse (is_entry_name point.state.members removal.pkg.name)
  pub follows : (old : Member) (files : List Placed) → member_pkg old ≡ removal.pkg → IsTrue (list_any (is_kept_removal removal.pkg) (things_done point.state.request))
      → CanComeBack point.state.owned point.state.members old files → CanFollow point.number (PutsBack old files) point.state

-- so it is with the next of any put backs that may come
abbrev pub WhatMayComeBackCanFollow : Type 0
WhatMayComeBackCanFollow = (change : Change) (start : Point) (before : List Decided) (removal : Removal) (more : List Removal)
    → CanRestore change start → MayRestore change start before (removal ∷ more) → BackCanFollow (point_then start before) removal

-- and there too the run stands well
abbrev pub WhatMayComeBackStandsWell : Type 0
WhatMayComeBackStandsWell = (change : Change) (start : Point) (before : List Decided) (left : List Removal) → CanRestore change start → MayRestore change start before left
    → StandsWell start (point_then start before) before

-- ---- what is told

-- files that a build brings stand at paths
abbrev pub AreAtPaths : Sources → Type 0
AreAtPaths (Found files) = All IsPlaced files
AreAtPaths (Refused reason) = Unit {0}

-- what a change is made of can be recorded: its entries and members are packages, opam texts of members are no longer than that of a package may be,
-- and what builds bring are files at paths, no more than a package may have, and none of them the switch's own
pub record CanBeRecorded (change : Change) : Type 0 where
  pub entries : All (λ member. IsPackage (member_pkg member)) change.entries
  pub members : All (λ member. IsPackage (member_pkg member)) change.members
  pub texts : All (λ (member : Member). length member.opam ≤ OPAM_LIMIT) change.members
  pub brought : (place : ℕ) → IfFound (change.built place).brings
  pub placed : (place : ℕ) → AreAtPaths (change.built place).brings

-- so what is decided of removals and installs is a run that may come
abbrev pub WhatIsDecidedMayCome : Type 0
WhatIsDecidedMayCome = (change : Change) (start : Point) (count : ℕ) → CanRun change start → IsWellFormed start.state → CanBeRecorded change
    → count ≤ length change.plan.removals + length change.plan.installs → MayRun change start (first_decided change start count)

-- what is kept of a package is that package, its record can be spelled, and the request knows that it was kept
abbrev pub IsKeptFor : List Thing → Removal → Type 0
IsKeptFor things removal = IfSome removal.kept (λ kept.
    (member_pkg kept.0 ≡ removal.pkg) × CanBeSpelled (PutsBack kept.0 kept.1) × IsTrue (list_any (is_kept_removal removal.pkg) things))

-- and what is decided of put backs may come too, where so it is with what the request has removed before
abbrev pub WhatIsPutBackMayCome : Type 0
WhatIsPutBackMayCome = (change : Change) (start : Point) (front left : List Removal) → CanRestore change start → CanBeRecorded change
    → All (IsKeptFor (things_done start.state.request)) start.removals → backs_left (point_then start (actions_decided change start)) ≡ front ++ left
    → MayRestore change start (with_backs start (actions_decided change start) front) left
