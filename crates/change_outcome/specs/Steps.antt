-- What is decided of the next action of a change, and what is done. This project's own.
use Rattle.std.specs.Prelude.{List, [], ◌∷◌, ◌++◌, Bool, is_some, map, filter_map, slice_get}
use Rattle.std.specs.declared.option.Option.{Option}
use Rattle.std.specs.declared.option.Option.TheVariants.{None, Some}
use Rattle.opam_package.specs.declared.package.Member.{Member}
use Rattle.change_floor.specs.Floors.{install_place}
use Rattle.change_floor.specs.declared.turn.Turn.{Turn}
use Rattle.change_floor.specs.declared.turn.Turn.TheVariants.{Remove, Abort, Decide, Wait, Done}
use Rattle.journal_text.specs.declared.record.Placed.{Placed}
use Rattle.switch_state.specs.Actions.{Action, Installs, PutsBack, Removes}
use Rattle.switch_state.specs.Keeps.{kept_of}
use Rattle.switch_state.specs.Sound.{member_pkg}
use Rattle.change_verdict.specs.Verdicts.{install_verdict}
use Rattle.change_verdict.specs.declared.verdict.Verdict.{Verdict}
use Rattle.change_verdict.specs.declared.verdict.Verdict.TheVariants.{Places, Fails}
use Rattle.back_verdict.specs.Backs.{why_of}
use Rattle.back_verdict.specs.declared.why.Why.{Why}
use Rattle.change_outcome.specs.Decisions as decision
use Rattle.change_outcome.specs.Decisions.{Decision}
use Rattle.change_outcome.specs.Changes.{Built, Change, Point, Removal, point_after_all}

-- What is decided, and what is done and committed, if anything is. Nothing is decided of a turn that waits, after the last action, and of places
-- at which nothing stands; no plan that fits comes to these.
pub record Decided : Type 0 where
  pub says : Option Decision
  pub does : Option Action

-- nothing is decided
abbrev pub nothing_decided : Decided
nothing_decided = record { says = None; does = None }

-- it is told, and nothing is done
abbrev pub only_told : Decision → Decided
only_told said = record { says = Some said; does = None }

-- it is told and done
abbrev pub told_and_done : Decision → Action → Decided
told_and_done said action = record { says = Some said; does = Some action }

-- an entry is removed: its files are kept where they have to be
abbrev pub removal_of : Point → Option Member → Decided
removal_of point None = nothing_decided
removal_of point (Some entry) = told_and_done (decision.Removed (member_pkg entry)) (Removes (member_pkg entry) (kept_of point.state (member_pkg entry) point.files))

-- a member is not installed, for this need of it is not
abbrev pub abort_of : Option Member → Option Member → Decided
abort_of None need = nothing_decided
abort_of (Some member) None = nothing_decided
abort_of (Some member) (Some need) = only_told (decision.Aborted (member_pkg member) (member_pkg need))

-- a member is installed with its files, or it fails
abbrev pub install_with : Member → Verdict → Decided
install_with member (Places files) = told_and_done (decision.Installed (member_pkg member)) (Installs member files)
install_with member (Fails reason) = only_told (decision.Failed (member_pkg member) reason)

-- a member is installed, by what its build brings
abbrev pub install_of : Point → Option Member → Built → Decided
install_of point None built = nothing_decided
install_of point (Some member) built = install_with member (install_verdict point.files point.state.owned (member_pkg member) built.brings)

-- a package is put back with its files, unless something is told against it
abbrev pub back_with : Removal → Option (Member × List Placed) → Option Why → Decided
back_with removal kept (Some why) = only_told (decision.NotPutBack removal.pkg why)
back_with removal None None = nothing_decided
back_with removal (Some kept) None = told_and_done (decision.PutBack removal.pkg) (PutsBack kept.0 kept.1)

-- a package that was removed is put back, or it is not
abbrev pub back_of : Point → Removal → Decided
back_of point removal = back_with removal removal.kept (why_of point.files point.state.owned point.state.members removal.kept)

-- what is decided of an action whose turn it is
abbrev pub decided_on : Change → Point → Turn → Decided
decided_on change point (Remove entry) = removal_of point (slice_get change.entries entry)
decided_on change point (Abort member need) = abort_of (slice_get change.members member) (slice_get change.members need)
decided_on change point (Decide member fate) = install_of point (slice_get change.members member) (change.built (install_place change.plan.installs member))
decided_on change point Wait = nothing_decided
decided_on change point Done = nothing_decided

-- ---- many of them

-- what was told
abbrev pub told_in : List Decided → List Decision
told_in decided = filter_map (λ (one : Decided). one.says) decided

-- what was done and committed
abbrev pub done_in : List Decided → List Action
done_in decided = filter_map (λ (one : Decided). one.does) decided

-- of each whether it was done
abbrev pub which_done : List Decided → List Bool
which_done decided = map (λ (one : Decided). is_some one.does) decided

-- where the switch stands then
abbrev pub point_then : Point → List Decided → Point
point_then start decided = point_after_all start (done_in decided)

-- what is decided with one more turn
abbrev pub with_turn : Change → Point → List Decided → Turn → List Decided
with_turn change start before turn = before ++ decided_on change (point_then start before) turn ∷ []
