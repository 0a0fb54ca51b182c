-- Which changes are run, and that each of their actions can be committed when its turn has come. This project's own.
use Rattle.std.specs.Prelude.{◌≡◌, ℕ, ◌+◌, ◌<◌, ◌≤◌, List, ◌++◌, filter, filter_map, length, map, slice_get, Bool, nat_lt, ◌&&◌, IsFalse, IsTrue}
use Rattle.std.specs.List.{list_all, list_any}
use Rattle.std.specs.Option.{option_map}
use Rattle.std.specs.declared.option.Option.{Option}
use Rattle.std.specs.declared.option.Option.TheVariants.{None, Some}
use Rattle.opam_names.specs.declared.packages.Pkg.{Pkg}
use Rattle.opam_package.specs.declared.package.Member.{Member}
use Rattle.action_graph.specs.declared.plan.Step.{Step}
use Rattle.journal_text.specs.Parts.{AreNamedApart}
use Rattle.switch_journal.specs.Applying.{are_few, are_few_paths, is_put_back}
use Rattle.switch_state.specs.Actions.{Action, CanFollow, Installs, PutsBack, Removes, is_other_member}
use Rattle.switch_state.specs.Sound.{NamesDiffer, is_removal_done, member_pkg, removals_left}
use Rattle.switch_state.specs.State.{Request, member_entry}
use Rattle.change_verdict.specs.Verdicts.{CanBePlaced}
use Rattle.change_outcome.specs.Changes.{Change, Point}
use Rattle.change_outcome.specs.Outcomes.{first_decided, turn_after}
use Rattle.change_outcome.specs.Steps.{decided_on, point_then}

-- the packages that a change removes
abbrev pub leaving : Change → List Pkg
leaving change = filter_map (λ at. option_map member_pkg (slice_get change.entries at)) change.plan.removals

-- the entry is none of these packages
abbrev pub stays_by : List Pkg → Member → Bool
stays_by pkgs member = list_all (λ pkg. is_other_member pkg member) pkgs

-- the entries that are not removed
abbrev pub staying : Change → List Member
staying change = filter (stays_by (leaving change)) change.entries

-- the members that are to be installed
abbrev pub coming : Change → List Member
coming change = filter_map (λ (step : Step). slice_get change.members step.member) change.plan.installs

-- A change may be run: its request is open and leaves what the plan removes, in which nothing was put back where there are installs; removals are
-- entries, installs are members, and no name of them is that of another one or of an entry that stays; all together are no more than a switch may have.
pub record CanRun (change : Change) (start : Point) : Type 0 where
  pub entries : start.state.members ≡ change.entries
  pub request : Request
  pub is_open : start.state.request ≡ Some request
  pub target : request.target ≡ change.members
  pub left : removals_left request ≡ leaving change
  pub done_first : length (filter is_removal_done request.done) ≤ length request.removals
  pub differ : AreNamedApart request.removals
  pub removals : IsTrue (list_all (λ at. nat_lt at (length change.entries)) change.plan.removals)
  pub installs : IsTrue (list_all (λ (step : Step). nat_lt step.member (length change.members)) change.plan.installs)
  pub names : NamesDiffer change.entries
  pub fresh : NamesDiffer (staying change ++ coming change)
  pub back : 0 < length change.plan.installs → IsFalse (list_any is_put_back request.done)
  pub few_now : IsTrue (are_few (map member_entry change.entries) && are_few_paths start.state.owned)
  pub few_then : IsTrue (are_few (map member_entry (staying change ++ coming change)))

-- an action can follow, an install where its files can be placed
abbrev pub MayFollow : Point → Option Action → Type 0
MayFollow point None = Unit {0}
MayFollow point (Some (Removes pkg kept)) = CanFollow point.number (Removes pkg None) point.state
MayFollow point (Some (Installs member files)) = CanBePlaced point.state.owned files → CanFollow point.number (Installs member files) point.state
MayFollow point (Some (PutsBack member files)) = Unit {0}

-- so it is with each removal and install of a change that may be run
abbrev pub ActionsCanFollow : Type 0
ActionsCanFollow = (change : Change) (start : Point) (count : ℕ) → CanRun change start → count < length change.plan.removals + length change.plan.installs
    → let before = first_decided change start count in MayFollow (point_then start before) (decided_on change (point_then start before) (turn_after change before)).does
