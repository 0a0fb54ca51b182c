-- Which packages a change puts back, once its removals and installs are decided. This project's own.
use Rattle.std.specs.Prelude.{List, [], ◌∷◌, ◌++◌, reverse, filter, take_while, Bool, not, ◌&&◌}
use Rattle.std.specs.List.{list_any}
use Rattle.switch_journal.specs.Applying.{puts_back}
use Rattle.switch_state.specs.Ends.{is_entry_name}
use Rattle.switch_state.specs.Keeps.{wants}
use Rattle.switch_state.specs.State.{SwitchState}
use Rattle.change_outcome.specs.Changes.{Point, Removal, things_done}
use Rattle.change_outcome.specs.Steps.{Decided, back_of, point_then}

-- the request has put the package back
abbrev pub is_back : SwitchState → Removal → Bool
is_back state removal = list_any (puts_back removal.pkg) (things_done state.request)

-- the request wants a package of this name, and none is installed
abbrev pub is_missed : SwitchState → Removal → Bool
is_missed state removal = wants removal.pkg.name state.request && not (is_entry_name state.members removal.pkg.name)

-- What is left to be put back, the last removed first: what is missed, and was removed before all that were put back already.
abbrev pub backs_left : Point → List Removal
backs_left point = reverse (filter (is_missed point.state) (take_while (λ removal. not (is_back point.state removal)) point.removals))

-- what is decided with these put backs, one after another
abbrev pub with_backs : Point → List Decided → List Removal → List Decided
with_backs start before [] = before
with_backs start before (removal ∷ more) = with_backs start (before ++ back_of (point_then start before) removal ∷ []) more
