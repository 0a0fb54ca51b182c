-- What is left of an open request, when a change goes on with it. This project's own.
use Rattle.std.specs.Prelude.{◌≡◌, ℕ, List, [], ◌∷◌, Bool, false, filter, length, map, not, nat_lt, slice_get, ◌||◌, IsTrue, if◌then◌else◌}
use Rattle.std.specs.List.{list_all, list_any}
use Rattle.std.specs.declared.option.Option.{Option}
use Rattle.std.specs.declared.option.Option.TheVariants.{None, Some}
use Rattle.opam_names.specs.ByteOrders.{RisesBy}
use Rattle.opam_names.specs.declared.packages.Pkg.{Pkg}
use Rattle.opam_package.specs.declared.package.Member.{Member}
use Rattle.action_graph.specs.GraphLaws.{HoldsOf}
use Rattle.action_graph.specs.Plans.{AreSteps}
use Rattle.action_graph.specs.declared.plan.Step.{Step}
use Rattle.switch_journal.specs.Applying.{is_put_back}
use Rattle.switch_state.specs.Sound.{comes, installs_of, is_listed, name_of, removals_left}
use Rattle.switch_state.specs.State.{Request, SwitchState}
use Rattle.change_outcome.specs.Changes.{Change}
use Rattle.change_outcome.specs.Running.{leaving}

-- ---- the installs of a request

-- the member comes with the request: no entry of its name stays
abbrev pub comes_with : SwitchState → Request → Option Member → Bool
comes_with state request None = false
comes_with state request (Some member) = comes state request member

-- the same of the member of its target at a place
abbrev pub comes_at : SwitchState → Request → ℕ → Bool
comes_at state request place = comes_with state request (slice_get request.target place)

-- the installs of the request, done or not, in their order, which the target alone gives
abbrev pub AreInstallsOf : SwitchState → Request → List Step → Type 0
AreInstallsOf state request steps = AreSteps request.target (HoldsOf (comes_at state request)) steps

-- the member, if there is one, is of one of these packages
abbrev pub is_one_of : List Pkg → Option Member → Bool
is_one_of pkgs None = false
is_one_of pkgs (Some member) = is_listed pkgs member

-- the request has done the install
abbrev pub is_come : Request → Step → Bool
is_come request step = is_one_of (installs_of request.done) (slice_get request.target step.member)

-- ---- those that are left

-- the steps behind the last one that passes, or all where none does
abbrev pub behind_last : (Step → Bool) → List Step → List Step
behind_last test [] = []
behind_last test (step ∷ steps) = if test step || list_any test steps then behind_last test steps else step ∷ steps

-- the steps up to the last one that passes
abbrev pub up_to_last : (Step → Bool) → List Step → List Step
up_to_last test [] = []
up_to_last test (step ∷ steps) = if test step || list_any test steps then step ∷ up_to_last test steps else []

-- a package was put back
abbrev pub has_put_back : Request → Bool
has_put_back request = list_any is_put_back request.done

-- of the installs those that are left: they stand behind the last one that is done; none is left once a package was put back
abbrev pub installs_left : Request → List Step → List Step
installs_left request steps = if has_put_back request then [] else behind_last (is_come request) steps

-- those before them
abbrev pub installs_passed : Request → List Step → List Step
installs_passed request steps = if has_put_back request then steps else up_to_last (is_come request) steps

-- the members of these that are not installed
abbrev pub left_out : Request → List Step → List ℕ
left_out request steps = map (λ (step : Step). step.member) (filter (λ step. not (is_come request step)) (installs_passed request steps))

-- ---- the rest

-- The change is the rest of the open request of a switch: it removes what is left of the removals, and installs the installs that are left; those
-- before them that are not installed are missing. The target stands in the byte order of names.
pub record IsRest (state : SwitchState) (change : Change) : Type 0 where
  pub request : Request
  pub is_open : state.request ≡ Some request
  pub rises : RisesBy name_of request.target
  pub entries : change.entries ≡ state.members
  pub members : change.members ≡ request.target
  pub within : IsTrue (list_all (λ at. nat_lt at (length change.entries)) change.plan.removals)
  pub removals : leaving change ≡ removals_left request
  pub steps : List Step
  pub order : AreInstallsOf state request steps
  pub installs : change.plan.installs ≡ installs_left request steps
  pub missing : change.plan.missing ≡ left_out request steps
