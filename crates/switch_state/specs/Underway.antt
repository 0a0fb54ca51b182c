-- How far an open request is: its removals come first. This project's own.
use Rattle.std.specs.Prelude.{◌≡◌, ◌⊎◌, ℕ, List, [], ◌∷◌, ◌++◌, Bool, not, IsTrue, IfSome}
use Rattle.std.specs.List.{list_all, list_any}
use Rattle.opam_names.specs.declared.packages.Pkg.{Pkg}
use Rattle.opam_package.specs.declared.package.Member.{Member}
use Rattle.owner_map.specs.Owning.{is_same_pkg}
use Rattle.switch_journal.specs.declared.request.Done.{Done}
use Rattle.switch_journal.specs.declared.request.Done.TheVariants as done
use Rattle.switch_state.specs.Actions.{Action, CanFollow, state_after}
use Rattle.switch_state.specs.Begins.{Asking, state_begun}
use Rattle.switch_state.specs.Sound.{is_removal_done, member_pkg, removals_left}
use Rattle.switch_state.specs.State.{Request, SwitchState}

-- the packages that the request has removed, in order
abbrev pub removed_of : List Done → List Pkg
removed_of [] = []
removed_of (done.Removed pkg number kept ∷ more) = pkg ∷ removed_of more
removed_of (done.Installed pkg ∷ more) = removed_of more
removed_of (done.PutBack pkg ∷ more) = removed_of more

-- the package is no entry
abbrev pub is_absent : SwitchState → Pkg → Bool
is_absent state pkg = not (list_any (λ (m : Member). is_same_pkg (member_pkg m) pkg) state.members)

-- the request has removed packages and done nothing else, and none of them is an entry
pub record OnlyRemoves (state : SwitchState) (request : Request) : Type 0 where
  pub removals : IsTrue (list_all is_removal_done request.done)
  pub absent : IsTrue (list_all (is_absent state) (removed_of request.done))

-- what the request has removed are the first of its removals, and while some are left it has done nothing else
pub record IsUnderway (state : SwitchState) (request : Request) : Type 0 where
  pub removed : removed_of request.done ++ removals_left request ≡ request.removals
  pub first : (removals_left request ≡ []) ⊎ OnlyRemoves state request

-- so it is with the open request, if there is one
abbrev pub RemovesFirst : SwitchState → Type 0
RemovesFirst state = IfSome state.request (IsUnderway state)

-- a request that begins removes first
abbrev pub BeginsRemoveFirst : Type 0
BeginsRemoveFirst = (number : ℕ) (asking : Asking) (state : SwitchState) → RemovesFirst (state_begun number asking state)

-- each action that can follow keeps it so
abbrev pub ActionsRemoveFirst : Type 0
ActionsRemoveFirst = (number : ℕ) (action : Action) (state : SwitchState) → CanFollow number action state → RemovesFirst state → RemovesFirst (state_after number action state)
