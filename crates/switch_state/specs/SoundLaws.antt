-- Laws of sound states. This project's own.
use Rattle.std.specs.Prelude.{◌≡◌, ℕ, List, [], ◌∷◌, ◌++◌, filter, reverse, Bool, not, bytes_eq, ◌&&◌, ◌||◌, IsTrue, IsFalse, IfSome}
use Rattle.std.specs.List.{list_all, list_any}
use Rattle.std.specs.declared.option.Option.{Option}
use Rattle.std.specs.declared.option.Option.TheVariants.{None}
use Rattle.opam_names.specs.declared.packages.Pkg.{Pkg}
use Rattle.opam_package.specs.Dependencies.{is_edge, is_run_with}
use Rattle.opam_package.specs.declared.package.Member.{Member}
use Rattle.path_order.specs.Apart.{meets}
use Rattle.owner_map.specs.Owning.{is_same_pkg}
use Rattle.journal_text.specs.Parts.{paths_of}
use Rattle.journal_text.specs.declared.record.KeptFiles.{KeptFiles}
use Rattle.journal_text.specs.declared.record.Placed.{Placed}
use Rattle.crash_disk.specs.Disks.{Tree}
use Rattle.switch_state.specs.Actions.{Action, CanBeSpelled, CanFollow, Installs, PutsBack, Removes, is_other_member, own_files_after, state_after}
use Rattle.switch_state.specs.Begins.{Asking, begun_from, state_begun}
use Rattle.switch_state.specs.Ends.{state_ended}
use Rattle.switch_state.specs.Sound.{AreInOrder, InstalledIsSound, IsForeign, Sound, TargetAgrees, coming, has_edge, installs_of, is_against, member_pkg, member_pkgs, name_of, runs_on}
use Rattle.switch_state.specs.State.{Now, SwitchState}
use Rattle.switch_state.specs.Underway.{RemovesFirst}

-- nothing is installed, and nothing was asked for
abbrev pub empty_state : SwitchState
empty_state = record { members = []; owned = []; roots = []; request = None }

-- the empty state is sound, over any files
abbrev pub EmptyIsSound : Type 0
EmptyIsSound = (files : Tree) → Sound empty_state files

-- a member suits what is installed: it runs on that, no entry has an edge to it, none stands against it, and no path of its files meets
-- a foreign file
pub record Suits (state : SwitchState) (files : Tree) (member : Member) (placed : List Placed) : Type 0 where
  pub runs : IsTrue (runs_on (member_pkgs (state.members ++ member ∷ [])) member.package)
  pub last : IsFalse (list_any (λ (m : Member). is_edge m.package (member_pkg member)) state.members)
  pub agreed : IsFalse (list_any (λ (m : Member). is_against m.package member.package) state.members)
  pub agrees : IsFalse (list_any (λ (m : Member). is_against member.package m.package) state.members)
  pub foreign : (path : List ℕ) → IsForeign state files path → IsFalse (list_any (meets path) (paths_of placed))

-- ---- what is installed

-- what is installed stays sound with a member that can come and suits it
abbrev pub KeepsInstalled : (Member → List Placed → Action) → Type 0
KeepsInstalled comes =
    (number : ℕ) (member : Member) (placed : List Placed) (state : SwitchState) (files : Tree) → CanFollow number (comes member placed) state → CanBeSpelled (comes member placed)
    → Suits state files member placed → InstalledIsSound state files
    → InstalledIsSound (state_after number (comes member placed) state) (own_files_after (comes member placed) state files)

-- so it is with each install that suits
abbrev pub InstallsKeepInstalled : Type 0
InstallsKeepInstalled = KeepsInstalled Installs

-- so it is with each package that is put back and suits
abbrev pub PutBacksKeepInstalled : Type 0
PutBacksKeepInstalled = KeepsInstalled PutsBack

-- no other entry names the package among what it needs when it runs
abbrev pub IsUnneeded : Pkg → SwitchState → Type 0
IsUnneeded pkg state = IsFalse (list_any (λ (m : Member). is_other_member pkg m && is_run_with m.package.items pkg.name) state.members)

-- what is installed stays sound without a package that no other entry needs
abbrev pub RemovalsKeepInstalled : Type 0
RemovalsKeepInstalled =
    (number : ℕ) (pkg : Pkg) (kept : Option KeptFiles) (state : SwitchState) (files : Tree) → IsUnneeded pkg state → InstalledIsSound state files
    → InstalledIsSound (state_after number (Removes pkg kept) state) (own_files_after (Removes pkg kept) state files)

-- ---- what is left of an open request too

-- with the package the installs that the open request has done still stand in their order
abbrev pub ComesInTurn : Pkg → SwitchState → Type 0
ComesInTurn pkg state = IfSome state.request (λ request. AreInOrder (coming state request) (installs_of request.done ++ pkg ∷ []))

-- a state stays sound with an install that can follow, suits it and comes in turn
abbrev pub InstallsKeepSound : Type 0
InstallsKeepSound =
    (number : ℕ) (member : Member) (placed : List Placed) (state : SwitchState) (files : Tree) → CanFollow number (Installs member placed) state → CanBeSpelled (Installs member placed)
    → Suits state files member placed → ComesInTurn (member_pkg member) state → Sound state files
    → Sound (state_after number (Installs member placed) state) (own_files_after (Installs member placed) state files)

-- a state whose request removes first stays sound with a package that can be put back and suits it
abbrev pub PutBacksKeepSound : Type 0
PutBacksKeepSound =
    (number : ℕ) (member : Member) (placed : List Placed) (state : SwitchState) (files : Tree) → CanFollow number (PutsBack member placed) state → CanBeSpelled (PutsBack member placed)
    → Suits state files member placed → RemovesFirst state → Sound state files
    → Sound (state_after number (PutsBack member placed) state) (own_files_after (PutsBack member placed) state files)

-- and with each removal that can follow
abbrev pub RemovalsKeepSound : Type 0
RemovalsKeepSound =
    (number : ℕ) (pkg : Pkg) (kept : Option KeptFiles) (state : SwitchState) (files : Tree) → CanFollow number (Removes pkg kept) state → RemovesFirst state → Sound state files
    → Sound (state_after number (Removes pkg kept) state) (own_files_after (Removes pkg kept) state files)

-- ---- a request ends and begins

-- what is installed stays sound with the end of a request, and no request is open then
abbrev pub EndsKeepSound : Type 0
EndsKeepSound = (state : SwitchState) (files : Tree) → InstalledIsSound state files → Sound (state_ended state) files

-- an entry leaves with a request
abbrev pub is_leaving : Asking → Member → Bool
is_leaving asking member = list_any (is_same_pkg (member_pkg member)) asking.removals

-- an entry of this name does not
abbrev pub is_left_entry : Asking → List ℕ → Member → Bool
is_left_entry asking name member = bytes_eq (name_of member) name && not (is_leaving asking member)

-- the members of its target that come: those of which no entry of their name is left
abbrev pub arriving : SwitchState → Asking → List Member
arriving state asking = filter (λ (member : Member). not (list_any (is_left_entry asking (name_of member)) state.members)) asking.target

-- an entry leaves, or it has no edge to one that leaves, nor in the target to one that comes
abbrev pub is_left_apart : SwitchState → Asking → Member → Bool
is_left_apart state asking member = is_leaving asking member || (not (has_edge member asking.removals) && not (has_edge member (member_pkgs (arriving state asking))))

-- what is asked of a state is sound: its target agrees, its removals stand in reverse order of installation, the other entries stand
-- apart from them and from what comes, and what comes has an order without end in a cycle
pub record AsksSoundly (state : SwitchState) (asking : Asking) : Type 0 where
  pub target : TargetAgrees asking.target
  pub removals : filter (λ (pkg : Pkg). list_any (is_same_pkg pkg) asking.removals) (member_pkgs state.members) ≡ reverse asking.removals
  pub apart : IsTrue (list_all (is_left_apart state asking) state.members)
  pub order : AreInOrder (arriving state asking) []

-- where what is installed is sound, a request that asks soundly leaves the state sound
abbrev pub NextBeginsKeepSound : Type 0
NextBeginsKeepSound = (number : ℕ) (asking : Asking) (state : SwitchState) (files : Tree) → AsksSoundly state asking → InstalledIsSound state files → Sound (state_begun number asking state) files

-- so does one that begins after an earlier one is ended
abbrev pub BeginsKeepSound : Type 0
BeginsKeepSound = (asking : Asking) (now : Now) (files : Tree) → AsksSoundly now.state asking → InstalledIsSound now.state files → Sound (begun_from asking now) files
