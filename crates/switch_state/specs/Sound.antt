-- When a state is sound: what is installed runs on what stands before it and agrees, its paths clash with none, and what is left of an
-- open request can be done. This project's own. Packages are those of the members of the state, as they were read from their opam texts.
use Rattle.std.specs.Prelude.{◌≡◌, ℕ, List, [], ◌∷◌, ◌++◌, map, filter, drop, length, reverse, Bool, true, false, not, bytes_eq, ◌&&◌, ◌||◌, IsTrue, IsFalse, IsSome, IfSome, if◌then◌else◌}
use Rattle.std.specs.FinMap.{get}
use Rattle.std.specs.List.{IsDistinct, list_all, list_any}
use Rattle.opam_names.specs.ByteOrders.{precedes}
use Rattle.opam_names.specs.declared.packages.Pkg.{Pkg}
use Rattle.opam_filter.specs.Sets.{holds}
use Rattle.opam_package.specs.Dependencies.{is_edge, is_forbidden, is_need, is_other}
use Rattle.opam_package.specs.declared.package.Member.{Member}
use Rattle.opam_package.specs.declared.package.Need.{Need}
use Rattle.opam_package.specs.declared.package.Package.{Package}
use Rattle.path_order.specs.Apart.{AreApart, meets}
use Rattle.owner_map.specs.Owning.{is_same_pkg, paths_of}
use Rattle.owner_map.specs.declared.owned.OwnedPath.{OwnedPath}
use Rattle.crash_disk.specs.Disks.{Tree}
use Rattle.switch_journal.specs.Places.{is_inside}
use Rattle.switch_journal.specs.declared.request.Done.{Done}
use Rattle.switch_journal.specs.declared.request.Done.TheVariants as done
use Rattle.switch_state.specs.State.{Request, SwitchState}

-- the package alone
abbrev pub member_pkg : Member → Pkg
member_pkg member = member.package.pkg

-- the packages of members
abbrev pub member_pkgs : List Member → List Pkg
member_pkgs members = map member_pkg members

-- the name of a member
abbrev pub name_of : Member → List ℕ
name_of member = member.package.pkg.name

-- the list is these, this one, and those
abbrev pub Splits : List Member → List Member → Member → List Member → Type 0
Splits members earlier member later = members ≡ earlier ++ member ∷ later

-- ---- what is installed

-- each name stands once
abbrev pub NamesDiffer : List Member → Type 0
NamesDiffer members = IsDistinct bytes_eq (map name_of members)

-- all that a package needs when it runs holds of a set
abbrev pub runs_on : List Pkg → Package → Bool
runs_on set dependent = list_all (λ (need : Need). holds need.runtime set) dependent.items

-- each entry runs on itself and the entries before it
abbrev pub RunOnEarlier : List Member → Type 0
RunOnEarlier members = (earlier later : List Member) (member : Member) → Splits members earlier member later → IsTrue (runs_on (member_pkgs (earlier ++ member ∷ [])) member.package)

-- each entry's edges in the whole set point before it
abbrev pub EdgesPointBefore : List Member → Type 0
EdgesPointBefore members = (earlier later : List Member) (member : Member) → Splits members earlier member later → IsFalse (list_any (λ m. is_edge member.package (member_pkg m)) later)

-- two packages have a class in common
abbrev pub share_class : Package → Package → Bool
share_class one other = list_any (λ class. list_any (bytes_eq class) other.classes) one.classes

-- two different packages of which one forbids the other, or which share a class
abbrev pub is_against : Package → Package → Bool
is_against one other = is_other one other.pkg && (is_forbidden one other.pkg || share_class one other)

-- no conflict and no shared class stands among these
abbrev pub Agree : List Member → Type 0
Agree members = IsFalse (list_any (λ (one : Member). list_any (λ (other : Member). is_against one.package other.package) members) members)

-- ---- whose the paths are

-- each owner is an entry
abbrev pub OwnersAreEntries : SwitchState → Type 0
OwnersAreEntries state = IsTrue (list_all (λ (o : OwnedPath). list_any (λ m. is_same_pkg (member_pkg m) o.owner) state.members) state.owned)

-- a file of the switch's own files that nobody owns
abbrev pub IsForeign : SwitchState → Tree → List ℕ → Type 0
IsForeign state files path = IsFalse (is_inside path) × IsSome (get files path) × IsFalse (list_any (bytes_eq path) (paths_of state.owned))

-- no owned path equals, is above or is below another owned one or a foreign one
pub record PathsAreApart (state : SwitchState) (files : Tree) : Type 0 where
  pub owned : AreApart (paths_of state.owned)
  pub foreign : (path : List ℕ) → IsForeign state files path → IsFalse (list_any (meets path) (paths_of state.owned))

-- ---- the open request

-- all readings of what a package depends on hold of a set
abbrev pub is_all_met : List Pkg → Package → Bool
is_all_met set dependent = list_all (λ (need : Need). holds need.runtime set && holds need.building set && holds need.full set) dependent.items

-- no member of a target has an item that is not met, and none stands against another
pub record TargetAgrees (target : List Member) : Type 0 where
  pub met : IsTrue (list_all (λ (m : Member). is_all_met (member_pkgs target) m.package) target)
  pub agree : Agree target

-- a removal is done
abbrev pub is_removal_done : Done → Bool
is_removal_done (done.Removed pkg number kept) = true
is_removal_done (done.Installed pkg) = false
is_removal_done (done.PutBack pkg) = false

-- the packages that the request has installed, in order
abbrev pub installs_of : List Done → List Pkg
installs_of [] = []
installs_of (done.Removed pkg number kept ∷ more) = installs_of more
installs_of (done.Installed pkg ∷ more) = pkg ∷ installs_of more
installs_of (done.PutBack pkg ∷ more) = installs_of more

-- its removals that are not done
abbrev pub removals_left : Request → List Pkg
removals_left request = drop (length (filter is_removal_done request.done)) request.removals

-- they stand in reverse order of installation
abbrev pub LeaveInReverse : SwitchState → Request → Type 0
LeaveInReverse state request = filter (λ pkg. list_any (is_same_pkg pkg) (removals_left request)) (member_pkgs state.members) ≡ reverse (removals_left request)

-- an entry that the request neither installed nor has among its removals stays
abbrev pub stays : Request → Member → Bool
stays request member = not (list_any (is_same_pkg (member_pkg member)) (installs_of request.done)) && not (list_any (is_same_pkg (member_pkg member)) request.removals)

-- a member of the target comes where no entry of its name stays
abbrev pub is_kept_entry : Request → List ℕ → Member → Bool
is_kept_entry request name member = bytes_eq (name_of member) name && stays request member

abbrev pub comes : SwitchState → Request → Member → Bool
comes state request member = not (list_any (is_kept_entry request (name_of member)) state.members)

-- the installs of the request, done or not
abbrev pub coming : SwitchState → Request → List Member
coming state request = filter (comes state request) request.target

-- a package has an edge to one of these that is another
abbrev pub has_edge : Member → List Pkg → Bool
has_edge member pkgs = list_any (is_edge member.package) pkgs

-- an entry that stays has no edge to a removal that is not done, nor in the target to an install
abbrev pub is_apart : SwitchState → Request → Member → Bool
is_apart state request member =
    not (stays request member) || (not (has_edge member (removals_left request)) && not (has_edge member (member_pkgs (coming state request))))

-- ---- the order of its installs

-- the member is listed
abbrev pub is_listed : List Pkg → Member → Bool
is_listed listed member = list_any (is_same_pkg (member_pkg member)) listed

-- what a member needs among the installs is listed
abbrev pub is_ready : List Member → List Pkg → Member → Bool
is_ready installs listed member = list_all (λ (other : Member). not (is_need member.package (member_pkg other)) || is_listed listed other) installs

-- it can be next: it is not listed yet, and what it needs is
abbrev pub can_be_next : List Member → List Pkg → Member → Bool
can_be_next installs listed member = not (is_listed listed member) && is_ready installs listed member

-- no other one that can be next has a lesser name
abbrev pub has_least_name : List Member → List Pkg → Member → Bool
has_least_name installs listed member = list_all (λ (other : Member). not (can_be_next installs listed other) || not (precedes (name_of other) (name_of member))) installs

-- the package is the next of the installs: it can be, and of those that can it has the least name
abbrev pub is_next_install : List Member → List Pkg → Pkg → Member → Bool
is_next_install installs listed pkg member = is_same_pkg (member_pkg member) pkg && can_be_next installs listed member && has_least_name installs listed member

-- after those that are listed, each one is the next
abbrev pub goes_on_so : List Member → List Pkg → List Pkg → Bool
goes_on_so installs listed [] = true
goes_on_so installs listed (pkg ∷ more) = list_any (is_next_install installs listed pkg) installs && goes_on_so installs (listed ++ pkg ∷ []) more

-- of an order: these packages stand in it, as it has them
abbrev pub stand_among : List Pkg → List Pkg → Bool
stand_among [] [] = true
stand_among [] (pkg ∷ more) = false
stand_among (next ∷ order) [] = true
stand_among (next ∷ order) (pkg ∷ more) = if is_same_pkg next pkg then stand_among order more else stand_among order (pkg ∷ more)

-- the installs stand in an order without end in a cycle, and those that are done were done in this order; one that failed may be
-- left out
pub record AreInOrder (installs : List Member) (done : List Pkg) : Type 0 where
  pub order : List Pkg
  pub steps : IsTrue (goes_on_so installs [] order)
  pub whole : IsTrue (list_all (is_listed order) installs)
  pub done_so : IsTrue (stand_among order done)

-- what is left of an open request can be done
pub record RequestIsSound (state : SwitchState) (request : Request) : Type 0 where
  pub target : TargetAgrees request.target
  pub removals : LeaveInReverse state request
  pub apart : IsTrue (list_all (is_apart state request) state.members)
  pub order : AreInOrder (coming state request) (installs_of request.done)

-- ---- the whole

-- what is installed is sound
pub record InstalledIsSound (state : SwitchState) (files : Tree) : Type 0 where
  pub names : NamesDiffer state.members
  pub run : RunOnEarlier state.members
  pub edges : EdgesPointBefore state.members
  pub agree : Agree state.members
  pub owners : OwnersAreEntries state
  pub paths : PathsAreApart state files

-- a state is sound: what is installed is, and so is what is left of an open request
pub record Sound (state : SwitchState) (files : Tree) : Type 0 where
  pub installed : InstalledIsSound state files
  pub request : IfSome state.request (RequestIsSound state)
