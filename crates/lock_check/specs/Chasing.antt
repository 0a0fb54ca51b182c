-- Words of private clauses: what is always true of a chase.
use Rattle.std.specs.Prelude.{◌≡◌, ℕ, List, [], map, Bool, true, false, bytes_eq, Contains}
use Rattle.std.specs.List.{IsDistinct}
use Rattle.std.specs.declared.option.Option.{Option}
use Rattle.std.specs.declared.option.Option.TheVariants.{None, Some}
use Rattle.opam_names.specs.ByteOrders.{RisesBy}
use Rattle.opam_names.specs.declared.packages.Pkg.{Pkg}
use Rattle.opam_filter.specs.Sets.{Rises}
use Rattle.opam_package.specs.declared.package.Member.{Member}
use Rattle.lock_check.specs.Chased.{Chased, IsNeeded, bound_to, count_of, held_name, is_among, is_awaited, stored_in}
use Rattle.lock_check.specs.Targets.{member_name}
use Rattle.lock_check.specs.declared.held.Held.{Held}

-- the package of a name is awaited
abbrev pub is_awaited_at : Chased → Option Pkg → Bool
is_awaited_at chased None = false
is_awaited_at chased (Some pkg) = is_awaited chased pkg

-- a member that was read: the package that is bound to its name, which is needed and not installed
pub record IsRead (chased : Chased) (member : Member) : Type 0 where
  pub needed : is_among chased.needed (member_name member) ≡ true
  pub bound : bound_to chased.bound (member_name member) ≡ Some member.package.pkg
  pub uninstalled : stored_in chased.installed member.package.pkg ≡ None

-- what is always so
pub record Stands (chased : Chased) (waiting : List (List ℕ)) (count : ℕ) : Type 0 where
  pub bound_rises : Rises chased.bound
  pub installed_rises : RisesBy held_name chased.installed
  pub are_needed : IsNeeded chased
  pub waits : (name : List ℕ) → is_among waiting name ≡ is_awaited_at chased (bound_to chased.bound name)
  pub are_read : (member : Member) → Contains chased.known member → IsRead chased member
  pub differ : IsDistinct bytes_eq (map member_name chased.known)
  pub are_unknown : (pkg : Pkg) → Contains chased.unknown pkg → is_among chased.needed pkg.name ≡ true
  pub counted : count ≡ count_of chased

-- nothing was given yet
abbrev pub unread : List Held → List Pkg → List (List ℕ) → List (List ℕ) → Chased
unread held bound asked needed = record { installed = held; bound = bound; asked = asked; known = []; unknown = []; needed = needed }
