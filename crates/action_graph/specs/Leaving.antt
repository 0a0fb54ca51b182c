-- What leaves a switch in a change, and what comes. This project's own; for edges see the opam manual, package formulas.
use Rattle.std.specs.Prelude.{◌≡◌, ◌⊎◌, ℕ, Bool, true, false, not, bytes_eq, ◌&&◌, ◌||◌, List, find, slice_get}
use Rattle.std.specs.List.{list_any}
use Rattle.std.specs.declared.option.Option.{Option}
use Rattle.std.specs.declared.option.Option.TheVariants.{None, Some}
use Rattle.opam_names.specs.ByteOrders.{has_key}
use Rattle.opam_package.specs.Dependencies.{is_edge}
use Rattle.opam_package.specs.declared.package.Member.{Member}
use Rattle.opam_package.specs.declared.package.Target.{Target}
use Rattle.action_graph.specs.Reach.{Reached}

-- the name of a member
abbrev pub name_of : Member → List ℕ
name_of member = member.package.pkg.name

-- the member that has the name
abbrev pub member_called : List Member → List ℕ → Option Member
member_called members name = find (has_key name_of name) members

-- a member has the name
abbrev pub has_name : List Member → List ℕ → Bool
has_name members name = list_any (has_key name_of name) members

-- both are the same version text, or both are absent
abbrev pub same_version : Option Member → Option Member → Bool
same_version None None = true
same_version None (Some other) = false
same_version (Some one) None = false
same_version (Some one) (Some other) = bytes_eq one.package.pkg.version other.package.pkg.version

-- a name is touched where it is new in the target, is installed and not in the target, has another version there, or is marked
abbrev pub is_touched : List Member → List Member → List (List ℕ) → List ℕ → Bool
is_touched installed members redo name =
    not (same_version (member_called installed name) (member_called members name)) || list_any (has_key (λ one. one) name) redo

-- the first has an edge to the other
abbrev pub edge_between : Option Member → Option Member → Bool
edge_between None other = false
edge_between (Some dependent) None = false
edge_between (Some dependent) (Some other) = is_edge dependent.package other.package.pkg

-- in a set, the one of the first name has an edge to the one of the second
abbrev pub has_edge : List Member → List ℕ → List ℕ → Bool
has_edge members name other = edge_between (member_called members name) (member_called members other)

-- an installed name has an edge to another, in the installed set or in the target
abbrev pub is_dependent : List Member → List Member → List ℕ → List ℕ → Bool
is_dependent installed members name other = has_name installed name && (has_edge installed name other || has_edge members name other)

-- the least set of names that has all that are touched, and each installed name with an edge to one of them
abbrev pub IsAffected : List Member → Target → List ℕ → Type 0
IsAffected installed target =
    Reached (λ name. is_touched installed target.members target.redo name ≡ true)
    (λ other name. is_dependent installed target.members name other ≡ true)

-- there is a member, and of its name this holds
abbrev pub OfName : (List ℕ → Type 0) → Option Member → Type 0
OfName holds None = ⊥
OfName holds (Some member) = holds (name_of member)

-- the entry at a place leaves: its name is in that set
abbrev pub Leaves : List Member → Target → ℕ → Type 0
Leaves installed target place = OfName (IsAffected installed target) (slice_get installed place)

-- the member at a place comes: it leaves as an entry, or is not installed
abbrev pub Comes : List Member → Target → ℕ → Type 0
Comes installed target place =
    OfName (λ name. IsAffected installed target name ⊎ (has_name installed name ≡ false)) (slice_get target.members place)
