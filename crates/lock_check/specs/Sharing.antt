-- Words of private clauses: conflicts and shared classes, found by halves.
use Rattle.std.specs.Prelude.{ℕ, List, [], ◌∷◌, ◌++◌, find, map, Bool, bytes_eq, ◌&&◌, if◌then◌else◌, option_map}
use Rattle.std.specs.List.{flat_map, list_any}
use Rattle.std.specs.declared.option.Option.{Option}
use Rattle.std.specs.declared.option.Option.TheVariants.{None, Some}
use Rattle.opam_names.specs.ByteOrders.{in_order_by}
use Rattle.opam_names.specs.declared.packages.Pkg.{Pkg}
use Rattle.opam_filter.specs.NameSets.{with_name}
use Rattle.opam_filter.specs.declared.formula.Reduced.{Reduced, out-Reduced}
use Rattle.opam_filter.specs.declared.formula.Reduced.TheOpen.{Reduced-F}
use Rattle.opam_package.specs.Dependencies.{is_forbidden, is_other}
use Rattle.opam_package.specs.declared.package.Member.{Member}
use Rattle.opam_package.specs.declared.package.Package.{Package}
use Rattle.lock_check.specs.Chased.{bound_to}
use Rattle.lock_check.specs.Violations.{conflicts_among, refused_in, unavailable, unmet_from}
use Rattle.lock_check.specs.declared.sharing.Spot.{Spot}
use Rattle.lock_check.specs.declared.violation.What.{What}
use Rattle.lock_check.specs.declared.violation.What.TheVariants.{Class, Conflict}

-- the name of one atom
abbrev pub layer_atom_name : Reduced-F Reduced → List (List ℕ)
layer_atom_name Reduced-F.Dropped = []
layer_atom_name (Reduced-F.And parts) = []
layer_atom_name (Reduced-F.Or parts) = []
layer_atom_name (Reduced-F.Atom name test) = name ∷ []

-- the same of what is left of a formula
abbrev pub atom_name : Reduced → List (List ℕ)
atom_name atom = layer_atom_name (out-Reduced atom)

-- the names of atoms
abbrev pub atom_names : List Reduced → List (List ℕ)
atom_names atoms = flat_map atom_name atoms

-- a package is told of where it is forbidden
abbrev pub told_conflict : Package → Option Pkg → List What
told_conflict dependent None = []
told_conflict dependent (Some pkg) = if is_forbidden dependent pkg then Conflict pkg ∷ [] else []

-- the package of a name in a set
abbrev pub conflict_at : List Pkg → Package → List ℕ → List What
conflict_at set dependent name = told_conflict dependent (bound_to set name)

-- the same of each of several names
abbrev pub conflicts_at : List Pkg → Package → List (List ℕ) → List What
conflicts_at set dependent names = flat_map (conflict_at set dependent) names

-- the class of it
abbrev pub spot_class : Spot → List ℕ
spot_class spot = spot.class

-- the package of it
abbrev pub spot_pkg : Spot → Pkg
spot_pkg spot = spot.pkg

-- a class of a package
abbrev pub spot_of : Pkg → List ℕ → Spot
spot_of pkg class = record { class = class; pkg = pkg }

-- the classes of a member
abbrev pub member_spots : Member → List Spot
member_spots member = map (spot_of member.package.pkg) member.package.classes

-- those of all members, in byte order; of one class they stand as the members do
abbrev pub class_spots : List Member → List Spot
class_spots members = in_order_by spot_class (flat_map member_spots members)

-- another package has the class
abbrev pub is_sharer : Package → List ℕ → Spot → Bool
is_sharer dependent class spot = bytes_eq spot.class class && is_other dependent spot.pkg

-- the first of those at the front that have the class
abbrev pub front_sharer : Package → List ℕ → List Spot → Option Spot
front_sharer dependent class [] = None
front_sharer dependent class (spot ∷ spots) =
    if bytes_eq spot.class class then (if is_other dependent spot.pkg then Some spot else front_sharer dependent class spots) else None

-- the first of all that have it
abbrev pub first_sharer : List Spot → Package → List ℕ → Option Pkg
first_sharer spots dependent class = option_map spot_pkg (find (is_sharer dependent class) spots)

-- it is told of that one
abbrev pub told_class : List ℕ → Option Pkg → List What
told_class class None = []
told_class class (Some pkg) = Class class pkg ∷ []

-- the classes that a package shares, behind others that were told already
abbrev pub shared_in : List Spot → Package → List (List ℕ) → List (List ℕ) → List What
shared_in spots dependent told [] = []
shared_in spots dependent told (class ∷ more) =
    (if list_any (bytes_eq class) told then [] else told_class class (first_sharer spots dependent class))
    ++ shared_in spots dependent (with_name told class) more

-- all that stands against a member, kind by kind
abbrev pub whats_in : List Spot → List Pkg → Bool → Package → List What
whats_in spots set fresh dependent =
    unavailable fresh dependent ++ unmet_from set 1 dependent.items ++ conflicts_among set dependent
    ++ shared_in spots dependent [] dependent.classes ++ refused_in fresh dependent
