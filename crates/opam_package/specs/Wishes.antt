-- Words of private clauses alone: atoms by the names of their packages, and the names that formulas keep.
use Rattle.std.specs.Prelude.{ℕ, List, [], ◌++◌, Bool, bytes_eq, filter, map, ◌&&◌, ◌||◌}
use Rattle.std.specs.List.{flat_map, list_any, take_while}
use Rattle.opam_names.specs.ByteOrders.{has_key, in_order_by}
use Rattle.opam_names.specs.declared.packages.Pkg.{Pkg}
use Rattle.opam_filter.specs.Sets.{meets, names}
use Rattle.opam_filter.specs.declared.formula.Reduced.{Reduced, out-Reduced}
use Rattle.opam_filter.specs.declared.formula.Reduced.TheOpen.{Reduced-F}
use Rattle.opam_package.specs.declared.package.Need.{Need}
use Rattle.opam_package.specs.declared.package.Package.{Package}
use Rattle.opam_package.specs.declared.wishes.Wish.{Wish}
use Rattle.opam_package.specs.Dependencies.{is_other}

-- the name of an atom; what is none has no bytes, as no package has
abbrev pub layer_key : Reduced-F Reduced → List ℕ
layer_key Reduced-F.Dropped = []
layer_key (Reduced-F.And parts) = []
layer_key (Reduced-F.Or parts) = []
layer_key (Reduced-F.Atom name test) = name

-- the same of what is left of a formula
abbrev pub atom_key : Reduced → List ℕ
atom_key reduced = layer_key (out-Reduced reduced)

-- the same of a wish
abbrev pub wish_key : Wish → List ℕ
wish_key wish = atom_key wish.atom

-- an atom as a wish
abbrev pub wish_of : Reduced → Wish
wish_of atom = record { atom = atom }

-- atoms as wishes in the byte order of their names
abbrev pub wishes_in : List Reduced → List Wish
wishes_in atoms = in_order_by wish_key (map wish_of atoms)

-- the package meets one of these
abbrev pub meets_some : List Wish → Pkg → Bool
meets_some wishes other = list_any (λ (wish : Wish). meets wish.atom other) wishes

-- those at the front that have the name of the package
abbrev pub front_of : Pkg → List Wish → List Wish
front_of other wishes = take_while (has_key wish_key other.name) wishes

-- the names that readings for running keep
abbrev pub run_names : List Need → List (List ℕ)
run_names needs = flat_map (λ (need : Need). names need.runtime) needs

-- and those for building
abbrev pub built_names : List Need → List (List ℕ)
built_names needs = flat_map (λ (need : Need). names need.runtime ++ names need.building) needs

-- another package that is among these
abbrev pub is_picked : Package → List (List ℕ) → List Wish → Pkg → Bool
is_picked dependent named wishes other =
    is_other dependent other && (list_any (λ name. bytes_eq name other.name) named || meets_some wishes other)

-- the names of those in a set
abbrev pub picked_in : Package → List (List ℕ) → List Wish → List Pkg → List (List ℕ)
picked_in dependent named wishes set = map (λ pkg. pkg.name) (filter (is_picked dependent named wishes) set)

-- the same where what is named and what is wished for is put into byte order
abbrev pub picked_of : Package → List (List ℕ) → List Pkg → List (List ℕ)
picked_of dependent named set = picked_in dependent (in_order_by (λ name. name) named) (wishes_in dependent.depopts) set
