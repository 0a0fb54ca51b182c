-- Laws of the faults of an opam file, and of edges and needs.
use Rattle.std.specs.Prelude.{◌⊎◌, ◌≡◌, List, [], ◌∷◌, false, IsTrue}
use Rattle.std.specs.List.Sorted.{IsStrictlySortedBy}
use Rattle.std.specs.declared.option.Option.TheVariants.{None, Some}
use Rattle.opam_names.specs.ByteOrders.{byte_order}
use Rattle.opam_names.specs.declared.packages.Pkg.{Pkg}
use Rattle.opam_filter.specs.Sets.{Rises}
use Rattle.opam_package.specs.declared.fault.PackageFault.{PackageFault}
use Rattle.opam_package.specs.declared.package.Package.{Package}
use Rattle.opam_package.specs.Dependencies.{edges_in, is_edge, is_forbidden, is_need, needs_in}
use Rattle.opam_package.specs.PackageFaults.{first_fault, is_sooner}

-- the fault stands in the list
abbrev pub IsListed : PackageFault → List PackageFault → Type 0
IsListed fault [] = ⊥
IsListed fault (first ∷ more) = (first ≡ fault) ⊎ IsListed fault more

-- the fault that is told of a list is one of them, and none of them comes before it; none is told of the empty list alone
pub record IsToldFirst (faults : List PackageFault) : Type 0 where
  pub one : (fault : PackageFault) → first_fault faults ≡ Some fault → IsListed fault faults
  pub first : (fault other : PackageFault) → first_fault faults ≡ Some fault → IsListed other faults → is_sooner other fault ≡ false
  pub none : first_fault faults ≡ None → faults ≡ []

-- that holds of every list
abbrev pub TheFirstIsTold : Type 0
TheFirstIsTold = (faults : List PackageFault) → IsToldFirst faults

-- the edges of a package are needs of it, it does not need itself, and does not forbid itself
pub record EdgesAreNeeds : Type 0 where
  pub needed : (dependent : Package) (other : Pkg) → IsTrue (is_edge dependent other) → IsTrue (is_need dependent other)
  pub alone : (dependent : Package) (other : Pkg) → other.name ≡ dependent.pkg.name → is_need dependent other ≡ false
  pub allowed : (dependent : Package) (other : Pkg) → other.name ≡ dependent.pkg.name → is_forbidden dependent other ≡ false

-- in a set whose names rise, those of edges and needs rise
pub record EdgesRise : Type 0 where
  pub edges : (dependent : Package) (set : List Pkg) → Rises set → IsStrictlySortedBy byte_order (edges_in dependent set)
  pub needs : (dependent : Package) (set : List Pkg) → Rises set → IsStrictlySortedBy byte_order (needs_in dependent set)
