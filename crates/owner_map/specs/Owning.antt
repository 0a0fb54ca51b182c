-- Whose the paths of a switch are: a list in byte order of paths, of which none is above another. This project's own.
use Rattle.std.specs.Prelude.{ℕ, List, map, filter, Bool, bytes_eq, not, ◌&&◌}
use Rattle.std.specs.List.{find}
use Rattle.std.specs.Option.{option_map}
use Rattle.std.specs.declared.option.Option.{Option}
use Rattle.opam_names.specs.ByteOrders.{has_key}
use Rattle.opam_names.specs.declared.packages.Pkg.{Pkg}
use Rattle.owner_map.specs.declared.owned.OwnedPath.{OwnedPath}

-- the owned paths in byte order, and how many more are taken without memory
pub record Owning : Type 0 where
  pub owned : List OwnedPath
  pub spare : ℕ

abbrev pub path_of : OwnedPath → List ℕ
path_of entry = entry.path

abbrev pub owner_at : OwnedPath → Pkg
owner_at entry = entry.owner

-- the owned paths alone
abbrev pub paths_of : List OwnedPath → List (List ℕ)
paths_of owned = map path_of owned

-- this path, owned by this package
abbrev pub owned_by : List ℕ → Pkg → OwnedPath
owned_by path pkg = record { path = path; owner = pkg }

-- who owns the path
abbrev pub owner_of : List ℕ → List OwnedPath → Option Pkg
owner_of path owned = option_map owner_at (find (has_key path_of path) owned)

-- the same name and the same version
abbrev pub is_same_pkg : Pkg → Pkg → Bool
is_same_pkg one other = bytes_eq one.name other.name && bytes_eq one.version other.version

-- another package owns the path
abbrev pub is_of_another : Pkg → OwnedPath → Bool
is_of_another pkg entry = not (is_same_pkg entry.owner pkg)

-- this package owns the path
abbrev pub is_owned_by : Pkg → OwnedPath → Bool
is_owned_by pkg entry = is_same_pkg entry.owner pkg

-- the paths that a package owns, in byte order
abbrev pub paths_owned_by : Pkg → List OwnedPath → List (List ℕ)
paths_owned_by pkg owned = paths_of (filter (is_owned_by pkg) owned)
