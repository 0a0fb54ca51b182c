-- Whose the paths of a switch are. This project's own.
use Rattle.std.specs.Prelude.{ℕ, List, [], ◌∷◌, Bool, is_none}
use Rattle.std.specs.FinMap.{from_entries, get}
use Rattle.opam_names.specs.declared.packages.Pkg.{Pkg}
use Rattle.outside_io.specs.Counts.{ByPath}
use Rattle.opam_top.specs.Placements.{is_bin_path}
use Rattle.opam_top.specs.declared.records.Placed.{Placed}

-- the owners that pairs of a path and a package say; of several pairs with one path the first counts
abbrev pub owners_of : List (List ℕ × Pkg) → ByPath Pkg
owners_of owners = from_entries owners

-- the pairs that say that these files are the package's own
abbrev pub owned_by : Pkg → List Placed → List (List ℕ × Pkg)
owned_by pkg [] = []
owned_by pkg (file ∷ files) = (file.path, pkg) ∷ owned_by pkg files

-- the path is `bin/` and an item
abbrev pub is_owned_in_bin : List ℕ × Pkg → Bool
is_owned_in_bin owned = is_bin_path owned.0

-- nobody owns the file's path
abbrev pub is_unowned : ByPath Pkg → Placed → Bool
is_unowned owners file = is_none (get owners file.path)
