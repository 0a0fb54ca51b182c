-- Lock files, as far as they are built (opam manual, lock files): an empty one, or the canonical spelling of a field
-- `depends` with a list of at most 64 packages at versions, each name once. A last newline may be missing.
use Rattle.std.specs.Prelude.{ℕ, ◌+◌, List, [], ◌∷◌, ◌++◌, Bool, true, bytes_eq, codes, length, nat_le, not, ◌&&◌, if◌then◌else◌}
use Rattle.std.specs.List.{list_any}
use Rattle.std.specs.Ordering.{nat_cmp, is_lt}
use Rattle.std.specs.Cmp.Lexicographic.{slice_cmp}
use Rattle.std.specs.declared.option.Option.{Option}
use Rattle.std.specs.declared.option.Option.TheVariants.{None, Some}
use Rattle.opam_names.specs.Names.{is_name, is_version}
use Rattle.opam_names.specs.declared.packages.Pkg.{Pkg}
use Rattle.opam_top.specs.Spellings.{in_quotes, is_spelled, quoted}

-- `"name" {= "version"}`
abbrev pub pkg_item : Pkg → List ℕ
pkg_item pkg = in_quotes pkg.name ++ codes " {= " ++ in_quotes pkg.version ++ codes "}"

-- further packages, each after a space
abbrev pub further_pkgs : List Pkg → List ℕ
further_pkgs [] = []
further_pkgs (pkg ∷ pkgs) = (32 ∷ pkg_item pkg) ++ further_pkgs pkgs

-- packages with one space between two of them
abbrev pub spaced_pkgs : List Pkg → List ℕ
spaced_pkgs [] = []
spaced_pkgs (pkg ∷ pkgs) = pkg_item pkg ++ further_pkgs pkgs

-- the spelling of a lock that binds these, in this order
abbrev pub lock_text : List Pkg → List ℕ
lock_text pkgs = codes "depends: [" ++ spaced_pkgs pkgs ++ codes "]\n"

-- no name stands twice
abbrev pub are_named_once : List Pkg → Bool
are_named_once [] = true
are_named_once (pkg ∷ pkgs) = not (list_any (λ other. bytes_eq pkg.name other.name) pkgs) && are_named_once pkgs

-- a lock may have these
abbrev pub are_bound : List Pkg → Bool
are_bound pkgs = nat_le (length pkgs) 64 && are_named_once pkgs

-- the first name stands before the second in the order of bytes
abbrev pub is_named_before : Pkg → Pkg → Bool
is_named_before pkg other = is_lt (slice_cmp nat_cmp pkg.name other.name)

-- puts a package before the first one whose name does not stand before its own
abbrev pub put_pkg : Pkg → List Pkg → List Pkg
put_pkg pkg [] = pkg ∷ []
put_pkg pkg (other ∷ pkgs) = if is_named_before other pkg then other ∷ put_pkg pkg pkgs else pkg ∷ other ∷ pkgs

-- puts each of the packages so, from the last on
abbrev pub put_pkgs : List Pkg → List Pkg → List Pkg
put_pkgs [] order = order
put_pkgs (pkg ∷ pkgs) order = put_pkg pkg (put_pkgs pkgs order)

-- in the order of their names, byte by byte
abbrev pub in_name_order : List Pkg → List Pkg
in_name_order pkgs = put_pkgs pkgs []

-- how many packages at the beginning stand before it
abbrev pub place_of_pkg : Pkg → List Pkg → ℕ
place_of_pkg pkg [] = 0
place_of_pkg pkg (other ∷ pkgs) = if is_named_before other pkg then place_of_pkg pkg pkgs + 1 else 0

-- the package with these as its name and its version
abbrev pub read_pkg : List ℕ → List ℕ → Option Pkg
read_pkg name version = if is_name name && is_version version then Some (record { name = name; version = version }) else None

-- packages before others, where there are others
abbrev pub prepended : List Pkg → Option (List Pkg) → Option (List Pkg)
prepended pkgs None = None
prepended pkgs (Some more) = Some (pkgs ++ more)

-- a package before others, where there are both
abbrev pub with_pkg : Option Pkg → Option (List Pkg) → Option (List Pkg)
with_pkg None more = None
with_pkg (Some pkg) more = prepended (pkg ∷ []) more

-- the packages whose names and versions these texts are by turns
abbrev pub read_pkgs : List (List ℕ) → Option (List Pkg)
read_pkgs [] = Some []
read_pkgs (name ∷ []) = None
read_pkgs (name ∷ version ∷ texts) = with_pkg (read_pkg name version) (read_pkgs texts)

-- packages are bound where the bytes are their canonical spelling
abbrev pub bound_as_spelled : List ℕ → Option (List Pkg) → Option (List Pkg)
bound_as_spelled bytes None = None
bound_as_spelled bytes (Some pkgs) = if are_bound pkgs && is_spelled bytes (lock_text pkgs) then Some (in_name_order pkgs) else None

-- what a lock binds, in the order of names, where it is built
abbrev pub read_lock : List ℕ → Option (List Pkg)
read_lock [] = Some []
read_lock (b ∷ bytes) = bound_as_spelled (b ∷ bytes) (read_pkgs (quoted (b ∷ bytes)))
