-- Which files of a package cannot stand: their paths meet those of other packages, of the package itself, or files of nobody. This
-- project's own.
use Rattle.std.specs.Prelude.{ℕ, List, [], ◌∷◌, ◌++◌, map, Bool, true, false, not, bytes_eq, ◌&&◌, if◌then◌else◌}
use Rattle.std.specs.FinMap.{keys}
use Rattle.std.specs.List.{find, list_any}
use Rattle.std.specs.Option.{option_or}
use Rattle.std.specs.declared.option.Option.{Option}
use Rattle.std.specs.declared.option.Option.TheVariants.{None, Some}
use Rattle.opam_names.specs.declared.packages.Pkg.{Pkg}
use Rattle.path_order.specs.Apart.{meets}
use Rattle.owner_map.specs.Clashes.{meets_before}
use Rattle.owner_map.specs.Owning.{owned_by, paths_of}
use Rattle.owner_map.specs.declared.owned.OwnedPath.{OwnedPath}
use Rattle.crash_disk.specs.Disks.{Tree}
use Rattle.switch_journal.specs.Places.{is_inside}
use Rattle.change_verdict.specs.declared.reason.Reason.{Reason}
use Rattle.change_verdict.specs.declared.reason.Reason.TheVariants.{Owned, Meets, Foreign}

-- the owned paths with those that were placed before, which count as the package's own
abbrev pub with_own : List OwnedPath → Pkg → List (List ℕ) → List OwnedPath
with_own owned pkg before = owned ++ map (λ path. owned_by path pkg) before

-- it meets the path, and none that does stands before it in byte order
abbrev pub is_least_met : List OwnedPath → List ℕ → OwnedPath → Bool
is_least_met all path one = meets path one.path && not (list_any (meets_before path one.path) (paths_of all))

-- the least in byte order that meets the path
abbrev pub least_met : List OwnedPath → List ℕ → Option OwnedPath
least_met all path = find (is_least_met all path) all

-- the path is owned, or clashes with one above or below it
abbrev pub met_reason : List ℕ → OwnedPath → Reason
met_reason path one = if bytes_eq one.path path then Owned path one.owner else Meets path one.path one.owner

-- a file outside the switch's own folder that nobody owns
abbrev pub is_foreign_file : List OwnedPath → List ℕ → Bool
is_foreign_file owned path = not (is_inside path) && not (list_any (bytes_eq path) (paths_of owned))

-- a foreign file stands at the path, above it or below it
abbrev pub meets_foreign_file : Tree → List OwnedPath → List ℕ → Bool
meets_foreign_file tree owned path = list_any (λ file. is_foreign_file owned file && meets path file) (keys tree)

-- what stands in the way of a path: the owned one that it meets, or else a foreign file
abbrev pub reason_at : List ℕ → Option OwnedPath → Bool → Option Reason
reason_at path (Some one) foreign = Some (met_reason path one)
reason_at path None true = Some (Foreign path)
reason_at path None false = None

-- the same by owners and files, after those that were placed before
abbrev pub clash_at : Tree → List OwnedPath → Pkg → List (List ℕ) → List ℕ → Option Reason
clash_at tree owned pkg before path = reason_at path (least_met (with_own owned pkg before) path) (meets_foreign_file tree owned path)

-- the first of the paths in whose way something stands, after those that were placed before
abbrev pub clash_after : Tree → List OwnedPath → Pkg → List (List ℕ) → List (List ℕ) → Option Reason
clash_after tree owned pkg before [] = None
clash_after tree owned pkg before (path ∷ paths) = option_or (clash_at tree owned pkg before path) (clash_after tree owned pkg (before ++ path ∷ []) paths)

-- the first of a package's paths in whose way something stands
abbrev pub first_clash_of : Tree → List OwnedPath → Pkg → List (List ℕ) → Option Reason
first_clash_of tree owned pkg paths = clash_after tree owned pkg [] paths
