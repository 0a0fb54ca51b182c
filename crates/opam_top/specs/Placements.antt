-- The files of a package that are to be placed: from where they come, what stands in their way, and their order.
-- This project's own.
use Rattle.std.specs.Prelude.{ℕ, ◌+◌, ◌-◌, List, [], ◌∷◌, ◌++◌, length, take, drop, Bool, true, false, not, bytes_eq, codes, is_none, is_some, nat_le, Result, Ok, Err, ◌&&◌, ◌||◌, if◌then◌else◌}
use Rattle.std.specs.List.{list_any}
use Rattle.std.specs.FinMap.{get, insert, keys, len}
use Rattle.std.specs.Ordering.{nat_cmp, is_lt}
use Rattle.std.specs.Cmp.Lexicographic.{slice_cmp}
use Rattle.std.specs.declared.option.Option.{Option}
use Rattle.std.specs.declared.option.Option.TheVariants.{None, Some}
use Rattle.opam_names.specs.Paths.{is_above}
use Rattle.opam_names.specs.declared.packages.Pkg.{Pkg}
use Rattle.opam_top.specs.declared.decision.Reason.{Reason}
use Rattle.opam_top.specs.declared.decision.Reason.TheVariants.{Missing, Unreadable, FilesTooLong, Owned, Foreign}
use Rattle.outside_io.specs.Counts.{ByPath}
use Rattle.crash_disk.specs.Disks.{Tree}
use Rattle.crash_disk.specs.declared.disk.Look.{Look}
use Rattle.crash_disk.specs.declared.disk.Look.TheVariants.{Absent, File, Folder}
use Rattle.opam_top.specs.InstallTexts.{is_item}
use Rattle.opam_top.specs.declared.records.Placed.{Placed}

-- where an item is placed
abbrev pub bin_path : List ℕ → List ℕ
bin_path item = codes "bin/" ++ item

-- an executable file below `bin` with these bytes
abbrev pub placed_at : List ℕ → List ℕ → Placed
placed_at item bytes = record { path = bin_path item; exec = true; bytes = bytes }

-- what an item gives where this stands at its path and so many bytes may still be placed
abbrev pub source : List ℕ → ℕ → Option (Option (List ℕ)) → Result Placed Reason
source item room None = Err (Missing item)
source item room (Some None) = Err (Unreadable item)
source item room (Some (Some bytes)) = if nat_le (length bytes) room then Ok (placed_at item bytes) else Err FilesTooLong

-- files before those that follow, where these can be had
abbrev pub prepend : List Placed → Result (List Placed) Reason → Result (List Placed) Reason
prepend files (Err reason) = Err reason
prepend files (Ok more) = Ok (files ++ more)

-- a file, and what its bytes leave room for
abbrev pub with_source : Result Placed Reason → ℕ → (ℕ → Result (List Placed) Reason) → Result (List Placed) Reason
with_source (Err reason) room later = Err reason
with_source (Ok file) room later = prepend (file ∷ []) (later (room - length file.bytes))

-- the files of items, which stand in a build folder, with at most so many bytes together; the first that cannot be had
-- is the reason why there are none
abbrev pub placed_from : ByPath (Option (List ℕ)) → ℕ → List (List ℕ) → Result (List Placed) Reason
placed_from files room [] = Ok []
placed_from files room (item ∷ items) = with_source (source item room (get files item)) room (λ left. placed_from files left items)

-- their paths
abbrev pub paths_of : List Placed → List (List ℕ)
paths_of [] = []
paths_of (file ∷ files) = file.path ∷ paths_of files

-- how many bytes they have together
abbrev pub total_bytes : List Placed → ℕ
total_bytes [] = 0
total_bytes (file ∷ files) = length file.bytes + total_bytes files

-- 256 MiB
abbrev pub first_room : ℕ
first_room = 268435456

-- two paths are one, or one stands above the other
abbrev pub meets : List ℕ → List ℕ → Bool
meets p q = bytes_eq p q || is_above p q || is_above q p

-- some file that nobody owns meets the path
abbrev pub meets_foreign : Tree → ByPath Pkg → List ℕ → Bool
meets_foreign tree owners path = list_any (λ q. meets path q && is_none (get owners q)) (keys tree)

-- a path that is owned is barred by its owner, and else by a file that nobody owns
abbrev pub way_barred : List ℕ → Option Pkg → Bool → Option Reason
way_barred path (Some owner) foreign = Some (Owned path owner)
way_barred path None true = Some (Foreign path)
way_barred path None false = None

-- what stands in the way of a file at this path: who owns the path, or else a file that nobody owns
abbrev pub in_the_way : Tree → ByPath Pkg → List ℕ → Option Reason
in_the_way tree owners path = way_barred path (get owners path) (meets_foreign tree owners path)

-- the first reason, where there are two
abbrev pub first_of : Option Reason → Option Reason → Option Reason
first_of None later = later
first_of (Some reason) later = Some reason

-- the first of the files that something stands in the way of; those before it count as the package's own
abbrev pub first_clash : Tree → ByPath Pkg → Pkg → List Placed → Option Reason
first_clash tree owners pkg [] = None
first_clash tree owners pkg (file ∷ files) = first_of (in_the_way tree owners file.path) (first_clash tree (insert owners file.path pkg) pkg files)

-- 1,048,576 paths
abbrev pub most_paths : ℕ
most_paths = 1048576

-- the switch would own more paths than it may
abbrev pub is_too_full : ByPath Pkg → List Placed → Bool
is_too_full owners files = not (nat_le (len owners + length files) most_paths)

-- no file stands at the path itself
abbrev pub has_no_file : Tree → List ℕ → Bool
has_no_file tree path = not (is_some (get tree path))

-- no file stands at a path that is seen so
abbrev pub looks_fileless : Look → Bool
looks_fileless Absent = true
looks_fileless File = false
looks_fileless Folder = true

-- `bin/` and an item
abbrev pub is_bin_path : List ℕ → Bool
is_bin_path path = bytes_eq (take 4 path) (codes "bin/") && is_item (drop 4 path)

-- the file stands below `bin`, under an item
abbrev pub is_in_bin : Placed → Bool
is_in_bin file = is_bin_path file.path

-- the first stands before the second in the order of bytes
abbrev pub is_before : List ℕ → List ℕ → Bool
is_before p q = is_lt (slice_cmp nat_cmp p q)

-- puts a file before the first one that does not stand before it
abbrev pub put_in : Placed → List Placed → List Placed
put_in file [] = file ∷ []
put_in file (other ∷ files) = if is_before other.path file.path then other ∷ put_in file files else file ∷ other ∷ files

-- puts each of the files so, from the last on
abbrev pub put_all : List Placed → List Placed → List Placed
put_all [] order = order
put_all (file ∷ files) order = put_in file (put_all files order)

-- in the order of their paths, byte by byte
abbrev pub in_byte_order : List Placed → List Placed
in_byte_order files = put_all files []

-- how many files at the beginning stand before it
abbrev pub place_of : List ℕ → List Placed → ℕ
place_of path [] = 0
place_of path (other ∷ files) = if is_before other.path path then place_of path files + 1 else 0
