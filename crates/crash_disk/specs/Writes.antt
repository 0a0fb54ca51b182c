-- Files that are put and removed in turn. This project's own.
use Rattle.std.specs.Prelude.{ℕ, List, [], ◌∷◌}
use Rattle.std.specs.declared.option.Option.{Option}
use Rattle.std.specs.declared.option.Option.TheVariants.{None, Some}
use Rattle.crash_disk.specs.Disks.{Kept, Tree, with_file}
use Rattle.crash_disk.specs.declared.batch.Write.{Write}
use Rattle.crash_disk.specs.declared.batch.Write.TheVariants.{Put, Remove}

abbrev pub path_of : Write → List ℕ
path_of (Put path bytes exec) = path
path_of (Remove path) = path

-- what stands at the path then
abbrev pub file_of : Write → Option Kept
file_of (Put path bytes exec) = Some (record { bytes = bytes; exec = exec })
file_of (Remove path) = None

abbrev pub with_write : Write → Tree → Tree
with_write write tree = with_file tree (path_of write) (file_of write)

-- the tree with each of these done in turn, from the first
abbrev pub with_writes : List Write → Tree → Tree
with_writes [] tree = tree
with_writes (write ∷ writes) tree = with_writes writes (with_write write tree)

abbrev pub paths_of : List Write → List (List ℕ)
paths_of [] = []
paths_of (write ∷ writes) = path_of write ∷ paths_of writes
