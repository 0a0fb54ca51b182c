-- Files of the disk at a path, above it or below it. Words of this crate's own proofs: no public clause cites them.
use Rattle.std.specs.Prelude.{ℕ, zero, suc, List, [], ◌∷◌, take, Bool, true, false, not, is_some, slice_index, ◌==◌, ◌&&◌, ◌||◌, if◌then◌else◌}
use Rattle.std.specs.FinMap.{get, keys}
use Rattle.std.specs.List.{list_any}
use Rattle.std.specs.declared.option.Option.{Option}
use Rattle.std.specs.declared.option.Option.TheVariants.{None, Some}
use Rattle.path_order.specs.Apart.{meets}
use Rattle.crash_disk.specs.Disks.{Tree}
use Rattle.switch_journal.specs.Places.{is_inside}
use Rattle.crash_disk.specs.declared.disk.Look.{Look}
use Rattle.crash_disk.specs.declared.disk.Look.TheVariants as look
use Rattle.change_verdict.specs.declared.reason.Reason.{Reason}
use Rattle.change_verdict.specs.declared.reason.Reason.TheVariants.{Foreign}

-- a file stands at the path
abbrev pub has_file : Tree → List ℕ → Bool
has_file tree path = is_some (get tree path)

-- a slash stands there in the path, and a file where the folder before it is
abbrev pub is_file_there : Tree → List ℕ → ℕ → Bool
is_file_there tree path at = slice_index path at == 47 && has_file tree (take at path)

-- a file stands where the path has one of the folders that end before its first n bytes do
abbrev pub has_file_above : Tree → List ℕ → ℕ → Bool
has_file_above tree path zero = false
has_file_above tree path (suc n) = has_file_above tree path n || is_file_there tree path n

-- a file outside the switch's own folder stands at the path, above it or below it
abbrev pub meets_outside : Tree → List ℕ → Bool
meets_outside tree path = list_any (λ file. not (is_inside file) && meets path file) (keys tree)

-- the first of the paths that meets such a file
abbrev pub first_foreign_of : Tree → List (List ℕ) → Option Reason
first_foreign_of tree [] = None
first_foreign_of tree (path ∷ paths) = if meets_outside tree path then Some (Foreign path) else first_foreign_of tree paths

-- whether what is seen is a file, there or below
abbrev pub looks_near : Look → Bool
looks_near look.Absent = false
looks_near look.File = true
looks_near look.Folder = true
