-- Where the journal of a switch stands (format 1). This project's own.
use Rattle.std.specs.Prelude.{ℕ, List, ◌++◌, Bool, true, false, not, bytes_eq, codes, ◌&&◌, ◌||◌}
use Rattle.std.specs.List.{list_any}
use Rattle.std.specs.FinMap.{keys}
use Rattle.std.specs.Fmt.{decimal}
use Rattle.opam_names.specs.Paths.{is_above}
use Rattle.crash_disk.specs.Disks.{Tree}
use Rattle.crash_disk.specs.declared.disk.Look.{Look}
use Rattle.crash_disk.specs.declared.disk.Look.TheVariants.{Absent, File, Folder}

-- record k is `rec/k` in the journal's folder, and its gate is `gate/k`
abbrev pub record_path : ℕ → List ℕ
record_path k = codes ".opam-switch/journal/rec/" ++ decimal k

-- the gate of record k
abbrev pub gate_path : ℕ → List ℕ
gate_path k = codes ".opam-switch/journal/gate/" ++ decimal k

-- some file stands at the path or below it
abbrev pub stands : Tree → List ℕ → Bool
stands files path = list_any (λ q. bytes_eq q path || is_above path q) (keys files)

-- nothing stands at or below a path that is seen so
abbrev pub looks_empty : Look → Bool
looks_empty Absent = true
looks_empty File = false
looks_empty Folder = false

-- nothing stands at the first record or at its gate
abbrev pub is_fresh : Tree → Bool
is_fresh files = not (stands files (record_path 1)) && not (stands files (gate_path 1))
