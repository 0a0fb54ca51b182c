-- The commit of a record: what it leaves, and what it touches. This project's own.
use Rattle.std.specs.Prelude.{◌≡◌, ℕ, ◌+◌, List, [], ◌∷◌, take, Bool, true, false, IsFalse, not, bytes_eq, codes, ◌&&◌, ◌||◌}
use Rattle.std.specs.List.{list_any}
use Rattle.std.specs.FinMap.{get, insert, remove}
use Rattle.std.specs.declared.option.Option.{Option}
use Rattle.std.specs.declared.option.Option.TheVariants.{None, Some}
use Rattle.crash_disk.specs.Disks.{Kept, State, Tree}
use Rattle.opam_top.specs.Journals.{gate_path, record_path}
use Rattle.opam_top.specs.declared.commit.Encoded.{Encoded}
use Rattle.opam_top.specs.declared.records.Placed.{Placed}

-- a file as a disk keeps it
abbrev pub kept : Placed → Kept
kept file = record { bytes = file.bytes; exec = file.exec }

-- a file of these bytes that is not executable
abbrev pub plain : List ℕ → Kept
plain bytes = record { bytes = bytes; exec = false }

-- the tree with each of the files put in turn, from the first
abbrev pub with_files : Tree → List Placed → Tree
with_files tree [] = tree
with_files tree (file ∷ files) = with_files (insert tree file.path (kept file)) files

-- what stands at a gate
abbrev pub gate_text : List ℕ
gate_text = codes "ok\n"

-- the next gate is gone and the record stands
abbrev pub recorded : Encoded → Tree → Tree
recorded ready tree = insert (remove tree ready.next_gate) ready.rec_path (plain ready.bytes)

-- the gate stands
abbrev pub opened : Encoded → Tree → Tree
opened ready tree = insert tree ready.gate_path (plain gate_text)

-- the record, then its gate, then its files
abbrev pub committed : Encoded → Tree → Tree
committed ready tree = with_files (opened ready (recorded ready tree)) ready.puts

-- the file stands at the path
abbrev pub is_at : List ℕ → Placed → Bool
is_at q file = bytes_eq q file.path

-- whether one of these files stands at the path
abbrev pub is_among : List Placed → List ℕ → Bool
is_among files q = list_any (is_at q) files

-- whether the commit puts or removes something at the path
abbrev pub is_of_commit : Encoded → List ℕ → Bool
is_of_commit ready q = bytes_eq q ready.next_gate || bytes_eq q ready.rec_path || bytes_eq q ready.gate_path || is_among ready.puts q

-- the same files but for the paths that are touched, where the disk tells them
pub record TouchesOnly (touched : List ℕ → Bool) (before after : Option State) : Type 0 where
  pub untold : before ≡ None → after ≡ None
  pub told : (old : State) → before ≡ Some old → (new : State) × (after ≡ Some new) × ((q : List ℕ) → IsFalse (touched q) → get new.files q ≡ get old.files q)

-- the files are changed so, where the disk tells them
abbrev pub Becomes : (Tree → Tree) → Option State → Option State → Type 0
Becomes change before after = (old : State) → before ≡ Some old → (new : State) × (after ≡ Some new) × (new.files ≡ change old.files)

-- the path begins with `bin/`
abbrev pub begins_bin : List ℕ → Bool
begins_bin path = bytes_eq (take 4 path) (codes "bin/")

-- whether the file stands below `bin`
abbrev pub is_below_bin : Placed → Bool
is_below_bin file = begins_bin file.path

-- whether no two of the files have one path
abbrev pub paths_differ : List Placed → Bool
paths_differ [] = true
paths_differ (file ∷ files) = not (is_among files file.path) && paths_differ files

-- nothing is loose on a disk that tells
abbrev pub IsSettled : Option State → Type 0
IsSettled told = (s : State) → told ≡ Some s → s.loose ≡ []

-- what makes a record ready that gets this number: these are its bytes, and these files are put
abbrev pub ready_with : ℕ → List ℕ → List Placed → Encoded
ready_with number bytes files = record { bytes = bytes; rec_path = record_path number; gate_path = gate_path number; next_gate = gate_path (number + 1); puts = files }
