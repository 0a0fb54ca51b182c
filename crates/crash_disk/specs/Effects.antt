-- What calls of a disk do to it, over all that it tells, in a word each. This project's own. A word takes the ghost members
-- of a whole disk, handed over as `D.Disk`.
use Rattle.std.specs.Prelude.{◌≡◌, ◌<◌, ◌≤◌, ℕ, List, [], Bool, IsTrue, IsFalse, Result, bytes_eq}
use Rattle.std.specs.FinMap.{get}
use Rattle.std.specs.List.{list_any}
use Rattle.std.specs.Option.{option_map}
use Rattle.std.specs.declared.option.Option.{Option}
use Rattle.std.specs.declared.option.Option.TheVariants.{None, Some}
use Rattle.outside_io.specs.Counts.{last_count}
use Rattle.outside_io.specs.declared.sink.Failed.{Failed}
use Rattle.crash_disk.specs.declared.disk.Disk.{Ghosts}
use Rattle.crash_disk.specs.declared.disk.DiskFault.{DiskFault}
use Rattle.crash_disk.specs.Disks.{Counted, CountedRead, State, Tree, is_loose, with_file}

-- time goes on, and no other has claimed the disk
pub record Advances {D : Type 0} (g : Ghosts D) (old new : D) : Type 0 where
  pub later : g.moment old ≤ g.moment new
  -- each moment's state stays, as long as the clock has not come to its end
  pub keeps : (t : ℕ) → t ≤ g.moment old → g.moment new < last_count → g.past new t ≡ g.past old t
  pub held : g.held new ≡ g.held old
  pub taken : g.taken new ≡ g.taken old

-- the same, and nothing else has changed, at any moment
pub record OnlyReads {D : Type 0} (g : Ghosts D) (old new : D) : Type 0 where
  pub goes : Advances g old new
  pub same : g.told new ≡ g.told old
  pub each : g.moment new < last_count → (t : ℕ) → g.moment old < t → t ≤ g.moment new → g.past new t ≡ g.told old

-- `Failed` comes only where a fault was counted, and a fault is counted only there
abbrev pub Fails : {D T : Type 0} → Ghosts D → D → D → Result T Failed → Type 0
Fails g old new result = Counted (g.faults old) (g.faults new) result

-- the same of a read, which may want memory besides
abbrev pub FailsReading : {D T : Type 0} → Ghosts D → D → D → Result T DiskFault → Type 0
FailsReading g old new result = CountedRead (g.faults old) (g.faults new) result

-- whether a path is one of these
abbrev pub is_one : List (List ℕ) → List ℕ → Bool
is_one paths q = list_any (bytes_eq q) paths

-- off these paths it has what was there, and is loose only where it was
pub record IsSameOff (paths : List (List ℕ)) (old new : State) : Type 0 where
  pub files : (q : List ℕ) → IsFalse (is_one paths q) → get new.files q ≡ get old.files q
  pub loose : (q : List ℕ) → IsFalse (is_one paths q) → IsTrue (is_loose new q) → IsTrue (is_loose old q)

-- the same of what a disk tells
pub record StaysOff (paths : List (List ℕ)) (before after : Option State) : Type 0 where
  pub untold : before ≡ None → after ≡ None
  pub told : (old : State) → before ≡ Some old → (new : State) × (after ≡ Some new) × IsSameOff paths old new

-- from then to now the disk has changed at these paths alone, at each moment
pub record Touches {D : Type 0} (g : Ghosts D) (paths : List (List ℕ)) (old new : D) : Type 0 where
  pub goes : Advances g old new
  pub now : StaysOff paths (g.told old) (g.told new)
  pub each : g.moment new < last_count → (t : ℕ) → g.moment old < t → t ≤ g.moment new → StaysOff paths (g.told old) (g.past new t)

-- the files, where they are told
abbrev pub tree_told : Option State → Option Tree
tree_told told = option_map (λ (s : State). s.files) told

-- the files are changed so, where the disk tells them; paths may be loose
abbrev pub Becomes : {D : Type 0} → Ghosts D → (Tree → Tree) → D → D → Type 0
Becomes g change old new = tree_told (g.told new) ≡ option_map change (tree_told (g.told old))

-- these files, and nothing is loose
abbrev pub at_rest : Tree → State
at_rest tree = record { files = tree; loose = [] }

abbrev pub rested : (Tree → Tree) → State → State
rested change s = at_rest (change s.files)

-- the files are changed so and nothing is loose, where the disk tells it
abbrev pub Leaves : {D : Type 0} → Ghosts D → (Tree → Tree) → D → D → Type 0
Leaves g change old new = g.told new ≡ option_map (rested change) (g.told old)

-- what becomes of the files: nothing
abbrev pub unchanged : Tree → Tree
unchanged tree = tree

-- this file stands at a path
abbrev pub with_put : List ℕ → List ℕ → Bool → Tree → Tree
with_put path bytes exec tree = with_file tree path (Some (record { bytes = bytes; exec = exec }))

-- none does
abbrev pub without : List ℕ → Tree → Tree
without path tree = with_file tree path None
