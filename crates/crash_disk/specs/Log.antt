-- A disk as what stood on it at first and the changes that came since, each with its moment. This project's own.
use Rattle.std.specs.Prelude.{ℕ, List, [], ◌∷◌, Bool, true, false, if◌then◌else◌, nat_le, bytes_eq, ◌≡◌}
use Rattle.std.specs.Global.{Vec}
use Rattle.std.specs.FinMap.{from_entries}
use Rattle.std.specs.declared.option.Option.{Option}
use Rattle.std.specs.declared.option.Option.TheVariants.{None, Some}
use Rattle.crash_disk.specs.Disks.{State, Kept, Tree, with_file}
use Rattle.crash_disk.specs.declared.changes.Change.{Change}
use Rattle.crash_disk.specs.declared.changes.Change.TheVariants.{Put, Removed, FailedPut, FailedRemoval, Loosened, Synced}
use Rattle.crash_disk.specs.declared.changes.Entry.{Entry}

-- a path, the bytes of the file there, and its executable bit
abbrev pub Listed : Type 0
Listed = List ℕ × Vec ℕ × Bool

-- the file that is listed
abbrev pub kept : Listed → Kept
kept f = record { bytes = f.1.items; exec = f.2 }

-- listed files with their paths
abbrev pub entries_of : List Listed → List (List ℕ × Kept)
entries_of [] = []
entries_of (f ∷ fs) = (f.0, kept f) ∷ entries_of fs

-- of several files with one path the first counts
abbrev pub tree_of : List Listed → Tree
tree_of fs = from_entries (entries_of fs)

-- the state before any change
abbrev pub first_state : List Listed → State
first_state fs = record { files = tree_of fs; loose = [] }

-- with this file at a path, or none there, which a stop may leave otherwise
abbrev pub placed : List ℕ → Option Kept → State → State
placed path file s = record { files = with_file s.files path file; loose = path ∷ s.loose }

-- with the same files, and one more path at which a stop may leave something else
abbrev pub loosened : List ℕ → State → State
loosened path s = record { files = s.files; loose = path ∷ s.loose }

-- what a change leaves
abbrev pub after : Change → State → State
after (Put f) s = placed f.0 (Some (kept f)) s
after (Removed path) s = placed path None s
after (FailedPut f) s = loosened f.0 s
after (FailedRemoval path) s = loosened path s
after (Loosened path) s = loosened path s
after Synced s = record { files = s.files; loose = [] }

-- whatever was there before, the change leaves this at the path
abbrev pub PlacesAt : List ℕ → Option Kept → Change → Type 0
PlacesAt path file change = (s : State) → after change s ≡ placed path file s

-- the change is a put or a removal at this path
abbrev pub IsAt : List ℕ → Change → Type 0
IsAt path (Put f) = f.0 ≡ path
IsAt path (Removed gone) = gone ≡ path
IsAt path (FailedPut f) = ⊥
IsAt path (FailedRemoval gone) = ⊥
IsAt path (Loosened gone) = ⊥
IsAt path Synced = ⊥

-- it leaves the path loose, and all else as it was
abbrev pub Loosens : List ℕ → Change → Type 0
Loosens path change = (s : State) → after change s ≡ loosened path s

-- the oldest comes first
abbrev pub replay : List Entry → State → State
replay [] s = s
replay (e ∷ es) s = replay es (after e.change s)

-- those up to a moment
abbrev pub until : ℕ → List Entry → List Entry
until t [] = []
until t (e ∷ es) = if nat_le e.moment t then e ∷ until t es else until t es

-- none is later
abbrev pub all_until : ℕ → List Entry → Bool
all_until t [] = true
all_until t (e ∷ es) = if nat_le e.moment t then all_until t es else false

-- what stands at a path after a change
abbrev pub stored_by : Change → List ℕ → Option Listed → Option Listed
stored_by (Put f) q here = if bytes_eq q f.0 then Some f else here
stored_by (Removed path) q here = if bytes_eq q path then None else here
stored_by (FailedPut f) q here = here
stored_by (FailedRemoval path) q here = here
stored_by (Loosened path) q here = here
stored_by Synced q here = here

-- what stands at a path after changes
abbrev pub stored_after : List Entry → List ℕ → Option Listed → Option Listed
stored_after [] q here = here
stored_after (e ∷ es) q here = stored_after es q (stored_by e.change q here)

-- what stood at a path before any
abbrev pub stored_first : List Listed → List ℕ → Option Listed
stored_first [] q = None
stored_first (f ∷ fs) q = if bytes_eq q f.0 then Some f else stored_first fs q

-- what stands at a path now
abbrev pub stored_at : List Listed → List Entry → List ℕ → Option Listed
stored_at first log q = stored_after log q (stored_first first q)
