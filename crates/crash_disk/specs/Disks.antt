-- What a disk tells, what its calls leave, and what a stop of the machine may leave. This project's own.
use Rattle.std.specs.Prelude.{◌≡◌, ◌<◌, ◌≤◌, ◌+◌, ◌↔◌, ℕ, List, [], length, min, Bool, IsTrue, IsFalse, IsSome, IsErrOf, OnOk, OnErr, IfOk, IfSome, Result, Ok, Err, bytes_eq}
use Rattle.std.specs.List.{list_any}
use Rattle.std.specs.FinMap.{get, insert, remove}
use Rattle.std.specs.declared.option.Option.{Option}
use Rattle.std.specs.declared.option.Option.TheVariants.{None, Some}
use Rattle.opam_names.specs.Paths.{is_above}
use Rattle.outside_io.specs.Counts.{Rose, ByPath, last_count}
use Rattle.outside_io.specs.declared.sink.Failed.{Failed}
use Rattle.crash_disk.specs.declared.disk.Claim.{Claim}
use Rattle.crash_disk.specs.declared.disk.Claim.TheVariants.{Held}
use Rattle.crash_disk.specs.declared.disk.Look.{Look}
use Rattle.crash_disk.specs.declared.disk.Look.TheVariants as look
use Rattle.crash_disk.specs.declared.disk.DiskRead.{DiskRead}
use Rattle.crash_disk.specs.declared.disk.DiskRead.TheVariants as found
use Rattle.crash_disk.specs.declared.disk.DiskFault.{DiskFault}
use Rattle.crash_disk.specs.declared.disk.DiskFault.TheVariants as fault

-- a file: its bytes, and its executable bit
pub record Kept : Type 0 where
  pub bytes : List ℕ
  pub exec : Bool

-- the files of a disk, by their paths
abbrev pub Tree : Type 0
Tree = ByPath Kept

-- the files that a read gives, and the paths at which a stop may leave something else
pub record State : Type 0 where
  pub files : Tree
  pub loose : List (List ℕ)

-- a stop may leave something else at the path
abbrev pub is_loose : State → List ℕ → Bool
is_loose s q = list_any (bytes_eq q) s.loose

-- what a stop may leave: the files, and at a loose path any file or none
abbrev pub IsImage : State → Tree → Type 0
IsImage s image = (q : List ℕ) → IsFalse (is_loose s q) → get image q ≡ get s.files q

-- the clock goes on by one, the past stays, and the new moment's state is what is told now
pub record Elapses (before now : ℕ) (past since : ℕ → Option State) (told : Option State) : Type 0 where
  pub later : before ≤ now
  pub clock : now ≡ min (before + 1) last_count
  pub keeps : (t : ℕ) → t ≤ before → before < last_count → since t ≡ past t
  pub newest : before < last_count → since now ≡ told

-- a stop at some moment from t on might have left this
abbrev pub LeftSince : ℕ → (ℕ → Option State) → ℕ → Tree → Type 0
LeftSince clock past t image = (k : ℕ) × (t ≤ k) × (k ≤ clock) × IfSome (past k) (λ s. IsImage s image)

-- `Failed` comes only where the count rose, and the count rises only there
pub record Counted {T : Type 0} (before now : ℕ) (result : Result T Failed) : Type 0 where
  pub later : before ≤ now
  pub failed : OnErr result (Rose before now)
  pub ok : OnOk result (now ≡ before)

-- the same of a read, which may want memory besides
pub record CountedRead {T : Type 0} (before now : ℕ) (result : Result T DiskFault) : Type 0 where
  pub later : before ≤ now
  pub failed : IsErrOf result fault.Failed → Rose before now
  pub memory : IsErrOf result fault.Memory → now ≡ before
  pub ok : OnOk result (now ≡ before)

-- `Held` comes only where its count rose, which rises only there, and where told exactly where the disk is taken
pub record ClaimGives (before now : ℕ) (taken : Option Bool) (result : Result Claim Failed) : Type 0 where
  pub later : before ≤ now
  pub held : result ≡ Ok Held → Rose before now
  pub other : ¬ (result ≡ Ok Held) → now ≡ before
  pub told : (is_taken : Bool) → taken ≡ Some is_taken → IfOk result (λ claim. (claim ≡ Held) ↔ IsTrue is_taken)

-- the files with this one at a path, or without one there
abbrev pub with_file : Tree → List ℕ → Option Kept → Tree
with_file files path None = remove files path
with_file files path (Some file) = insert files path file

-- what a put or a removal leaves, whatever it answers
pub record Changes {T : Type 0} (path : List ℕ) (file : Option Kept) (old new : State) (result : Result T Failed) : Type 0 where
  -- it is done at Ok
  pub done : OnOk result (new.files ≡ with_file old.files path file)
  -- each other path is as it was, and the path itself may become loose
  pub others : (q : List ℕ) → IsFalse (bytes_eq q path) → get new.files q ≡ get old.files q
  pub loose : (q : List ℕ) → IsFalse (bytes_eq q path) → IsTrue (is_loose new q) → IsTrue (is_loose old q)

-- the same of what a disk tells
pub record TellsChange {T : Type 0} (path : List ℕ) (file : Option Kept) (before after : Option State) (result : Result T Failed) : Type 0 where
  pub untold : before ≡ None → after ≡ None
  pub told : (old : State) → before ≡ Some old → (new : State) × (after ≡ Some new) × Changes path file old new result

-- a sync changes no file, and at Ok nothing is loose
abbrev pub synced : {T : Type 0} → State → Result T Failed → State
synced old (Ok _) = record { files = old.files; loose = [] }
synced old (Err _) = old

-- the same of what a disk tells
pub record TellsSync {T : Type 0} (before after : Option State) (result : Result T Failed) : Type 0 where
  pub untold : before ≡ None → after ≡ None
  pub told : (old : State) → before ≡ Some old → after ≡ Some (synced old result)

-- `File` where a file stands at the path, `Folder` where none does and some file is below it
abbrev pub IsLook : Tree → List ℕ → Look → Type 0
IsLook files path look.File = IsSome (get files path)
IsLook files path look.Folder = (get files path ≡ None) × (q : List ℕ) × IsTrue (is_above path q) × IsSome (get files q)
IsLook files path look.Absent = (get files path ≡ None) × ((q : List ℕ) → IsTrue (is_above path q) → get files q ≡ None)

-- a disk that tells answers what stands there
abbrev pub Looks : Option State → List ℕ → Result Look Failed → Type 0
Looks told path result = (s : State) → told ≡ Some s → IfOk result (λ seen. IsLook s.files path seen)

-- what is read where this stands
abbrev pub IsRead : Option Kept → ℕ → DiskRead → Type 0
IsRead None limit seen = seen ≡ found.Absent
IsRead (Some file) limit found.Absent = ⊥
IsRead (Some file) limit (found.File bytes exec) = (bytes ≡ file.bytes) × (exec ≡ file.exec) × (length bytes ≤ limit)
IsRead (Some file) limit found.TooLong = limit < length file.bytes

-- a disk that tells answers the file there
abbrev pub Reads : Option State → List ℕ → ℕ → Result DiskRead DiskFault → Type 0
Reads told path limit result = (s : State) → told ≡ Some s → IfOk result (λ seen. IsRead (get s.files path) limit seen)
