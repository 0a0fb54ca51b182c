-- The opening of a journal: what it makes of a disk, and what a stop leaves of it. This project's own.
use Rattle.std.specs.Prelude.{◌≡◌, ◌⊎◌, ◌≤◌, ℕ, List, [], Bool, false, IsTrue, Result, Ok, Err, IfOk}
use Rattle.std.specs.List.{list_all}
use Rattle.std.specs.Option.{option_map}
use Rattle.std.specs.declared.option.Option.{Option}
use Rattle.std.specs.declared.option.Option.TheVariants.{Some}
use Rattle.crash_disk.specs.Disks.{IsImage, State, Tree}
use Rattle.crash_disk.specs.Effects.{Touches}
use Rattle.crash_disk.specs.Stops.{StopsLeave}
use Rattle.crash_disk.specs.Writes.{paths_of, with_writes}
use Rattle.crash_disk.specs.declared.batch.Write.{Write}
use Rattle.crash_disk.specs.declared.disk.Disk.{Ghosts}
use Rattle.outside_io.specs.Counts.{Rose}
use Rattle.switch_journal.specs.Commits.{is_outside}
use Rattle.switch_journal.specs.Contents.{Contents}
use Rattle.switch_journal.specs.Journal.{AgreeOutside, Head, IsReadAt, StandsFor, found_place, said_by}
use Rattle.switch_journal.specs.Places.{record_path}
use Rattle.switch_journal.specs.Reading.{BadAt, FoundSlot, Reads, first_number}
use Rattle.switch_journal.specs.declared.fault.OpenFault.{OpenFault}
use Rattle.switch_journal.specs.declared.fault.OpenFault.TheVariants as fault
use Rattle.switch_journal.specs.declared.opening.Opened.{Opened}
use Rattle.switch_journal.specs.declared.opening.Opened.TheVariants as opened
use Rattle.switch_journal.specs.declared.walk.Walked.{Walked}
use Rattle.switch_journal.specs.declared.walk.Walked.TheVariants as walked

-- the count of a disk's faults: it has risen where the disk is said to have failed, and else it is as it was
abbrev pub CountsFault : {T : Type 0} → ℕ → ℕ → Result T OpenFault → Type 0
CountsFault before now (Ok x) = now ≡ before
CountsFault before now (Err fault.DiskFailed) = Rose before now
CountsFault before now (Err fault.Memory) = now ≡ before
CountsFault before now (Err (fault.NotAJournal path)) = now ≡ before

-- besides, it never falls
pub record CountedOpening {T : Type 0} (before now : ℕ) (result : Result T OpenFault) : Type 0 where
  pub later : before ≤ now
  pub counted : CountsFault before now result

-- a disk's fault is answered only where one was counted, and one is counted only there
abbrev pub FailsOpening : {D T : Type 0} → Ghosts D → D → D → Result T OpenFault → Type 0
FailsOpening g old new result = CountedOpening (g.faults old) (g.faults new) result

-- where files are said to be no journal, they are none, and the path is that of the first bad file
abbrev pub IsNamed : {T : Type 0} → Result T OpenFault → Tree → Type 0
IsNamed (Ok x) tree = Unit {0}
IsNamed (Err fault.DiskFailed) tree = Unit {0}
IsNamed (Err fault.Memory) tree = Unit {0}
IsNamed (Err (fault.NotAJournal path)) tree = Reads tree (BadAt path)

-- these files are read so, and the journal stands for the disk with their last record's work done
pub record OpensAs (head : Head) (c : Contents) (tree : Tree) (told : Option State) : Type 0 where
  pub work : List Write
  pub reads : IsReadAt head c work tree
  pub stands : StandsFor head c (with_writes work tree) told

-- an opening makes the same of both
pub record OpenAlike (tree image : Tree) : Type 0 where
  pub head : Head
  pub contents : Contents
  pub work : List Write
  pub here : IsReadAt head contents work tree
  pub there : IsReadAt head contents work image
  pub same_files : AgreeOutside (with_writes work tree) (with_writes work image)

-- what a stop while a disk is opened leaves: what one before might have left, or files of which an opening makes the same
abbrev pub IsWhileOpening : State → Tree → Type 0
IsWhileOpening s image = IsImage s image ⊎ OpenAlike s.files image

-- no work, or the work of the last counted record
abbrev pub IsLastWork : Tree → List Write → Type 0
IsLastWork tree work = (work ≡ []) ⊎ ((head : Head) × (c : Contents) × IsReadAt head c work tree)

-- only the paths of this work are touched; where the disk tells its files, it is no work or that of their last counted record, and
-- its paths lie outside of the journal
pub record TouchesLast {D : Type 0} (g : Ghosts D) (old new : D) : Type 0 where
  pub work : List Write
  pub touches : Touches g (paths_of work) old new
  pub last : (s : State) → g.told old ≡ Some s → IsLastWork s.files work
  pub outside : (s : State) → g.told old ≡ Some s → IsTrue (list_all is_outside work)

-- ---- for private clauses

-- an opening of a disk that told this before its sync
pub record Opening {D : Type 0} (g : Ghosts D) (s : State) (old new : D) (result : Result (Head × Contents) OpenFault) : Type 0 where
  pub opens : IfOk result (λ both. OpensAs both.0 both.1 s.files (g.told new))
  pub bad : IsNamed result s.files
  pub crash : StopsLeave g (IsWhileOpening s) old new

-- a journal before its records are counted
abbrev pub begun_with : Option FoundSlot → Bool → Bool → Head
begun_with found zero one = record {
  counts = option_map found_place found;
  zero_is_open = zero;
  one_is_open = one;
  first = first_number found;
  next = first_number found;
  old = false;
}

-- what a journal knows once its records are read: whether it is old, and the number of the next one
abbrev pub with_records : Bool → ℕ → Head → Head
with_records old next head = record {
  counts = head.counts;
  zero_is_open = head.zero_is_open;
  one_is_open = head.one_is_open;
  first = head.first;
  next = next;
  old = old;
}

-- what is read where a walk ended so
abbrev pub opened_of : Head → Walked → Opened
opened_of head (walked.Bad number) = opened.Bad (record_path number)
opened_of head (walked.Whole old next walk) = opened.Whole (with_records old next head) (said_by old walk.kept) walk.work

-- files that are read so
abbrev pub IsOpened : Tree → Opened → Type 0
IsOpened tree (opened.Bad path) = Reads tree (BadAt path)
IsOpened tree (opened.Whole head c work) = IsReadAt head c work tree
