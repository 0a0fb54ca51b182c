-- What a journal is to those who write it: the numbers with which the files of a disk are read, and what they come to once the last
-- record's work is done again. This project's own.
use Rattle.std.specs.Prelude.{◌≡◌, ℕ, ◌+◌, ◌-◌, List, [], map, Bool, true, false, nat_le, ◌||◌, IsTrue, IsFalse, is_some}
use Rattle.std.specs.FinMap.{get}
use Rattle.std.specs.Option.{option_map}
use Rattle.std.specs.declared.option.Option.{Option}
use Rattle.std.specs.declared.option.Option.TheVariants.{Some}
use Rattle.crash_disk.specs.Disks.{State, Tree}
use Rattle.crash_disk.specs.Effects.{at_rest}
use Rattle.crash_disk.specs.Writes.{with_writes}
use Rattle.crash_disk.specs.declared.batch.Write.{Write}
use Rattle.crash_disk.specs.declared.batch.Write.TheVariants as write
use Rattle.journal_text.specs.declared.record.Placed.{Placed}
use Rattle.journal_text.specs.declared.record.Rec.{Rec}
use Rattle.journal_text.specs.declared.record.Rec.TheVariants.{Install, PutBack, Remove, Begin, End}
use Rattle.opam_names.specs.declared.packages.Pkg.{Pkg}
use Rattle.owner_map.specs.Owning as owning
use Rattle.switch_journal.specs.Contents.{Contents}
use Rattle.switch_journal.specs.Places.{is_inside, is_open}
use Rattle.switch_journal.specs.Reading.{Applies, FoundSlot, IsOld, SlotIs, counting, first_contents, first_number, with_all_roots}
use Rattle.switch_journal.specs.declared.journal.TheConstants.{RECORDS_TO_SLOT}

-- ---- the work of a record

-- a file of a record is put at its path
abbrev pub put_of : Placed → Write
put_of file = write.Put file.path file.bytes file.exec

-- the file at a path is taken away
abbrev pub removal_of : List ℕ → Write
removal_of path = write.Remove path

-- the paths that a package owns, in byte order
abbrev pub paths_owned_by : Pkg → Contents → List (List ℕ)
paths_owned_by pkg c = owning.paths_owned_by pkg c.owned

-- a record's work: one that brings a package puts its files, and one that removes it takes these paths away
abbrev pub work_with : Rec → List (List ℕ) → List Write
work_with (Install pkg opam files) takes = map put_of files
work_with (PutBack pkg opam files) takes = map put_of files
work_with (Remove pkg kept) takes = map removal_of takes
work_with (Begin roots target removals) takes = []
work_with End takes = []

-- the work of a record before which so much is said
abbrev pub work_of : Rec → Contents → List Write
work_of (Install pkg opam files) c = map put_of files
work_of (PutBack pkg opam files) c = map put_of files
work_of (Remove pkg kept) c = map removal_of (paths_owned_by pkg c)
work_of (Begin roots target removals) c = []
work_of End c = []

-- ---- the numbers

-- what a journal knows of its disk: the slot that counts, the slot gates that are open, the number of the first record after that
-- slot and of the next one, and whether it is old
pub record Head : Type 0 where
  pub counts : Option Bool
  pub zero_is_open : Bool
  pub one_is_open : Bool
  pub first : ℕ
  pub next : ℕ
  pub old : Bool

-- where a slot that is read stands
abbrev pub found_place : FoundSlot → Bool
found_place found = found.place

-- what a journal with these slots knows
abbrev pub head_of : Option FoundSlot → Option FoundSlot → Bool → ℕ → Head
head_of zero one old next = record {
  counts = option_map found_place (counting zero one);
  zero_is_open = is_some zero;
  one_is_open = is_some one;
  first = first_number (counting zero one);
  next = next;
  old = old;
}

-- ---- the reading, with its numbers

-- from record k on, with so much said and the work of the record before: up to which number records count, what is said then, and the
-- work of the last of them
pub data CountsTo (old : Bool) (tree : Tree) : ℕ → Contents → List Write → ℕ → Contents → List Write → Type 0 where
  no_more : {k : ℕ} {c : Contents} {work : List Write} → IsFalse (is_open k tree) → CountsTo old tree k c work k c work
  one_more : {k : ℕ} {before after : Contents} {work : List Write} {next : ℕ} {said : Contents} {last : List Write} → IsTrue (is_open k tree)
      → (applies : Applies old tree k before after) → CountsTo old tree (k + 1) after (work_of applies.entry before) next said last
      → CountsTo old tree k before work next said last

-- the packages of an old journal were all asked for
abbrev pub said_by : Bool → Contents → Contents
said_by true c = with_all_roots c
said_by false c = c

-- files that are read with these numbers: what they say, and the work of the last counted record
pub record IsReadAt (head : Head) (c : Contents) (work : List Write) (tree : Tree) : Type 0 where
  pub zero : Option FoundSlot
  pub one : Option FoundSlot
  pub zero_is : SlotIs tree false zero
  pub one_is : SlotIs tree true one
  pub numbers : head ≡ head_of zero one head.old head.next
  pub format : IsOld tree (counting zero one) head.old
  pub said : Contents
  pub counted : CountsTo head.old tree (first_number (counting zero one)) (first_contents (counting zero one)) [] head.next said work
  pub says : c ≡ said_by head.old said

-- ---- a switch on a disk

-- the switch's own files are the same
abbrev pub AgreeOutside : Tree → Tree → Type 0
AgreeOutside tree image = (q : List ℕ) → IsFalse (is_inside q) → get image q ≡ get tree q

-- what an opening makes of files: contents, and the switch's own files once the last record's work is done again
pub record ComesTo (c : Contents) (files : Tree) (image : Tree) : Type 0 where
  pub head : Head
  pub work : List Write
  pub reads : IsReadAt head c work image
  pub same_files : AgreeOutside files (with_writes work image)

-- a journal stands for a disk: nothing is loose, the files are read with its numbers, and the last record's work is done
pub record StandsFor (head : Head) (c : Contents) (files : Tree) (told : Option State) : Type 0 where
  pub tree : Tree
  pub tells : told ≡ Some (at_rest tree)
  pub work : List Write
  pub reads : IsReadAt head c work tree
  pub done : AgreeOutside files (with_writes work tree)
  pub same_files : AgreeOutside files tree

-- ---- when a slot is due

-- 64 records or more are counted beyond the slot that counts, or the journal is old
abbrev pub is_due : Head → Bool
is_due head = head.old || nat_le RECORDS_TO_SLOT (head.next - head.first)
