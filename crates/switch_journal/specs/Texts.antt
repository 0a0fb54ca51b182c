-- What the files of a disk are as a journal, before any text in it is read: the open slots, the counted records and the files of
-- the switch. This project's own.
use Rattle.std.specs.Prelude.{◌≡◌, ◌⊎◌, ℕ, ◌+◌, List, [], ◌∷◌, ◌++◌, Bool, IsTrue, IsFalse, length, if◌then◌else◌}
use Rattle.std.specs.FinMap.{get}
use Rattle.std.specs.declared.option.Option.{Option}
use Rattle.std.specs.declared.option.Option.TheVariants.{None, Some}
use Rattle.crash_disk.specs.Disks.{IsImage, State, Tree}
use Rattle.crash_disk.specs.Effects.{at_rest}
use Rattle.crash_disk.specs.Writes.{with_writes}
use Rattle.crash_disk.specs.declared.batch.Write.{Write}
use Rattle.switch_journal.specs.Places.{is_inside, is_open, opens, record_path, slot_gate, slot_path, text_of}

-- a slot, where its gate is open: its text, or none where no file stands there
abbrev pub slot_at : Bool → Tree → Option (Option (List ℕ))
slot_at slot tree = if opens (get tree (slot_gate slot)) then Some (text_of (get tree (slot_path slot))) else None

-- the counted records from number k on: each has an open gate and this text, and the next gate is not open
abbrev pub HoldsFrom : ℕ → List (List ℕ) → Tree → Type 0
HoldsFrom k [] tree = IsFalse (is_open k tree)
HoldsFrom k (text ∷ texts) tree = IsTrue (is_open k tree) × (text_of (get tree (record_path k)) ≡ Some text) × HoldsFrom (k + 1) texts tree

-- the slots, the number of the first record that counts, the texts of the counted records, what the last of them puts and takes
-- away, and the files of the switch once this is done
pub record Journal : Type 0 where
  pub slots : Bool → Option (Option (List ℕ))
  pub first : ℕ
  pub records : List (List ℕ)
  pub last : List Write
  pub files : Tree

-- the number that the next record gets
abbrev pub next_number : Journal → ℕ
next_number j = j.first + length j.records

-- files that are this journal: those of the switch are right once the last record's work is done again
pub record IsReadAs (j : Journal) (image : Tree) : Type 0 where
  pub same_slots : (slot : Bool) → slot_at slot image ≡ j.slots slot
  pub counted : HoldsFrom j.first j.records image
  pub same_files : (q : List ℕ) → IsFalse (is_inside q) → get (with_writes j.last image) q ≡ get j.files q

-- besides, the last record's work is done
pub record IsWhole (j : Journal) (tree : Tree) : Type 0 where
  pub reads : IsReadAs j tree
  pub same_files : (q : List ℕ) → IsFalse (is_inside q) → get tree q ≡ get j.files q

-- a disk that tells such files, and nothing is loose
pub record RestsAs (j : Journal) (told : Option State) : Type 0 where
  pub tree : Tree
  pub tells : told ≡ Some (at_rest tree)
  pub whole : IsWhole j tree

-- a disk that tells files that are read so; paths may be loose
pub record TellsAs (j : Journal) (told : Option State) : Type 0 where
  pub now : State
  pub tells : told ≡ Some now
  pub reads : IsReadAs j now.files

-- with one record more, and its work
abbrev pub with_record : Journal → List ℕ → List Write → Journal
with_record j text writes = record { slots = j.slots; first = j.first; records = j.records ++ text ∷ []; last = writes; files = with_writes writes j.files }

-- the journal from before, or with the record
abbrev pub IsBeforeOrAfter : Journal → List ℕ → List Write → Tree → Type 0
IsBeforeOrAfter j text writes image = IsReadAs j image ⊎ IsReadAs (with_record j text writes) image

-- what a stop before might have left, or the journal
abbrev pub IsOldOrSame : Journal → Option State → Tree → Type 0
IsOldOrSame j told image = ((s : State) × (told ≡ Some s) × IsImage s image) ⊎ IsReadAs j image
