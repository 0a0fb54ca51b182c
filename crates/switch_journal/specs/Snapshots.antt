-- A slot in the words of what a journal says: what it has to say, where it goes, and what the journal is then. This project's own.
use Rattle.std.specs.Prelude.{◌≡◌, ℕ, ◌-◌, ◌<◌, ◌^◌, List, Bool, true, false, not, bytes_eq, ◌||◌, IsTrue}
use Rattle.std.specs.List.{list_any}
use Rattle.std.specs.declared.option.Option.{Option}
use Rattle.std.specs.declared.option.Option.TheVariants.{None, Some}
use Rattle.crash_disk.specs.Disks.{State, Tree}
use Rattle.journal_text.specs.Slots.{IsSlotSpelledBy}
use Rattle.journal_text.specs.declared.slot.Snapshot.{Snapshot}
use Rattle.switch_journal.specs.Applying.{entries_of}
use Rattle.switch_journal.specs.Contents.{Contents}
use Rattle.switch_journal.specs.Journal.{ComesTo, Head, StandsFor, is_due}
use Rattle.switch_journal.specs.Places.{slot_path}
use Rattle.switch_journal.specs.Reading.{slot_contents}
use Rattle.switch_journal.specs.Slots.{ready_slot}
use Rattle.switch_journal.specs.declared.slots.ReadySlot.{ReadySlot}

-- contents of one switch: they differ at most in the files from which the packages come, and in the order of what was asked for
pub record IsSameSwitch (c other : Contents) : Type 0 where
  pub entries : entries_of other ≡ entries_of c
  pub owned : other.owned ≡ c.owned
  pub roots : (name : List ℕ) → list_any (bytes_eq name) other.roots ≡ list_any (bytes_eq name) c.roots
  pub request : other.request ≡ c.request

-- the slot that does not count, and slot 0 where neither does
abbrev pub free_place : Option Bool → Bool
free_place None = false
free_place (Some place) = not place

-- the gate of this slot is open
abbrev pub slot_is_open : Head → Bool → Bool
slot_is_open head false = head.zero_is_open
slot_is_open head true = head.one_is_open

-- the place of a new slot
abbrev pub place_for : Head → Bool
place_for head = free_place head.counts

-- what the journal says by this slot
abbrev pub contents_by : Head → Snapshot → Contents
contents_by head snapshot = slot_contents (slot_path (place_for head)) snapshot

-- a slot with this text, ready for the free place
abbrev pub slot_for : Head → List ℕ → ReadySlot
slot_for head text = ready_slot (place_for head) (slot_is_open head (place_for head)) text head.first (head.next - head.first)

-- the slot is ready to be written: its bytes, for the place that is free, with the number of the last record
pub record IsSlotReady (head : Head) (snapshot : Snapshot) (ready : ReadySlot) : Type 0 where
  pub text : List ℕ
  pub spelled : IsSlotSpelledBy snapshot text
  pub number : snapshot.number ≡ head.next - 1
  pub parts : ready ≡ slot_for head text

-- a slot is due, the journal stands for the disk, and the slot was made ready for it, of what the journal says while no request is
-- open
pub record CanWriteSlot (head : Head) (c : Contents) (snapshot : Snapshot) (files : Tree) (ready : ReadySlot) (told : Option State) : Type 0 where
  pub few : head.next < 2 ^ 63
  pub due : IsTrue (is_due head)
  pub made : IsSlotReady head snapshot ready
  pub says : IsSameSwitch c (contents_by head snapshot)
  pub stands : StandsFor head c files told

-- the journal counts from the new slot on
abbrev pub with_slot : Head → Head
with_slot head = record {
  counts = Some (place_for head);
  zero_is_open = head.zero_is_open || not (place_for head);
  one_is_open = head.one_is_open || place_for head;
  first = head.next;
  next = head.next;
  old = false;
}

-- an opening makes the same switch of it
pub record ComesToSame (c : Contents) (files : Tree) (image : Tree) : Type 0 where
  pub contents : Contents
  pub same : IsSameSwitch c contents
  pub comes : ComesTo contents files image
