-- What a journal says of a switch: the slot that counts, and the counted records after it, one by one; or the first file of it that
-- is bad, slots first. This project's own. In an old journal all counted records are of the old format, in another none.
use Rattle.std.specs.Prelude.{◌≡◌, ℕ, ◌+◌, ◌<◌, ◌^◌, List, [], map, Bool, true, false, not, nat_lt, ◌==◌, ◌&&◌, ◌||◌, IsTrue, IsFalse, slice_get, if◌then◌else◌}
use Rattle.std.specs.FinMap.{get}
use Rattle.std.specs.List.{filter_map}
use Rattle.std.specs.Option.{option_map}
use Rattle.std.specs.declared.option.Option.{Option}
use Rattle.std.specs.declared.option.Option.TheVariants.{None, Some}
use Rattle.crash_disk.specs.Disks.{Tree}
use Rattle.journal_text.specs.Parts.{entry_name}
use Rattle.journal_text.specs.Records.{IsOldSpelledBy, IsSpelledBy}
use Rattle.journal_text.specs.Slots.{IsOldSlotSpelledBy, IsSlotSpelledBy}
use Rattle.journal_text.specs.declared.record.Entry.{Entry}
use Rattle.journal_text.specs.declared.record.Rec.{Rec}
use Rattle.journal_text.specs.declared.slot.Owned.{Owned}
use Rattle.journal_text.specs.declared.slot.Snapshot.{Snapshot}
use Rattle.owner_map.specs.Owning.{owned_by}
use Rattle.owner_map.specs.declared.owned.OwnedPath.{OwnedPath}
use Rattle.switch_journal.specs.Applying.{applied, are_few, are_few_paths, entries_of, old_applied}
use Rattle.switch_journal.specs.Contents.{Contents}
use Rattle.switch_journal.specs.Places.{is_open, record_path, slot_path, text_of}
use Rattle.switch_journal.specs.Texts.{slot_at}
use Rattle.switch_journal.specs.declared.standing.Standing.{Standing}

-- what is read: contents, or the path of the first bad file
pub data Outcome : Type 0 where
  Says : Contents → Outcome
  BadAt : List ℕ → Outcome

-- ---- slots

-- the bytes spell the slot, in the old format or in the one that is written
abbrev pub SpellsSlot : Bool → Snapshot → List ℕ → Type 0
SpellsSlot true slot text = IsOldSlotSpelledBy slot text
SpellsSlot false slot text = IsSlotSpelledBy slot text

-- a package that a slot lists, as it stands in the switch
abbrev pub standing_of : List ℕ → Entry → Standing
standing_of from entry = record { entry = entry; from = from }

-- a path that a slot lists, with the package at the place of its owner
abbrev pub owned_with : List Entry → Owned → Option OwnedPath
owned_with entries owned = option_map (λ (entry : Entry). owned_by owned.path entry.pkg) (slice_get entries owned.owner)

-- what a slot says
abbrev pub slot_contents : List ℕ → Snapshot → Contents
slot_contents from slot = record {
  standing = map (standing_of from) slot.entries;
  owned = filter_map (owned_with slot.entries) slot.owned;
  roots = slot.roots;
  request = None;
}

-- a switch has no more than this
abbrev pub is_small : Contents → Bool
is_small c = are_few (entries_of c) && are_few_paths c.owned

-- the slot behind an open gate is there, is spelled, is not too large and has a number that is not
pub record HasSlot (old : Bool) (tree : Tree) (place : Bool) (slot : Snapshot) : Type 0 where
  pub text : List ℕ
  pub there : slot_at place tree ≡ Some (Some text)
  pub spelled : SpellsSlot old slot text
  pub small : slot.number < 2 ^ 63
  pub few : IsTrue (is_small (slot_contents (slot_path place) slot))

-- a slot that is read, of which format, and where it stands
pub record FoundSlot : Type 0 where
  pub old : Bool
  pub place : Bool
  pub slot : Snapshot

-- a slot whose gate is shut, and one that is read
pub data SlotIs (tree : Tree) (place : Bool) : Option FoundSlot → Type 0 where
  is_shut : slot_at place tree ≡ None → SlotIs tree place None
  is_found : {old : Bool} {slot : Snapshot} → HasSlot old tree place slot → SlotIs tree place (Some (record { old = old; place = place; slot = slot }))

-- the slot behind an open gate is bad
pub record IsSlotBad (tree : Tree) (place : Bool) : Type 0 where
  pub is_open : ¬ (slot_at place tree ≡ None)
  pub none : (old : Bool) (slot : Snapshot) → ¬ (HasSlot old tree place slot)

-- the second counts only where its number is greater, or the same and it alone is of the format that is written
abbrev pub second_counts : FoundSlot → FoundSlot → Bool
second_counts first second =
    nat_lt first.slot.number second.slot.number || (first.slot.number == second.slot.number && first.old && not second.old)

-- the one that counts
abbrev pub counting : Option FoundSlot → Option FoundSlot → Option FoundSlot
counting None second = second
counting (Some first) None = Some first
counting (Some first) (Some second) = if second_counts first second then Some second else Some first

-- ---- records

-- the bytes spell the record, in the old format or in the one that is written
abbrev pub SpellsRecord : Bool → Rec → List ℕ → Type 0
SpellsRecord true entry text = IsOldSpelledBy entry text
SpellsRecord false entry text = IsSpelledBy entry text

-- record k applied
abbrev pub after_record : Bool → ℕ → Rec → Contents → Option Contents
after_record true k entry c = old_applied (record_path k) entry c
after_record false k entry c = applied k (record_path k) entry c

-- record k is there, has a number that is not too large, is spelled in the journal's format, and can be applied
pub record Applies (old : Bool) (tree : Tree) (k : ℕ) (before after : Contents) : Type 0 where
  pub text : List ℕ
  pub entry : Rec
  pub small : k < 2 ^ 63
  pub there : text_of (get tree (record_path k)) ≡ Some text
  pub spelled : SpellsRecord old entry text
  pub applies : after_record old k entry before ≡ Some after

-- records are counted from number k on as long as the gate is open
pub data Counts (old : Bool) (tree : Tree) : ℕ → Contents → Outcome → Type 0 where
  no_more : {k : ℕ} {c : Contents} → IsFalse (is_open k tree) → Counts old tree k c (Says c)
  one_more : {k : ℕ} {before after : Contents} {outcome : Outcome} → IsTrue (is_open k tree) → Applies old tree k before after
      → Counts old tree (k + 1) after outcome → Counts old tree k before outcome
  bad : {k : ℕ} {c : Contents} → IsTrue (is_open k tree) → ((after : Contents) → ¬ (Applies old tree k c after))
      → Counts old tree k c (BadAt (record_path k))

-- ---- the whole

-- nothing is installed
abbrev pub empty_contents : Contents
empty_contents = record { standing = []; owned = []; roots = []; request = None }

-- the first number that counts, and what is said before it
abbrev pub first_number : Option FoundSlot → ℕ
first_number None = 1
first_number (Some found) = found.slot.number + 1

-- what is said before the first record that counts
abbrev pub first_contents : Option FoundSlot → Contents
first_contents None = empty_contents
first_contents (Some found) = slot_contents (slot_path found.place) found.slot

-- without a slot, the first record tells the format: it is old where it counts and is spelled so
pub record BeginsOld (tree : Tree) : Type 0 where
  pub text : List ℕ
  pub entry : Rec
  pub opened : IsTrue (is_open 1 tree)
  pub there : text_of (get tree (record_path 1)) ≡ Some text
  pub spelled : IsOldSpelledBy entry text

-- the journal is old, or is not
abbrev pub IsOld : Tree → Option FoundSlot → Bool → Type 0
IsOld tree (Some found) old = found.old ≡ old
IsOld tree None true = BeginsOld tree
IsOld tree None false = ¬ (BeginsOld tree)

-- the name of a package that is installed
abbrev pub name_of_standing : Standing → List ℕ
name_of_standing s = entry_name s.entry

-- all packages of an old journal were asked for
abbrev pub with_all_roots : Contents → Contents
with_all_roots c = record { standing = c.standing; owned = c.owned; roots = map name_of_standing c.standing; request = c.request }

-- what is said once all records are read; in an old journal all packages are roots then
abbrev pub at_end : Bool → Outcome → Outcome
at_end true (Says c) = Says (with_all_roots c)
at_end true (BadAt path) = BadAt path
at_end false outcome = outcome

-- what the files of a journal say
pub data Reads (tree : Tree) : Outcome → Type 0 where
  first_slot_bad : IsSlotBad tree false → Reads tree (BadAt (slot_path false))
  second_slot_bad : {first : Option FoundSlot} → SlotIs tree false first → IsSlotBad tree true → Reads tree (BadAt (slot_path true))
  read : {first second : Option FoundSlot} {old : Bool} {outcome : Outcome} → SlotIs tree false first → SlotIs tree true second
      → IsOld tree (counting first second) old
      → Counts old tree (first_number (counting first second)) (first_contents (counting first second)) outcome
      → Reads tree (at_end old outcome)
