-- What is found in the places of the slots. This module is for private clauses. This project's own.
use Rattle.std.specs.Prelude.{◌<◌, ◌^◌, ℕ, List, Bool, length, nat_le, nat_lt, ◌&&◌, IsTrue, IfSome, if◌then◌else◌}
use Rattle.std.specs.Option.{option_map}
use Rattle.std.specs.declared.option.Option.{Option}
use Rattle.std.specs.declared.option.Option.TheVariants.{None, Some}
use Rattle.crash_disk.specs.Disks.{Tree}
use Rattle.journal_text.specs.Slots.{IsSlotInOrder}
use Rattle.journal_text.specs.declared.slot.Snapshot.{Snapshot}
use Rattle.switch_journal.specs.Applying.{are_few}
use Rattle.switch_journal.specs.Reading.{FoundSlot, IsSlotBad, SlotIs, SpellsSlot, second_counts}
use Rattle.switch_journal.specs.declared.open_slot.OpenSlot.{OpenSlot}
use Rattle.switch_journal.specs.declared.open_slot.SlotRead.{SlotRead}
use Rattle.switch_journal.specs.declared.open_slot.SlotRead.TheVariants.{Bad, Good}
use Rattle.switch_journal.specs.declared.request.TheConstants.{OWNED_LIMIT}

-- a slot that is read, as the definitions have it
abbrev pub found_of : OpenSlot → FoundSlot
found_of found = record { old = found.old; place = found.place; slot = found.slot }

-- what a slot says is within the limits of a switch
abbrev pub few_in : Snapshot → Bool
few_in slot = are_few slot.entries && nat_le (length slot.owned) OWNED_LIMIT

-- besides, its number is
abbrev pub is_within : Snapshot → Bool
is_within slot = nat_lt slot.number (2 ^ 63) && few_in slot

-- a slot within the limits, or a bad one
abbrev pub limited : Bool → Bool → Snapshot → SlotRead
limited old place slot = if is_within slot then Good (Some (record { old = old; place = place; slot = slot })) else Bad

-- a slot that these bytes spell within the limits; or they spell none
pub data IsSlotText (text : List ℕ) (place : Bool) : SlotRead → Type 0 where
  spelled : {old : Bool} {slot : Snapshot} → SpellsSlot old slot text → IsTrue (is_within slot) → IsSlotText text place (Good (Some (record { old = old; place = place; slot = slot })))
  not_spelled : ((old : Bool) (slot : Snapshot) → SpellsSlot old slot text → IsTrue (is_within slot) → ⊥) → IsSlotText text place Bad

-- what a map of files has in this place
abbrev pub IsSlotRead : Tree → Bool → SlotRead → Type 0
IsSlotRead tree place Bad = IsSlotBad tree place
IsSlotRead tree place (Good found) = SlotIs tree place (option_map found_of found)

-- parts stand in order, and the number is within the limit
pub record IsFitSlot (found : OpenSlot) : Type 0 where
  pub ordered : IsSlotInOrder found.slot
  pub small : found.slot.number < 2 ^ 63

-- the slot that is read, if any, is fit
abbrev pub IsFit : SlotRead → Type 0
IsFit Bad = Unit {0}
IsFit (Good found) = IfSome found IsFitSlot

-- the one that counts
abbrev pub counting_of : Option OpenSlot → Option OpenSlot → Option OpenSlot
counting_of None second = second
counting_of (Some first) None = Some first
counting_of (Some first) (Some second) = if second_counts (found_of first) (found_of second) then Some second else Some first
