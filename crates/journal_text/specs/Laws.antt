-- Bytes spell at most one record and at most one slot, and it is decided which.
use Rattle.std.specs.Prelude.{◌≡◌, ◌⊎◌, ℕ, List}
use Rattle.journal_text.specs.Records.{IsOldSpelledBy, IsSpelledBy, SpellNoOldRecord, SpellNoRecord}
use Rattle.journal_text.specs.Slots.{IsOldSlotSpelledBy, IsSlotSpelledBy, SpellNoOldSlot, SpellNoSlot}
use Rattle.journal_text.specs.declared.record.Rec.{Rec}
use Rattle.journal_text.specs.declared.slot.Snapshot.{Snapshot}

-- of each format, bytes spell at most one record
pub record OneRecordForBytes : Type 0 where
  pub written : (a b : Rec) (bytes : List ℕ) → IsSpelledBy a bytes → IsSpelledBy b bytes → a ≡ b
  pub old : (a b : Rec) (bytes : List ℕ) → IsOldSpelledBy a bytes → IsOldSpelledBy b bytes → a ≡ b

-- of each format, bytes spell at most one slot
pub record OneSlotForBytes : Type 0 where
  pub written : (a b : Snapshot) (bytes : List ℕ) → IsSlotSpelledBy a bytes → IsSlotSpelledBy b bytes → a ≡ b
  pub old : (a b : Snapshot) (bytes : List ℕ) → IsOldSlotSpelledBy a bytes → IsOldSlotSpelledBy b bytes → a ≡ b

-- of each format, all bytes spell a record that can be told, or none
pub record RecordOrNoneForBytes : Type 0 where
  pub written : (bytes : List ℕ) → ((entry : Rec) × IsSpelledBy entry bytes) ⊎ SpellNoRecord bytes
  pub old : (bytes : List ℕ) → ((entry : Rec) × IsOldSpelledBy entry bytes) ⊎ SpellNoOldRecord bytes

-- of each format, all bytes spell a slot that can be told, or none
pub record SlotOrNoneForBytes : Type 0 where
  pub written : (bytes : List ℕ) → ((slot : Snapshot) × IsSlotSpelledBy slot bytes) ⊎ SpellNoSlot bytes
  pub old : (bytes : List ℕ) → ((slot : Snapshot) × IsOldSlotSpelledBy slot bytes) ⊎ SpellNoOldSlot bytes
