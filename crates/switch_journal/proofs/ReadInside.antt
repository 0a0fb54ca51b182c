-- What files say is told by those below the folder that is not the switch's own.
use Rattle.std.proofs.Common.{◌≡◌, ◌∙◌, ℕ, Bool, true, false, refl, sym, ap}
use Rattle.std.specs.FinMap.{get}
use Rattle.std.specs.declared.option.Option.{Option}
use Rattle.std.specs.declared.option.Option.TheVariants.{None, Some}
use Rattle.crash_disk.specs.Disks.{Tree}
use Rattle.journal_text.specs.declared.slot.Snapshot.{Snapshot}
use Rattle.switch_journal.specs.Contents.{Contents}
use Rattle.switch_journal.specs.Laws.{AgreeInside}
use Rattle.switch_journal.specs.Places.{gate_path, is_open, opens, record_path, text_of}
use Rattle.switch_journal.specs.Reading.{Applies, BeginsOld, Counts, FoundSlot, HasSlot, IsOld, IsSlotBad, Outcome, Reads, SlotIs, no_more, one_more, bad, is_shut, is_found, first_slot_bad, second_slot_bad, read, counting}
use Rattle.switch_journal.specs.Texts.{slot_at}
use Rattle.switch_journal.proofs.Read.{slots_inside}

module _ (tree image : Tree) (same : AgreeInside tree image) where
  same_slot : (place : Bool) → slot_at place image ≡ slot_at place tree
  same_slot = slots_inside tree image same

  same_gate : (k : ℕ) → is_open k image ≡ is_open k tree
  same_gate k = ap opens (same (gate_path k) refl)

  same_text : (k : ℕ) → text_of (get image (record_path k)) ≡ text_of (get tree (record_path k))
  same_text k = ap text_of (same (record_path k) refl)

  applies_there : {old : Bool} {k : ℕ} {before after : Contents} → Applies old tree k before after → Applies old image k before after
  applies_there {k = k} a = record { text = a.text; entry = a.entry; small = a.small; there = same_text k ∙ a.there; spelled = a.spelled; applies = a.applies }

  applies_here : {old : Bool} {k : ℕ} {before after : Contents} → Applies old image k before after → Applies old tree k before after
  applies_here {k = k} a = record { text = a.text; entry = a.entry; small = a.small; there = sym (same_text k) ∙ a.there; spelled = a.spelled; applies = a.applies }

  counts_there : {old : Bool} {k : ℕ} {c : Contents} {outcome : Outcome} → Counts old tree k c outcome → Counts old image k c outcome
  counts_there {k = k} (no_more is) = no_more (same_gate k ∙ is)
  counts_there {k = k} (one_more is applies more) = one_more (same_gate k ∙ is) (applies_there applies) (counts_there more)
  counts_there {k = k} (bad is none) = bad (same_gate k ∙ is) (λ after applies. none after (applies_here applies))

  has_there : {old place : Bool} {slot : Snapshot} → HasSlot old tree place slot → HasSlot old image place slot
  has_there {place = place} a = record { text = a.text; there = same_slot place ∙ a.there; spelled = a.spelled; small = a.small; few = a.few }

  has_here : {old place : Bool} {slot : Snapshot} → HasSlot old image place slot → HasSlot old tree place slot
  has_here {place = place} a = record { text = a.text; there = sym (same_slot place) ∙ a.there; spelled = a.spelled; small = a.small; few = a.few }

  slot_there : {place : Bool} {found : Option FoundSlot} → SlotIs tree place found → SlotIs image place found
  slot_there {place = place} (is_shut is) = is_shut (same_slot place ∙ is)
  slot_there (is_found has) = is_found (has_there has)

  bad_there : {place : Bool} → IsSlotBad tree place → IsSlotBad image place
  bad_there {place} is = record {
    is_open = λ closed. is.is_open (sym (same_slot place) ∙ closed);
    none = λ old slot has. is.none old slot (has_here has);
  }

  begins_there : BeginsOld tree → BeginsOld image
  begins_there b = record { text = b.text; entry = b.entry; opened = same_gate 1 ∙ b.opened; there = same_text 1 ∙ b.there; spelled = b.spelled }

  begins_here : BeginsOld image → BeginsOld tree
  begins_here b = record { text = b.text; entry = b.entry; opened = sym (same_gate 1) ∙ b.opened; there = sym (same_text 1) ∙ b.there; spelled = b.spelled }

  old_there : (slot : Option FoundSlot) (old : Bool) → IsOld tree slot old → IsOld image slot old
  old_there (Some slot) old is = is
  old_there None true is = begins_there is
  old_there None false is = λ begins. is (begins_here begins)

  pub reads_there : {outcome : Outcome} → Reads tree outcome → Reads image outcome
  reads_there (first_slot_bad is) = first_slot_bad (bad_there is)
  reads_there (second_slot_bad has is) = second_slot_bad (slot_there has) (bad_there is)
  reads_there (read {first = f} {second = s} {old = o} has seconds old counts) =
      read (slot_there has) (slot_there seconds) (old_there (counting f s) o old) (counts_there counts)
