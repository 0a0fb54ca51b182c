use Rattle.std.proofs.Common.{false, true, sym, subst}
use Rattle.journal_text.specs.Slots.{IsOldSlotSpelledBy, IsSlotSpelledBy, SpellNoOldSlot, SpellNoSlot}
use Rattle.switch_journal.specs.Found.{IsSlotText}
use Rattle.switch_journal.proofs.Exits.{none_at, some_at}
use Rattle.switch_journal.proofs.FoundSlots.{text_not_spelled, text_spelled}
use Rattle.switch_journal.proofs.open_slot.slot_in.Goals as goal

pub returns-in-Some : goal.returns-in-Some
returns-in-Some c =
    let spelled = some_at (λ slot text. IsSlotSpelledBy slot text) c.in_ok-slot.field-0 c.in-Some.slot c.as_slice.result.now c.args.bytes c.in-Some.is c.as_slice.ensures c.in_ok-slot.ensures.some in
    subst (IsSlotText c.args.bytes c.args.place) (sym c.within.ensures) (text_spelled c.one_slot_for_bytes.ensures false c.args.place c.in-Some.slot c.args.bytes spelled)

pub returns-in-Some-2 : goal.returns-in-Some-2
returns-in-Some-2 c =
    let spelled = some_at (λ slot text. IsOldSlotSpelledBy slot text) c.in_ok-slot-in-None.field-0 c.in-Some-2.slot c.as_slice-in-None.result.now c.args.bytes c.in-Some-2.is c.as_slice-in-None.ensures c.in_ok-slot-in-None.ensures.some in
    subst (IsSlotText c.args.bytes c.args.place) (sym c.within-in-Some-2.ensures) (text_spelled c.one_slot_for_bytes.ensures true c.args.place c.in-Some-2.slot c.args.bytes spelled)

pub returns : goal.returns
returns c =
    text_not_spelled c.args.place c.args.bytes
    (none_at SpellNoSlot c.in_ok-slot.field-0 c.as_slice.result.now c.args.bytes c.in-None.is c.as_slice.ensures c.in_ok-slot.ensures.none)
    (none_at SpellNoOldSlot c.in_ok-slot-in-None.field-0 c.as_slice-in-None.result.now c.args.bytes c.in-None-2.is c.as_slice-in-None.ensures c.in_ok-slot-in-None.ensures.none)
