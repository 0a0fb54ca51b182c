use Rattle.switch_journal.proofs.FoundSlots.{read_shut, read_text, text_fits}
use Rattle.switch_journal.proofs.open_slot.find_slot.Goals as goal

pub returns-in-Shut-clause-told : goal.returns-in-Shut-clause-told
returns-in-Shut-clause-told g c = λ s is. read_shut s.files c.args.place (rw c.in-Shut.is at c.in_ok-read_slot.ensures.told s is)

pub returns-in_ok-slot_in-in-Text-clause-told : goal.returns-in_ok-slot_in-in-Text-clause-told
returns-in_ok-slot_in-in-Text-clause-told g c = λ s is.
    let gated = rw c.in-Text.is at c.in_ok-read_slot.ensures.told s is in
    read_text s.files c.args.place gated.0 gated.1 c.in_ok-slot_in-in-Text.ensures

pub returns-in_ok-slot_in-in-Text-clause-fit : goal.returns-in_ok-slot_in-in-Text-clause-fit
returns-in_ok-slot_in-in-Text-clause-fit g c = text_fits c.in_ok-slot_in-in-Text.ensures
