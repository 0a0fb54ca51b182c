use Rattle.journal_text.proofs.SlotsRead.{one_old_slot, one_slot}
use Rattle.journal_text.proofs.laws.one_slot_for_bytes.Goals as goal

pub returns : goal.returns
returns c = record { written = one_slot; old = one_old_slot }
