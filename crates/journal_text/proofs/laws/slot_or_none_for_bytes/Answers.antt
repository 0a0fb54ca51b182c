use Rattle.journal_text.proofs.Deciding.{old_slot_or_none, slot_or_none}
use Rattle.journal_text.proofs.laws.slot_or_none_for_bytes.Goals as goal

pub returns : goal.returns
returns c = record { written = slot_or_none; old = old_slot_or_none }
