use Rattle.switch_journal.proofs.Determined.{reads_once}
use Rattle.switch_journal.proofs.laws.readings_are_determined.Goals as goal

pub returns : goal.returns
returns c = reads_once c.one_record_for_bytes.ensures c.one_slot_for_bytes.ensures
