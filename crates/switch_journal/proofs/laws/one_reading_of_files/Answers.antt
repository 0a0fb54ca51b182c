use Rattle.switch_journal.proofs.OneReading.{one_reading}
use Rattle.switch_journal.proofs.laws.one_reading_of_files.Goals as goal

pub returns : goal.returns
returns c = one_reading c.one_record_for_bytes.ensures c.one_slot_for_bytes.ensures
