use Rattle.switch_journal.proofs.EachRead.{each_read}
use Rattle.switch_journal.proofs.laws.each_map_is_read.Goals as goal

pub returns : goal.returns
returns c = each_read c.one_record_for_bytes.ensures c.one_slot_for_bytes.ensures c.record_or_none_for_bytes.ensures c.slot_or_none_for_bytes.ensures
