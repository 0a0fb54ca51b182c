use Rattle.journal_text.proofs.Decoded.{one_old_record, one_record}
use Rattle.journal_text.proofs.laws.one_record_for_bytes.Goals as goal

pub returns : goal.returns
returns c = record { written = one_record; old = one_old_record }
