use Rattle.journal_text.proofs.Deciding.{old_record_or_none, record_or_none}
use Rattle.journal_text.proofs.laws.record_or_none_for_bytes.Goals as goal

pub returns : goal.returns
returns c = record { written = record_or_none; old = old_record_or_none }
