use Rattle.switch_journal.proofs.Read.{one_list}
use Rattle.switch_journal.proofs.laws.records_are_determined.Goals as goal

pub returns : goal.returns
returns c = one_list
