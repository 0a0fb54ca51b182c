use Rattle.switch_journal.proofs.ReadInside.{reads_there}
use Rattle.switch_journal.proofs.laws.readings_are_of_the_journal.Goals as goal

pub returns : goal.returns
returns c = λ tree image same outcome reads. reads_there tree image same reads
