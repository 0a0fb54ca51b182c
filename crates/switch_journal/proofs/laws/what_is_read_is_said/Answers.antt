use Rattle.std.proofs.Common.{refl}
use Rattle.switch_journal.specs.Reading.{Says}
use Rattle.switch_journal.proofs.Bridge.{reads_of}
use Rattle.switch_journal.proofs.OneReading.{read_so}
use Rattle.switch_journal.proofs.laws.what_is_read_is_said.Goals as goal

pub returns : goal.returns
returns c = record { says = λ tree head said work reads. reads_of reads; reads = λ tree said reads. read_so tree (Says said) said reads refl }
