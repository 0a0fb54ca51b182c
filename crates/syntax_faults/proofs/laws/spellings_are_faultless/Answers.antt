use Rattle.syntax_faults.proofs.FaultsThere.{spellings_are_faultless}
use Rattle.syntax_faults.proofs.laws.spellings_are_faultless.Goals as goal

pub returns : goal.returns
returns c = spellings_are_faultless
