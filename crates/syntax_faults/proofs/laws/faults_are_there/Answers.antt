use Rattle.syntax_faults.proofs.FaultsThere.{faults_are_there}
use Rattle.syntax_faults.proofs.laws.faults_are_there.Goals as goal

pub returns : goal.returns
returns c = faults_are_there
