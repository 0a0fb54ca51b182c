use Rattle.opam_filter.proofs.FaultLists.{faults_are_listed}
use Rattle.opam_filter.proofs.fault_laws.faults_are_listed.Goals as goal

pub returns : goal.returns
returns c = faults_are_listed
