use Rattle.opam_filter.proofs.FirstFault.{told}
use Rattle.opam_filter.proofs.fault_laws.the_first_fault_is_told.Goals as goal

pub returns : goal.returns
returns c = told
