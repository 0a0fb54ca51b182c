use Rattle.syntax_trees.proofs.OneFault.{one_fault}
use Rattle.syntax_trees.proofs.laws.one_fault_for_bytes.Goals as goal

pub returns : goal.returns
returns c = one_fault
