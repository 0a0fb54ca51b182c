use Rattle.syntax_trees.proofs.OneFault.{no_fault}
use Rattle.syntax_trees.proofs.laws.files_have_no_fault.Goals as goal

pub returns : goal.returns
returns c = no_fault
