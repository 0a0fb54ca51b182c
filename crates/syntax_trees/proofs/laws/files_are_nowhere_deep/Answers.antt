use Rattle.syntax_trees.proofs.NowhereDeep.{nowhere_deep}
use Rattle.syntax_trees.proofs.laws.files_are_nowhere_deep.Goals as goal

pub returns : goal.returns
returns c = nowhere_deep
