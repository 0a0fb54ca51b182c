use Rattle.syntax_trees.proofs.NowhereDeep.{faultless}
use Rattle.syntax_trees.proofs.laws.files_are_faultless.Goals as goal

pub returns : goal.returns
returns c = faultless
