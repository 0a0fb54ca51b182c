use Rattle.syntax_trees.proofs.Ended.{deep_is_told}
use Rattle.syntax_trees.proofs.laws.deep_is_told.Goals as goal

pub returns : goal.returns
returns c = deep_is_told
