use Rattle.syntax_trees.proofs.Ended.{ended}
use Rattle.syntax_trees.proofs.laws.early_end_is_told.Goals as goal

pub returns : goal.returns
returns c = ended
