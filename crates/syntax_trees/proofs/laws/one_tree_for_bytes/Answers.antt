use Rattle.syntax_trees.proofs.OneFile.{one_tree}
use Rattle.syntax_trees.proofs.laws.one_tree_for_bytes.Goals as goal

pub returns : goal.returns
returns c = one_tree
