use Rattle.syntax_trees.proofs.OneFile.{one_derivation}
use Rattle.syntax_trees.proofs.laws.one_derivation.Goals as goal

pub returns : goal.returns
returns c = one_derivation
