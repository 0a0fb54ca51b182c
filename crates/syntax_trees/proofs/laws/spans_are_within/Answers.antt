use Rattle.syntax_trees.proofs.SpannedFiles.{spans_are_within}
use Rattle.syntax_trees.proofs.laws.spans_are_within.Goals as goal

pub returns : goal.returns
returns c = spans_are_within
