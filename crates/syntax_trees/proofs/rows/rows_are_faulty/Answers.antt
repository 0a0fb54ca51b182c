use Rattle.syntax_trees.proofs.Faulty.{rows_are_faulty}
use Rattle.syntax_trees.proofs.rows.rows_are_faulty.Goals as goal

pub returns : goal.returns
returns c = rows_are_faulty
