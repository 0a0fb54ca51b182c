use Rattle.syntax_trees.proofs.Derived.{rows_are_spelled}
use Rattle.syntax_trees.proofs.rows.rows_are_spelled.Goals as goal

pub returns : goal.returns
returns c = rows_are_spelled
